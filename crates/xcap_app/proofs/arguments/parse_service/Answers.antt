use Rattle.std.proofs.Common.{◌≡◌, ℕ, false, List, [], ◌∷◌, length, Option, Some, ap, ◌∙◌}
use Rattle.std.specs.Prelude.{chars, option_and_then, option_map, ◌==◌}
use Rattle.xcap_uri.specs.Roots.{root_of}
use Rattle.xcap_app.specs.ClientArguments.{numeral_up_to}
use Rattle.xcap_app.specs.Commands.{service_of_words}
use Rattle.xcap_app.specs.declared.arguments.ServiceOptions.{ServiceOptions}
use Rattle.xcap_app.specs.declared.arguments.TheConstants.{MAX_COUNT}
use Rattle.xcap_app.proofs.arguments.parse_service.Goals as goal

abbrev some_service : List ℕ → List ℕ → ℕ → Option ServiceOptions
some_service address root count = Some (record { address = address; root = root; count = count })

-- the options, where each part may be absent
abbrev served_at : List ℕ → Option (List ℕ) → Option ℕ → Option ServiceOptions
served_at address root count = option_and_then (λ r. option_map (λ n. record { address = chars address; root = r; count = n }) count) root

-- the options with an address, where there are a root and a number
service_there : (address root count a r : List ℕ) (n : ℕ) → false ≡ (length address == 0) → Some r ≡ root_of root → Some n ≡ numeral_up_to MAX_COUNT count → a ≡ chars address
    → some_service a r n ≡ service_of_words address root count
service_there [] root count a r n some is_root is_count is = absurd cc
service_there (b ∷ bs) root count a r n some is_root is_count is =
    ap (λ (x : List ℕ). some_service x r n) is
    ∙ ap (λ (o : Option (List ℕ)). served_at (b ∷ bs) o (Some n)) is_root
    ∙ ap (λ (k : Option ℕ). served_at (b ∷ bs) (root_of root) k) is_count

pub returns : goal.returns
returns c = record {
  ok =
      let some : false ≡ (length c.args.address.now == 0) = cc (c.is_empty.ensures, c.if-is_empty.false) in
      let is_root : Some c.in-Some-2.root ≡ root_of c.args.root.now = cc (c.in-Some-2.is, c.in_ok-root.ensures.ok) in
      let is_count : Some c.in-Some.count ≡ numeral_up_to MAX_COUNT c.args.count.now = cc (c.in-Some.ensures.exact) in
      service_there c.args.address.now c.args.root.now c.args.count.now c.in_ok-address.address c.in-Some-2.root c.in-Some.count some is_root is_count c.in_ok-address.ensures.same_chars;
}
