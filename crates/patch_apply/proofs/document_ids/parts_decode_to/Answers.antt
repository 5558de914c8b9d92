use Rattle.std.proofs.Common.{◌≡◌, Bor, ℕ, zero, suc, ◌<◌, false, List, [], ◌∷◌, length, drop, map, Option, None, option_map, refl, sym, ap, ◌∙◌, arith}
use Rattle.xcap_uri.specs.PrintedNames.{parts_decode_to}
use Rattle.patch_apply.proofs.document_ids.parts_decode_to.Goals as goal

-- no address is left for a text
none_left : (texts : List (Bor (List ℕ))) (i : ℕ) → i < length texts → false ≡ parts_decode_to (map (λ x. x.now) (drop i texts)) None
none_left [] i h = absurd (omega arith)
none_left (x ∷ xs) zero h = refl
none_left (x ∷ xs) (suc i) h = none_left xs i (omega arith)

pub returns-in_default : goal.returns-in_default
returns-in_default c = record {
  ok =
      let texts = c.args.texts.now in let i = c.loop-text.text-index in
      none_left texts i c.loop-text-test.true
      ∙ ap (λ (o : Option (Bor (List ℕ))). parts_decode_to (map (λ x. x.now) (drop i texts)) (option_map (λ x. x.now) o)) (sym c.in_default.is) ∙ c.loop-text.invariant;
}
