use Rattle.std.proofs.Common.{◌≡◌, List, ℕ, ◌++◌, true, false, ap, sym, ◌∙◌, refl, codes, encode_utf8_all}
use Rattle.std.proofs.lemmas.Str.{encodes-chars}
use Rattle.xcap_uri.specs.Roots.{authority_of}
use Rattle.xcap_client.specs.ServerAddresses.{has_port, address_of}
use Rattle.xcap_client.proofs.Words.{port}
use Rattle.xcap_client.proofs.address.address_of.Goals as goal
use Rattle.xcap_client.proofs.address.address_of.Goals.{then-not-has_port+in_ok-push_str, else-not-has_port}

with_port : (root : List ℕ) → has_port (encode_utf8_all (authority_of root)) ≡ true → authority_of root ≡ address_of root
with_port root named = rw named refl

without_port : (root : List ℕ) → has_port (encode_utf8_all (authority_of root)) ≡ false → authority_of root ++ codes ":80" ≡ address_of root
without_port root named = rw named refl

pub returns : goal.returns
returns c = record {
  ok =
      let bytes : c.as_bytes.result.now ≡ encode_utf8_all (authority_of c.args.root.now) = c.as_bytes.ensures.value ∙ sym (encodes-chars c.authority-2.result.now c.authority-2.utf8) ∙ ap encode_utf8_all c.authority-2.ensures.exact in
      let test = sym (c.has_port.ensures.exact ∙ ap has_port bytes) in
      let begun = c.in_ok-address.ensures.same_chars ∙ c.authority.ensures.exact in
      elim c.if-not-has_port.branch [
        | then-not-has_port+in_ok-push_str w ↦
            let pushed : w.push_str.new.self ≡ c.in_ok-address.address ++ codes ":80" = w.in_ok-push_str.ensures.appends_chars ∙ ap (λ (l : List ℕ). c.in_ok-address.address ++ l) port in
            w.address-is ∙ pushed ∙ ap (λ (l : List ℕ). l ++ codes ":80") begun ∙ without_port c.args.root.now (test ∙ w.if-not-has_port.true)
        | else-not-has_port w ↦ w.address-is ∙ begun ∙ with_port c.args.root.now (test ∙ w.if-not-has_port.false)
      ];
}
