use Rattle.std.proofs.Common.{List, [], ◌∷◌, ◌≡◌, ◌∙◌, rules, min, ap, sym}
use Rattle.std.proofs.lemmas.Fn.{always_returns_same}
use Rattle.xml_names.specs.Markup.{print_decl, byte_len}
use Rattle.xml_names.specs.declared.names.Decl.{Decl}
use Rattle.usage_docs.specs.readers.ServiceLengths.{bindings_of_prefix, decls_len}
use Rattle.usage_docs.proofs.HiddenLemmas.{found, not_found, to_prefix}
use Rattle.usage_docs.proofs.LengthLemmas.{only_one}
use Rattle.usage_docs.proofs.service_lengths.binding_len.Goals as goal

pub returns-in-Ok : goal.returns-in-Ok
returns-in-Ok c = record {
  exact =
      let p = c.args.prefix.now in
      let bs = c.args.bindings.now in
      let binding = c.index-bindings-place.result in
      let is = c.in-Ok.ensures.position (to_prefix p) (always_returns_same _ _ _ (λ a r f called. search rules)) in
      let one : bindings_of_prefix p bs ≡ binding ∷ [] =
      found p bs c.requires c.in-Ok.place binding c.in-Ok.ensures.bound (is binding) ∙ ap (λ (b : Decl). b ∷ []) (sym c.index-bindings-place.is) in
      let len : decls_len (bindings_of_prefix p bs) ≡ byte_len (print_decl binding) = ap decls_len one ∙ only_one binding in
      c.decl_len.ensures.exact ∙ sym (λ i. min (len i) 18446744073709551615);
}

pub returns-in-Err : goal.returns-in-Err
returns-in-Err c = record {
  exact =
      let p = c.args.prefix.now in
      let parts = c.in-Err.ensures.position (to_prefix p) (always_returns_same _ _ _ (λ a r f called. search rules)) in
      sym (ap (λ (bs : List Decl). min (decls_len bs) 18446744073709551615) (not_found p c.args.bindings.now c.requires c.in-Err.field-0 parts));
}
