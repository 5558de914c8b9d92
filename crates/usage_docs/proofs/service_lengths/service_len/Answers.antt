use Rattle.std.proofs.Common.{◌≡◌, List, [], ◌∷◌, length, min, refl, ap, sym, subst, ◌∙◌, eqb-true}
use Rattle.xml_names.specs.declared.names.Decl.{Decl}
use Rattle.xml_names.specs.Scopes.{AreSortedByPrefix, in_scope_bindings}
use Rattle.usage_docs.specs.readers.ServiceLengths.{decls_len}
use Rattle.xml_names.proofs.BindingWords.{AreInOrder-in_scope_bindings}
use Rattle.usage_docs.proofs.HiddenLemmas.{hid_within, own_within, shown_len}
use Rattle.usage_docs.proofs.LengthLemmas.{plain_service, two_capped}
use Rattle.usage_docs.proofs.service_lengths.service_len.Goals as goal

pub returns-then-is_empty : goal.returns-then-is_empty
returns-then-is_empty c = record {
  ok =
      let root = c.args.outer.now.decls.now in
      let e = c.args.child_element.now in
      let none : length e.decls ≡ 0 = ap length (sym c.decls-own.ensures.exact) ∙ eqb-true (length c.decls-own.result.now) 0 (sym c.is_empty.ensures ∙ c.if-is_empty.true) in
      two_capped 18446744073709551615 _ _ _ _ _ _ c.printed_len.ensures.exact c.requires.counted c.saturating_add-whole.ensures (plain_service root e none);
}

pub hidden_len-requires : goal.hidden_len-requires
hidden_len-requires c =
    let root = c.args.outer.now.decls.now in
    subst AreSortedByPrefix (sym (c.deref.ensures.value ∙ c.requires.bindings)) (AreInOrder-in_scope_bindings (root ∷ []))

pub overflow_sub-whole : goal.overflow_sub-whole
overflow_sub-whole c =
    hid_within c.args.outer.now.decls.now c.args.child_element.now _ _ _ _ _ _ c.decls-own.ensures.exact (c.deref.ensures.value ∙ c.requires.bindings) c.printed_len.ensures.exact c.requires.counted
    c.saturating_add-whole.ensures c.if-whole.false c.in_ok-hidden_bindings.ensures.ok

pub overflow_sub-whole-2 : goal.overflow_sub-whole-2
overflow_sub-whole-2 c =
    own_within c.args.outer.now.decls.now c.args.child_element.now _ _ _ _ _ _ c.decls-own.ensures.exact (c.deref.ensures.value ∙ c.requires.bindings) c.printed_len.ensures.exact c.requires.counted
    c.saturating_add-whole.ensures c.if-whole.false c.in_ok-hidden_bindings.ensures.ok c.decls_len.result c.decls_len.ensures.exact

pub returns : goal.returns
returns c = record {
  ok =
      let own : List Decl = c.args.child_element.now.decls in
      let is = c.decls-own.ensures.exact in
      shown_len c.args.outer.now.decls.now c.args.child_element.now _ _ _ _ _ _ is (c.deref.ensures.value ∙ c.requires.bindings) c.printed_len.ensures.exact c.requires.counted
      c.saturating_add-whole.ensures c.if-whole.false c.in_ok-hidden_bindings.ensures.ok c.decls_len.result c.in_ok-shown.shown c.saturating_add.result
      (in_scope_bindings (own ∷ [])) c.decls_len.ensures.exact
      (c.in_ok-shown.ensures.ok ∙ ap (λ (ds : List Decl). min (decls_len (in_scope_bindings (ds ∷ []))) 18446744073709551615) is) refl c.saturating_add.ensures;
}
