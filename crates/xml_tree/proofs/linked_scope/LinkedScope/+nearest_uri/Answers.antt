use Rattle.std.proofs.Common.{◌≡◌, List, [], Option, ℕ, length, ap, sym, ◌∙◌, eqb-true}
use Rattle.std.proofs.lemmas.List.{nil_from_length}
use Rattle.std.specs.Option.{option_copied, option_or}
use Rattle.xml_tree.specs.inner.LinkedScopes.{decl_lists}
use Rattle.xml_names.specs.Scopes.{declared_uri, scope_decls}
use Rattle.xml_names.specs.declared.names.Decl.{Decl}
use Rattle.xml_tree.proofs.AroundLemmas.{declared_inside}
use Rattle.xml_tree.proofs.linked_scope.LinkedScope.+nearest_uri.Goals as goal

pub returns-then-is_empty : goal.returns-then-is_empty
returns-then-is_empty t c = record {
  exact =
      let outer = c.in-Within.outer.now in
      let p = c.args.prefix.now in
      let ds = c.in-Within.declared.now in
      let none : ds ≡ [] = nil_from_length ds (eqb-true (length ds) 0 (sym c.if-is_empty.ensures.exact)) in
      let here = ap decl_lists (sym c.in-Within.is) ∙ c.self.view_is in
      c.nearest_uri-then-is_empty.ensures.exact ∙ ap (λ (l : List Decl). option_or (declared_uri l p) (declared_uri (scope_decls outer) p)) (sym none) ∙ sym (declared_inside outer ds p)
      ∙ ap (λ (s : List (List Decl)). declared_uri (scope_decls s) p) here;
}

pub returns-in-Some : goal.returns-in-Some
returns-in-Some t c = record {
  exact =
      let outer = c.in-Within.outer.now in
      let p = c.args.prefix.now in
      let own = ap option_copied (sym c.in-Some.is) ∙ c.uri_of.ensures.exact in
      let here = ap decl_lists (sym c.in-Within.is) ∙ c.self.view_is in
      ap (λ (o : Option (List ℕ)). option_or o (declared_uri (scope_decls outer) p)) own ∙ sym (declared_inside outer c.in-Within.declared.now p)
      ∙ ap (λ (s : List (List Decl)). declared_uri (scope_decls s) p) here;
}

pub returns-in-None : goal.returns-in-None
returns-in-None t c = record {
  exact =
      let outer = c.in-Within.outer.now in
      let p = c.args.prefix.now in
      let own = ap option_copied (sym c.in-None.is) ∙ c.uri_of.ensures.exact in
      let here = ap decl_lists (sym c.in-Within.is) ∙ c.self.view_is in
      c.nearest_uri-in-None.ensures.exact ∙ ap (λ (o : Option (List ℕ)). option_or o (declared_uri (scope_decls outer) p)) own ∙ sym (declared_inside outer c.in-Within.declared.now p)
      ∙ ap (λ (s : List (List Decl)). declared_uri (scope_decls s) p) here;
}
