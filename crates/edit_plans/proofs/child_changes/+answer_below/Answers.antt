use Rattle.std.proofs.Common.{◌≡◌, ◌-◌, ◌++◌, ◌∷◌, [], ℕ, List, Option, Some, Result, IsSome, length, take, drop, get_or, slice_get, option_and_then, sym, ap, ◌∙◌, subst, rules}
use Rattle.std.specs.Option.{option_copied}
use Rattle.xml_tree.specs.Tree.{Tree, at, child_elements_of}
use Rattle.xml_names.specs.declared.names.Decl.{Decl}
use Rattle.xml_names.specs.declared.names.Name.{Name}
use Rattle.usage_docs.specs.declared.schema_table.ElementKind.{ElementKind}
use Rattle.xml_tree.specs.TreeScopes.{inside}
use Rattle.usage_docs.specs.SchemaTable.{Scope, kind_of}
use Rattle.edit_rules.specs.declared.edit_refusal.EditRefusal.{EditRefusal}
use Rattle.edit_plans.specs.inner.ChildChangeResults.{IsChildChangeResult, MayChangeChild}
use Rattle.edit_plans.specs.inner.ParentPaths.{HoldsAtParent}
use Rattle.edit_plans.proofs.Ways.{below_here, below_next, empty_way, here_below, next_below, there_next, way_parts}
use Rattle.edit_plans.proofs.child_changes.+answer_below.Goals as goal

-- at the parent
pub answer_at_parent-requires : goal.answer_at_parent-requires
answer_at_parent-requires t c =
    let P : Option ElementKind → Scope → Tree → Type 0 = λ r d parent. MayChangeChild (record { kind = r; scope = d; step = c.args.step.now; element = parent }) c.args.place.now c.args.asked.now in
    record {
      change_asked =
          here_below P c.args.row c.args.scope.now c.args.element.now
          (subst (λ (w : List ℕ). HoldsAtParent P c.args.row c.args.scope.now c.args.element.now w) (empty_way c.args.way.now c.in_default.len_below) c.requires.change_asked);
    }

pub returns-in_default : goal.returns-in_default
returns-in_default t c = record {
  answers_below =
      let P : Result ℕ EditRefusal → Option ElementKind → Scope → Tree → Type 0 = λ x r d parent. IsChildChangeResult (record { kind = r; scope = d; step = c.args.step.now; element = parent }) c.args.place.now c.args.asked.now x in
      let x = c.answer_at_parent.result in
      subst (λ (w : List ℕ). HoldsAtParent (P x) c.args.row c.args.scope.now c.args.element.now w) (sym (empty_way c.args.way.now c.in_default.len_below)) (below_here (P x) c.args.row c.args.scope.now c.args.element.now c.answer_at_parent.ensures.request_answer);
}

-- one child further
pub answer_below-requires : goal.answer_below-requires
answer_below-requires t c =
    let P : Option ElementKind → Scope → Tree → Type 0 = λ r d parent. MayChangeChild (record { kind = r; scope = d; step = c.args.step.now; element = parent }) c.args.place.now c.args.asked.now in
    let e = c.args.element.now in
    let row = c.args.row in
    let scope = c.args.scope.now in
    let child_element = c.in-Some.child_element.now in
    let way = c.args.way.now in
    let n = get_or way 0 0 in
    let rest = take (length way - 1) (drop 1 way) in
    let parts = way_parts way c.in-len1-up.len_at_least in
    let there : slice_get (child_elements_of e) n ≡ Some child_element = sym c.child_element.ensures.exact ∙ ap option_copied c.in-Some.is in
    let scope_is : c.inside-inside.result ≡ inside scope child_element = c.inside-inside.ensures.adds_declarations ∙ ap (λ (ds : List Decl). scope ++ ds ∷ []) (c.index_decls-declared.ensures.holds_declarations ∙ c.decls.ensures.exact) in
    let row_is : c.kind_inside-row.result ≡ option_and_then (λ kind. kind_of kind (inside scope child_element) child_element.name) row =
    c.kind_inside-row.ensures.exact
    ∙ ap (λ (d : List (List Decl)). option_and_then (λ kind. kind_of kind d c.name.result.now) row) scope_is
    ∙ ap (λ (m : Name). option_and_then (λ kind. kind_of kind (inside scope child_element) m) row) c.name.ensures.exact in
    let some = there_next n rest e child_element there (subst (λ (w : List ℕ). IsSome (at w e)) parts c.requires.place_exists) in
    let asked = subst (λ (o : Option ElementKind). HoldsAtParent P o c.inside-inside.result child_element rest) (sym row_is)
    (subst (λ (d : List (List Decl)). HoldsAtParent P (option_and_then (λ kind. kind_of kind (inside scope child_element) child_element.name) row) d child_element rest) (sym scope_is)
    (next_below P row scope n rest e child_element there (subst (λ (w : List ℕ). HoldsAtParent P row scope e w) parts c.requires.change_asked))) in
    (search rules, (some, asked))

pub returns : goal.returns
returns t c = record {
  answers_below =
      let P : Result ℕ EditRefusal → Option ElementKind → Scope → Tree → Type 0 = λ x r d parent. IsChildChangeResult (record { kind = r; scope = d; step = c.args.step.now; element = parent }) c.args.place.now c.args.asked.now x in
      let e = c.args.element.now in
      let row = c.args.row in
      let scope = c.args.scope.now in
      let child_element = c.in-Some.child_element.now in
      let way = c.args.way.now in
      let n = get_or way 0 0 in
      let rest = take (length way - 1) (drop 1 way) in
      let there : slice_get (child_elements_of e) n ≡ Some child_element = sym c.child_element.ensures.exact ∙ ap option_copied c.in-Some.is in
      let scope_is : c.inside-inside.result ≡ inside scope child_element = c.inside-inside.ensures.adds_declarations ∙ ap (λ (ds : List Decl). scope ++ ds ∷ []) (c.index_decls-declared.ensures.holds_declarations ∙ c.decls.ensures.exact) in
      let row_is : c.kind_inside-row.result ≡ option_and_then (λ kind. kind_of kind (inside scope child_element) child_element.name) row =
      c.kind_inside-row.ensures.exact
      ∙ ap (λ (d : List (List Decl)). option_and_then (λ kind. kind_of kind d c.name.result.now) row) scope_is
      ∙ ap (λ (m : Name). option_and_then (λ kind. kind_of kind (inside scope child_element) m) row) c.name.ensures.exact in
      let x = c.answer_below.result in
      subst (λ (w : List ℕ). HoldsAtParent (P x) row scope e w) (sym (way_parts way c.in-len1-up.len_at_least))
      (below_next (P x) row scope n rest e child_element there
      (subst (λ (o : Option ElementKind). HoldsAtParent (P x) o (inside scope child_element) child_element rest) row_is (subst (λ (d : List (List Decl)). HoldsAtParent (P x) c.kind_inside-row.result d child_element rest) scope_is c.answer_below.ensures.answers_below)));
}
