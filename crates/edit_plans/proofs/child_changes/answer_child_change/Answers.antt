use Rattle.std.proofs.Common.{◌≡◌, ◌++◌, ◌∷◌, [], ℕ, List, Option, Some, Result, sym, ap, ◌∙◌, subst}
use Rattle.xml_tree.specs.Tree.{Tree}
use Rattle.xml_names.specs.declared.names.Decl.{Decl}
use Rattle.usage_docs.specs.declared.schema_table.ElementKind.{ElementKind}
use Rattle.usage_docs.specs.SchemaTable.{Scope, root_kind}
use Rattle.edit_rules.specs.declared.edit_refusal.EditRefusal.{EditRefusal}
use Rattle.edit_plans.specs.inner.ChildChangeResults.{IsChildChangeResult, MayChangeChild}
use Rattle.edit_plans.specs.inner.ParentPaths.{HoldsAtParent}
use Rattle.edit_plans.proofs.child_changes.answer_child_change.Goals as goal

pub answer_below-requires-clause-change_asked : goal.answer_below-requires-clause-change_asked
answer_below-requires-clause-change_asked c =
    let P : Option ElementKind → Scope → Tree → Type 0 = λ r d parent. MayChangeChild (record { kind = r; scope = d; step = c.args.step.now; element = parent }) c.args.place.now c.args.asked.now in
    let t = c.args.root.now in
    let scope : c.inside.result ≡ t.decls ∷ [] = c.inside.ensures.adds_declarations ∙ ap (λ (d : List (List Decl)). d ++ c.index_decls-declared.result ∷ []) c.empty.ensures.declares_nothing ∙ ap (λ (ds : List Decl). ds ∷ []) (c.index_decls-declared.ensures.holds_declarations ∙ c.decls.ensures.exact) in
    subst (λ (k : ElementKind). HoldsAtParent P (Some k) c.inside.result t c.numbers.result.now) (sym c.root_kind.ensures.exact)
    (subst (λ (d : List (List Decl)). HoldsAtParent P (Some (root_kind c.args.usage)) d t c.numbers.result.now) (sym scope)
    (subst (λ (q : List ℕ). HoldsAtParent P (Some (root_kind c.args.usage)) (t.decls ∷ []) t q) (sym c.numbers.ensures.exact) c.requires.change_asked))

pub returns : goal.returns
returns c = record {
  answer_at_place =
      let P : Result ℕ EditRefusal → Option ElementKind → Scope → Tree → Type 0 = λ x r d parent. IsChildChangeResult (record { kind = r; scope = d; step = c.args.step.now; element = parent }) c.args.place.now c.args.asked.now x in
      let t = c.args.root.now in
      let scope : c.inside.result ≡ t.decls ∷ [] = c.inside.ensures.adds_declarations ∙ ap (λ (d : List (List Decl)). d ++ c.index_decls-declared.result ∷ []) c.empty.ensures.declares_nothing ∙ ap (λ (ds : List Decl). ds ∷ []) (c.index_decls-declared.ensures.holds_declarations ∙ c.decls.ensures.exact) in
      subst (λ (q : List ℕ). HoldsAtParent (P c.answer_below.result) (Some (root_kind c.args.usage)) (t.decls ∷ []) t q) c.numbers.ensures.exact
      (subst (λ (d : List (List Decl)). HoldsAtParent (P c.answer_below.result) (Some (root_kind c.args.usage)) d t c.numbers.result.now) scope
      (subst (λ (k : ElementKind). HoldsAtParent (P c.answer_below.result) (Some k) c.inside.result t c.numbers.result.now) c.root_kind.ensures.exact c.answer_below.ensures.answers_below));
}
