-- The results at a parent, one by one.
use Rattle.std.proofs.Common.{◌≡◌, ◌↔◌, inl, inr, ◌+◌, ℕ, Bool, false, List, length, Option, Some, None, Result, Ok, Err, IsTrue, refl, sym, ap, ◌∙◌, subst}
use Rattle.std.specs.Option.{ForSome}
use Rattle.std.proofs.lemmas.Option.{same_Some, none-some}
use Rattle.node_select.specs.InsertionPoints.{IsLawfulInsertion, IsInsertionPlan}
use Rattle.doc_names.specs.declared.usages.Usage.{Usage}
use Rattle.xml_tree.specs.Tree.{Tree, child_elements_of}
use Rattle.node_select.specs.declared.selector.Step.{Step}
use Rattle.node_select.specs.Selection.{step_tests}
use Rattle.usage_docs.specs.declared.schema_table.ElementKind.{ElementKind}
use Rattle.usage_docs.specs.declared.key_repeats.Clash.{Clash}
use Rattle.usage_docs.specs.SchemaTable.{Scope}
use Rattle.usage_docs.specs.UniqueKeys.{IsFirstClash, HasUniqueKeys}
use Rattle.usage_docs.specs.ReferenceForms.{MeetsConstraints, IsFormedNode}
use Rattle.xml_tree.specs.declared.tree.Node.TheVariants.{Elem}
use Rattle.usage_docs.specs.Validity.{IsValidDocument}
use Rattle.usage_docs.specs.declared.validation.Fault.{Fault}
use Rattle.usage_docs.specs.declared.validation.Fault.TheVariants as faults
use Rattle.usage_docs.specs.declared.validation.Fault.TheVariants.{Unformed, Repeated}
use Rattle.usage_docs.specs.readers.SiblingElements.{IsFirstInOrder}
use Rattle.edit_ops.specs.Changes.{edited}
use Rattle.edit_ops.specs.declared.change.Change.{Change}
use Rattle.edit_rules.specs.declared.edit_refusal.EditRefusal.{EditRefusal}
use Rattle.edit_rules.specs.declared.edit_refusal.EditRefusal.TheVariants as refusals
use Rattle.edit_rules.specs.NewElements.{ClashesBeside}
use Rattle.edit_rules.specs.CheckedChanges.{change_or_fault, IsCheckedChange, IsCheckedIfLawful}
use Rattle.edit_plans.specs.declared.insertion_points.NoInsertionPoint.{NoInsertionPoint}
use Rattle.edit_plans.specs.declared.insertion_points.NoInsertionPoint.TheVariants.{Unlawful, Invalid}
use Rattle.edit_plans.specs.inner.ChildChangeResults.{HasFormedReferences, IsNewChildResult, IsInsertionResult}
use Rattle.edit_plans.specs.inner.Neighbours.{FitsInsertionPoint}
use Rattle.edit_plans.specs.inner.ChangeResults.{IsCheckedResult, IsResultIfLawful, RefusesWithFault, allowed_change}

pub true_false : (b : Bool) → IsTrue b → b ≡ false → ⊥
true_false b t f = cc

-- ---- a new element at an insertion point

module _ (formed : Type 0) (row : Option ElementKind) (c : Scope) (child_elements : List Tree) (new : Tree) (q : List ℕ) (gap : ℕ) where
  pub judged_unformed : (formed → ⊥) → IsNewChildResult formed (record { kind = row; scope = c; elements = child_elements; path = q }) new gap (Err (refusals.Faulty Unformed))
  judged_unformed fails = inl (refl, fails)

  pub judged_clash : (kind : ElementKind) (clash : Clash) → row ≡ Some kind → formed → IsFirstInOrder (ClashesBeside (record { kind = kind; scope = c; elements = child_elements }) new gap) q (Some clash) → IsNewChildResult formed (record { kind = row; scope = c; elements = child_elements; path = q }) new gap (Err (refusals.Faulty (Repeated clash)))
  judged_clash kind clash is h first = inr (inl (clash, (refl, h, (kind, (is, first)))))

  pub judged_ok : (kind : ElementKind) → row ≡ Some kind → formed → IsFirstInOrder (ClashesBeside (record { kind = kind; scope = c; elements = child_elements }) new gap) q None → IsNewChildResult formed (record { kind = row; scope = c; elements = child_elements; path = q }) new gap (Ok gap)
  judged_ok kind is h first = inr (inr (refl, h, λ k at. subst (λ (x : ElementKind). IsFirstInOrder (ClashesBeside (record { kind = x; scope = c; elements = child_elements }) new gap) q None) (same_Some kind k (sym is ∙ at)) first))

  pub judged_foreign : row ≡ None → formed → IsNewChildResult formed (record { kind = row; scope = c; elements = child_elements; path = q }) new gap (Ok gap)
  judged_foreign none h = inr (inr (refl, h, λ k at. absurd (none-some k (sym none ∙ at))))

-- by another property of the form of references
pub judged_by : (F G : Type 0) (row : Option ElementKind) (c : Scope) (child_elements : List Tree) (new : Tree) (q : List ℕ) (gap : ℕ) (r : Result ℕ EditRefusal) → F ↔ G → IsNewChildResult F (record { kind = row; scope = c; elements = child_elements; path = q }) new gap r → IsNewChildResult G (record { kind = row; scope = c; elements = child_elements; path = q }) new gap r
judged_by F G row c child_elements new q gap r same (inl h) = inl (h.0, λ g. h.1 (same.1 g))
judged_by F G row c child_elements new q gap r same (inr (inl h)) = inr (inl (h.0, (h.1.0, same.0 h.1.1, h.1.2)))
judged_by F G row c child_elements new q gap r same (inr (inr h)) = inr (inr (h.0, same.0 h.1, h.2))

-- by the element kind, which there is
pub formed_by_row : (row : Option ElementKind) (kind : ElementKind) (c : Scope) (new : Tree) → row ≡ Some kind → (formed : Bool) → IsTrue formed ↔ IsFormedNode kind c (Elem new) → IsTrue formed ↔ HasFormedReferences row c new
formed_by_row row kind c new is formed h = (
  λ t k at. subst (λ (x : ElementKind). IsFormedNode x c (Elem new)) (same_Some kind k (sym is ∙ at)) (h.0 t),
  λ f. h.1 (f kind is),
)

-- ---- the insertion point of a parent

unlawful_is_not : Unlawful ≡ Invalid → ⊥
unlawful_is_not h = cc

invalid_is_not : Invalid ≡ Unlawful → ⊥
invalid_is_not h = cc

module _ (row : Option ElementKind) (c : Scope) (step : Step) (parent new : Tree) (q : List ℕ) where
  abbrev V : ℕ → Type 0
  V = FitsInsertionPoint row c parent.content new

  abbrev pub Chosen : Result ℕ NoInsertionPoint → Type 0
  Chosen r = IsInsertionPlan Unlawful Invalid (IsLawfulInsertion (step_tests c step) (child_elements_of parent) new) V (length (child_elements_of parent) + 1) r

  pub placed_ok : (gap : ℕ) (result : Result ℕ EditRefusal) → Chosen (Ok gap) → IsNewChildResult (HasFormedReferences row c new) (record { kind = row; scope = c; elements = child_elements_of parent; path = q }) new gap result → IsInsertionResult (record { kind = row; scope = c; step = step; element = parent }) new q result
  placed_ok gap result chosen check_insertion = record { gap = Ok gap; is_chosen = chosen; then = check_insertion }

  pub placed_unlawful : Chosen (Err Unlawful) → IsInsertionResult (record { kind = row; scope = c; step = step; element = parent }) new q (Err refusals.CannotInsert)
  placed_unlawful (inl h) = record { gap = Err refusals.CannotInsert; is_chosen = inl (refl, h.1); then = refl }
  placed_unlawful (inr h) = absurd (unlawful_is_not h.0)

  pub placed_invalid : Chosen (Err Invalid) → IsInsertionResult (record { kind = row; scope = c; step = step; element = parent }) new q (Err (refusals.Faulty faults.Invalid))
  placed_invalid (inl h) = absurd (invalid_is_not h.0)
  placed_invalid (inr h) = record { gap = Err (refusals.Faulty faults.Invalid); is_chosen = inr (refl, h.1); then = refl }

-- ---- of the new document

-- the first fault found from the change of a document without a fault is the new document's first
-- fault
pub judged_from : (formed : Type 0) (row : Option ElementKind) (c : Scope) (child_elements : List Tree) (new : Tree) (q : List ℕ) (gap : ℕ) (u : Usage) (after : Tree) (r : Result ℕ EditRefusal) → IsValidDocument u after
    → (MeetsConstraints u after ↔ formed) → ((kind : ElementKind) → row ≡ Some kind → (found : Option Clash) → IsFirstInOrder (ClashesBeside (record { kind = kind; scope = c; elements = child_elements }) new gap) q found → IsFirstClash u after found) → (row ≡ None → HasUniqueKeys u after)
    → IsNewChildResult formed (record { kind = row; scope = c; elements = child_elements; path = q }) new gap r → IsCheckedResult u after r
judged_from formed row c child_elements new q gap u after r valid forms first foreign (inl h) = (Some Unformed, ((valid, λ k. h.1 (forms.0 k)), h.0))
judged_from formed row c child_elements new q gap u after r valid forms first foreign (inr (inl h)) = (Some (Repeated h.0), ((valid, forms.1 h.1.1, first h.1.2.0 h.1.2.1.0 (Some h.0) h.1.2.1.1), h.1.0))
judged_from formed row c child_elements new q gap u after r valid forms first foreign (inr (inr h)) = (None, ((valid, forms.1 h.1, by row refl h.2), (gap, h.0)))
  where
    by : (o : Option ElementKind) → row ≡ o → ForSome o (λ kind. IsFirstInOrder (ClashesBeside (record { kind = kind; scope = c; elements = child_elements }) new gap) q None) → HasUniqueKeys u after
    by None is f = foreign is
    by (Some kind) is f = first kind is None (f kind refl)

-- the change, by the result for the document that it makes
made_told : (change : Change) (fault : Option Fault) (found : Result ℕ EditRefusal) → RefusesWithFault fault found → allowed_change change found ≡ change_or_fault change fault
made_told change None found h = ap (allowed_change change) h.1
made_told change (Some fault) found h = ap (allowed_change change) h

pub made_tested : (unlawful : EditRefusal) (lawful : Type 0) (u : Usage) (t : Tree) (change : Change) (found : Result ℕ EditRefusal) → IsResultIfLawful unlawful lawful u (edited t change) found → IsCheckedIfLawful unlawful lawful (IsCheckedChange u t change) (allowed_change change found)
made_tested unlawful lawful u t change found (inl h) = inl (ap (allowed_change change) h.0, h.1)
made_tested unlawful lawful u t change found (inr h) = inr (h.0, (h.1.0, (h.1.1.0, made_told change h.1.0 found h.1.1.1)))
