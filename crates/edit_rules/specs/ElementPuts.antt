-- The change that a PUT of an element makes, or why it makes none. RFC 4825, sections 8.2.1 to
-- 8.2.5. Which of the lawful gaps is taken is this server's choice: the last one at which the
-- document is valid. The definition tries every gap, and selects in and tests the new document
-- anew.
use Rattle.std.specs.Prelude.{◌≡◌, ◌≤◌, ℕ, suc, ◌+◌, List, length, Some, Result, Ok, Err}
use Rattle.node_select.specs.InsertionPoints.{IsInsertionPlan}
use Rattle.xml_tree.specs.Tree.{Tree, at, height, child_elements_of}
use Rattle.xml_tree.specs.Edits.{put_in}
use Rattle.xml_tree.specs.Proper.{IsProperTree}
use Rattle.xml_tree.specs.TreeScopes.{scope_around, scope_at}
use Rattle.xml_names.specs.declared.limits.TheConstants.{MAX_LEVELS}
use Rattle.usage_docs.specs.Validity as usage
use Rattle.edit_ops.specs.declared.change.Change.{Change}
use Rattle.edit_ops.specs.declared.change.Change.TheVariants.{Insert, Replace}
use Rattle.edit_rules.specs.declared.spot.Spot.{Spot}
use Rattle.edit_rules.specs.declared.spot.Spot.TheVariants.{Over, Under, Beside, Value}
use Rattle.usage_docs.specs.declared.validation.Fault.TheVariants.{Invalid}
use Rattle.edit_rules.specs.declared.edit_refusal.EditRefusal.{EditRefusal}
use Rattle.edit_rules.specs.declared.edit_refusal.EditRefusal.TheVariants.{CannotInsert, Faulty}
use Rattle.edit_rules.specs.EditContexts.{PutContext}
use Rattle.edit_rules.specs.LawfulInsertions.{IsLawfulGap, IsLawfulReplacement}
use Rattle.edit_rules.specs.CheckedChanges.{IsCheckedChange, IsCheckedIfLawful}

-- the result by the judgement of the gap, once one is chosen, or the refusal where none could be
abbrev pub IsResultOfGap : (ℕ → Result Change EditRefusal → Type 0) → Result ℕ EditRefusal
    → Result Change EditRefusal → Type 0
IsResultOfGap Judgement (Ok gap) result = Judgement gap result
IsResultOfGap Judgement (Err why) result = result ≡ Err why

-- the element is inserted into the greatest gap of the element at q that is lawful and at which
-- the document is valid; `CannotInsert` where no gap is lawful, `Invalid` where none of the
-- lawful gaps makes a valid document
pub record IsElementInsertion (context : PutContext) (q : List ℕ) (e : Tree)
    (result : Result Change EditRefusal) : Type 0 where
  pub parent : Tree
  pub there : at q context.document ≡ Some parent
  pub gap : Result ℕ EditRefusal
  pub is_chosen : IsInsertionPlan CannotInsert (Faulty Invalid)
      (IsLawfulGap context.steps context.document e q)
      (λ j. usage.IsValidDocument context.usage (put_in q j e context.document))
      (length (child_elements_of parent) + 1) gap
  pub then : IsResultOfGap
      (λ j. IsCheckedChange context.usage context.document (Insert q j e)) gap result

-- the element replaces the one at p; `CannotInsert` where this isn't lawful
abbrev pub IsElementReplacement : PutContext → List ℕ → Tree → Result Change EditRefusal → Type 0
IsElementReplacement context p e result =
    IsCheckedIfLawful CannotInsert (IsLawfulReplacement context.steps context.document e p)
    (IsCheckedChange context.usage context.document (Replace p e)) result

-- the plan at an edit target that is an element: it replaces the selected element, or is inserted
-- under the selected parent; beside the root there is none
abbrev pub IsPutPlan : PutContext → Spot → Tree → Result Change EditRefusal → Type 0
IsPutPlan context (Over p) e result = IsElementReplacement context p e result
IsPutPlan context (Under q) e result = IsElementInsertion context q e result
IsPutPlan context Beside e result = result ≡ Err CannotInsert
IsPutPlan context (Value p) e result = ⊥

-- an element at this edit target has no level below the 64th
abbrev pub FitsWithinLevelsAt : Spot → Tree → Type 0
FitsWithinLevelsAt (Over p) e = length p + height e ≤ MAX_LEVELS
FitsWithinLevelsAt (Under q) e = length q + suc (height e) ≤ MAX_LEVELS
FitsWithinLevelsAt Beside e = Unit {0}
FitsWithinLevelsAt (Value p) e = Unit {0}

-- the element is proper in the scope around the edit target
abbrev pub IsProperAt : Tree → Spot → Tree → Type 0
IsProperAt t (Over p) e = IsProperTree (scope_around p t) e
IsProperAt t (Under q) e = IsProperTree (scope_at q t) e
IsProperAt t Beside e = Unit {0}
IsProperAt t (Value p) e = Unit {0}
