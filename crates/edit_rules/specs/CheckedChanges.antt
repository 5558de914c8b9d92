-- What is checked of a change of a document before it is made, in this order. RFC 4825, sections
-- 8.2.3 and 8.4: the address then selects what was put, or nothing; section 8.2.5: the document
-- is valid, and then within the constraints and uniqueness of its usage (RFC 4826).
use Rattle.std.specs.Prelude.{◌≡◌, ◌⊎◌, ◌≤◌, [], Option, None, Some, Result, Ok, Err}
use Rattle.doc_names.specs.declared.usages.Usage.{Usage}
use Rattle.xml_tree.specs.Tree.{Tree, height}
use Rattle.xml_tree.specs.Proper.{IsProperTree}
use Rattle.xml_names.specs.declared.limits.TheConstants.{MAX_LEVELS}
use Rattle.usage_docs.specs.Validation.{HasFirstFault}
use Rattle.usage_docs.specs.declared.validation.Fault.{Fault}
use Rattle.edit_ops.specs.Changes.{FitsTree, edited}
use Rattle.edit_ops.specs.declared.change.Change.{Change}
use Rattle.edit_rules.specs.declared.edit_refusal.EditRefusal.{EditRefusal}
use Rattle.edit_rules.specs.declared.edit_refusal.EditRefusal.TheVariants.{Faulty}

-- the change, where the resulting document has no fault
abbrev pub change_or_fault : Change → Option Fault → Result Change EditRefusal
change_or_fault change None = Ok change
change_or_fault change (Some fault) = Err (Faulty fault)

-- the result for a change, by the first fault of the resulting document
abbrev pub IsCheckedChange : Usage → Tree → Change → Result Change EditRefusal → Type 0
IsCheckedChange u t change result =
    (fault : Option Fault)
    × (HasFirstFault u (edited t change) fault × (result ≡ change_or_fault change fault))

-- a lawful change has the result of this judgement, one that isn't lawful the given refusal
abbrev pub IsCheckedIfLawful : EditRefusal → Type 0 → (Result Change EditRefusal → Type 0)
    → Result Change EditRefusal → Type 0
IsCheckedIfLawful unlawful lawful Judgement result =
    ((result ≡ Err unlawful) × (lawful → ⊥)) ⊎ (lawful × Judgement result)

-- the change fits the document, and makes a proper one of at most `MAX_LEVELS` levels
pub record LeavesProperTree (t : Tree) (change : Change) : Type 0 where
  pub fits : FitsTree t change
  pub proper : IsProperTree [] (edited t change)
  pub low : height (edited t change) ≤ MAX_LEVELS
