-- The result for the document that a change makes, before the change is made.
use Rattle.std.specs.Prelude.{◌≡◌, ◌⊎◌, ℕ, List, Option, Some, None, Result, Ok, Err}
use Rattle.doc_names.specs.declared.usages.Usage.{Usage}
use Rattle.std.specs.Option.{option_copied}
use Rattle.xml_tree.specs.Tree.{Tree}
use Rattle.xml_tree.specs.Edits.{put_over}
use Rattle.node_select.specs.Selection.{FindsNode}
use Rattle.node_select.specs.declared.selector.Selector.{Selector}
use Rattle.usage_docs.specs.Validation.{HasFirstFault}
use Rattle.usage_docs.specs.declared.validation.Fault.{Fault}
use Rattle.edit_ops.specs.declared.change.Change.{Change}
use Rattle.edit_ops.specs.declared.change.Change.TheVariants.{Insert}
use Rattle.edit_rules.specs.declared.edit_refusal.EditRefusal.{EditRefusal}
use Rattle.edit_rules.specs.AttributePuts.{FindsValue}
use Rattle.edit_rules.specs.EditContexts.{AttrPlace, EditContext}
use Rattle.edit_rules.specs.declared.edit_refusal.EditRefusal.TheVariants.{Faulty}
use Rattle.edit_plans.specs.declared.child_attributes.AttributeEdit.{AttributeEdit}
use Rattle.edit_plans.specs.inner.ChildChangeResults.{not_found_refusal}

-- by its first fault: a refusal with it, or Ok where there is no fault
abbrev pub RefusesWithFault : Option Fault → Result ℕ EditRefusal → Type 0
RefusesWithFault None result = (n : ℕ) × (result ≡ Ok n)
RefusesWithFault (Some fault) result = result ≡ Err (Faulty fault)

-- by its first fault in the application usage
abbrev pub IsCheckedResult : Usage → Tree → Result ℕ EditRefusal → Type 0
IsCheckedResult u after result =
    (fault : Option Fault) × (HasFirstFault u after fault × RefusesWithFault fault result)

-- of a lawful change, or this refusal of one that isn't
abbrev pub IsResultIfLawful : EditRefusal → Type 0 → Usage → Tree → Result ℕ EditRefusal → Type 0
IsResultIfLawful unlawful lawful u after result =
    ((result ≡ Err unlawful) × (lawful → ⊥)) ⊎ (lawful × IsCheckedResult u after result)

-- the change, if it is allowed
abbrev pub allowed_change : Change → Result ℕ EditRefusal → Result Change EditRefusal
allowed_change change (Ok n) = Ok change
allowed_change change (Err why) = Err why

-- the insertion at an insertion point, or why there is none
abbrev pub element_insertion : List ℕ → Tree → Result ℕ EditRefusal → Result Change EditRefusal
element_insertion q e (Ok gap) = Ok (Insert q gap e)
element_insertion q e (Err why) = Err why

-- the attribute is found at its place with a value; or nothing is found
abbrev pub IsFoundAsSought : Selector → AttrPlace → Tree → Option (List ℕ) → Type 0
IsFoundAsSought selector place after (Some value) = FindsValue selector.steps place after value
IsFoundAsSought selector place after None = FindsNode after selector → ⊥

-- the result for the element at p with another start tag
abbrev pub IsNewTagResultAt : EditContext → List ℕ → Tree → AttributeEdit → Result ℕ EditRefusal
    → Type 0
IsNewTagResultAt context p retagged sought result =
    let after = put_over p retagged context.document in
    let wanted = option_copied sought.value in
    let place : AttrPlace = record { path = p; uri = sought.uri.now; local = sought.local.now } in
    IsResultIfLawful (not_found_refusal wanted)
    (IsFoundAsSought context.selector place after wanted)
    context.usage after result
