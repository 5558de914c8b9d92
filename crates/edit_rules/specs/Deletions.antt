-- The change that a DELETE of a node makes, or why it makes none. RFC 4825, section 8.4: a GET of
-- the same address then finds nothing.
use Rattle.std.specs.Prelude.{◌≡◌, ◌⊎◌, ℕ, List, [], ◌∷◌, find, Some, Result, Err}
use Rattle.doc_names.specs.declared.usages.Usage.{Usage}
use Rattle.xml_tree.specs.Tree.{Tree}
use Rattle.xml_tree.specs.TreeScopes.{scope_at}
use Rattle.xml_names.specs.declared.names.Attr.{Attr}
use Rattle.node_select.specs.Selection.{FindsNode, is_attr_named}
use Rattle.node_select.specs.declared.selector.End.{End}
use Rattle.node_select.specs.declared.selector.End.TheVariants as ends
use Rattle.node_select.specs.declared.selector.Selector.{Selector}
use Rattle.edit_ops.specs.Changes.{edited}
use Rattle.edit_ops.specs.declared.change.Change.{Change}
use Rattle.edit_ops.specs.declared.change.Change.TheVariants.{Remove, DropAttr}
use Rattle.usage_docs.specs.declared.validation.Fault.TheVariants.{Invalid}
use Rattle.edit_rules.specs.declared.edit_refusal.EditRefusal.{EditRefusal}
use Rattle.edit_rules.specs.declared.edit_refusal.EditRefusal.TheVariants.{NotFound, CannotDelete}
use Rattle.edit_rules.specs.declared.edit_refusal.EditRefusal.TheVariants.{Faulty}
use Rattle.edit_rules.specs.EditContexts.{AttrPlace, EditContext}
use Rattle.edit_rules.specs.CheckedChanges.{IsCheckedChange, IsCheckedIfLawful}

-- the selector finds nothing in the document that a change makes
abbrev pub FindsNothingAfter : Selector → Tree → Change → Type 0
FindsNothingAfter selector t change = FindsNode (edited t change) selector → ⊥

-- the change is made if the selector then finds nothing
abbrev pub IsDeletion : EditContext → Change → Result Change EditRefusal → Type 0
IsDeletion context change result =
    IsCheckedIfLawful CannotDelete (FindsNothingAfter context.selector context.document change)
    (IsCheckedChange context.usage context.document change) result

-- the plan for the element at p, which was found: its removal, unless it is the root, without
-- which the document isn't valid
abbrev pub IsElementRemoval : EditContext → List ℕ → Result Change EditRefusal → Type 0
IsElementRemoval context [] result = result ≡ Err (Faulty Invalid)
IsElementRemoval context (n ∷ p) result = IsDeletion context (Remove (n ∷ p)) result

-- the plan for the attribute at a place of this element, which was found: it is dropped
pub record IsAttributeRemoval (context : EditContext) (place : AttrPlace) (element : Tree)
    (result : Result Change EditRefusal) : Type 0 where
  pub attr : Attr
  pub that : find (is_attr_named (scope_at place.path context.document) place.uri place.local)
      element.attrs
      ≡ Some attr
  pub then : IsDeletion context (DropAttr place.path attr.name) result

-- the plan for what is found at p; `namespace::*` has none
abbrev pub IsDeletePlanFor : EditContext → List ℕ → Tree → End → Result Change EditRefusal → Type 0
IsDeletePlanFor context p element ends.Element result = IsElementRemoval context p result
IsDeletePlanFor context p element (ends.Attribute uri local) result =
    IsAttributeRemoval context (record { path = p; uri = uri; local = local }) element result
IsDeletePlanFor context p element ends.Namespaces result = ⊥

-- the plan of a deletion: NotFound where nothing is found
abbrev pub IsDeletePlan : Usage → Tree → Selector → Result Change EditRefusal → Type 0
IsDeletePlan u t selector result =
    ((result ≡ Err NotFound) × (FindsNode t selector → ⊥))
    ⊎ ((found : FindsNode t selector)
    × IsDeletePlanFor (record { usage = u; document = t; selector = selector }) found.path
    found.element
    selector.end result)
