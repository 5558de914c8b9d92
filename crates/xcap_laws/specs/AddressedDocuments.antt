-- Which document an address leads into, and which change of it an address asks for. RFC 4825,
-- sections 6, 8.2 and 8.4.
use Rattle.std.specs.Prelude.{◌≡◌, ℕ, List, [], find, Option, Some}
use Rattle.doc_names.specs.declared.doc_id.DocId.{DocId}
use Rattle.xml_names.specs.declared.names.Attr.{Attr}
use Rattle.xml_names.specs.declared.names.Name.{Name}
use Rattle.xml_tree.specs.Tree.{Tree, at}
use Rattle.xml_tree.specs.TreeScopes.{scope_at}
use Rattle.node_select.specs.Selection.{SelectsPath, is_attr_named}
use Rattle.node_select.specs.declared.selector.End.TheVariants as ends
use Rattle.node_select.specs.declared.selector.Selector.{Selector}
use Rattle.edit_ops.specs.declared.change.Change.{Change}
use Rattle.edit_ops.specs.declared.change.Change.TheVariants.{CreateDocument, Insert, Replace}
use Rattle.edit_ops.specs.declared.change.Change.TheVariants.{Remove, SetAttr, DropAttr}
use Rattle.edit_ops.specs.declared.change.Change.TheVariants.{RemoveDocument}
use Rattle.edit_rules.specs.AttributePuts.{written_name}
use Rattle.edit_rules.specs.EditContexts.{AttrPlace}
use Rattle.edit_rules.specs.Spots.{SelectNothing, SelectsParent}
use Rattle.xcap_uri.specs.declared.target.Target.{Target}
use Rattle.xcap_uri.specs.declared.target.Target.TheVariants.{Document, Node}

-- the target is the document of this name, or a node in it
abbrev pub IsTargetIn : DocId → Target → Type 0
IsTargetIn doc (Document id) = id ≡ doc
IsTargetIn doc (Node id selector) = id ≡ doc
IsTargetIn doc _ = ⊥

-- the selector ends in an attribute of the element at p, of whose place and element this holds
pub record IsAttributeAt (t : Tree) (selector : Selector) (p : List ℕ)
    (IsNamed : AttrPlace → Tree → Type 0) : Type 0 where
  pub uri : List ℕ
  pub local : List ℕ
  pub ends_in : selector.end ≡ ends.Attribute uri local
  pub selects : SelectsPath selector.steps t p
  pub element : Tree
  pub there : at p t ≡ Some element
  pub named : IsNamed (record { path = p; uri = uri; local = local }) element

-- the attribute at this place is written by this name
abbrev pub IsWrittenAs : Tree → Name → AttrPlace → Tree → Type 0
IsWrittenAs t name place element =
    written_name (scope_at place.path t) place.uri place.local element.attrs ≡ Some name

-- the attribute at this place is there, and has this name
pub record HasAttribute (t : Tree) (name : Name) (place : AttrPlace) (element : Tree)
    : Type 0 where
  pub attr : Attr
  pub found : find (is_attr_named (scope_at place.path t) place.uri place.local) element.attrs
      ≡ Some attr
  pub has_name : name ≡ attr.name

-- the change is made where the selector leads: a new element under the parent that all steps but
-- the last select, where the steps select nothing; else the element that the steps select is
-- replaced or removed, or its attribute that the selector ends in is written or removed
abbrev pub IsChangeAtNode : Tree → Selector → Change → Type 0
IsChangeAtNode t selector (CreateDocument root) = ⊥
IsChangeAtNode t selector (Insert parent gap element) =
    (selector.end ≡ ends.Element) × SelectNothing selector.steps t
    × SelectsParent selector.steps t parent
IsChangeAtNode t selector (Replace p element) =
    (selector.end ≡ ends.Element) × SelectsPath selector.steps t p
IsChangeAtNode t selector (Remove p) =
    (selector.end ≡ ends.Element) × SelectsPath selector.steps t p
IsChangeAtNode t selector (SetAttr p name value) =
    IsAttributeAt t selector p (IsWrittenAs t name)
IsChangeAtNode t selector (DropAttr p name) = IsAttributeAt t selector p (HasAttribute t name)
IsChangeAtNode t selector RemoveDocument = ⊥

-- the change is of the whole document
abbrev pub IsChangeOfDocument : Change → Type 0
IsChangeOfDocument (CreateDocument root) = Unit {0}
IsChangeOfDocument (Replace p root) = p ≡ []
IsChangeOfDocument RemoveDocument = Unit {0}
IsChangeOfDocument _ = ⊥

-- the change is what the target asks for, in this document, if it is stored
abbrev pub IsAddressedChange : Option Tree → Target → Change → Type 0
IsAddressedChange before (Document id) change = IsChangeOfDocument change
IsAddressedChange (Some t) (Node id selector) change = IsChangeAtNode t selector change
IsAddressedChange _ _ change = ⊥
