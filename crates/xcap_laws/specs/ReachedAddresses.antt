-- The addresses that a list leads to. RFC 4826, sections 3.2 (entries, lists and references) and
-- 4.2 (a service has a list, or a reference to one).
use Rattle.std.specs.Prelude.{◌≡◌, ◌⊎◌, ℕ, List, [], ◌∷◌, Option, Some, option_and_then, slice_get}
use Rattle.xml_tree.specs.Tree.{Tree, child_elements_of, last}
use Rattle.doc_names.specs.declared.doc_id.DocId.{DocId}
use Rattle.usage_docs.specs.KeyAttributes.{value_of}
use Rattle.usage_docs.specs.declared.schema_table.ElementKind.TheVariants.{Entry, EntryRef}
use Rattle.usage_docs.specs.declared.schema_table.Key.TheVariants.{Uri}
use Rattle.store_core.specs.Contents.{StoreContents}
use Rattle.list_resolve.specs.FlatLists.{service_of}
use Rattle.list_resolve.specs.References.{reference_of}
use Rattle.list_resolve.specs.Resolution.{ResolvesReferences, ResolvedReference, stored_tree}
use Rattle.list_resolve.specs.ScopedElements.{ScopedElement, scoped_child}

-- the type of an optional value's item
abbrev pub ItemType : {A : Type 0} → Option A → Type 0
ItemType {A = A} o = A

-- references, as elements are ones
abbrev pub Reference : Type 0
Reference = ItemType (reference_of [] EntryRef [] (last []))

-- where the references lead as given, the element is an entry with this address; or the address is
-- met in a child that has an element kind; or it is a reference, and the address is met in what
-- the reference leads to
pub data ReachesEntry (resolve : Reference → Option ResolvedReference) (root uri : List ℕ)
    : ScopedElement → Type 0 where
  entry : (s : ScopedElement) → s.kind ≡ Entry → value_of Uri s.element.attrs ≡ Some uri
      → ReachesEntry resolve root uri s
  child : (s k : ScopedElement) (e : Tree) (n : ℕ)
      → slice_get (child_elements_of s.element) n ≡ Some e → scoped_child s e ≡ Some k
      → ReachesEntry resolve root uri k → ReachesEntry resolve root uri s
  lead : (s : ScopedElement) (r : Reference) (l : ResolvedReference)
      → reference_of root s.kind s.element.attrs s.element.content ≡ Some r → resolve r ≡ Some l
      → ReachesEntry resolve root uri l.scoped_element → ReachesEntry resolve root uri s

-- the address is in the list
abbrev pub IsMemberOf : {A : Type 0} → A → List A → Type 0
IsMemberOf x [] = ⊥
IsMemberOf x (y ∷ ys) = (y ≡ x) ⊎ IsMemberOf x ys

-- the stored document has a service with the first address, from which the references to stored
-- documents of its user lead to an entry with the second one
pub record LeadsToAddress (c : StoreContents) (root : List ℕ) (doc : DocId)
    (service uri : List ℕ) : Type 0 where
  pub resolve : Reference → Option ResolvedReference
  pub are_leads : ResolvesReferences
      (record { documents = c.documents; root = root; home = doc.home }) resolve
  pub element : ScopedElement
  pub is_service : option_and_then (service_of service) (stored_tree c.documents doc) ≡ Some element
  pub is_met : ReachesEntry resolve root uri element
