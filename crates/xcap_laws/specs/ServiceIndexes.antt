-- What the index of services has of the stored documents. RFC 4826, section 4.4.7.
use Rattle.std.specs.Prelude.{ℕ, Contains, List, filter_map, IsSome}
use Rattle.std.specs.List.{AllByRecursion}
use Rattle.xml_tree.specs.Tree.{Tree, child_elements_of}
use Rattle.usage_docs.specs.KeyAttributes.{value_of}
use Rattle.usage_docs.specs.Services.{service_elements}
use Rattle.usage_docs.specs.declared.schema_table.Key.TheVariants.{Uri}
use Rattle.store_core.specs.Contents.{StoredDocument, StoreContents}
use Rattle.store_core.specs.Indexes.{index_entry}
use Rattle.store_core.specs.ValidStates.{AreDistinct}

-- the addresses of the services in an index
abbrev pub listed_addresses : Tree → List (List ℕ)
listed_addresses root = filter_map (λ e. value_of Uri e.attrs) (child_elements_of root)

-- an element is a service, as the index lists it, of a stored document that the index lists
pub record IsListedService (c : StoreContents) (service : Tree) : Type 0 where
  pub document : StoredDocument
  pub is_stored : Contains c.documents document
  pub is_listed : IsSome (index_entry document)
  pub is_in : Contains (service_elements document.tree) service

-- an index has exactly the services of the stored documents that it lists, and each address once
pub record IsConsistentIndex (c : StoreContents) (root : Tree) : Type 0 where
  pub no_others : AllByRecursion (IsListedService c) (child_elements_of root)
  pub none_missing : (service : Tree) → IsListedService c service
      → Contains (child_elements_of root) service
  pub once : AreDistinct (listed_addresses root)
