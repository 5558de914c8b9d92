-- What contracts see of a store, and the entry that a new document gets.
use Rattle.std.specs.Prelude.{ℕ, Bool, false, List, []}
use Rattle.xml_tree.specs.Tree.{Tree}
use Rattle.usage_docs.specs.Services.{document_len}
use Rattle.doc_names.specs.declared.doc_id.DocId.{DocId}
use Rattle.store_core.specs.declared.entry.Entry.{Entry}
use Rattle.store_core.specs.Contents.{StoreContents}

-- how many documents, and how many service addresses, the store can add without allocating; and of
-- each document whether its tree is unshared, so that it can be changed in place
pub record SpareCapacity : Type 0 where
  pub documents : ℕ
  pub services : ℕ
  pub trees : List (DocId × Bool)

-- a store's contents, and its reserved memory
pub record StoreView : Type 0 where
  pub content : StoreContents
  pub room : SpareCapacity

-- the entry of a document created with this number, whose change record shares its tree
abbrev pub new_entry : ℕ → Tree → Entry
new_entry number t =
    record {
      created = number;
      tag = number;
      tree = record { root = t; own = false };
      len = document_len t;
      notes = [];
    }
