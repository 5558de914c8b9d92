-- The documents that the index of all services lists, from a store's entries into a map by the
-- users' names. RFC 4826, section 4.4.7.
use Rattle.std.specs.Prelude.{ℕ, List, [], ◌∷◌, map, filter_map}
use Rattle.std.specs.BTreeMap.{insert_entry}
use Rattle.std.specs.Borrow.{Bor}
use Rattle.std.specs.Cmp.Lexicographic.{slice_cmp}
use Rattle.std.specs.Ordering.{nat_cmp}
use Rattle.xml_tree.specs.Tree.{Tree}
use Rattle.doc_names.specs.declared.doc_id.DocId.{DocId}
use Rattle.store_core.specs.declared.entry.Entry.{Entry}
use Rattle.store_core.specs.Indexes.{index_entry}
use Rattle.store_core.specs.inner.StoreMemory.{stored_view}

-- the users' names and the trees of the documents that the index lists
abbrev pub index_entries : List (DocId × Entry) → List (List ℕ × Tree)
index_entries es = filter_map index_entry (map stored_view es)

-- the names and trees that a map lends
abbrev pub borrowed_pairs : List (Bor (List ℕ) × Bor Tree) → List (List ℕ × Tree)
borrowed_pairs es = map (λ e. (e.0.now, e.1.now)) es

-- the entries of a map by names after these were added one after another: the last of each name
abbrev pub with_entries : List (List ℕ × Tree) → List (List ℕ × Tree) → List (List ℕ × Tree)
with_entries made [] = made
with_entries made (d ∷ ds) = with_entries (insert_entry (slice_cmp nat_cmp) made d.0 d.1) ds
