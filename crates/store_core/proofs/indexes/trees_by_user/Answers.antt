use Rattle.std.proofs.Common.{List, ℕ, sym, ap, ◌∙◌}
use Rattle.std.specs.List.{cons_option}
use Rattle.std.specs.Str.{bytes_eq}
use Rattle.xml_tree.specs.Tree.{Tree}
use Rattle.store_core.specs.Indexes.{index, entry_if_listed}
use Rattle.store_core.specs.inner.ServiceListing.{with_entries, index_entries, borrowed_pairs}
use Rattle.store_core.proofs.IndexedTrees.{pairs-insert}
use Rattle.store_core.proofs.indexes.trees_by_user.Goals as goal

pub loop-doc-preserved-in_ok-insert : goal.loop-doc-preserved-in_ok-insert
loop-doc-preserved-in_ok-insert c =
    let es = c.loop-doc.made.entries in
    let rest = c.next.new.self in
    record {
      can = tt;
      finite = tt;
      so_far = ap (λ xs. with_entries (borrowed_pairs xs) (index_entries rest)) (c.in_ok-insert.ensures {u = tt}).entries
          ∙ ap (λ (ds : List (List ℕ × Tree)). with_entries ds (index_entries rest)) (pairs-insert _ _ es)
          ∙ ap (λ o. with_entries (borrowed_pairs es) (cons_option o (index_entries rest))) (c.in-Some-listed_user.ensures.indexed_user c.root.result.now ∙ ap (λ (t : Tree). entry_if_listed c.in-Some.doc.now.auid (bytes_eq c.in-Some.doc.now.name index) c.in-Some.doc.now.home t) c.root.ensures.exact)
          ∙ ap (λ xs. with_entries (borrowed_pairs es) (index_entries xs)) (sym c.in-Some.ensures.steps)
          ∙ c.loop-doc.invariant.so_far;
    }
