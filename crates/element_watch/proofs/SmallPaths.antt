-- Paths of elements that a document has: their numbers are small.
use Rattle.std.proofs.Common.{ℕ, ◌<◌, ◌≤◌, List, [], ◌∷◌, All, Some, arith}
use Rattle.std.specs.List.{AllByRecursion}
use Rattle.std.proofs.lemmas.List.Elements.{All-from_recursion}
use Rattle.xml_names.specs.Markup.{byte_len}
use Rattle.xml_tree.specs.Print.{print}
use Rattle.xml_tree.specs.Tree.{Tree}
use Rattle.doc_names.specs.declared.usages.Usage.{Usage}
use Rattle.node_select.specs.Selection.{SelectsPath}
use Rattle.node_select.specs.declared.selector.Step.{Step}
use Rattle.node_select.proofs.Along.{path_there}
use Rattle.store_core.specs.ValidStates.{IsSoundDocument, IsSoundDocumentFor}
use Rattle.patch_rules.proofs.Lengths.{HasPositions-short, path_positions}

weaker : (p : List ℕ) → AllByRecursion (λ n. n < 4294967295) p → AllByRecursion (λ n. n ≤ 4294967295) p
weaker [] h = tt
weaker (n ∷ p) h = ((let first = h.0 in omega arith), weaker p h.1)

short : (u : Usage) (t : Tree) → IsSoundDocument u t → byte_len (print t) ≤ 4294967295
short u t sound = let h = sound.short in omega arith

pub small_path : (u : Usage) (t : Tree) (steps : List Step) (p : List ℕ) → IsSoundDocumentFor (Some u) t → SelectsPath steps t p → All (λ n. n ≤ 4294967295) p
small_path u t steps p sound selects =
    All-from_recursion (λ n. n ≤ 4294967295) p (weaker p (path_positions p t (HasPositions-short t (short u t sound)) (path_there steps t p selects)))
