-- The elements among nodes, and the first place that satisfies a relation.
use Rattle.std.specs.Prelude.{◌≡◌, ℕ, suc, List, [], ◌∷◌, ◌++◌, Option, None, Some}
use Rattle.xml_tree.specs.Tree.{Tree}
use Rattle.xml_tree.specs.declared.tree.Node.{Node}
use Rattle.xml_tree.specs.declared.tree.Node.TheVariants.{Elem, Chars, Comment}
use Rattle.usage_docs.specs.declared.schema_table.Key.{Key}
use Rattle.usage_docs.specs.declared.key_repeats.Clash.{Clash}
use Rattle.usage_docs.specs.UniqueKeys.{IsNotAfter}

-- the elements among nodes
abbrev pub node_children : List Node → List Tree
node_children [] = []
node_children (Elem e ∷ ns) = e ∷ node_children ns
node_children (Chars t ∷ ns) = node_children ns
node_children (Comment x ∷ ns) = node_children ns

-- one more if the node is an element
abbrev pub count_with_node : Node → ℕ → ℕ
count_with_node (Elem e) n = suc n
count_with_node (Chars t) n = n
count_with_node (Comment x) n = n

-- the first place in document order that satisfies a relation, appended to a base
abbrev pub IsFirstInOrder : (List ℕ → Key → Type 0) → List ℕ → Option Clash → Type 0
IsFirstInOrder R base None = (p : List ℕ) (key : Key) → R p key → ⊥
IsFirstInOrder R base (Some clash) =
    (p : List ℕ)
    × ((clash.path ≡ base ++ p) × R p clash.key
    × ((q : List ℕ) (key : Key) → R q key → IsNotAfter p q))
