-- The height of the index.
use Rattle.std.proofs.Common.{◌≡◌, ◌≤◌, ℕ, suc, max, Bool, true, false, cond, List, [], ◌∷◌, ◌++◌, map, filter, arith}
use Rattle.xml_tree.specs.Tree.{Content, last, more, comment_node, Tree, tree_of, child_elements, content_height, height}
use Rattle.xml_tree.specs.Nodes.{content_of}
use Rattle.xml_tree.specs.declared.tree.Node.TheVariants.{Elem}
use Rattle.usage_docs.specs.SchemaTable.{Scope}
use Rattle.usage_docs.specs.Services.{is_service, listed_service, service_elements, index_of}

-- the height of these elements: how many are one in another
abbrev pub row_height : List Tree → ℕ
row_height ss = content_height (content_of (map Elem ss))

two_rows : (ss ts : List Tree) → row_height (ss ++ ts) ≡ max (row_height ss) (row_height ts)
two_rows [] ts = omega arith
two_rows (s ∷ ss) ts = let e = two_rows ss ts in omega (arith, e)

one_row : (b : Bool) (c : Scope) (e : Tree) (es : List Tree) (n : ℕ) → row_height (map (listed_service c) es) ≤ n
    → row_height (map (listed_service c) (cond b (e ∷ es) es)) ≤ max (suc (content_height e.content)) n
one_row true c e es n h = omega (arith, h)
one_row false c e es n h = omega (arith, h)

-- the services among the children of a root are no higher than its content
services_low : (c : Scope) (content : Content) → row_height (map (listed_service c) (filter (is_service c) (child_elements content))) ≤ content_height content
services_low c (last t) = omega arith
services_low c (more t n ds ats inner rest) =
    one_row (is_service c (tree_of n ds ats inner)) c (tree_of n ds ats inner) (filter (is_service c) (child_elements rest)) (content_height rest) (services_low c rest)
services_low c (comment_node t x rest) = services_low c rest

-- an index with the services of one more document
pub index_low : (ss : List Tree) (t : Tree) → height (index_of ss) ≤ 64 → height t ≤ 64 → height (index_of (ss ++ service_elements t)) ≤ 64
index_low ss t low low' =
    let two = two_rows ss (service_elements t) in
    let services = services_low (t.decls ∷ []) t.content in
    omega (arith, two, services, low, low')
