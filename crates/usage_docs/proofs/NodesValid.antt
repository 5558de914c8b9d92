-- A content is valid exactly when its nodes are, each after the one before it.
use Rattle.std.proofs.Common.{◌≡◌, ◌↔◌, ℕ, List, [], ◌∷◌, IsTrue, sym, subst}
use Rattle.xml_tree.specs.Tree.{Content, last, more, comment_node}
use Rattle.xml_tree.specs.Edits.{with_text_prepended}
use Rattle.xml_tree.specs.Nodes.{content_of}
use Rattle.xml_tree.specs.declared.tree.Node.{Node}
use Rattle.xml_tree.specs.declared.tree.Node.TheVariants.{Elem, Chars, Comment}
use Rattle.usage_docs.specs.declared.schema_table.ElementKind.{ElementKind}
use Rattle.usage_docs.specs.SchemaTable.{Scope}
use Rattle.usage_docs.specs.readers.ContentParts.{may_follow, end_part}
use Rattle.usage_docs.specs.readers.ContentWalks.{WalksContent, IsContentOfKind, IsNodeValid, part_after_node}
use Rattle.usage_docs.specs.Validity.{is_text_allowed}
use Rattle.usage_docs.proofs.BlankTexts.{passes_append, passes_none}
use Rattle.usage_docs.proofs.ChildWalks.{holds_walked}

-- the nodes after a child of the part `before`
abbrev pub ValidNodes : ElementKind → Scope → ℕ → List Node → Type 0
ValidNodes row c b [] = IsTrue (may_follow row b end_part)
ValidNodes row c b (n ∷ ns) = IsNodeValid row c b n × ValidNodes row c (part_after_node row c b n) ns

before_to : (row : ElementKind) (c : Scope) (b : ℕ) (t : List ℕ) (content : Content) → WalksContent row c b (with_text_prepended t content) → IsTrue (is_text_allowed row t) × WalksContent row c b content
before_to row c b t (last u) v = let p = (passes_append row t u).0 v.0 in (p.0, (p.1, v.1))
before_to row c b t (more u n ds ats k rest) v = let p = (passes_append row t u).0 v.0 in (p.0, (p.1, v.1, v.2, v.3))
before_to row c b t (comment_node u x rest) v = let p = (passes_append row t u).0 v.0 in (p.0, (p.1, v.1))

before_from : (row : ElementKind) (c : Scope) (b : ℕ) (t : List ℕ) (content : Content) → IsTrue (is_text_allowed row t) → WalksContent row c b content → WalksContent row c b (with_text_prepended t content)
before_from row c b t (last u) p v = ((passes_append row t u).1 (p, v.0), v.1)
before_from row c b t (more u n ds ats k rest) p v = ((passes_append row t u).1 (p, v.0), v.1, v.2, v.3)
before_from row c b t (comment_node u x rest) p v = ((passes_append row t u).1 (p, v.0), v.1)

pub nodes_to : (row : ElementKind) (c : Scope) (ns : List Node) (b : ℕ) → WalksContent row c b (content_of ns) → ValidNodes row c b ns
nodes_to row c [] b v = v.1
nodes_to row c (Elem e ∷ ns) b v = ((v.1, v.2), nodes_to row c ns (part_after_node row c b (Elem e)) v.3)
nodes_to row c (Chars t ∷ ns) b v = let w = before_to row c b t (content_of ns) v in (w.0, nodes_to row c ns b w.1)
nodes_to row c (Comment x ∷ ns) b v = (tt, nodes_to row c ns b v.1)

pub nodes_from : (row : ElementKind) (c : Scope) (ns : List Node) (b : ℕ) → ValidNodes row c b ns → WalksContent row c b (content_of ns)
nodes_from row c [] b v = (passes_none row, v)
nodes_from row c (Elem e ∷ ns) b v = (passes_none row, v.0.0, v.0.1, nodes_from row c ns (part_after_node row c b (Elem e)) v.1)
nodes_from row c (Chars t ∷ ns) b v = before_from row c b t (content_of ns) v.0 (nodes_from row c ns b v.1)
nodes_from row c (Comment x ∷ ns) b v = (passes_none row, nodes_from row c ns b v.1)

-- all nodes, of an element that has this content
pub nodes_hold : (row : ElementKind) (c : Scope) (ns : List Node) (content : Content) → content_of ns ≡ content → ValidNodes row c 0 ns ↔ IsContentOfKind row c content
nodes_hold row c ns content e =
    let exact = holds_walked row c content in
    (λ v. exact.0 (subst (λ x. WalksContent row c 0 x) e (nodes_from row c ns 0 v)), λ h. nodes_to row c ns 0 (subst (λ x. WalksContent row c 0 x) (sym e) (exact.1 h)))
