-- The references in a content have their form exactly when the references in its nodes do.
use Rattle.std.proofs.Common.{◌≡◌, ◌↔◌, ℕ, List, [], ◌∷◌, sym, subst}
use Rattle.xml_tree.specs.Tree.{Content, last, more, comment_node}
use Rattle.xml_tree.specs.Edits.{with_text_prepended}
use Rattle.xml_tree.specs.Nodes.{content_of}
use Rattle.xml_tree.specs.declared.tree.Node.{Node}
use Rattle.xml_tree.specs.declared.tree.Node.TheVariants.{Elem, Chars, Comment}
use Rattle.usage_docs.specs.declared.schema_table.ElementKind.{ElementKind}
use Rattle.usage_docs.specs.SchemaTable.{Scope}
use Rattle.usage_docs.specs.ReferenceForms.{AllReferencesFormed, IsFormedNode}

abbrev pub FormedNodes : ElementKind → Scope → List Node → Type 0
FormedNodes row c [] = Unit {0}
FormedNodes row c (n ∷ ns) = IsFormedNode row c n × FormedNodes row c ns

formed_before : (row : ElementKind) (c : Scope) (t : List ℕ) (content : Content) → AllReferencesFormed row c (with_text_prepended t content) ↔ AllReferencesFormed row c content
formed_before row c t (last u) = (λ f. f, λ f. f)
formed_before row c t (more u n ds ats k rest) = (λ f. f, λ f. f)
formed_before row c t (comment_node u x rest) = (λ f. f, λ f. f)

nodes_to : (row : ElementKind) (c : Scope) (ns : List Node) → AllReferencesFormed row c (content_of ns) → FormedNodes row c ns
nodes_to row c [] f = tt
nodes_to row c (Elem e ∷ ns) f = (f.0, nodes_to row c ns f.1)
nodes_to row c (Chars t ∷ ns) f = (tt, nodes_to row c ns ((formed_before row c t (content_of ns)).0 f))
nodes_to row c (Comment x ∷ ns) f = (tt, nodes_to row c ns f)

nodes_from : (row : ElementKind) (c : Scope) (ns : List Node) → FormedNodes row c ns → AllReferencesFormed row c (content_of ns)
nodes_from row c [] f = tt
nodes_from row c (Elem e ∷ ns) f = (f.0, nodes_from row c ns f.1)
nodes_from row c (Chars t ∷ ns) f = (formed_before row c t (content_of ns)).1 (nodes_from row c ns f.1)
nodes_from row c (Comment x ∷ ns) f = nodes_from row c ns f.1

-- all nodes, of an element that has this content
pub nodes_formed : (row : ElementKind) (c : Scope) (ns : List Node) (content : Content) → content_of ns ≡ content → FormedNodes row c ns ↔ AllReferencesFormed row c content
nodes_formed row c ns content e = (λ f. subst (λ x. AllReferencesFormed row c x) e (nodes_from row c ns f), λ f. nodes_to row c ns (subst (λ x. AllReferencesFormed row c x) (sym e) f))
