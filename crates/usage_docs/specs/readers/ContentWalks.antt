-- The children of an element, checked from left to right, each against the one before it.
use Rattle.std.specs.Prelude.{ℕ, [], ◌∷◌, ◌++◌, IsTrue}
use Rattle.std.specs.Option.{ForSome}
use Rattle.xml_tree.specs.Tree.{Content, last, more, comment_node}
use Rattle.xml_tree.specs.declared.tree.Node.{Node}
use Rattle.xml_tree.specs.declared.tree.Node.TheVariants.{Elem, Chars, Comment}
use Rattle.usage_docs.specs.declared.schema_table.ElementKind.{ElementKind}
use Rattle.usage_docs.specs.SchemaTable.{Scope, content_model_of, items_in, kind_of, MatchesModel}
use Rattle.usage_docs.specs.readers.ContentParts.{part_of, may_follow, end_part}
use Rattle.usage_docs.specs.ContentTexts.{content_text}
use Rattle.usage_docs.specs.Validity.{is_text_allowed, children_of, MatchesKind, AllMatchKinds}
use Rattle.usage_docs.specs.Validity.{IsValidChild}

-- The content of an element of this kind after a child of the part `before`, in the scope inside
-- the element: its texts are allowed, each child may come after the one before it, and a child of
-- a kind is valid by its kind.
abbrev pub WalksContent : ElementKind → Scope → ℕ → Content → Type 0
WalksContent row c before (last t) =
    IsTrue (is_text_allowed row t) × IsTrue (may_follow row before end_part)
WalksContent row c before (comment_node t inside rest) =
    IsTrue (is_text_allowed row t) × WalksContent row c before rest
WalksContent row c before (more t n ds ats k rest) =
    IsTrue (is_text_allowed row t)
    × IsTrue (may_follow row before (part_of row (c ++ ds ∷ []) n))
    × ForSome (kind_of row (c ++ ds ∷ []) n) (λ kind.
    MatchesKind kind (c ++ ds ∷ []) ats k × AllMatchKinds kind (c ++ ds ∷ []) k)
    × WalksContent row c (part_of row (c ++ ds ∷ []) n) rest

-- the content of an element of this kind is what the kind allows
abbrev pub IsContentOfKind : ElementKind → Scope → Content → Type 0
IsContentOfKind row c content =
    IsTrue (is_text_allowed row (content_text content))
    × MatchesModel (items_in (content_model_of row)) (children_of row c content)
    × AllMatchKinds row c content

-- ---- node by node

-- the part before what follows a node
abbrev pub part_after_node : ElementKind → Scope → ℕ → Node → ℕ
part_after_node row c before (Elem e) = part_of row (c ++ e.decls ∷ []) e.name
part_after_node row c before (Chars t) = before
part_after_node row c before (Comment x) = before

-- a node may come after a child of the part `before`, and is valid by itself
abbrev pub IsNodeValid : ElementKind → Scope → ℕ → Node → Type 0
IsNodeValid row c before (Elem e) =
    IsTrue (may_follow row before (part_of row (c ++ e.decls ∷ []) e.name)) × IsValidChild row c e
IsNodeValid row c before (Chars t) = IsTrue (is_text_allowed row t)
IsNodeValid row c before (Comment x) = Unit {0}
