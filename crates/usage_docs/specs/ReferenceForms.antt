-- The form of references. RFC 4826, sections 3.4.5 and 4.4.5 (additional constraints: ref,
-- anchor, resource-list); RFC 3986, 4.2.
use Rattle.std.specs.Prelude.{ℕ, Bool, true, false, List, [], ◌∷◌, ◌++◌, codes, if◌then◌else◌, ◌&&◌}
use Rattle.std.specs.Prelude.{◌||◌, ◌==◌, not, IsTrue}
use Rattle.std.specs.Str.{bytes_eq}
use Rattle.std.specs.List.{list_all}
use Rattle.std.specs.Option.{ForSome, option_map_or}
use Rattle.xml_names.specs.Characters.{is_space}
use Rattle.xml_tree.specs.Tree.{Content, last, more, comment_node, Tree}
use Rattle.xml_names.specs.declared.names.Attr.{Attr}
use Rattle.xml_tree.specs.declared.tree.Node.{Node}
use Rattle.xml_tree.specs.declared.tree.Node.TheVariants.{Elem, Chars, Comment}
use Rattle.doc_names.specs.declared.usages.Usage.{Usage}
use Rattle.usage_docs.specs.declared.schema_table.ElementKind.{ElementKind}
use Rattle.usage_docs.specs.declared.schema_table.ElementKind.TheVariants.{EntryRef, External}
use Rattle.usage_docs.specs.declared.schema_table.ElementKind.TheVariants.{ResourceList}
use Rattle.usage_docs.specs.declared.schema_table.Key.TheVariants.{Ref, Anchor}
use Rattle.usage_docs.specs.SchemaTable.{Scope, kind_of, root_kind}
use Rattle.usage_docs.specs.KeyAttributes.{value_of}
use Rattle.usage_docs.specs.ContentTexts.{content_text}

-- the text before the first `/` (47), or the whole text where there is none
abbrev pub first_segment : List ℕ → List ℕ
first_segment [] = []
first_segment (c ∷ cs) = if c == 47 then [] else (c ∷ first_segment cs)

-- a relative reference that begins with a segment: it is not empty, doesn't begin with `/`, and
-- has no `:` (58) before its first `/`
unfoldable pub is_relative_reference : List ℕ → Bool
is_relative_reference s =
    not (bytes_eq (first_segment s) []) && list_all (λ c. not (c == 58)) (first_segment s)

-- a text begins with a word and is longer
abbrev pub is_longer_than_word : List ℕ → List ℕ → Bool
is_longer_than_word [] [] = false
is_longer_than_word [] (c ∷ cs) = true
is_longer_than_word (w ∷ ws) [] = false
is_longer_than_word (w ∷ ws) (c ∷ cs) = (c == w) && is_longer_than_word ws cs

-- an address of HTTP: `http://` or `https://`, and at least one more character
unfoldable pub is_http_uri : List ℕ → Bool
is_http_uri s = is_longer_than_word (codes "http://") s || is_longer_than_word (codes "https://") s

-- a text without leading white space
abbrev pub trim_front : (ℕ → Bool) → List ℕ → List ℕ
trim_front white [] = []
trim_front white (c ∷ cs) = if white c then trim_front white cs else (c ∷ cs)

-- a text without trailing white space
abbrev pub trim_back : (ℕ → Bool) → List ℕ → List ℕ
trim_back white [] = []
trim_back white (c ∷ cs) =
    if white c && bytes_eq (trim_back white cs) [] then [] else (c ∷ trim_back white cs)

-- a text without leading and trailing white space
unfoldable pub trim_text : List ℕ → List ℕ
trim_text s = trim_back is_space (trim_front is_space s)

-- the references of an element of some kind have their form
unfoldable pub are_references_formed : ElementKind → List Attr → Content → Bool
are_references_formed EntryRef ats k = option_map_or is_relative_reference (value_of Ref ats) true
are_references_formed External ats k = option_map_or is_http_uri (value_of Anchor ats) true
are_references_formed ResourceList ats k = is_http_uri (trim_text (content_text k))
are_references_formed _ ats k = true

-- the references of all elements in a content that have a kind have their form
abbrev pub AllReferencesFormed : ElementKind → Scope → Content → Type 0
AllReferencesFormed row c (last t) = Unit {0}
AllReferencesFormed row c (comment_node t inside rest) = AllReferencesFormed row c rest
AllReferencesFormed row c (more t n ds ats k rest) =
    ForSome (kind_of row (c ++ ds ∷ []) n) (λ kind.
    IsTrue (are_references_formed kind ats k) × AllReferencesFormed kind (c ++ ds ∷ []) k)
    × AllReferencesFormed row c rest

-- every `ref`, `anchor` and `resource-list` of a document has its form
abbrev pub MeetsConstraints : Usage → Tree → Type 0
MeetsConstraints u t = AllReferencesFormed (root_kind u) (t.decls ∷ []) t.content

-- ---- forms, node by node

abbrev pub IsFormedNode : ElementKind → Scope → Node → Type 0
IsFormedNode row c (Elem e) =
    ForSome (kind_of row (c ++ e.decls ∷ []) e.name) (λ kind.
    IsTrue (are_references_formed kind e.attrs e.content)
    × AllReferencesFormed kind (c ++ e.decls ∷ []) e.content)
IsFormedNode row c (Chars t) = Unit {0}
IsFormedNode row c (Comment x) = Unit {0}
