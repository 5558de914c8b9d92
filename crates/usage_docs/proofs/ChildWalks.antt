-- The content of an element is what its kind allows exactly when its children can be walked from
-- left to right.
use Rattle.std.proofs.Common.{◌↔◌, ℕ, List, [], ◌∷◌, ◌++◌, IsTrue}
use Rattle.xml_tree.specs.Tree.{Content, last, more, comment_node}
use Rattle.xml_names.specs.declared.names.Attr.{Attr}
use Rattle.usage_docs.specs.declared.schema_table.ElementKind.{ElementKind}
use Rattle.usage_docs.specs.KeyAttributes.{are_attrs_allowed}
use Rattle.usage_docs.specs.SchemaTable.{Scope}
use Rattle.usage_docs.specs.readers.ContentParts.{part_of}
use Rattle.usage_docs.specs.readers.ContentWalks.{WalksContent, IsContentOfKind}
use Rattle.usage_docs.specs.ContentTexts.{content_text}
use Rattle.usage_docs.specs.Validity.{is_text_allowed, children_of, MatchesKind, AllMatchKinds}
use Rattle.usage_docs.proofs.ContentMatches.{Chain, matched}
use Rattle.usage_docs.proofs.BlankTexts.{passes_append}

-- the texts of a content pass, its children may follow one another, and all descendants are valid
abbrev pub Followed : ElementKind → Scope → ℕ → Content → Type 0
Followed row c before content = IsTrue (is_text_allowed row (content_text content)) × Chain row before (children_of row c content) × AllMatchKinds row c content

pub followed : (row : ElementKind) (c : Scope) (content : Content) (before : ℕ) → WalksContent row c before content → Followed row c before content
unfolding part_of
followed row c (last t) before w = (w.0, w.1, tt)
followed row c (comment_node t x rest) before w =
    let r = followed row c rest before w.1 in
    ((passes_append row t (content_text rest)).1 (w.0, r.0), r.1, r.2)
followed row c (more t n ds ats k rest) before w =
    let r = followed row c rest (part_of row (c ++ ds ∷ []) n) w.3 in
    ((passes_append row t (content_text rest)).1 (w.0, r.0), (w.1, r.1), (w.2, r.2))

walked : (row : ElementKind) (c : Scope) (content : Content) (before : ℕ) → Followed row c before content → WalksContent row c before content
unfolding part_of
walked row c (last t) before f = (f.0, f.1)
walked row c (comment_node t x rest) before f =
    let p = (passes_append row t (content_text rest)).0 f.0 in
    (p.0, walked row c rest before (p.1, f.1, f.2))
walked row c (more t n ds ats k rest) before f =
    let p = (passes_append row t (content_text rest)).0 f.0 in
    (p.0, f.1.0, f.2.0, walked row c rest (part_of row (c ++ ds ∷ []) n) (p.1, f.1.1, f.2.1))

pub holds_walked : (row : ElementKind) (c : Scope) (content : Content) → WalksContent row c 0 content ↔ IsContentOfKind row c content
holds_walked row c content = (
  λ w. (let f = followed row c content 0 w in (f.0, (matched row (children_of row c content)).0 f.1, f.2)),
  λ h. walked row c content 0 (h.0, (matched row (children_of row c content)).1 h.1, h.2),
)

-- ---- an element, by its attributes and content

pub keeps_held : (kind : ElementKind) (c : Scope) (ats : List Attr) (content : Content) → IsTrue (are_attrs_allowed kind c ats) → IsContentOfKind kind c content → MatchesKind kind c ats content × AllMatchKinds kind c content
keeps_held kind c ats content pass h = (record { attributes = pass; text = h.0; children = h.1 }, h.2)

pub held_kept : (kind : ElementKind) (c : Scope) (ats : List Attr) (content : Content) → MatchesKind kind c ats content × AllMatchKinds kind c content → IsContentOfKind kind c content
held_kept kind c ats content k = (k.0.text, k.0.children, k.1)

pub walk_kept : (kind : ElementKind) (c : Scope) (ats : List Attr) (content : Content) → MatchesKind kind c ats content × AllMatchKinds kind c content → WalksContent kind c 0 content
walk_kept kind c ats content k = (holds_walked kind c content).1 (held_kept kind c ats content k)

pub kept_walked : (kind : ElementKind) (c : Scope) (ats : List Attr) (content : Content) → IsTrue (are_attrs_allowed kind c ats) → WalksContent kind c 0 content → MatchesKind kind c ats content × AllMatchKinds kind c content
kept_walked kind c ats content pass w = keeps_held kind c ats content pass ((holds_walked kind c content).0 w)
