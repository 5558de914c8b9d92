-- Proper trees: the trees of well-formed, namespace-well-formed documents. XML 1.0, sections 2.2
-- and 2.5; Namespaces in XML 1.0, sections 3, 5, 6.3 and 7.
use Rattle.std.specs.Prelude.{◌≡◌, ◌≢◌, ℕ, Bool, not, ◌&&◌, ◌||◌, List, [], ◌∷◌, ◌++◌, map, IsSome}
use Rattle.std.specs.Prelude.{IsTrue, if◌then◌else◌}
use Rattle.std.specs.List.{AllByRecursion, IsDistinct}
use Rattle.std.specs.Str.{bytes_eq}
use Rattle.xml_names.specs.Characters.{is_char, is_name, has_only_chars}
use Rattle.xml_names.specs.Comments.{is_comment}
use Rattle.xml_tree.specs.Tree.{Content, last, more, comment_node, Tree}
use Rattle.xml_names.specs.Scopes.{bound_uri, xml_prefix, xml_uri, xmlns_prefix, xmlns_uri}
use Rattle.xml_names.specs.ExpandedNames.{attr_name, same_expanded}
use Rattle.xml_names.specs.declared.names.Name.{Name}
use Rattle.xml_names.specs.declared.names.Decl.{Decl}
use Rattle.xml_names.specs.declared.names.Attr.{Attr}
use Rattle.xml_tree.specs.declared.tree.Node.{Node}
use Rattle.xml_tree.specs.declared.tree.Node.TheVariants.{Elem, Chars, Comment}

-- ---- what holds everywhere in a tree

-- what a content is made of: characters, comments, and elements with their names, declarations
-- and attributes
pub data ContentPart : Type 0 where
  char_part : ℕ → ContentPart
  comment_part : List ℕ → ContentPart
  element_part : Name → List Decl → List Attr → ContentPart

-- P holds of each part of a content in its scope; an element's own declarations belong to its
-- scope
abbrev pub HoldsOfChars : (List (List Decl) → ContentPart → Type 0) → List (List Decl) → List ℕ
    → Type 0
HoldsOfChars P c t = AllByRecursion (λ x. P c (char_part x)) t

abbrev pub HoldsOfContent : (List (List Decl) → ContentPart → Type 0) → List (List Decl) → Content
    → Type 0
HoldsOfContent P c (last t) = HoldsOfChars P c t
HoldsOfContent P c (more t n ds ats k rest) =
    HoldsOfChars P c t × P (c ++ ds ∷ []) (element_part n ds ats)
    × HoldsOfContent P (c ++ ds ∷ []) k
    × HoldsOfContent P c rest
HoldsOfContent P c (comment_node t x rest) = HoldsOfChars P c t × P c (comment_part x)
    × HoldsOfContent P c rest

-- P holds of an element and of all parts in it, where c is the scope around it
abbrev pub HoldsOfTree : (List (List Decl) → ContentPart → Type 0) → List (List Decl) → Tree
    → Type 0
HoldsOfTree P c e =
    P (c ++ e.decls ∷ []) (element_part e.name e.decls e.attrs)
    × HoldsOfContent P (c ++ e.decls ∷ []) e.content

-- P holds of a node and of all parts in it
abbrev pub HoldsOfNode : (List (List Decl) → ContentPart → Type 0) → List (List Decl) → Node
    → Type 0
HoldsOfNode P c (Elem e) = HoldsOfTree P c e
HoldsOfNode P c (Chars t) = HoldsOfChars P c t
HoldsOfNode P c (Comment x) = P c (comment_part x)

-- ---- names and declarations

-- a prefix, possibly empty
abbrev pub is_prefix : List ℕ → Bool
is_prefix p = bytes_eq p [] || is_name p

-- a name made of NCNames, whose prefix is bound
pub record IsProperName (c : List (List Decl)) (n : Name) : Type 0 where
  pub prefix : IsTrue (is_prefix n.prefix)
  pub local : IsTrue (is_name n.local)
  pub known : n.prefix ≢ [] → IsSome (bound_uri c n.prefix)

-- whether a declaration is allowed:
--     nothing binds `xmlns`, and nothing is bound to its namespace
--     `xml` is bound to its own namespace alone, and nothing else is bound to that
--     only the default may be undeclared
abbrev pub is_allowed_decl : Decl → Bool
is_allowed_decl d =
    not (bytes_eq d.prefix xmlns_prefix) && not (bytes_eq d.uri xmlns_uri)
    && (if bytes_eq d.prefix xml_prefix then bytes_eq d.uri xml_uri
    else not (bytes_eq d.uri xml_uri))
    && (bytes_eq d.prefix [] || not (bytes_eq d.uri []))

-- a declaration of an NCName or of the default, to Chars, which is allowed
abbrev pub is_proper_decl : Decl → Bool
is_proper_decl d = is_prefix d.prefix && has_only_chars d.uri && is_allowed_decl d

-- ---- proper trees

-- an attribute: its name, which isn't `xmlns`, since that would make it a declaration, and its
-- value
pub record IsProperAttr (c : List (List Decl)) (a : Attr) : Type 0 where
  pub named : IsProperName c a.name
  pub other : (a.name.prefix ≡ []) → a.name.local ≢ xmlns_prefix
  pub value : IsTrue (has_only_chars a.value)

-- an element, apart from its content, in the scope that has its own declarations: no prefix is
-- declared twice, and no two attributes have equal expanded names
pub record IsProperTag (c : List (List Decl)) (n : Name) (ds : List Decl)
    (ats : List Attr) : Type 0 where
  pub named : IsProperName c n
  pub declarations : AllByRecursion (λ d. IsTrue (is_proper_decl d)) ds
  pub attributes : AllByRecursion (IsProperAttr c) ats
  pub prefixes : IsDistinct bytes_eq (map (λ d. d.prefix) ds)
  pub names : IsDistinct same_expanded (map (λ a. attr_name c a.name) ats)

-- what each part of a proper content satisfies, in its scope
abbrev pub IsProperPart : List (List Decl) → ContentPart → Type 0
IsProperPart c (char_part x) = IsTrue (is_char x)
IsProperPart c (comment_part t) = IsTrue (is_comment t)
IsProperPart c (element_part n ds ats) = IsProperTag c n ds ats

-- a proper element, in the scope around it
abbrev pub IsProperTree : List (List Decl) → Tree → Type 0
IsProperTree = HoldsOfTree IsProperPart
