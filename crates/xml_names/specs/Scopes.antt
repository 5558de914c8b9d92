-- Scopes: what prefixes are bound to. Namespaces in XML 1.0, sections 2.2, 3, 5 and 6.
use Rattle.std.specs.Prelude.{◌≡◌, ℕ, Bool, not, ◌&&◌, codes, List, [], ◌∷◌, ◌++◌, Option, Some}
use Rattle.std.specs.Prelude.{None, option_map, filter, filter_map, map, if◌then◌else◌}
use Rattle.std.specs.Cmp.Lexicographic.{slice_cmp}
use Rattle.std.specs.List.{AllByRecursion}
use Rattle.std.specs.Option.{option_or}
use Rattle.std.specs.Ordering.{is_lt, nat_cmp}
use Rattle.std.specs.Str.{bytes_eq}
use Rattle.std.specs.declared.cmp.Ordering.TheVariants.{Less}
use Rattle.xml_names.specs.declared.names.Decl.{Decl}

-- ---- the reserved names (Namespaces in XML 1.0, section 3)

abbrev pub xml_prefix : List ℕ
xml_prefix = codes "xml"

abbrev pub xmlns_prefix : List ℕ
xmlns_prefix = codes "xmlns"

unfoldable pub xml_uri : List ℕ
xml_uri = codes "http://www.w3.org/XML/1998/namespace"

unfoldable pub xmlns_uri : List ℕ
xmlns_uri = codes "http://www.w3.org/2000/xmlns/"

-- ---- what is bound in a scope, which is a list of lists of declarations, outermost first

-- the declarations of all lists as one list, in which a later one is nearer
abbrev pub scope_decls : List (List Decl) → List Decl
scope_decls [] = []
scope_decls (ds ∷ c) = ds ++ scope_decls c

-- the URI of the last declaration of a prefix
abbrev pub declared_uri : List Decl → List ℕ → Option (List ℕ)
declared_uri [] p = None
declared_uri (d ∷ ds) p =
    option_or (declared_uri ds p) (if bytes_eq d.prefix p then Some d.uri else None)

-- an empty URI binds nothing, and hides outer declarations
abbrev pub non_empty_uri : Option (List ℕ) → Option (List ℕ)
non_empty_uri None = None
non_empty_uri (Some []) = None
non_empty_uri (Some (c ∷ cs)) = Some (c ∷ cs)

-- the URI that a prefix is bound to: by the nearest declaration, and `xml` always to its own
-- namespace
abbrev pub bound_uri : List (List Decl) → List ℕ → Option (List ℕ)
bound_uri c p =
    if bytes_eq p xml_prefix then Some xml_uri else non_empty_uri (declared_uri (scope_decls c) p)

-- ---- all bindings of a scope, in order

-- whether a text comes before another, by code point
abbrev pub sorts_before : List ℕ → List ℕ → Bool
sorts_before p q = is_lt (slice_cmp nat_cmp p q)

-- these texts in order, each once: the texts before the first one, itself, and the texts after it
abbrev pub sorted_distinct : List (List ℕ) → List (List ℕ)
sorted_distinct [] = []
sorted_distinct (p ∷ ps) =
    filter (λ q. sorts_before q p) (sorted_distinct ps)
    ++ p ∷ filter (λ q. sorts_before p q) (sorted_distinct ps)

abbrev pub decl_from_parts : List ℕ → List ℕ → Decl
decl_from_parts p uri = record { prefix = p; uri = uri }

-- what a prefix is bound to, as a declaration; `xml` is always bound, and has none
abbrev pub binding : List (List Decl) → List ℕ → Option Decl
binding c p = if bytes_eq p xml_prefix then None else option_map (decl_from_parts p) (bound_uri c p)

-- all bindings in scope but the binding of `xml`: one for each declared prefix, the default
-- first, then by code point
abbrev pub in_scope_bindings : List (List Decl) → List Decl
in_scope_bindings c = filter_map (binding c) (sorted_distinct (map (λ d. d.prefix) (scope_decls c)))

-- ---- properties of such a list

-- whether a declaration binds a prefix that isn't always bound
abbrev pub binds_prefix : Decl → Bool
binds_prefix d = not (bytes_eq d.uri []) && not (bytes_eq d.prefix xml_prefix)

-- each prefix comes before the later ones, by code point
abbrev pub AreSortedByPrefix : List Decl → Type 0
AreSortedByPrefix [] = Unit {0}
AreSortedByPrefix (d ∷ ds) =
    AllByRecursion (λ x. slice_cmp nat_cmp d.prefix x.prefix ≡ Less) ds × AreSortedByPrefix ds
