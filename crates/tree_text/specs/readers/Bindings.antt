-- How the reader stores the declarations around a place: a number for each namespace, and for
-- each prefix the numbers of the namespaces that it is declared for. So namespaces, which are
-- compared as texts (Namespaces in XML 1.0, section 2.3), are compared by numbers.
use Rattle.std.specs.Prelude.{◌≡◌, ◌<◌, ℕ, List, [], ◌∷◌, map, Option, Some, if◌then◌else◌}
use Rattle.std.specs.BTreeMap.{BTreeMap, btree_map_len, get}
use Rattle.std.specs.Cmp.Lexicographic.{slice_cmp}
use Rattle.std.specs.Option.{option_map_or}
use Rattle.std.specs.Ordering.{nat_cmp}
use Rattle.std.specs.Str.{bytes_eq}
use Rattle.std.specs.Global.{Vec}
use Rattle.xml_names.specs.Scopes.{scope_decls, xml_uri}
use Rattle.xml_names.specs.declared.names.Decl.{Decl}
use Rattle.tree_text.specs.declared.bindings.Bindings.{Bindings}
use Rattle.tree_text.specs.declared.namespaces.Namespaces.{Namespaces}

-- the value of a map at a text
abbrev pub value_at_text : {X : Type 0} → BTreeMap (List ℕ) X → List ℕ → Option X
value_at_text m t = get (slice_cmp nat_cmp) m t

-- the number of a namespace
abbrev pub namespace_number : Namespaces → List ℕ → Option ℕ
namespace_number s u = value_at_text s.numbers u

-- the numbers of a prefix
abbrev pub prefix_numbers : BTreeMap (List ℕ) (Vec ℕ) → List ℕ → List ℕ
prefix_numbers m p = option_map_or (λ v. v.items) (value_at_text m p) []

-- the numbers of the namespaces that a prefix is declared for, the nearest last
abbrev pub declared_numbers : Namespaces → List ℕ → List ℕ
declared_numbers s p = prefix_numbers s.declared p

-- the URIs that declarations declare of a prefix, in order
abbrev pub declared_uris : List Decl → List ℕ → List (List ℕ)
declared_uris [] p = []
declared_uris (d ∷ ds) p =
    if bytes_eq d.prefix p then d.uri ∷ declared_uris ds p else declared_uris ds p

-- no two texts have the same number, and each number is less than the count of texts
pub record IsNumbering (m : BTreeMap (List ℕ) ℕ) : Type 0 where
  pub apart : (u v : List ℕ) (n : ℕ) → value_at_text m u ≡ Some n → value_at_text m v ≡ Some n
      → u ≡ v
  pub small : (u : List ℕ) (n : ℕ) → value_at_text m u ≡ Some n → n < btree_map_len m

-- these namespaces represent these declarations: the declarations of each prefix are stored by
-- their numbers
pub record RepresentsDecls (s : Namespaces) (ds : List Decl) : Type 0 where
  pub numbers : IsNumbering s.numbers
  pub none : namespace_number s [] ≡ Some s.none
  pub xml : namespace_number s xml_uri ≡ Some s.xml
  pub declared : (p : List ℕ)
      → map (namespace_number s) (declared_uris ds p) ≡ map Some (declared_numbers s p)

-- the declarations of the open elements, outermost first
abbrev pub lists : Bindings → List (List Decl)
lists b = map (λ ds. ds.items) b.open.items

-- the namespaces represent the declarations of the open elements
abbrev pub AreOpenNamespaces : Bindings → Type 0
AreOpenNamespaces b = RepresentsDecls b.namespaces (scope_decls (lists b))

-- the same elements are open as before
pub record HasSameOpenElements (old new : Bindings) : Type 0 where
  pub same : lists new ≡ lists old
  pub kept : AreOpenNamespaces new
