-- Scopes with the same bindings, and what is proper in both.
use Rattle.std.proofs.Common.{◌≡◌, ℕ, Bool, true, false, List, [], ◌∷◌, ◌++◌, map, Option, Some, None, IsSome, bytes_eq, refl, sym, ap, ◌∙◌, subst, append_assoc, append-nil, if◌then◌else◌}
use Rattle.std.specs.List.{AllByRecursion, IsDistinct}
use Rattle.std.specs.Option.{option_or}
use Rattle.xml_names.specs.declared.names.Name.{Name}
use Rattle.xml_names.specs.declared.names.Decl.{Decl}
use Rattle.xml_names.specs.declared.names.Attr.{Attr}
use Rattle.xml_tree.specs.Tree.{Content, last, more, comment_node, Tree}
use Rattle.xml_names.specs.ExpandedNames.{attr_name, same_expanded}
use Rattle.xml_names.specs.Scopes.{bound_uri, declared_uri, scope_decls, non_empty_uri, xml_prefix, xml_uri}
use Rattle.xml_tree.specs.Proper.{IsProperAttr, IsProperName, IsProperTag, IsProperTree}
use Rattle.xml_tree.specs.inner.Proper.{IsProperContent}
use Rattle.xml_names.proofs.ScopeLemmas.{declared-append}

pub scope_decls-append : (c d : List (List Decl)) → scope_decls (c ++ d) ≡ scope_decls c ++ scope_decls d
scope_decls-append [] d = refl
scope_decls-append (ds ∷ c) d = ap (λ l. ds ++ l) (scope_decls-append c d) ∙ sym (append_assoc ds (scope_decls c) (scope_decls d))

-- a scope with one more list
pub declared-inner : (c : List (List Decl)) (ds : List Decl) (p : List ℕ) → declared_uri (scope_decls (c ++ ds ∷ [])) p ≡ option_or (declared_uri ds p) (declared_uri (scope_decls c) p)
declared-inner c ds p =
    ap (λ l. declared_uri l p) (scope_decls-append c (ds ∷ []) ∙ ap (λ l. scope_decls c ++ l) (append-nil ds)) ∙ declared-append (scope_decls c) ds p

pub bound_uri-inner : (c : List (List Decl)) (ds : List Decl) (p : List ℕ)
    → bound_uri (c ++ ds ∷ []) p ≡ (if bytes_eq p xml_prefix then Some xml_uri else non_empty_uri (option_or (declared_uri ds p) (declared_uri (scope_decls c) p)))
bound_uri-inner c ds p = ap (λ o. if bytes_eq p xml_prefix then Some xml_uri else non_empty_uri o) (declared-inner c ds p)

module _ (c d : List (List Decl)) (alike : (p : List ℕ) → bound_uri c p ≡ bound_uri d p) where
  -- they have the same bindings with the same declarations inside
  pub alike-inner : (ds : List Decl) (p : List ℕ) → bound_uri (c ++ ds ∷ []) p ≡ bound_uri (d ++ ds ∷ []) p
  alike-inner ds p = bound_uri-inner c ds p ∙ by (bytes_eq p xml_prefix) refl (declared_uri ds p) ∙ sym (bound_uri-inner d ds p)
    where
      by : (b : Bool) → bytes_eq p xml_prefix ≡ b → (o : Option (List ℕ))
          → (if bytes_eq p xml_prefix then Some xml_uri else non_empty_uri (option_or o (declared_uri (scope_decls c) p)))
          ≡ (if bytes_eq p xml_prefix then Some xml_uri else non_empty_uri (option_or o (declared_uri (scope_decls d) p)))
      by true is o = rw is refl
      by false is (Some u) = refl
      by false is None = alike p

  named : (n : Name) → IsProperName c n → IsProperName d n
  named n h = record { prefix = h.prefix; local = h.local; known = λ some. subst (λ o. IsSome o) (alike n.prefix) (h.known some) }

  attributes : (ats : List Attr) → AllByRecursion (IsProperAttr c) ats → AllByRecursion (IsProperAttr d) ats
  attributes [] h = tt
  attributes (a ∷ ats) h = (record { named = named a.name h.0.named; other = h.0.other; value = h.0.value }, attributes ats h.1)

  names : (ats : List Attr) → map (λ a. attr_name c a.name) ats ≡ map (λ a. attr_name d a.name) ats
  names [] = refl
  names (a ∷ ats) = λ i. record { uri = if bytes_eq a.name.prefix [] then None else alike a.name.prefix i; local = a.name.local } ∷ names ats i

  pub IsTag-alike : (n : Name) (ds : List Decl) (ats : List Attr) → IsProperTag c n ds ats → IsProperTag d n ds ats
  IsTag-alike n ds ats h = record {
    named = named n h.named;
    declarations = h.declarations;
    attributes = attributes ats h.attributes;
    prefixes = h.prefixes;
    names = subst (λ l. IsDistinct same_expanded l) (names ats) h.names;
  }

pub Proper-alike : (c d : List (List Decl)) (k : Content) → ((p : List ℕ) → bound_uri c p ≡ bound_uri d p) → IsProperContent c k → IsProperContent d k
Proper-alike c d (last t) alike h = h
Proper-alike c d (more t n ds ats k rest) alike h =
    let inner = alike-inner c d alike ds in (
      h.0,
      IsTag-alike (c ++ ds ∷ []) (d ++ ds ∷ []) inner n ds ats h.1,
      Proper-alike (c ++ ds ∷ []) (d ++ ds ∷ []) k inner h.2,
      Proper-alike c d rest alike h.3,
    )
Proper-alike c d (comment_node t x rest) alike h = (h.0, h.1, Proper-alike c d rest alike h.2)

pub ProperIn-alike : (c d : List (List Decl)) (t : Tree) → ((p : List ℕ) → bound_uri c p ≡ bound_uri d p) → IsProperTree c t → IsProperTree d t
ProperIn-alike c d t alike h =
    let inner = alike-inner c d alike t.decls in
    (IsTag-alike (c ++ t.decls ∷ []) (d ++ t.decls ∷ []) inner t.name t.decls t.attrs h.0, Proper-alike (c ++ t.decls ∷ []) (d ++ t.decls ∷ []) t.content inner h.1)
