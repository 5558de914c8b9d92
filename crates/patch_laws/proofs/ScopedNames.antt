-- What is proper in one scope is proper in another that has the first one's bindings and default
-- namespace; and the bindings of a scope in a proper tree are distinct declarations that are
-- allowed.
use Rattle.std.proofs.Common.{◌≡◌, Ordering, Less, Equal, Greater, ℕ, Bool, true, false, List, [], ◌∷◌, ◌++◌, map, filter, Option, Some, None, IsSome, IsTrue, slice_get, option_map, bytes_eq, refl, sym, ap, ◌∙◌, subst}
use Rattle.std.specs.Prelude.{unwrap_or}
use Rattle.std.specs.List.{AllByRecursion, IsDistinct}
use Rattle.std.proofs.lemmas.Slice.Eq.{bytes_eq-Decides}
use Rattle.xml_names.specs.declared.names.Name.{Name}
use Rattle.xml_names.specs.declared.names.Decl.{Decl}
use Rattle.xml_names.specs.declared.names.Attr.{Attr}
use Rattle.xml_tree.specs.Edits.{parent_path}
use Rattle.xml_names.specs.ExpandedNames.{attr_name, same_expanded}
use Rattle.xml_tree.specs.Proper.{IsProperAttr, IsProperName, IsProperTag, IsProperPart, IsProperTree, is_proper_decl}
use Rattle.xml_tree.specs.inner.Proper.{IsProperContent}
use Rattle.xml_names.specs.Scopes.{AreSortedByPrefix, in_scope_bindings, binds_prefix, scope_decls}
use Rattle.xml_tree.specs.TreeScopes.{scope_around, scope_at}
use Rattle.xml_names.specs.inner.DeclarationMaps.{with_sorted_decls, with_sorted_decl}
use Rattle.xml_tree.specs.Tree.{Content, last, more, comment_node, Tree, child_elements_of}
use Rattle.xml_names.proofs.BindingWords.{AreInOrder-in_scope_bindings, gathered_are}
use Rattle.xml_names.proofs.ByteOrder.{order, order_same}
use Rattle.xml_tree.proofs.EverywhereLaws.{Everywhere-child_element}
use Rattle.patch_laws.specs.Premises.{BindsAlike}
use Rattle.patch_laws.proofs.Prefixes.{Meets-inner, attr_alike}

-- ---- from one scope to another

module _ (c d : List (List Decl)) (meets : BindsAlike c d) where
  pub named_onward : (n : Name) → IsProperName c n → IsProperName d n
  named_onward n h = record { prefix = h.prefix; local = h.local; known = λ ne. subst (λ o. IsSome o) (meets n.prefix h.known) (h.known ne) }

  attributes_onward : (ats : List Attr) → AllByRecursion (IsProperAttr c) ats → AllByRecursion (IsProperAttr d) ats
  attributes_onward [] h = tt
  attributes_onward (a ∷ ats) h = (record { named = named_onward a.name h.0.named; other = h.0.other; value = h.0.value }, attributes_onward ats h.1)

  names_onward : (ats : List Attr) → AllByRecursion (IsProperAttr c) ats → map (λ a. attr_name c a.name) ats ≡ map (λ a. attr_name d a.name) ats
  names_onward [] h = refl
  names_onward (a ∷ ats) h = λ i. sym (attr_alike d c a.name meets h.0.named) i ∷ names_onward ats h.1 i

  pub tag_onward : (n : Name) (ds : List Decl) (ats : List Attr) → IsProperTag c n ds ats → IsProperTag d n ds ats
  tag_onward n ds ats h = record {
    named = named_onward n h.named;
    declarations = h.declarations;
    attributes = attributes_onward ats h.attributes;
    prefixes = h.prefixes;
    names = subst (λ l. IsDistinct same_expanded l) (names_onward ats h.attributes) h.names;
  }

pub Proper-Meets : (c d : List (List Decl)) (k : Content) → BindsAlike c d → IsProperContent c k → IsProperContent d k
Proper-Meets c d (last t) m h = h
Proper-Meets c d (more t n ds ats k rest) m h =
    let m' = Meets-inner c d ds m in
    (h.0, tag_onward (c ++ ds ∷ []) (d ++ ds ∷ []) m' n ds ats h.1, Proper-Meets (c ++ ds ∷ []) (d ++ ds ∷ []) k m' h.2, Proper-Meets c d rest m h.3)
Proper-Meets c d (comment_node t x rest) m h = (h.0, h.1, Proper-Meets c d rest m h.2)

pub ProperIn-Meets : (c d : List (List Decl)) (e : Tree) → BindsAlike c d → IsProperTree c e → IsProperTree d e
ProperIn-Meets c d e m h =
    let m' = Meets-inner c d e.decls m in
    (tag_onward (c ++ e.decls ∷ []) (d ++ e.decls ∷ []) m' e.name e.decls e.attrs h.0, Proper-Meets (c ++ e.decls ∷ []) (d ++ e.decls ∷ []) e.content m' h.1)

-- ---- the declarations of a scope

module _ (P : Decl → Type 0) where
  all-append : (xs ys : List Decl) → AllByRecursion P xs → AllByRecursion P ys → AllByRecursion P (xs ++ ys)
  all-append [] ys h g = g
  all-append (x ∷ xs) ys h g = (h.0, all-append xs ys h.1 g)

  all-with_sorted_decl : (d : Decl) (ds : List Decl) → P d → AllByRecursion P ds → AllByRecursion P (with_sorted_decl d ds)
  all-with_sorted_decl d [] h g = (h, tt)
  all-with_sorted_decl d (x ∷ ds) h g = by (order d.prefix x.prefix) refl (all-with_sorted_decl d ds h g.1)
    where
      by : (o : Ordering) → order d.prefix x.prefix ≡ o → AllByRecursion P (with_sorted_decl d ds) → AllByRecursion P (with_sorted_decl d (x ∷ ds))
      by Less is rest = rw is (h, g)
      by Equal is rest = rw is (h, g.1)
      by Greater is rest = rw is (g.0, rest)

  all-with_sorted_decls : (acc ds : List Decl) → AllByRecursion P acc → AllByRecursion P ds → AllByRecursion P (with_sorted_decls acc ds)
  all-with_sorted_decls acc [] h g = h
  all-with_sorted_decls acc (d ∷ ds) h g = all-with_sorted_decls (with_sorted_decl d acc) ds (all-with_sorted_decl d acc g.0 h) g.1

  all-filter : (f : Decl → Bool) (ds : List Decl) → AllByRecursion P ds → AllByRecursion P (filter f ds)
  all-filter f [] h = tt
  all-filter f (x ∷ ds) h = by (f x) refl (all-filter f ds h.1)
    where
      by : (b : Bool) → f x ≡ b → AllByRecursion P (filter f ds) → AllByRecursion P (filter f (x ∷ ds))
      by true is rest = rw is (h.0, rest)
      by false is rest = rw is rest

  pub all-in_scope_bindings : (c : List (List Decl)) → AllByRecursion P (scope_decls c) → AllByRecursion P (in_scope_bindings c)
  all-in_scope_bindings c h = subst (AllByRecursion P) (gathered_are c) (all-filter binds_prefix (with_sorted_decls [] (scope_decls c)) (all-with_sorted_decls [] (scope_decls c) tt h))

abbrev pub MayStand : Decl → Type 0
MayStand d = IsTrue (is_proper_decl d)

scope_declared : (p : List ℕ) (c : List (List Decl)) (t : Tree) → IsProperTree c t → AllByRecursion MayStand (scope_decls (scope_at p t))
scope_declared [] c t h = all-append MayStand t.decls [] h.0.declarations tt
scope_declared (n ∷ p) c t h =
    all-append MayStand t.decls (scope_decls (unwrap_or (option_map (scope_at p) (slice_get (child_elements_of t) n)) [])) h.0.declarations
    (by (slice_get (child_elements_of t) n) refl (λ k g. scope_declared p (c ++ t.decls ∷ []) k g))
  where
    by : (o : Option Tree) → slice_get (child_elements_of t) n ≡ o → ((k : Tree) → IsProperTree (c ++ t.decls ∷ []) k → AllByRecursion MayStand (scope_decls (scope_at p k)))
        → AllByRecursion MayStand (scope_decls (unwrap_or (option_map (scope_at p) o) []))
    by None is f = tt
    by (Some k) is f = f k (Everywhere-child_element IsProperPart (c ++ t.decls ∷ []) n t.content k is h.1)

pub bindings_declared : (p : List ℕ) (t : Tree) → IsProperTree [] t → AllByRecursion MayStand (in_scope_bindings (scope_at p t))
bindings_declared p t h = all-in_scope_bindings MayStand (scope_at p t) (scope_declared p [] t h)

pub bindings_declared_around : (p : List ℕ) (t : Tree) → IsProperTree [] t → AllByRecursion MayStand (in_scope_bindings (scope_around p t))
bindings_declared_around [] t h = tt
bindings_declared_around (n ∷ p) t h = bindings_declared (parent_path (n ∷ p)) t h

-- ---- no prefix twice

less_apart : (p q : List ℕ) → order p q ≡ Less → bytes_eq p q ≡ false
less_apart p q less = by (bytes_eq p q) refl
  where
    by : (b : Bool) → bytes_eq p q ≡ b → b ≡ false
    by false is = refl
    by true is = let same : p ≡ q = (bytes_eq-Decides p q).0 is in let both : Equal ≡ Less = sym (order_same p) ∙ ap (order p) same ∙ less in absurd cc

behind_apart : (p : List ℕ) (ds : List Decl) → AllByRecursion (λ x. order p x.prefix ≡ Less) ds → AllByRecursion (λ q. bytes_eq p q ≡ false) (map (λ d. d.prefix) ds)
behind_apart p [] h = tt
behind_apart p (d ∷ ds) h = (less_apart p d.prefix h.0, behind_apart p ds h.1)

ordered_distinct : (ds : List Decl) → AreSortedByPrefix ds → IsDistinct bytes_eq (map (λ d. d.prefix) ds)
unfolding IsDistinct
ordered_distinct [] h = tt
ordered_distinct (d ∷ ds) h = (behind_apart d.prefix ds h.0, ordered_distinct ds h.1)

pub bindings_distinct : (c : List (List Decl)) → IsDistinct bytes_eq (map (λ d. d.prefix) (in_scope_bindings c))
bindings_distinct c = ordered_distinct (in_scope_bindings c) (AreInOrder-in_scope_bindings c)
