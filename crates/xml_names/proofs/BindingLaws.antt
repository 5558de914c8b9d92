-- The declarations collected of a scope: what they bind, and their order.
use Rattle.std.proofs.Common.{◌≡◌, Ordering, Less, Equal, Greater, ℕ, Bool, true, false, cond, List, [], ◌∷◌, filter, not, ◌&&◌, Option, Some, None, IsTrue, bytes_eq, refl, sym, ap, ◌∙◌, subst, append-nil}
use Rattle.std.specs.Cmp.Lexicographic.{bytes_decides, nat_list_cmp_total}
use Rattle.std.specs.List.{AllByRecursion}
use Rattle.std.specs.Option.{option_or}
use Rattle.std.specs.Ordering.{ordering_reverse}
use Rattle.xml_names.specs.declared.names.Decl.{Decl}
use Rattle.xml_names.specs.Scopes.{AreSortedByPrefix, binds_prefix, bound_uri, declared_uri, scope_decls, non_empty_uri, xml_prefix}
use Rattle.xml_names.specs.inner.DeclarationMaps.{with_sorted_decls, sorted_bindings, with_sorted_decl}
use Rattle.xml_names.proofs.ByteOrder.{order, order_same, order_equal}
use Rattle.xml_names.proofs.ScopeLemmas.{option_or-assoc, option_or-none}

-- the URI that one declaration declares for a prefix
abbrev of_one : Decl → List ℕ → Option (List ℕ)
of_one d p = cond (bytes_eq d.prefix p) (Some d.uri) None

abbrev pub Behind : List ℕ → List Decl → Type 0
Behind p ds = AllByRecursion (λ x. order p x.prefix ≡ Less) ds

-- ---- the order
Behind-with_sorted_decl : (p : List ℕ) (d : Decl) (ds : List Decl) → order p d.prefix ≡ Less → Behind p ds → Behind p (with_sorted_decl d ds)
Behind-with_sorted_decl p d [] h all = (h, tt)
Behind-with_sorted_decl p d (x ∷ ds) h all = by (order d.prefix x.prefix) refl (Behind-with_sorted_decl p d ds h all.1)
  where
    by : (o : Ordering) → order d.prefix x.prefix ≡ o → Behind p (with_sorted_decl d ds) → Behind p (with_sorted_decl d (x ∷ ds))
    by Less is rest = rw is (h, all)
    by Equal is rest = rw is (h, all.1)
    by Greater is rest = rw is (all.0, rest)

pub further : (p q : List ℕ) (ds : List Decl) → order p q ≡ Less → Behind q ds → Behind p ds
further p q [] h all = tt
further p q (x ∷ ds) h all = (nat_list_cmp_total.trans p q x.prefix h all.0, further p q ds h all.1)

pub AreInOrder-with_sorted_decl : (d : Decl) (ds : List Decl) → AreSortedByPrefix ds → AreSortedByPrefix (with_sorted_decl d ds)
AreInOrder-with_sorted_decl d [] h = (tt, tt)
AreInOrder-with_sorted_decl d (x ∷ ds) h = by (order d.prefix x.prefix) refl (AreInOrder-with_sorted_decl d ds h.1)
  where
    by : (o : Ordering) → order d.prefix x.prefix ≡ o → AreSortedByPrefix (with_sorted_decl d ds) → AreSortedByPrefix (with_sorted_decl d (x ∷ ds))
    by Less is rest = rw is ((is, further d.prefix x.prefix ds is h.0), h)
    by Equal is rest = rw is (subst (λ p. Behind p ds) (sym (order_equal d.prefix x.prefix is)) h.0, h.1)
    by Greater is rest = rw is (Behind-with_sorted_decl x.prefix d ds (nat_list_cmp_total.antisymm x.prefix d.prefix ∙ ap ordering_reverse is) h.0, rest)

pub AreInOrder-with_sorted_decls : (acc ds : List Decl) → AreSortedByPrefix acc → AreSortedByPrefix (with_sorted_decls acc ds)
AreInOrder-with_sorted_decls acc [] h = h
AreInOrder-with_sorted_decls acc (d ∷ ds) h = AreInOrder-with_sorted_decls (with_sorted_decl d acc) ds (AreInOrder-with_sorted_decl d acc h)

Behind-filter : (p : List ℕ) (f : Decl → Bool) (ds : List Decl) → Behind p ds → Behind p (filter f ds)
Behind-filter p f [] h = tt
Behind-filter p f (x ∷ ds) h = by (f x) refl (Behind-filter p f ds h.1)
  where
    by : (b : Bool) → f x ≡ b → Behind p (filter f ds) → Behind p (filter f (x ∷ ds))
    by true is rest = rw is (h.0, rest)
    by false is rest = rw is rest

AreInOrder-filter : (f : Decl → Bool) (ds : List Decl) → AreSortedByPrefix ds → AreSortedByPrefix (filter f ds)
AreInOrder-filter f [] h = tt
AreInOrder-filter f (x ∷ ds) h = by (f x) refl (AreInOrder-filter f ds h.1)
  where
    by : (b : Bool) → f x ≡ b → AreSortedByPrefix (filter f ds) → AreSortedByPrefix (filter f (x ∷ ds))
    by true is rest = rw is (Behind-filter x.prefix f ds h.0, rest)
    by false is rest = rw is rest

pub AreInOrder-sorted_bindings : (c : List (List Decl)) → AreSortedByPrefix (sorted_bindings c)
AreInOrder-sorted_bindings c = AreInOrder-filter binds_prefix (with_sorted_decls [] (scope_decls c)) (AreInOrder-with_sorted_decls [] (scope_decls c) tt)

All-filter : (f : Decl → Bool) (ds : List Decl) → AllByRecursion (λ d. IsTrue (f d)) (filter f ds)
All-filter f [] = tt
All-filter f (x ∷ ds) = by (f x) refl (All-filter f ds)
  where
    by : (b : Bool) → f x ≡ b → AllByRecursion (λ d. IsTrue (f d)) (filter f ds) → AllByRecursion (λ d. IsTrue (f d)) (filter f (x ∷ ds))
    by true is rest = rw is (is, rest)
    by false is rest = rw is rest

pub binds_prefix-sorted_bindings : (c : List (List Decl)) → AllByRecursion (λ d. IsTrue (binds_prefix d)) (sorted_bindings c)
binds_prefix-sorted_bindings c = All-filter binds_prefix (with_sorted_decls [] (scope_decls c))

-- ---- what is declared
apart : (x : Decl) (p : List ℕ) → order p x.prefix ≡ Less → bytes_eq x.prefix p ≡ false
apart x p less = by (bytes_eq x.prefix p) refl
  where
    by : (b : Bool) → bytes_eq x.prefix p ≡ b → b ≡ false
    by false is = refl
    by true is = let same : x.prefix ≡ p = (bytes_decides x.prefix p).0 is in let both : Equal ≡ Less = sym (order_same p) ∙ ap (order p) (sym same) ∙ less in cc

none_behind : (p : List ℕ) (ds : List Decl) → Behind p ds → declared_uri ds p ≡ None
none_behind p [] h = refl
none_behind p (x ∷ ds) h = rw (none_behind p ds h.1, apart x p h.0) refl

-- the first of an ordered list is the only one of its prefix
pub sole : (d : Decl) (p : List ℕ) (ds : List Decl) → Behind d.prefix ds → bytes_eq d.prefix p ≡ true → declared_uri ds p ≡ None
sole d p ds h is = none_behind p ds (subst (λ q. Behind q ds) ((bytes_decides d.prefix p).0 is) h)

declared-with_sorted_decl : (d : Decl) (ds : List Decl) (p : List ℕ) → AreSortedByPrefix ds → declared_uri (with_sorted_decl d ds) p ≡ option_or (of_one d p) (declared_uri ds p)
declared-with_sorted_decl d [] p h = sym (option_or-none (of_one d p))
declared-with_sorted_decl d (x ∷ ds) p h = by (order d.prefix x.prefix) refl (bytes_eq d.prefix p) refl (declared-with_sorted_decl d ds p h.1)
  where
    by : (o : Ordering) → order d.prefix x.prefix ≡ o → (b : Bool) → bytes_eq d.prefix p ≡ b → declared_uri (with_sorted_decl d ds) p ≡ option_or (of_one d p) (declared_uri ds p)
        → declared_uri (with_sorted_decl d (x ∷ ds)) p ≡ option_or (of_one d p) (declared_uri (x ∷ ds) p)
    by Less is true e rest = rw (is, e, sole d p (x ∷ ds) (is, further d.prefix x.prefix ds is h.0) e) refl
    by Less is false e rest = rw (is, e) (option_or-none (declared_uri (x ∷ ds) p))
    by Equal is true e rest =
        let same : d.prefix ≡ x.prefix = order_equal d.prefix x.prefix is in
        rw (is, e, sole d p ds (subst (λ q. Behind q ds) (sym same) h.0) e) refl
    by Equal is false e rest =
        let same : d.prefix ≡ x.prefix = order_equal d.prefix x.prefix is in
        let other : bytes_eq x.prefix p ≡ false = ap (λ q. bytes_eq q p) (sym same) ∙ e in
        rw (is, e, other) refl
    by Greater is b e rest = rw is (ap (λ o. option_or o (of_one x p)) rest ∙ sym (option_or-assoc (of_one d p) (declared_uri ds p) (of_one x p)))

pub declared-with_sorted_decls : (acc ds : List Decl) (p : List ℕ) → AreSortedByPrefix acc → declared_uri (with_sorted_decls acc ds) p ≡ option_or (declared_uri ds p) (declared_uri acc p)
declared-with_sorted_decls acc [] p h = refl
declared-with_sorted_decls acc (d ∷ ds) p h =
    declared-with_sorted_decls (with_sorted_decl d acc) ds p (AreInOrder-with_sorted_decl d acc h) ∙ ap (option_or (declared_uri ds p)) (declared-with_sorted_decl d acc p h)
    ∙ option_or-assoc (declared_uri ds p) (of_one d p) (declared_uri acc p)

-- a declaration of another prefix than `xml` that doesn't bind has an empty URI
unbinding : (x : Decl) (p : List ℕ) → bytes_eq p xml_prefix ≡ false → bytes_eq x.prefix p ≡ true → binds_prefix x ≡ false → x.uri ≡ []
unbinding x p other e is = by (bytes_eq x.uri []) refl
  where
    named : bytes_eq x.prefix xml_prefix ≡ false
    named = ap (λ q. bytes_eq q xml_prefix) ((bytes_decides x.prefix p).0 e) ∙ other

    by : (b : Bool) → bytes_eq x.uri [] ≡ b → x.uri ≡ []
    by true f = (bytes_decides x.uri []).0 f
    by false f = let both : true ≡ false = rw (f, named) at is in cc

declared-binds_prefix : (ds : List Decl) (p : List ℕ) → bytes_eq p xml_prefix ≡ false → AreSortedByPrefix ds → non_empty_uri (declared_uri (filter binds_prefix ds) p) ≡ non_empty_uri (declared_uri ds p)
declared-binds_prefix [] p other h = refl
declared-binds_prefix (x ∷ ds) p other h = by (binds_prefix x) refl (bytes_eq x.prefix p) refl (declared-binds_prefix ds p other h.1)
  where
    by : (b : Bool) → binds_prefix x ≡ b → (e : Bool) → bytes_eq x.prefix p ≡ e → non_empty_uri (declared_uri (filter binds_prefix ds) p) ≡ non_empty_uri (declared_uri ds p)
        → non_empty_uri (declared_uri (filter binds_prefix (x ∷ ds)) p) ≡ non_empty_uri (declared_uri (x ∷ ds) p)
    by true is true e rest = rw (is, e, sole x p ds h.0 e, sole x p (filter binds_prefix ds) (Behind-filter x.prefix binds_prefix ds h.0) e) refl
    by true is false e rest = rw (is, e, option_or-none (declared_uri ds p), option_or-none (declared_uri (filter binds_prefix ds) p)) rest
    by false is true e rest =
        rw (is, e, sole x p ds h.0 e, sole x p (filter binds_prefix ds) (Behind-filter x.prefix binds_prefix ds h.0) e) (ap (λ u. non_empty_uri (Some u)) (sym (unbinding x p other e is)))
    by false is false e rest = rw (is, e, option_or-none (declared_uri ds p)) rest

pub bound_uri-sorted_bindings : (c : List (List Decl)) (p : List ℕ) → bound_uri (sorted_bindings c ∷ []) p ≡ bound_uri c p
bound_uri-sorted_bindings c p = by (bytes_eq p xml_prefix) refl
  where
    by : (b : Bool) → bytes_eq p xml_prefix ≡ b → bound_uri (sorted_bindings c ∷ []) p ≡ bound_uri c p
    by true is = rw is refl
    by false is =
        rw (is, append-nil (sorted_bindings c))
        (declared-binds_prefix (with_sorted_decls [] (scope_decls c)) p is (AreInOrder-with_sorted_decls [] (scope_decls c) tt)
        ∙ ap non_empty_uri (declared-with_sorted_decls [] (scope_decls c) p tt ∙ option_or-none (declared_uri (scope_decls c) p)))

-- ---- no other list
from_binds : (d : Decl) → IsTrue (binds_prefix d) → (bytes_eq d.uri [] ≡ false) × (bytes_eq d.prefix xml_prefix ≡ false)
from_binds d h = by (bytes_eq d.uri []) (bytes_eq d.prefix xml_prefix) h
  where
    by : (a b : Bool) → (not a && not b) ≡ true → (a ≡ false) × (b ≡ false)
    by false false e = (refl, refl)
    by false true e = cc
    by true b e = cc

some_of : (u : List ℕ) → bytes_eq u [] ≡ false → non_empty_uri (Some u) ≡ Some u
some_of [] h = cc
some_of (c ∷ cs) h = refl

-- what the first of an ordered list declares
of_first : (d : Decl) (ds : List Decl) → Behind d.prefix ds → IsTrue (binds_prefix d) → non_empty_uri (declared_uri (d ∷ ds) d.prefix) ≡ Some d.uri
of_first d ds h b = rw (none_behind d.prefix ds h, (bytes_decides d.prefix d.prefix).1 refl) (some_of d.uri (from_binds d b).0)

abbrev Alike : List Decl → List Decl → Type 0
Alike ds es = (p : List ℕ) → bytes_eq p xml_prefix ≡ false → non_empty_uri (declared_uri ds p) ≡ non_empty_uri (declared_uri es p)

-- the first of one list is declared in the other
not_behind : (d : Decl) (ds es : List Decl) → Behind d.prefix ds → IsTrue (binds_prefix d) → Behind d.prefix es → Alike (d ∷ ds) es → ⊥
not_behind d ds es h b g alike =
    let both : Some d.uri ≡ None = sym (of_first d ds h b) ∙ alike d.prefix (from_binds d b).1 ∙ ap non_empty_uri (none_behind d.prefix es g) in cc

tails : (d e : Decl) (ds es : List Decl) → d.prefix ≡ e.prefix → Behind d.prefix ds → Behind e.prefix es → Alike (d ∷ ds) (e ∷ es) → Alike ds es
tails d e ds es same h g alike p other = by (bytes_eq d.prefix p) refl
  where
    by : (b : Bool) → bytes_eq d.prefix p ≡ b → non_empty_uri (declared_uri ds p) ≡ non_empty_uri (declared_uri es p)
    by true is =
        ap non_empty_uri (sole d p ds h is ∙ sym (sole e p es g (ap (λ q. bytes_eq q p) (sym same) ∙ is)))
    by false is =
        let first = ap non_empty_uri (ap (λ b. option_or (declared_uri ds p) (cond b (Some d.uri) None)) is ∙ option_or-none (declared_uri ds p)) in
        let second = ap non_empty_uri (ap (λ b. option_or (declared_uri es p) (cond b (Some e.uri) None)) (ap (λ q. bytes_eq q p) (sym same) ∙ is) ∙ option_or-none (declared_uri es p)) in
        sym first ∙ alike p other ∙ second

one_list : (ds es : List Decl) → AreSortedByPrefix ds → AreSortedByPrefix es → AllByRecursion (λ d. IsTrue (binds_prefix d)) ds → AllByRecursion (λ d. IsTrue (binds_prefix d)) es → Alike ds es → ds ≡ es
one_list [] [] h g b a alike = refl
one_list [] (e ∷ es) h g b a alike = absurd (not_behind e es [] g.0 a.0 tt (λ p other. sym (alike p other)))
one_list (d ∷ ds) [] h g b a alike = absurd (not_behind d ds [] h.0 b.0 tt alike)
one_list (d ∷ ds) (e ∷ es) h g b a alike = by (order d.prefix e.prefix) refl (λ rest. one_list ds es h.1 g.1 b.1 a.1 rest)
  where
    by : (o : Ordering) → order d.prefix e.prefix ≡ o → (Alike ds es → ds ≡ es) → d ∷ ds ≡ e ∷ es
    by Less is rest = absurd (not_behind d ds (e ∷ es) h.0 b.0 (is, further d.prefix e.prefix es is g.0) alike)
    by Greater is rest =
        let turned = nat_list_cmp_total.antisymm e.prefix d.prefix ∙ ap ordering_reverse is in
        absurd (not_behind e es (d ∷ ds) g.0 a.0 (turned, further e.prefix d.prefix ds turned h.0) (λ p other. sym (alike p other)))
    by Equal is rest =
        let same : d.prefix ≡ e.prefix = order_equal d.prefix e.prefix is in
        let uris : Some d.uri ≡ Some e.uri =
        sym (of_first d ds h.0 b.0) ∙ alike d.prefix (from_binds d b.0).1 ∙ ap (λ p. non_empty_uri (declared_uri (e ∷ es) p)) same ∙ of_first e es g.0 a.0 in
        let uri : d.uri ≡ e.uri = cc in
        λ i. record { prefix = same i; uri = uri i } ∷ rest (tails d e ds es same h.0 g.0 alike) i

pub sorted_bindings-sole : (c : List (List Decl)) (ds : List Decl) → AreSortedByPrefix ds → AllByRecursion (λ d. IsTrue (binds_prefix d)) ds → ((p : List ℕ) → bound_uri (ds ∷ []) p ≡ bound_uri c p)
    → ds ≡ sorted_bindings c
sorted_bindings-sole c ds h b alike = one_list ds (sorted_bindings c) h (AreInOrder-sorted_bindings c) b (binds_prefix-sorted_bindings c) (λ p other. under p other)
  where
    plain : (l : List Decl) (p : List ℕ) → bytes_eq p xml_prefix ≡ false → bound_uri (l ∷ []) p ≡ non_empty_uri (declared_uri l p)
    plain l p other = rw (other, append-nil l) refl

    under : (p : List ℕ) → bytes_eq p xml_prefix ≡ false → non_empty_uri (declared_uri ds p) ≡ non_empty_uri (declared_uri (sorted_bindings c) p)
    under p other = sym (plain ds p other) ∙ alike p ∙ sym (bound_uri-sorted_bindings c p) ∙ plain (sorted_bindings c) p other
