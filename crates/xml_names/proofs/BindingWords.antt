-- The bindings of a scope: which they are, their order, and that they are the collected ones.
use Rattle.std.proofs.Common.{◌≡◌, Ordering, Less, Equal, Greater, ℕ, Bool, true, false, cond, List, [], ◌∷◌, ◌++◌, map, filter, filter_map, not, ◌&&◌, ◌||◌, Option, Some, None, option_map, IsTrue, bytes_eq, refl, sym, ap, ◌∙◌, subst, append-nil}
use Rattle.std.proofs.lemmas.Option.{same_Some}
use Rattle.std.specs.Cmp.Lexicographic.{bytes_decides, nat_list_cmp_total}
use Rattle.std.specs.List.{AllByRecursion, cons_option, list_any}
use Rattle.std.specs.Option.{option_or}
use Rattle.std.specs.Ordering.{is_lt, ordering_reverse}
use Rattle.xml_names.specs.declared.names.Decl.{Decl}
use Rattle.xml_names.specs.Scopes.{AreSortedByPrefix, binding, in_scope_bindings, binds_prefix, bound_uri, decl_from_parts, declared_uri, sorted_distinct, sorts_before, scope_decls, non_empty_uri, xml_prefix, xml_uri}
use Rattle.xml_names.specs.inner.DeclarationMaps.{sorted_bindings}
use Rattle.xml_names.proofs.BindingLaws.{Behind, sorted_bindings-sole}
use Rattle.xml_names.proofs.ByteOrder.{order, order_equal}
use Rattle.xml_names.proofs.ScopeLemmas.{option_or-none}

less-is : (o : Ordering) → is_lt o ≡ true → o ≡ Less
less-is Less h = refl
less-is Equal h = cc
less-is Greater h = cc

turned : (p q : List ℕ) (o : Ordering) → order p q ≡ o → order q p ≡ ordering_reverse o
turned p q o h = nat_list_cmp_total.antisymm q p ∙ ap ordering_reverse h

-- ---- texts in order

-- p is before each of these, and each of these before p
abbrev Above : List ℕ → List (List ℕ) → Type 0
Above p qs = AllByRecursion (λ q. order p q ≡ Less) qs

abbrev Below : List ℕ → List (List ℕ) → Type 0
Below p qs = AllByRecursion (λ q. order q p ≡ Less) qs

abbrev Rises : List (List ℕ) → Type 0
Rises [] = Unit {0}
Rises (p ∷ ps) = Above p ps × Rises ps

above-step : (p q : List ℕ) (qs : List (List ℕ)) (b : Bool) → order p q ≡ Less → Above p qs → Above p (cond b (q ∷ qs) qs)
above-step p q qs true h a = (h, a)
above-step p q qs false h a = a

above-filter : (f : List ℕ → Bool) (p : List ℕ) (qs : List (List ℕ)) → Above p qs → Above p (filter f qs)
above-filter f p [] a = tt
above-filter f p (q ∷ qs) a = above-step p q (filter f qs) (f q) a.0 (above-filter f p qs a.1)

rises-step : (q : List ℕ) (qs : List (List ℕ)) (b : Bool) → Above q qs → Rises qs → Rises (cond b (q ∷ qs) qs)
rises-step q qs true a r = (a, r)
rises-step q qs false a r = r

rises-filter : (f : List ℕ → Bool) (qs : List (List ℕ)) → Rises qs → Rises (filter f qs)
rises-filter f [] r = tt
rises-filter f (q ∷ qs) r = rises-step q (filter f qs) (f q) (above-filter f q qs r.0) (rises-filter f qs r.1)

below-step : (p q : List ℕ) (qs : List (List ℕ)) (b : Bool) → sorts_before q p ≡ b → Below p qs → Below p (cond b (q ∷ qs) qs)
below-step p q qs true h a = (less-is (order q p) h, a)
below-step p q qs false h a = a

below-filter : (p : List ℕ) (qs : List (List ℕ)) → Below p (filter (λ q. sorts_before q p) qs)
below-filter p [] = tt
below-filter p (q ∷ qs) = below-step p q (filter (λ q. sorts_before q p) qs) (sorts_before q p) refl (below-filter p qs)

behind-step : (p q : List ℕ) (qs : List (List ℕ)) (b : Bool) → sorts_before p q ≡ b → Above p qs → Above p (cond b (q ∷ qs) qs)
behind-step p q qs true h a = (less-is (order p q) h, a)
behind-step p q qs false h a = a

behind-filter : (p : List ℕ) (qs : List (List ℕ)) → Above p (filter (λ q. sorts_before p q) qs)
behind-filter p [] = tt
behind-filter p (q ∷ qs) = behind-step p q (filter (λ q. sorts_before p q) qs) (sorts_before p q) refl (behind-filter p qs)

above-further : (p q : List ℕ) (qs : List (List ℕ)) → order p q ≡ Less → Above q qs → Above p qs
above-further p q [] h a = tt
above-further p q (x ∷ qs) h a = (nat_list_cmp_total.trans p q x h a.0, above-further p q qs h a.1)

above-append : (x p : List ℕ) (xs ys : List (List ℕ)) → Above x xs → order x p ≡ Less → Above p ys → Above x (xs ++ p ∷ ys)
above-append x p [] ys a h b = (h, above-further x p ys h b)
above-append x p (z ∷ xs) ys a h b = (a.0, above-append x p xs ys a.1 h b)

rises-append : (p : List ℕ) (xs ys : List (List ℕ)) → Rises xs → Below p xs → Above p ys → Rises ys → Rises (xs ++ p ∷ ys)
rises-append p [] ys r b a s = (a, s)
rises-append p (x ∷ xs) ys r b a s = (above-append x p xs ys r.0 b.0 a, rises-append p xs ys r.1 b.1 a s)

sorted_distinct-rises : (ps : List (List ℕ)) → Rises (sorted_distinct ps)
sorted_distinct-rises [] = tt
sorted_distinct-rises (p ∷ ps) =
    let rest = sorted_distinct-rises ps in
    rises-append p (filter (λ q. sorts_before q p) (sorted_distinct ps)) (filter (λ q. sorts_before p q) (sorted_distinct ps))
    (rises-filter (λ q. sorts_before q p) (sorted_distinct ps) rest) (below-filter p (sorted_distinct ps)) (behind-filter p (sorted_distinct ps)) (rises-filter (λ q. sorts_before p q) (sorted_distinct ps) rest)

-- ---- which texts these are

abbrev is_in : List ℕ → List (List ℕ) → Bool
is_in p qs = list_any (λ q. bytes_eq q p) qs

or-apart : (a b c : Bool) → ((a || b) || c) ≡ (a || (b || c))
or-apart true b c = refl
or-apart false b c = refl

in-append : (p : List ℕ) (xs ys : List (List ℕ)) → is_in p (xs ++ ys) ≡ (is_in p xs || is_in p ys)
in-append p [] ys = refl
in-append p (x ∷ xs) ys = ap (λ (b : Bool). bytes_eq x p || b) (in-append p xs ys) ∙ sym (or-apart (bytes_eq x p) (is_in p xs) (is_in p ys))

in-filter-step : (f : List ℕ → Bool) (p x : List ℕ) (xs : List (List ℕ)) (b t c : Bool) → (t ≡ true → c ≡ b) → bytes_eq x p ≡ t → is_in p (filter f xs) ≡ (b && is_in p xs)
    → is_in p (cond c (x ∷ filter f xs) (filter f xs)) ≡ (b && (t || is_in p xs))
in-filter-step f p x xs true true true same e by = ap (λ (u : Bool). u || is_in p (filter f xs)) e
in-filter-step f p x xs true true false same e by = let clash : false ≡ true = same refl in cc
in-filter-step f p x xs false true true same e by = let clash : true ≡ false = same refl in cc
in-filter-step f p x xs false true false same e by = by
in-filter-step f p x xs b false true same e by = ap (λ (u : Bool). u || is_in p (filter f xs)) e ∙ by
in-filter-step f p x xs b false false same e by = by

in-filter : (f : List ℕ → Bool) (p : List ℕ) (b : Bool) → f p ≡ b → (xs : List (List ℕ)) → is_in p (filter f xs) ≡ (b && is_in p xs)
in-filter f p true h [] = refl
in-filter f p false h [] = refl
in-filter f p b h (x ∷ xs) =
    in-filter-step f p x xs b (bytes_eq x p) (f x) (λ e. ap f ((bytes_decides x p).0 e) ∙ h) refl (in-filter f p b h xs)

both-ways : (m t : Bool) → (m || (t || false)) ≡ (t || m)
both-ways true true = refl
both-ways true false = refl
both-ways false true = refl
both-ways false false = refl

-- p is among those before q, or is q, or is among those after it
among : (p q : List ℕ) (m t : Bool) (o : Ordering) → order p q ≡ o → bytes_eq q p ≡ t → ((sorts_before p q && m) || (t || (sorts_before q p && m))) ≡ (t || m)
among p q m t Less h e =
    ap (λ (o : Ordering). (is_lt o && m) || (t || (sorts_before q p && m))) h ∙ ap (λ (o : Ordering). m || (t || (is_lt o && m))) (turned p q Less h) ∙ both-ways m t
among p q m t Greater h e =
    ap (λ (o : Ordering). (is_lt o && m) || (t || (sorts_before q p && m))) h ∙ ap (λ (o : Ordering). t || (is_lt o && m)) (turned p q Greater h)
among p q m true Equal h e = ap (λ (o : Ordering). (is_lt o && m) || (true || (sorts_before q p && m))) h
among p q m false Equal h e = let clash : true ≡ false = sym ((bytes_decides q p).1 (sym (order_equal p q h))) ∙ e in cc

in-order-in : (p : List ℕ) (qs : List (List ℕ)) → is_in p (sorted_distinct qs) ≡ is_in p qs
in-order-in p [] = refl
in-order-in p (q ∷ qs) =
    let before = filter (λ x. sorts_before x q) (sorted_distinct qs) in
    let behind = filter (λ x. sorts_before q x) (sorted_distinct qs) in
    in-append p before (q ∷ behind)
    ∙ ap (λ (b : Bool). b || (bytes_eq q p || is_in p behind)) (in-filter (λ x. sorts_before x q) p (sorts_before p q) refl (sorted_distinct qs))
    ∙ ap (λ (b : Bool). (sorts_before p q && is_in p (sorted_distinct qs)) || (bytes_eq q p || b)) (in-filter (λ x. sorts_before q x) p (sorts_before q p) refl (sorted_distinct qs))
    ∙ among p q (is_in p (sorted_distinct qs)) (bytes_eq q p) (order p q) refl refl
    ∙ ap (λ (b : Bool). bytes_eq q p || b) (in-order-in p qs)

-- ---- one binding

-- a binding has its prefix, and binds
made : (q : List ℕ) (o : Option (List ℕ)) (d : Decl) (b : Bool) → bytes_eq q xml_prefix ≡ b → cond b None (option_map (decl_from_parts q) (cond b (Some xml_uri) (non_empty_uri o))) ≡ Some d → (d.prefix ≡ q) × IsTrue (binds_prefix d)
made q o d true e h = cc
made q None d false e h = cc
made q (Some []) d false e h = cc
made q (Some (x ∷ xs)) d false e h =
    let is : decl_from_parts q (x ∷ xs) ≡ d = same_Some {A = Decl} (decl_from_parts q (x ∷ xs)) d h in
    (ap (λ (t : Decl). t.prefix) (sym is), subst (λ (t : Decl). IsTrue (binds_prefix t)) is (ap not e))

binding-is : (c : List (List Decl)) (q : List ℕ) (d : Decl) → binding c q ≡ Some d → (d.prefix ≡ q) × IsTrue (binds_prefix d)
binding-is c q d h = made q (declared_uri (scope_decls c) q) d (bytes_eq q xml_prefix) refl h

-- ---- the bindings of these prefixes

abbrev told : List (List Decl) → List (List ℕ) → List Decl
told c qs = filter_map (binding c) qs

behind-told-step : (c : List (List Decl)) (p q : List ℕ) (rest : List Decl) (o : Option Decl) → binding c q ≡ o → order p q ≡ Less → Behind p rest → Behind p (cons_option o rest)
behind-told-step c p q rest None e h r = r
behind-told-step c p q rest (Some d) e h r = (subst (λ (x : List ℕ). order p x ≡ Less) (sym (binding-is c q d e).0) h, r)

behind-told : (c : List (List Decl)) (p : List ℕ) (qs : List (List ℕ)) → Above p qs → Behind p (told c qs)
behind-told c p [] a = tt
behind-told c p (q ∷ qs) a = behind-told-step c p q (told c qs) (binding c q) refl a.0 (behind-told c p qs a.1)

told-in-order-step : (c : List (List Decl)) (q : List ℕ) (rest : List Decl) (o : Option Decl) → binding c q ≡ o → Behind q rest → AreSortedByPrefix rest → AreSortedByPrefix (cons_option o rest)
told-in-order-step c q rest None e b r = r
told-in-order-step c q rest (Some d) e b r = (subst (λ (x : List ℕ). Behind x rest) (sym (binding-is c q d e).0) b, r)

told-in-order : (c : List (List Decl)) (qs : List (List ℕ)) → Rises qs → AreSortedByPrefix (told c qs)
told-in-order c [] r = tt
told-in-order c (q ∷ qs) r = told-in-order-step c q (told c qs) (binding c q) refl (behind-told c q qs r.0) (told-in-order c qs r.1)

told-binds_prefix-step : (c : List (List Decl)) (q : List ℕ) (rest : List Decl) (o : Option Decl) → binding c q ≡ o → AllByRecursion (λ d. IsTrue (binds_prefix d)) rest → AllByRecursion (λ d. IsTrue (binds_prefix d)) (cons_option o rest)
told-binds_prefix-step c q rest None e r = r
told-binds_prefix-step c q rest (Some d) e r = ((binding-is c q d e).1, r)

told-binds_prefix : (c : List (List Decl)) (qs : List (List ℕ)) → AllByRecursion (λ d. IsTrue (binds_prefix d)) (told c qs)
told-binds_prefix c [] = tt
told-binds_prefix c (q ∷ qs) = told-binds_prefix-step c q (told c qs) (binding c q) refl (told-binds_prefix c qs)

abbrev if-in : Bool → Option (List ℕ) → Option (List ℕ)
if-in is u = cond is u None

-- p is equal to this prefix, or is another one
here : (p : List ℕ) (rest : List Decl) (m : Bool) (u : Option (List ℕ)) → declared_uri rest p ≡ if-in m u → declared_uri (cons_option (option_map (decl_from_parts p) u) rest) p ≡ u
here p rest true None h = h
here p rest false None h = h
here p rest true (Some x) h = ap (λ (o : Option (List ℕ)). option_or o (cond (bytes_eq p p) (Some x) None)) h
here p rest false (Some x) h =
    ap (λ (o : Option (List ℕ)). option_or o (cond (bytes_eq p p) (Some x) None)) h ∙ ap (λ (b : Bool). cond b (Some x) None) ((bytes_decides p p).1 refl)

elsewhere : (p q : List ℕ) (rest : List Decl) (o : Option Decl) → ((d : Decl) → o ≡ Some d → d.prefix ≡ q) → bytes_eq q p ≡ false → declared_uri (cons_option o rest) p ≡ declared_uri rest p
elsewhere p q rest None of e = refl
elsewhere p q rest (Some d) of e =
    ap (λ (b : Bool). option_or (declared_uri rest p) (cond b (Some d.uri) None)) (ap (λ (x : List ℕ). bytes_eq x p) (of d refl) ∙ e) ∙ option_or-none (declared_uri rest p)

module _ (c : List (List Decl)) (p : List ℕ) (other : bytes_eq p xml_prefix ≡ false) where
  declared-told-step : (q : List ℕ) (qs : List (List ℕ)) (b : Bool) → bytes_eq q p ≡ b → declared_uri (told c qs) p ≡ if-in (is_in p qs) (bound_uri c p) → declared_uri (told c (q ∷ qs)) p ≡ if-in (is_in p (q ∷ qs)) (bound_uri c p)
  declared-told-step q qs true e by =
      let is : binding c q ≡ option_map (decl_from_parts p) (bound_uri c p) =
      ap (binding c) ((bytes_decides q p).0 e) ∙ ap (λ (b : Bool). cond b None (option_map (decl_from_parts p) (bound_uri c p))) other in
      ap (λ (o : Option Decl). declared_uri (cons_option o (told c qs)) p) is ∙ here p (told c qs) (is_in p qs) (bound_uri c p) by
      ∙ sym (ap (λ (b : Bool). if-in (b || is_in p qs) (bound_uri c p)) e)
  declared-told-step q qs false e by =
      elsewhere p q (told c qs) (binding c q) (λ d h. (binding-is c q d h).0) e ∙ by ∙ sym (ap (λ (b : Bool). if-in (b || is_in p qs) (bound_uri c p)) e)

  declared-told : (qs : List (List ℕ)) → declared_uri (told c qs) p ≡ if-in (is_in p qs) (bound_uri c p)
  declared-told [] = refl
  declared-told (q ∷ qs) = declared-told-step q qs (bytes_eq q p) refl (declared-told qs)

-- ---- the bindings of a scope

abbrev prefixes : List Decl → List (List ℕ)
prefixes ds = map (λ (d : Decl). d.prefix) ds

undeclared-step : (p : List ℕ) (d : Decl) (ds : List Decl) (b : Bool) → bytes_eq d.prefix p ≡ b → is_in p (prefixes (d ∷ ds)) ≡ false → (is_in p (prefixes ds) ≡ false → declared_uri ds p ≡ None) → declared_uri (d ∷ ds) p ≡ None
undeclared-step p d ds true e h by = let clash : true ≡ false = sym (ap (λ (b : Bool). b || is_in p (prefixes ds)) e) ∙ h in cc
undeclared-step p d ds false e h by =
    ap (λ (b : Bool). option_or (declared_uri ds p) (cond b (Some d.uri) None)) e ∙ option_or-none (declared_uri ds p)
    ∙ by (sym (ap (λ (b : Bool). b || is_in p (prefixes ds)) e) ∙ h)

undeclared : (p : List ℕ) (ds : List Decl) → is_in p (prefixes ds) ≡ false → declared_uri ds p ≡ None
undeclared p [] h = refl
undeclared p (d ∷ ds) h = undeclared-step p d ds (bytes_eq d.prefix p) refl h (undeclared p ds)

again : (o : Option (List ℕ)) → non_empty_uri (non_empty_uri o) ≡ non_empty_uri o
again None = refl
again (Some []) = refl
again (Some (c ∷ cs)) = refl

module _ (c : List (List Decl)) (p : List ℕ) where
  bound_uri-plain : (l : List (List Decl)) → bytes_eq p xml_prefix ≡ false → bound_uri l p ≡ non_empty_uri (declared_uri (scope_decls l) p)
  bound_uri-plain l other = ap (λ (b : Bool). cond b (Some xml_uri) (non_empty_uri (declared_uri (scope_decls l) p))) other

  same-text : (m : Bool) → bytes_eq p xml_prefix ≡ false → is_in p (prefixes (scope_decls c)) ≡ m → non_empty_uri (if-in m (bound_uri c p)) ≡ bound_uri c p
  same-text true other e = ap non_empty_uri (bound_uri-plain c other) ∙ again (declared_uri (scope_decls c) p) ∙ sym (bound_uri-plain c other)
  same-text false other e = sym (bound_uri-plain c other ∙ ap non_empty_uri (undeclared p (scope_decls c) e))

  bound_uri-step : (b : Bool) → bytes_eq p xml_prefix ≡ b → bound_uri (in_scope_bindings c ∷ []) p ≡ bound_uri c p
  bound_uri-step true is =
      ap (λ (b : Bool). cond b (Some xml_uri) (non_empty_uri (declared_uri (scope_decls (in_scope_bindings c ∷ [])) p))) is
      ∙ sym (ap (λ (b : Bool). cond b (Some xml_uri) (non_empty_uri (declared_uri (scope_decls c) p))) is)
  bound_uri-step false is =
      bound_uri-plain (in_scope_bindings c ∷ []) is ∙ ap (λ (l : List Decl). non_empty_uri (declared_uri l p)) (append-nil (in_scope_bindings c))
      ∙ ap non_empty_uri (declared-told c p is (sorted_distinct (prefixes (scope_decls c))) ∙ ap (λ (b : Bool). if-in b (bound_uri c p)) (in-order-in p (prefixes (scope_decls c))))
      ∙ same-text (is_in p (prefixes (scope_decls c))) is refl

pub bound_uri-in_scope_bindings : (c : List (List Decl)) (p : List ℕ) → bound_uri (in_scope_bindings c ∷ []) p ≡ bound_uri c p
bound_uri-in_scope_bindings c p = bound_uri-step c p (bytes_eq p xml_prefix) refl

pub AreInOrder-in_scope_bindings : (c : List (List Decl)) → AreSortedByPrefix (in_scope_bindings c)
AreInOrder-in_scope_bindings c = told-in-order c (sorted_distinct (prefixes (scope_decls c))) (sorted_distinct-rises (prefixes (scope_decls c)))

pub binds_prefix-in_scope_bindings : (c : List (List Decl)) → AllByRecursion (λ d. IsTrue (binds_prefix d)) (in_scope_bindings c)
binds_prefix-in_scope_bindings c = told-binds_prefix c (sorted_distinct (prefixes (scope_decls c)))

-- the declarations collected of a scope are its bindings
pub gathered_are : (c : List (List Decl)) → sorted_bindings c ≡ in_scope_bindings c
gathered_are c = sym (sorted_bindings-sole c (in_scope_bindings c) (AreInOrder-in_scope_bindings c) (binds_prefix-in_scope_bindings c) (bound_uri-in_scope_bindings c))

pub in_scope_bindings-sole : (c : List (List Decl)) (ds : List Decl) → AreSortedByPrefix ds → AllByRecursion (λ d. IsTrue (binds_prefix d)) ds → ((p : List ℕ) → bound_uri (ds ∷ []) p ≡ bound_uri c p)
    → ds ≡ in_scope_bindings c
in_scope_bindings-sole c ds h b alike = sorted_bindings-sole c ds h b alike ∙ gathered_are c
