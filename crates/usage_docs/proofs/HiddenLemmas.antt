-- The bindings that declarations hide: their length, in which each prefix counts once, and the
-- search for the binding of a prefix.
use Rattle.std.proofs.Common.{◌≡◌, ◌≢◌, Ordering, Less, Equal, Greater, ◌⊎◌, inl, inr, ℕ, zero, suc, ◌+◌, ◌-◌, ◌<◌, ◌≤◌, min, Bool, true, false, cond, not, List, [], ◌∷◌, ◌++◌, length, get_or, Option, Some, None, is_some, is_none, Bor, bytes_eq, refl, sym, ap, ◌∙◌, subst, add-one, arith}
use Rattle.std.proofs.lemmas.List.Sorted.{searchable_from_sorted}
use Rattle.std.specs.BTreeSet.{BTreeSet, IsEmpty, Updates, contains}
use Rattle.std.specs.BTreeMap.{is_at}
use Rattle.std.specs.Cmp.Lexicographic.{bytes_decides, nat_list_cmp_total, texts_ties}
use Rattle.std.specs.List.{list_any}
use Rattle.std.specs.List.Sorted.{IsNonDecreasingBy, IsPartitionPoint}
use Rattle.std.specs.Option.{option_or}
use Rattle.std.specs.Ordering.{is_lt, ordering_index, ordering_reverse}
use Rattle.xml_tree.specs.Tree.{Tree, tree_of}
use Rattle.xml_names.specs.Markup.{byte_len}
use Rattle.xml_tree.specs.Print.{print}
use Rattle.xml_names.specs.Scopes.{AreSortedByPrefix, in_scope_bindings, declared_uri}
use Rattle.xml_names.specs.declared.names.Decl.{Decl}
use Rattle.xml_names.proofs.BindingLaws.{Behind}
use Rattle.xml_names.proofs.ByteOrder.{order, order_same, order_equal}
use Rattle.xml_names.proofs.ScopeLemmas.{declared-append}
use Rattle.usage_docs.specs.Services.{listed_service}
use Rattle.usage_docs.specs.readers.ServiceLengths.{bindings_of_prefix, decls_len, hidden_bindings}
use Rattle.usage_docs.proofs.LengthLemmas.{first_more, kept, own_service, unlike, with_decls}

-- the greatest length that is reported
abbrev most : ℕ
most = 18446744073709551615

-- ---- the hidden and the kept bindings are all bindings
pub shared : (own bs : List Decl) → decls_len bs ≡ decls_len (hidden_bindings own bs) + decls_len (kept own bs)
shared own [] = refl
shared own (b ∷ bs) = by (declared_uri own b.prefix) (shared own bs)
  where
    by : (o : Option (List ℕ)) → decls_len bs ≡ decls_len (hidden_bindings own bs) + decls_len (kept own bs)
        → decls_len (b ∷ bs) ≡ decls_len (cond (is_some o) (b ∷ hidden_bindings own bs) (hidden_bindings own bs)) + decls_len (cond (is_none o) (b ∷ kept own bs) (kept own bs))
    by (Some u) rest = omega (arith, first_more b bs, first_more b (hidden_bindings own bs))
    by None rest = omega (arith, first_more b bs, first_more b (kept own bs))

-- no declarations hide nothing
pub none_hidden : (bs : List Decl) → hidden_bindings [] bs ≡ []
none_hidden [] = refl
none_hidden (b ∷ bs) = none_hidden bs

-- ---- one more declaration
module _ (xs : List Decl) (d : Decl) where
  abbrev all : List Decl
  all = xs ++ d ∷ []

  pub declares_more : (p : List ℕ) → is_some (declared_uri all p) ≡ cond (bytes_eq d.prefix p) true (is_some (declared_uri xs p))
  declares_more p = ap is_some (declared-append xs (d ∷ []) p) ∙ by (bytes_eq d.prefix p)
    where
      by : (b : Bool) → is_some (option_or (option_or None (cond b (Some d.uri) None)) (declared_uri xs p)) ≡ cond b true (is_some (declared_uri xs p))
      by true = refl
      by false = refl

  -- one more binding, by whether all declarations hide it, the others do, and the one does
  abbrev Adds : Decl → List Decl → Bool → Bool → Bool → Type 0
  Adds b bs t s e =
      decls_len (cond t (b ∷ hidden_bindings all bs) (hidden_bindings all bs))
      ≡ decls_len (cond s (b ∷ hidden_bindings xs bs) (hidden_bindings xs bs)) + decls_len (cond e (b ∷ bindings_of_prefix d.prefix bs) (bindings_of_prefix d.prefix bs))

  -- for a prefix that isn't declared before
  pub hides_more : is_some (declared_uri xs d.prefix) ≡ false → (bs : List Decl) → decls_len (hidden_bindings all bs) ≡ decls_len (hidden_bindings xs bs) + decls_len (bindings_of_prefix d.prefix bs)
  hides_more new [] = refl
  hides_more new (b ∷ bs) =
      subst (λ (t : Bool). Adds b bs t (is_some (declared_uri xs b.prefix)) (bytes_eq d.prefix b.prefix)) (sym (declares_more b.prefix))
      (by (bytes_eq d.prefix b.prefix) (is_some (declared_uri xs b.prefix))
      (λ same. ap (λ (q : List ℕ). is_some (declared_uri xs q)) (sym ((bytes_decides d.prefix b.prefix).0 same)) ∙ new)
      (hides_more new bs))
    where
      by : (e s : Bool) → (e ≡ true → s ≡ false) → decls_len (hidden_bindings all bs) ≡ decls_len (hidden_bindings xs bs) + decls_len (bindings_of_prefix d.prefix bs) → Adds b bs (cond e true s) s e
      by true true apart rest = let both = apart refl in cc
      by true false apart rest = omega (arith, first_more b (hidden_bindings all bs), first_more b (bindings_of_prefix d.prefix bs))
      by false true apart rest = omega (arith, first_more b (hidden_bindings all bs), first_more b (hidden_bindings xs bs))
      by false false apart rest = rest

  -- for a prefix that is
  pub hides_same : is_some (declared_uri xs d.prefix) ≡ true → (bs : List Decl) → hidden_bindings all bs ≡ hidden_bindings xs bs
  hides_same seen [] = refl
  hides_same seen (b ∷ bs) =
      let first = declares_more b.prefix ∙ by (bytes_eq d.prefix b.prefix) refl in
      let rest = hides_same seen bs in
      λ i. cond (first i) (b ∷ rest i) (rest i)
    where
      by : (e : Bool) → bytes_eq d.prefix b.prefix ≡ e → cond e true (is_some (declared_uri xs b.prefix)) ≡ is_some (declared_uri xs b.prefix)
      by true same = sym (ap (λ (q : List ℕ). is_some (declared_uri xs q)) (sym ((bytes_decides d.prefix b.prefix).0 same)) ∙ seen)
      by false same = refl

-- ---- the prefixes seen so far

-- the order of borrowed prefixes
abbrev pub by_prefix : Bor (List ℕ) → Bor (List ℕ) → Ordering
by_prefix x y = order x.now y.now

-- a prefix, borrowed from anywhere
abbrev pub lent : List ℕ → Bor (List ℕ)
lent p = record { ref_ptr = (0, 0); now = p }

-- a set holds exactly the prefixes of these declarations
abbrev pub HasSeen : List Decl → BTreeSet (Bor (List ℕ)) → Type 0
HasSeen ds seen = (k : Bor (List ℕ)) → contains by_prefix seen k ≡ is_some (declared_uri ds k.now)

pub none_seen : (seen : BTreeSet (Bor (List ℕ))) → IsEmpty seen → HasSeen [] seen
none_seen seen empty k = ap (list_any (is_at (by_prefix k))) empty

pub seen_more : (xs : List Decl) (d : Decl) (old new : BTreeSet (Bor (List ℕ))) → HasSeen xs old → Updates by_prefix old new (lent d.prefix) true → HasSeen (xs ++ d ∷ []) new
seen_more xs d old new before up k =
    let same = sym (texts_ties d.prefix k.now) in
    up.0 k ∙ (λ i. cond (same i) true (before k i)) ∙ sym (declares_more xs d k.now)

-- whether a prefix was new shows whether it was declared before
pub was_new : (new before declares : Bool) → new ≡ not before → before ≡ declares → new ≡ true → declares ≡ false
was_new new true declares is same h = let both : false ≡ true = sym is ∙ h in cc
was_new new false declares is same h = sym same

pub was_not_new : (new before declares : Bool) → new ≡ not before → before ≡ declares → new ≡ false → declares ≡ true
was_not_new new true declares is same h = sym same
was_not_new new false declares is same h = let both : true ≡ false = sym is ∙ h in cc

-- ---- a search for a prefix among bindings in order
module _ (p : List ℕ) where
  -- how a binding compares to the prefix
  abbrev pub to_prefix : Decl → Ordering
  to_prefix x = order x.prefix p

  other : (x : Decl) → (to_prefix x ≡ Equal → ⊥) → bytes_eq p x.prefix ≡ false
  other x apart = unlike p x.prefix (λ e. apart (ap (λ (q : List ℕ). order q p) (sym (order_equal p x.prefix e)) ∙ order_same p))

  passed : (x : Decl) (ds : List Decl) → bytes_eq p x.prefix ≡ false → bindings_of_prefix p (x ∷ ds) ≡ bindings_of_prefix p ds
  passed x ds e = ap (λ (b : Bool). cond b (x ∷ bindings_of_prefix p ds) (bindings_of_prefix p ds)) e

  none_behind : (ds : List Decl) → Behind p ds → bindings_of_prefix p ds ≡ []
  none_behind [] h = refl
  none_behind (x ∷ ds) h = passed x ds (unlike p x.prefix (λ e. let both : Less ≡ Equal = sym h.0 ∙ e in cc)) ∙ none_behind ds h.1

  behind_at : (q : List ℕ) (ds : List Decl) → Behind q ds → (i : ℕ) (d : Decl) → i < length ds → order q (get_or ds i d).prefix ≡ Less
  behind_at q [] h i d within = absurd (omega (arith, within))
  behind_at q (x ∷ ds) h zero d within = h.0
  behind_at q (x ∷ ds) h (suc i) d within = behind_at q ds h.1 i d (omega (arith, within))

  -- a binding of the prefix is the only one
  pub found : (ds : List Decl) → AreSortedByPrefix ds → (i : ℕ) (d : Decl) → i < length ds → to_prefix (get_or ds i d) ≡ Equal → bindings_of_prefix p ds ≡ get_or ds i d ∷ []
  found [] h i d within is = absurd (omega (arith, within))
  found (x ∷ ds) h zero d within is =
      let same : x.prefix ≡ p = order_equal x.prefix p is in
      ap (λ (b : Bool). cond b (x ∷ bindings_of_prefix p ds) (bindings_of_prefix p ds)) ((bytes_decides p x.prefix).1 (sym same))
      ∙ ap (λ (l : List Decl). x ∷ l) (none_behind ds (subst (λ (q : List ℕ). Behind q ds) same h.0))
  found (x ∷ ds) h (suc i) d within is =
      let same : (get_or ds i d).prefix ≡ p = order_equal (get_or ds i d).prefix p is in
      let less : to_prefix x ≡ Less = ap (order x.prefix) (sym same) ∙ behind_at x.prefix ds h.0 i d (omega (arith, within)) in
      passed x ds (other x (λ e. let both : Less ≡ Equal = sym less ∙ e in cc)) ∙ found ds h.1 i d (omega (arith, within)) is

  missing : (ds : List Decl) → ((k : ℕ) (d : Decl) → k < length ds → to_prefix (get_or ds k d) ≢ Equal) → bindings_of_prefix p ds ≡ []
  missing [] h = refl
  missing (x ∷ ds) h = passed x ds (other x (h 0 x (omega arith))) ∙ missing ds (λ k d within. h (suc k) d (omega (arith, within)))

  rises : (ds : List Decl) → AreSortedByPrefix ds → (k : ℕ) (d : Decl) → k + 1 < length ds → is_lt (order (get_or ds (suc k) d).prefix (get_or ds k d).prefix) ≡ false
  rises [] h k d within = absurd (omega (arith, within))
  rises (x ∷ []) h k d within = absurd (omega (arith, within))
  rises (x ∷ y ∷ ds) h zero d within = ap is_lt (nat_list_cmp_total.antisymm y.prefix x.prefix ∙ ap ordering_reverse h.0.0)
  rises (x ∷ y ∷ ds) h (suc k) d within = rises (y ∷ ds) h.1 k d (omega (arith, within))

  searchable : (ds : List Decl) → AreSortedByPrefix ds → IsNonDecreasingBy (λ x. ordering_index (to_prefix x)) ds
  searchable ds h =
      searchable_from_sorted nat_list_cmp_total (λ (x : Decl). x.prefix) ds p
      (λ k d low within. subst (λ (j : ℕ). is_lt (order (get_or ds j d).prefix (get_or ds k d).prefix) ≡ false) (sym (add-one k)) (rises ds h k d within))

  side : (k i : ℕ) → (k < i) ⊎ (i ≤ k)
  side k i = grind arith

  -- a search that ends between the lesser and the greater ones found none
  pub not_found : (ds : List Decl) → AreSortedByPrefix ds → (i : ℕ)
      → (IsNonDecreasingBy (λ x. ordering_index (to_prefix x)) ds → IsPartitionPoint (λ x. to_prefix x ≡ Less) (λ x. to_prefix x ≡ Greater) ds i) → bindings_of_prefix p ds ≡ []
  not_found ds h i parts = missing ds (λ k d short is.
      let halves = parts (searchable ds h) in
      elim (side k i) [
        | inl before ↦ let both : Less ≡ Equal = sym (halves.0 k d (omega arith) before) ∙ is in cc
        | inr behind ↦ let both : Greater ≡ Equal = sym (halves.1 k d behind short) ∙ is in cc
      ])

-- ---- a service with its own declarations: its length and the length of the root's bindings add
-- up

-- the sum in numbers: the service has these bytes beside its declarations, and these of the
-- root's bindings are kept
module _ (bare kept hides declares : ℕ) (printed around whole hid : ℕ) (printed_is : printed ≡ min (bare + declares) most) (around_is : around ≡ min (hides + kept) most) (sum : whole ≡ min (printed + around) most) (fits : whole ≡ most → ⊥)
    (hid_is : hid ≡ min hides most) where
  first_off : hid ≤ whole
  first_off = omega arith

  then_off : (own : ℕ) → own ≡ min declares most → own ≤ whole - hid
  then_off own is = omega arith

  put_on : (own inner binds shown result : ℕ) → own ≡ min declares most → inner ≡ min binds most → shown ≡ bare + (kept + binds) → result ≡ min ((whole - hid - own) + inner) most → result ≡ min shown most
  put_on own inner binds shown result own_is inner_is whole_is is = omega arith

module _ (root : List Decl) (e : Tree) (own bs : List Decl) (printed around whole hid : ℕ) (own_is : own ≡ e.decls) (bs_is : bs ≡ in_scope_bindings (root ∷ [])) (printed_is : printed ≡ min (byte_len (print e)) most)
    (around_is : around ≡ min (decls_len (in_scope_bindings (root ∷ []))) most) (sum : whole ≡ min (printed + around) most) (fits : whole ≡ most → ⊥) (hid_is : hid ≡ min (decls_len (hidden_bindings own bs)) most) where
  capped : {a b : ℕ} → a ≡ b → min a most ≡ min b most
  capped same = ap (λ (n : ℕ). min n most) same

  with_own : printed ≡ min (byte_len (print (tree_of e.name [] e.attrs e.content)) + decls_len e.decls) most
  with_own = printed_is ∙ capped (with_decls e.name e.decls e.attrs e.content)

  with_kept : around ≡ min (decls_len (hidden_bindings e.decls (in_scope_bindings (root ∷ []))) + decls_len (kept e.decls (in_scope_bindings (root ∷ [])))) most
  with_kept = around_is ∙ capped (shared e.decls (in_scope_bindings (root ∷ [])))

  hid_of : hid ≡ min (decls_len (hidden_bindings e.decls (in_scope_bindings (root ∷ [])))) most
  hid_of = hid_is ∙ (λ i. min (decls_len (hidden_bindings (own_is i) (bs_is i))) most)

  own_of : (len : ℕ) → len ≡ min (decls_len own) most → len ≡ min (decls_len e.decls) most
  own_of len is = is ∙ capped (ap decls_len own_is)

  pub hid_within : hid ≤ whole
  hid_within = first_off _ _ _ _ printed around whole hid with_own with_kept sum fits hid_of

  pub own_within : (len : ℕ) → len ≡ min (decls_len own) most → len ≤ whole - hid
  own_within len is = then_off _ _ _ _ printed around whole hid with_own with_kept sum fits hid_of len (own_of len is)

  pub shown_len : (len inner result : ℕ) (binds : List Decl) → len ≡ min (decls_len own) most → inner ≡ min (decls_len binds) most → binds ≡ in_scope_bindings (e.decls ∷ [])
      → result ≡ min ((whole - hid - len) + inner) most → result ≡ min (byte_len (print (listed_service (root ∷ []) e))) most
  shown_len len inner result binds len_is inner_is is made =
      put_on _ _ _ _ printed around whole hid with_own with_kept sum fits hid_of len inner _ _ result (own_of len len_is) (inner_is ∙ capped (ap decls_len is)) (own_service root e) made
