-- Sorted keys: between two equal ones there are equal neighbours.
use Rattle.std.proofs.Common.{◌≡◌, ◌≤◌, ◌<◌, ◌+◌, ◌-◌, ◌⊎◌, ℕ, zero, suc, Bool, true, false, cond, leb, List, [], ◌∷◌, length, get_or, Option, None, Some, slice_get, option_and_then, IsTrue, refl, sym, ap, ap₂, ◌∙◌, subst, inl, inr, arith}
use Rattle.std.specs.Prelude.{◌&&◌}
use Rattle.std.specs.List.{All, Contains}
use Rattle.std.specs.List.Sorted.{IsPermutation, IsSorted}
use Rattle.std.specs.Str.{bytes_eq}
use Rattle.std.specs.Cmp.{IsTotalOrder, tied_then}
use Rattle.std.specs.Cmp.Lexicographic.{slice_cmp, texts_ties, bytes_decides}
use Rattle.std.specs.declared.cmp.Ordering.{Ordering}
use Rattle.std.specs.declared.cmp.Ordering.TheVariants.{Less, Equal, Greater}
use Rattle.std.specs.Ordering.{MatchOrdering, is_eq, is_lt, nat_cmp, ordering_reverse, ordering_then}
use Rattle.std.proofs.lemmas.Bool.{cases_lt}
use Rattle.std.proofs.lemmas.Bool.Decides.{nat_tests}
use Rattle.std.proofs.lemmas.Cmp.{nat_cmp_total, nat_list_cmp_total, on_total, ranked, then_total, tied_itself}
use Rattle.std.proofs.lemmas.List.{get_or_default}
use Rattle.std.proofs.lemmas.List.Elements.{All-nil, All-push, Contains-append_left, Contains-push}
use Rattle.std.proofs.lemmas.List.Sorted.{All-permutation, Contains-permutation, ranks_by, sorted_far}
use Rattle.std.proofs.lemmas.Option.{same_Some}
use Rattle.xml_tree.specs.Tree.{Tree}
use Rattle.usage_docs.specs.contracts.key_repeats.KeyedChildOrd.TheImpl.{cmp-value}
use Rattle.usage_docs.specs.contracts.schema_table.ElementKindOrd.TheImpl as kinds
use Rattle.usage_docs.specs.declared.key_repeats.KeyedChild.{KeyedChild}
use Rattle.usage_docs.specs.declared.schema_table.Key.{Key}
use Rattle.usage_docs.specs.declared.schema_table.ElementKind.{ElementKind}
use Rattle.usage_docs.specs.UniqueKeys.{SiblingKey, RepeatsKey, sibling_key, sibling_key_at, sibling_key_of}
use Rattle.usage_docs.specs.KeyAttributes.{key_of}
use Rattle.usage_docs.specs.SchemaTable.{Scope}
use Rattle.usage_docs.specs.readers.KeyRepeats.{EntersKey, HoldsKeys, IsFirstRepeat, IsLeastPair, IsRepeatPair, earlier_child, entry_sibling_key}
use Rattle.usage_docs.proofs.KindOrder.{kinds_total, kind_tie, kind_same}
use Rattle.usage_docs.proofs.ClashLemmas.{mark_parts, mark_within, no_key}

-- ---- the order of marks and of keys

abbrev mark_cmp : KeyedChild → KeyedChild → Ordering
mark_cmp a b = ordering_then (kinds.cmp-value.it a.kind b.kind) (slice_cmp nat_cmp a.value.now b.value.now)

marks_total : IsTotalOrder mark_cmp
marks_total = then_total (on_total (λ (k : KeyedChild). k.kind) kinds_total) (on_total (λ (k : KeyedChild). k.value.now) nat_list_cmp_total)

-- keys are sorted by their marks, and then by their children
abbrev keyed_cmp : KeyedChild → KeyedChild → Ordering
keyed_cmp a b = ordering_then (kinds.cmp-value.it a.kind b.kind) (ordering_then (slice_cmp nat_cmp a.value.now b.value.now) (nat_cmp a.child b.child))

keyed_is : (a b : KeyedChild) → cmp-value.it a b ≡ keyed_cmp a b
keyed_is a b = refl

keys_total : IsTotalOrder keyed_cmp
keys_total = then_total (on_total (λ (k : KeyedChild). k.kind) kinds_total) (then_total (on_total (λ (k : KeyedChild). k.value.now) nat_list_cmp_total) (on_total (λ (k : KeyedChild). k.child) nat_cmp_total))

-- ---- three sorted keys, of which the outer two have the same mark

-- a key that isn't before another doesn't have a lesser mark
not_lesser : (k v i : Ordering) → is_lt (ordering_then k (ordering_then v i)) ≡ false → is_lt (ordering_then k v) ≡ false
not_lesser Less v i h = cc
not_lesser Equal Less i h = cc
not_lesser Equal Equal i h = refl
not_lesser Equal Greater i h = refl
not_lesser Greater v i h = refl

-- nor, if it has the same mark, a lesser number
tied_lesser : (k v i : Ordering) → ordering_then k v ≡ Equal → is_lt (ordering_then k (ordering_then v i)) ≡ false → is_lt i ≡ false
tied_lesser Less v i e h = cc
tied_lesser Equal Less i e h = cc
tied_lesser Equal Equal i e h = h
tied_lesser Equal Greater i e h = cc
tied_lesser Greater v i e h = cc

not_less_by : (m n : ℕ) (o : Ordering) → MatchOrdering o (m < n) (m ≡ n) (n < m) → is_lt o ≡ false → n ≤ m
not_less_by m n Less less h = cc
not_less_by m n Equal same h = omega (arith, same)
not_less_by m n Greater greater h = omega (arith, greater)

not_less_number : (m n : ℕ) → is_lt (nat_cmp m n) ≡ false → n ≤ m
not_less_number m n h = not_less_by m n (nat_cmp m n) (ranked m n (nat_cmp m n) refl) h

-- neither is less, so they are equal
neither_less : (o : Ordering) → is_lt o ≡ false → is_lt (ordering_reverse o) ≡ false → o ≡ Equal
neither_less Less h g = cc
neither_less Equal h g = refl
neither_less Greater h g = cc

both_true : (a b : Bool) → IsTrue (a && b) → IsTrue a × IsTrue b
both_true true true h = (refl, refl)
both_true true false h = cc
both_true false b h = cc

tie_is : (a b : KeyedChild) → is_eq (mark_cmp a b) ≡ (is_eq (kinds.cmp-value.it a.kind b.kind) && bytes_eq a.value.now b.value.now)
tie_is a b =
    sym (tied_then (kinds.cmp-value.it a.kind b.kind) (slice_cmp nat_cmp a.value.now b.value.now))
    ∙ ap (λ (t : Bool). is_eq (kinds.cmp-value.it a.kind b.kind) && t) (sym (texts_ties a.value.now b.value.now))

-- marks that compare as equal are the same
tied_marks : (a b : KeyedChild) → mark_cmp a b ≡ Equal → entry_sibling_key a ≡ entry_sibling_key b
tied_marks a b e =
    let t = both_true _ _ (sym (tie_is a b) ∙ ap is_eq e) in
    ap₂ sibling_key (kind_tie a.kind b.kind t.0) ((bytes_decides a.value.now b.value.now).0 t.1)

same_marks : (a b : KeyedChild) → entry_sibling_key a ≡ entry_sibling_key b → mark_cmp a b ≡ Equal
same_marks a b e =
    ap₂ (λ (k : ElementKind) (v : List ℕ). ordering_then (kinds.cmp-value.it a.kind k) (slice_cmp nat_cmp a.value.now v)) (ap (λ (m : SiblingKey). m.kind) (sym e)) (ap (λ (m : SiblingKey). m.value) (sym e))
    ∙ ap₂ ordering_then (kind_same a.kind) (tied_itself nat_list_cmp_total a.value.now)

module _ (a x b : KeyedChild) (same : entry_sibling_key a ≡ entry_sibling_key b) (first : is_lt (keyed_cmp x a) ≡ false) (second : is_lt (keyed_cmp b x) ≡ false) where
  between_tie : mark_cmp a x ≡ Equal
  between_tie =
      let low = not_lesser (kinds.cmp-value.it x.kind a.kind) (slice_cmp nat_cmp x.value.now a.value.now) (nat_cmp x.child a.child) first in
      let high = not_lesser (kinds.cmp-value.it b.kind x.kind) (slice_cmp nat_cmp b.value.now x.value.now) (nat_cmp b.child x.child) second in
      neither_less (mark_cmp a x)
      (ap is_lt (marks_total.congr a b x (same_marks a b same)) ∙ high)
      (ap is_lt (sym (marks_total.antisymm x a)) ∙ low)

  -- then the one in the middle has the mark, too
  between_mark : entry_sibling_key a ≡ entry_sibling_key x
  between_mark = tied_marks a x between_tie

  -- and isn't later than the last
  between_child : x.child ≤ b.child
  between_child =
      not_less_number b.child x.child (tied_lesser (kinds.cmp-value.it b.kind x.kind) (slice_cmp nat_cmp b.value.now x.value.now) (nat_cmp b.child x.child) (same_marks b x (sym same ∙ between_mark)) second)

-- ---- two keys of one mark in a sorted list

gap_between : (p q : ℕ) → p < q → (n : ℕ) × (p + suc n ≡ q)
gap_between p q less = (q - p - 1, omega (arith, less))

-- a pair of neighbours of which the second is this child
abbrev HasNeighbours : List KeyedChild → ℕ → Type 0
HasNeighbours keys i = (s : ℕ) × ((0 < s) × (s < length keys) × ((d : KeyedChild) → IsRepeatPair (get_or keys (s - 1) d) (get_or keys s d) × ((get_or keys s d).child ≡ i)))

module _ (keys : List KeyedChild) (sorted : IsSorted keyed_cmp keys) where
  in_order : (p q : ℕ) (d : KeyedChild) → p ≤ q → q < length keys → is_lt (keyed_cmp (get_or keys q d) (get_or keys p d)) ≡ false
  in_order = sorted_far (λ (x y : KeyedChild). is_lt (keyed_cmp x y)) (ranks_by keys_total (λ (k : KeyedChild). k)) keys sorted

  -- what holds of two keys with one default holds with any
  pair_anywhere : (s i : ℕ) (d : KeyedChild) → 0 < s → s < length keys → IsRepeatPair (get_or keys (s - 1) d) (get_or keys s d) → (get_or keys s d).child ≡ i → HasNeighbours keys i
  pair_anywhere s i d pos lt pair is = (
    s,
    (
      pos,
      lt,
      λ e.
          (let one = get_or_default keys (s - 1) d e (omega arith) in
          let other = get_or_default keys s d e lt in
          (subst (λ (x : KeyedChild). IsRepeatPair x (get_or keys s e)) one (subst (λ (y : KeyedChild). IsRepeatPair (get_or keys (s - 1) d) y) other pair), ap (λ (k : KeyedChild). k.child) (sym other) ∙ is)),
    ),
  )

  -- between one key and a later equal one there is a pair of neighbours, whose second child is the
  -- later one's
  neighbours : (n p i : ℕ) (d : KeyedChild) → p + suc n < length keys → entry_sibling_key (get_or keys p d) ≡ entry_sibling_key (get_or keys (p + suc n) d) → (get_or keys p d).child < i → (get_or keys (p + suc n) d).child ≡ i → HasNeighbours keys i
  neighbours zero p i d lt same less is =
      let at : p + suc zero ≡ suc p = omega arith in
      let one : suc p - 1 ≡ p = omega arith in
      pair_anywhere (suc p) i d (omega arith) (omega (arith, lt))
      (subst (λ (j : ℕ). IsRepeatPair (get_or keys j d) (get_or keys (suc p) d)) (sym one)
      (same ∙ ap (λ (j : ℕ). entry_sibling_key (get_or keys j d)) at, subst (λ (j : ℕ). (get_or keys p d).child < j) (sym is ∙ ap (λ (j : ℕ). (get_or keys j d).child) at) less))
      (ap (λ (j : ℕ). (get_or keys j d).child) (sym at) ∙ is)
  neighbours (suc n) p i d lt same less is =
      let at : p + suc (suc n) ≡ suc p + suc n = omega arith in
      let x = get_or keys (suc p) d in
      let a = get_or keys p d in
      let b = get_or keys (p + suc (suc n)) d in
      let first = in_order p (suc p) d (omega arith) (omega (arith, lt)) in
      let second = in_order (suc p) (p + suc (suc n)) d (omega arith) lt in
      let mark_is = between_mark a x b same first second in
      let upto : x.child ≤ i = subst (λ (j : ℕ). x.child ≤ j) is (between_child a x b same first second) in
      elim (cases_lt x.child i) [
        | inl before ↦ neighbours n (suc p) i d (subst (λ (j : ℕ). j < length keys) at lt) (sym mark_is ∙ same ∙ ap (λ (j : ℕ). entry_sibling_key (get_or keys j d)) at) before (ap (λ (j : ℕ). (get_or keys j d).child) (sym at) ∙ is)
        | inr reached ↦ (let here : x.child ≡ i = omega arith in
            let one : suc p - 1 ≡ p = omega arith in
            pair_anywhere (suc p) i d (omega arith) (omega (arith, lt)) (subst (λ (j : ℕ). IsRepeatPair (get_or keys j d) x) (sym one) (mark_is, subst (λ (j : ℕ). a.child < j) (sym here) less)) here)
      ]

  -- the neighbours for two keys that the list contains
  contained : (one other : KeyedChild) (i : ℕ) → Contains keys one → Contains keys other → entry_sibling_key one ≡ entry_sibling_key other → one.child < other.child → other.child ≡ i → HasNeighbours keys i
  contained one other i (p, p_in, p_is) (q, q_in, q_is) same less is =
      let a : get_or keys p other ≡ one = get_or_default keys p other one p_in ∙ p_is in
      elim (cases_lt p q) [
        | inl before ↦ (let gap = gap_between p q before in
            let b : get_or keys (p + suc gap.0) other ≡ other = ap (λ (j : ℕ). get_or keys j other) gap.1 ∙ q_is in
            neighbours gap.0 p i other (subst (λ (j : ℕ). j < length keys) (sym gap.1) q_in)
            (ap entry_sibling_key a ∙ same ∙ ap entry_sibling_key (sym b))
            (subst (λ (k : KeyedChild). k.child < i) (sym a) (subst (λ (j : ℕ). one.child < j) is less))
            (ap (λ (k : KeyedChild). k.child) b ∙ is))
        | inr behind ↦ (let order : is_lt (keyed_cmp one other) ≡ false = subst (λ (k : KeyedChild). is_lt (keyed_cmp k other) ≡ false) a (subst (λ (k : KeyedChild). is_lt (keyed_cmp (get_or keys p other) k) ≡ false) q_is (in_order q p other behind p_in)) in
            let upto : other.child ≤ one.child = not_less_number one.child other.child (tied_lesser (kinds.cmp-value.it one.kind other.kind) (slice_cmp nat_cmp one.value.now other.value.now) (nat_cmp one.child other.child) (same_marks one other same) order) in
            absurd (omega (arith, upto, less)))
      ]

-- ---- the first pair

abbrev earlier_second : KeyedChild → ℕ × ElementKind
earlier_second k = (k.child, k.kind)

pub no_pair_yet : (keys : List KeyedChild) → IsLeastPair keys 1 None
no_pair_yet keys s d pos lt pair = absurd (omega (arith, pos, lt))

module _ (keys : List KeyedChild) (at : ℕ) (x y : KeyedChild) (pos : 0 < at) (lt : at < length keys) (x_is : x ≡ get_or keys (at - 1) x) (y_is : y ≡ get_or keys at y) where
  second_is : (d : KeyedChild) → get_or keys at d ≡ y
  second_is d = get_or_default keys at d y lt ∙ sym y_is

  first_is : (d : KeyedChild) → get_or keys (at - 1) d ≡ x
  first_is d = get_or_default keys (at - 1) d x (omega arith) ∙ sym x_is

  pair_here : (d : KeyedChild) → IsRepeatPair x y → IsRepeatPair (get_or keys (at - 1) d) (get_or keys at d)
  pair_here d pair = subst (λ (k : KeyedChild). IsRepeatPair k (get_or keys at d)) (sym (first_is d)) (subst (λ (k : KeyedChild). IsRepeatPair x k) (sym (second_is d)) pair)

  pair_back : (d : KeyedChild) → IsRepeatPair (get_or keys (at - 1) d) (get_or keys at d) → IsRepeatPair x y
  pair_back d pair = subst (λ (k : KeyedChild). IsRepeatPair k y) (first_is d) (subst (λ (k : KeyedChild). IsRepeatPair (get_or keys (at - 1) d) k) (second_is d) pair)

  -- the neighbours before the next one, and before this one
  before_or_here : (s next : ℕ) → next ≡ suc at → s < next → (s < at) ⊎ (s ≡ at)
  before_or_here s next is less = elim (cases_lt s at) [ inl before ↦ inl before | inr reached ↦ inr (omega (arith, is, less, reached)) ]

  -- they are no pair
  pub other_pair : (next : ℕ) (found : Option (ℕ × ElementKind)) → next ≡ suc at → (IsRepeatPair x y → ⊥) → IsLeastPair keys at found → IsLeastPair keys next found
  other_pair next None is no_pair so = λ s d s_pos less pair.
      elim (before_or_here s next is less) [
        | inl before ↦ so s d s_pos before pair
        | inr here ↦ no_pair (pair_back d (subst (λ (j : ℕ). IsRepeatPair (get_or keys (j - 1) d) (get_or keys j d)) here pair))
      ]
  other_pair next (Some least) is no_pair so = (
    so.0,
    λ s d s_pos less pair.
        elim (before_or_here s next is less) [
          | inl before ↦ so.1 s d s_pos before pair
          | inr here ↦ absurd (no_pair (pair_back d (subst (λ (j : ℕ). IsRepeatPair (get_or keys (j - 1) d) (get_or keys j d)) here pair)))
        ],
  )

  -- the second of this pair is the earliest
  here_least : (next : ℕ) → next ≡ suc at → IsRepeatPair x y → ((s : ℕ) (d : KeyedChild) → 0 < s → s < at → IsRepeatPair (get_or keys (s - 1) d) (get_or keys s d) → y.child ≤ (get_or keys s d).child) → IsLeastPair keys next (Some (earlier_second y))
  here_least next is pair least = (
    (at, (pos, lt, λ d. (pair_here d pair, ap (λ (k : KeyedChild). k.child) (second_is d), ap (λ (k : KeyedChild). k.kind) (second_is d)))),
    λ s d s_pos less other.
        elim (before_or_here s next is less) [
          | inl before ↦ least s d s_pos before other
          | inr here ↦ (let e : (get_or keys s d).child ≡ y.child = ap (λ (j : ℕ). (get_or keys j d).child) here ∙ ap (λ (k : KeyedChild). k.child) (second_is d) in omega (arith, e))
        ],
  )

  lesser_of : (next : ℕ) (least : ℕ × ElementKind) (b : Bool) → leb least.0 y.child ≡ b → next ≡ suc at → IsRepeatPair x y → IsLeastPair keys at (Some least) → IsLeastPair keys next (Some (cond b least (earlier_second y)))
  lesser_of next least true test is pair so =
      let upto : least.0 ≤ y.child = grind (arith, nat_tests) in (
        so.0,
        λ s d s_pos less other.
            elim (before_or_here s next is less) [
              | inl before ↦ so.1 s d s_pos before other
              | inr here ↦ (let e : (get_or keys s d).child ≡ y.child = ap (λ (j : ℕ). (get_or keys j d).child) here ∙ ap (λ (k : KeyedChild). k.child) (second_is d) in omega (arith, e, upto))
            ],
      )
  lesser_of next least false test is pair so =
      let beyond : y.child < least.0 = grind (arith, nat_tests) in
      here_least next is pair (λ s d s_pos before other. (let upto = so.1 s d s_pos before other in omega (arith, upto, beyond)))

  pub lesser_pair : (next : ℕ) (found : Option (ℕ × ElementKind)) → next ≡ suc at → IsRepeatPair x y → IsLeastPair keys at found → IsLeastPair keys next (Some (earlier_child (earlier_second y) found))
  lesser_pair next None is pair so = here_least next is pair (λ s d s_pos before other. absurd (so s d s_pos before other))
  lesser_pair next (Some least) is pair so = lesser_of next least (leb least.0 y.child) refl is pair so

-- with all neighbours
pub pairs_end : (keys : List KeyedChild) (at : ℕ) (found : Option (ℕ × ElementKind)) → length keys ≤ at → IsLeastPair keys at found → IsLeastPair keys (length keys) found
pairs_end keys at None end so = λ s d pos less pair. so s d pos (omega (arith, end, less)) pair
pairs_end keys at (Some least) end so = (so.0, λ s d pos less pair. so.1 s d pos (omega (arith, end, less)) pair)

-- ---- the keys of some siblings

module _ (row : ElementKind) (c : Scope) (child_elements : List Tree) where
  pub none_held : HoldsKeys row c child_elements 0 []
  none_held = record { each = All-nil (λ (k : KeyedChild). sibling_key_at row c child_elements k.child ≡ Some (entry_sibling_key k)); all = λ i m lt is. absurd (omega (arith, lt)) }

  held_in_order : (n : ℕ) (keys others : List KeyedChild) → IsPermutation keys others → HoldsKeys row c child_elements n keys → HoldsKeys row c child_elements n others
  held_in_order n keys others moved held = record {
    each = All-permutation (λ (k : KeyedChild). sibling_key_at row c child_elements k.child ≡ Some (entry_sibling_key k)) keys others moved held.each;
    all = λ i m lt is. (let k = held.all i m lt is in (k.0, (Contains-permutation keys others k.0 moved k.1.0, k.1.1, k.1.2)));
  }

  module _ (child_element : Tree) (i next : ℕ) (there : slice_get child_elements i ≡ Some child_element) (is : next ≡ suc i) (old new : List KeyedChild) (held : HoldsKeys row c child_elements i old) where
    mark_there : sibling_key_at row c child_elements i ≡ sibling_key_of row c child_element
    mark_there = ap (option_and_then (sibling_key_of row c)) there

    held_before : ((k : KeyedChild) → Contains old k → Contains new k) → (j : ℕ) (m : SiblingKey) → j < i → sibling_key_at row c child_elements j ≡ Some m → (k : KeyedChild) × (Contains new k × (k.child ≡ j) × (entry_sibling_key k ≡ m))
    held_before more j m less has = let k = held.all j m less has in (k.0, (more k.0 k.1.0, k.1.1, k.1.2))

    entered : (o : Option SiblingKey) → sibling_key_of row c child_element ≡ o → EntersKey o i old new → HoldsKeys row c child_elements next new
    entered None none same = subst (λ (ks : List KeyedChild). HoldsKeys row c child_elements next ks) (sym same) (record {
      each = held.each;
      all = λ j m less has.
          elim (cases_lt j i) [
            | inl before ↦ held.all j m before has
            | inr reached ↦ (let here : j ≡ i = omega (arith, is, less, reached) in
                let e : None ≡ Some m = sym none ∙ sym mark_there ∙ ap (sibling_key_at row c child_elements) (sym here) ∙ has in
                cc)
          ];
    })
    entered (Some m) marked (k, (adds, mark_is, child_is)) =
        let this : sibling_key_at row c child_elements k.child ≡ Some (entry_sibling_key k) = ap (sibling_key_at row c child_elements) child_is ∙ mark_there ∙ marked ∙ ap Some (sym mark_is) in
        record {
          each = subst (λ (ks : List KeyedChild). All (λ (k : KeyedChild). sibling_key_at row c child_elements k.child ≡ Some (entry_sibling_key k)) ks) (sym adds) (All-push (λ (k : KeyedChild). sibling_key_at row c child_elements k.child ≡ Some (entry_sibling_key k)) old k held.each this);
          all = λ j n less has.
              elim (cases_lt j i) [
                | inl before ↦ held_before (λ x in_old. subst (λ (ks : List KeyedChild). Contains ks x) (sym adds) (Contains-append_left old (k ∷ []) x in_old)) j n before has
                | inr reached ↦ (let here : j ≡ i = omega (arith, is, less, reached) in
                    let e : m ≡ n = same_Some m n (sym marked ∙ sym mark_there ∙ ap (sibling_key_at row c child_elements) (sym here) ∙ has) in
                    (k, (subst (λ (ks : List KeyedChild). Contains ks k) (sym adds) (Contains-push old k), child_is ∙ sym here, mark_is ∙ e)))
              ];
        }

    pub held_next : EntersKey (sibling_key_of row c child_element) i old new → HoldsKeys row c child_elements next new
    held_next = entered (sibling_key_of row c child_element) refl

  -- ---- the first repeated key

  module _ (n : ℕ) (keys : List KeyedChild) (sorted : IsSorted keyed_cmp keys) (held : HoldsKeys row c child_elements n keys) (all : (i : ℕ) (m : SiblingKey) → sibling_key_at row c child_elements i ≡ Some m → i < n) where
    repeats_to : (i : ℕ) (key : Key) → RepeatsKey row c child_elements i key → HasNeighbours keys i
    repeats_to i key r =
        let one = held.all r.earlier r.shared (all r.earlier r.shared r.that) r.that in
        let other = held.all i r.shared (all i r.shared r.this) r.this in
        let first = one.1.1 in
        let second = other.1.1 in
        let less = r.comes_first in
        contained keys sorted one.0 other.0 i one.1.0 other.1.0 (one.1.2 ∙ sym other.1.2) (omega (arith, first, second, less)) second

-- an element of a list that isn't empty
some_of : (keys : List KeyedChild) (s : ℕ) → s < length keys → KeyedChild
some_of [] s lt = absurd (omega (arith, lt))
some_of (k ∷ keys) s lt = k

-- a key is entered only where the kind has one
keyless : (row : ElementKind) (c : Scope) (m : SiblingKey) (o : Option Tree) → option_and_then (sibling_key_of row c) o ≡ Some m → key_of m.kind ≡ None → ⊥
keyless row c m None h none = cc
keyless row c m (Some e) h none = let written = (mark_parts row c e m h).by_value in let unwritten : None ≡ Some m.value = sym (no_key m.kind e.attrs none) ∙ written in cc

module _ (row : ElementKind) (c : Scope) (child_elements : List Tree) (given keys : List KeyedChild) (moved : IsPermutation given keys) (ordered : IsSorted cmp-value.it keys) (holds : HoldsKeys row c child_elements (length child_elements) given) where
  sorted : IsSorted keyed_cmp keys
  sorted k d low high = ap is_lt (sym (keyed_is (get_or keys (k + 1) d) (get_or keys k d))) ∙ ordered k d low high

  held : HoldsKeys row c child_elements (length child_elements) keys
  held = held_in_order row c child_elements (length child_elements) given keys moved holds

  repeated : (i : ℕ) (key : Key) → RepeatsKey row c child_elements i key → HasNeighbours keys i
  repeated = repeats_to row c child_elements (length child_elements) keys sorted held (λ i m is. mark_within row c m child_elements i is)

  pub first_none : IsLeastPair keys (length keys) None → IsFirstRepeat row c child_elements None
  first_none none i key r = let pair = repeated i key r in let d = some_of keys pair.0 pair.1.1 in none pair.0 d pair.1.0 pair.1.1 (pair.1.2 d).0

  module _ (least : ℕ × ElementKind) (found : IsLeastPair keys (length keys) (Some least)) where
    abbrev place : ℕ
    place = found.0.0

    any : KeyedChild
    any = some_of keys place found.0.1.1

    abbrev one : KeyedChild
    one = get_or keys (place - 1) any

    abbrev other : KeyedChild
    other = get_or keys place any

    that : sibling_key_at row c child_elements one.child ≡ Some (entry_sibling_key other)
    that = held.each (place - 1) any (let lt = found.0.1.1 in omega (arith, lt)) ∙ ap Some (found.0.1.2 any).0.0

    this : sibling_key_at row c child_elements least.0 ≡ Some (entry_sibling_key other)
    this = ap (sibling_key_at row c child_elements) (sym (found.0.1.2 any).1) ∙ held.each place any found.0.1.1

    pub first_keyless : key_of least.1 ≡ None → ⊥
    first_keyless none = keyless row c (entry_sibling_key other) (slice_get child_elements least.0) this (ap key_of (found.0.1.2 any).2 ∙ none)

    pub first_some : (key : Key) → key_of least.1 ≡ Some key → IsFirstRepeat row c child_elements (Some (record { child = least.0; key = key }))
    first_some key of_kind = (
      record {
        shared = entry_sibling_key other;
        earlier = one.child;
        comes_first = subst (λ (j : ℕ). one.child < j) (found.0.1.2 any).1 (found.0.1.2 any).0.1;
        that = that;
        this = this;
        by_key = ap key_of (found.0.1.2 any).2 ∙ of_kind;
      },
      λ i k r. (let pair = repeated i k r in let d = some_of keys pair.0 pair.1.1 in let upto = found.1 pair.0 d pair.1.0 pair.1.1 (pair.1.2 d).0 in subst (λ (j : ℕ). least.0 ≤ j) (pair.1.2 d).1 upto),
    )
