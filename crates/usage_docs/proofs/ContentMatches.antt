-- Children match the content model of their parent's kind exactly when each may come after the
-- one before it, by their parts.
use Rattle.std.proofs.Common.{◌≡◌, ◌↔◌, ◌⊎◌, ◌<◌, ◌≤◌, ℕ, suc, nat_lt, nat_eq, nat_le, Bool, true, false, not, ◌&&◌, ◌||◌, List, [], ◌∷◌, IsTrue, refl, sym, subst, inl, inr, arith}
use Rattle.std.proofs.lemmas.Bool.Decides.{nat_tests}
use Rattle.std.proofs.lemmas.Bool.{cases_lt}
use Rattle.usage_docs.specs.declared.schema_table.ElementKind.{ElementKind}
use Rattle.usage_docs.specs.declared.schema_table.ElementKind.TheVariants.{ResourceLists, EntryList, Entry, EntryRef, External, DisplayName, RlsServices, Service, ResourceList, Packages, Package}
use Rattle.usage_docs.specs.SchemaTable.{Child, known, foreign, one, opt, any, ends, takes, may_take, takes_none, takes_more, takes_no_more, IsOneOf, content_model_of, items_in, item_children, ModelItem as Item, MatchesModel as Matches}
use Rattle.usage_docs.specs.readers.ContentParts.{part_of_kind, foreign_part, single_parts, needs_first, may_follow, part_of_class, end_part}
use Rattle.usage_docs.proofs.KindTests.{is_in, is_in_exact}

-- children after one of the part `before`, each after the one before it
abbrev pub Chain : ElementKind → ℕ → List Child → Type 0
Chain kind before [] = IsTrue (may_follow kind before end_part)
Chain kind before (x ∷ xs) = IsTrue (may_follow kind before (part_of_class kind x)) × Chain kind (part_of_class kind x) xs

-- ---- tests

and_first : (b d : Bool) → IsTrue (b && d) → IsTrue b
and_first true d h = refl
and_first false d h = cc

and_second : (b d : Bool) → IsTrue (b && d) → IsTrue d
and_second true d h = h
and_second false d h = cc

same : Bool → Bool → Bool
same true d = d
same false d = not d

same_exact : (b d : Bool) → IsTrue (same b d) → IsTrue b ↔ IsTrue d
unfolding same
same_exact true d h = (λ _. h, λ _. refl)
same_exact false true h = cc
same_exact false false h = (λ k. k, λ k. k)

equal : (p q : ℕ) → IsTrue (nat_eq p q) → p ≡ q
equal p q h = grind (arith, nat_tests)

equal_of : (p q : ℕ) → p ≡ q → IsTrue (nat_eq p q)
equal_of p q h = grind (arith, nat_tests)

at_most : (p q : ℕ) → IsTrue (nat_le p q) → p ≤ q
at_most p q h = grind (arith, nat_tests)

below : (p q : ℕ) → IsTrue (nat_lt p q) → p < q
below p q h = grind (arith, nat_tests)

-- ---- what may come after a part

abbrev Later : ElementKind → ℕ → ℕ → Type 0
Later kind before next = (before < next) ⊎ ((before ≡ next) × (single_parts kind < next))

order_to : (before next single : ℕ) (needs : Bool) → IsTrue ((nat_lt before next || (nat_eq before next && nat_lt single next)) && not (needs && nat_eq before 0 && nat_lt 1 next))
    → (before < next) ⊎ ((before ≡ next) × (single < next))
order_to before next single needs h = elim (cases_lt before next) [
  | inl l ↦ inl l
  | inr m ↦ inr (grind (arith, nat_tests), grind (arith, nat_tests))
]

behind_to : (kind : ElementKind) (before next : ℕ) → IsTrue (may_follow kind before next) → Later kind before next
unfolding may_follow
behind_to kind before next h = order_to before next (single_parts kind) (needs_first kind) h

order_from : (before next single : ℕ) (needs : Bool) → 0 < before → (before < next) ⊎ ((before ≡ next) × (single < next))
    → IsTrue ((nat_lt before next || (nat_eq before next && nat_lt single next)) && not (needs && nat_eq before 0 && nat_lt 1 next))
order_from before next single true some (inl l) = grind (arith, nat_tests)
order_from before next single false some (inl l) = grind (arith, nat_tests)
order_from before next single true some (inr (e, l)) = grind (arith, nat_tests)
order_from before next single false some (inr (e, l)) = grind (arith, nat_tests)

behind_from : (kind : ElementKind) (before next : ℕ) → 0 < before → Later kind before next → IsTrue (may_follow kind before next)
unfolding may_follow
behind_from kind before next some h = order_from before next (single_parts kind) (needs_first kind) some h

free_order : (next single : ℕ) (needs : Bool) → needs ≡ false → 0 < next → IsTrue ((nat_lt 0 next || (nat_eq 0 next && nat_lt single next)) && not (needs && nat_eq 0 0 && nat_lt 1 next))
free_order next single true e l = cc
free_order next single false e l = grind (arith, nat_tests)

-- the beginning of a kind whose first part is optional
begins_free : (kind : ElementKind) (next : ℕ) → needs_first kind ≡ false → 0 < next → IsTrue (may_follow kind 0 next)
unfolding may_follow
begins_free kind next e l = free_order next (single_parts kind) (needs_first kind) e l

needed_order : (next single : ℕ) (needs : Bool) → needs ≡ true → IsTrue ((nat_lt 0 next || (nat_eq 0 next && nat_lt single next)) && not (needs && nat_eq 0 0 && nat_lt 1 next)) ↔ (next ≡ 1)
needed_order next single false e = cc
needed_order next single true e = (λ h. grind (arith, nat_tests), λ h. grind (arith, nat_tests))

-- the beginning of a kind whose first part is required
begins_needed : (kind : ElementKind) (next : ℕ) → needs_first kind ≡ true → IsTrue (may_follow kind 0 next) ↔ (next ≡ 1)
unfolding may_follow
begins_needed kind next e = needed_order next (single_parts kind) (needs_first kind) e

-- ---- optional items

next_or_later : (j p : ℕ) → j < p → (suc j ≡ p) ⊎ (suc j < p)
next_or_later j p l = elim (cases_lt (suc j) p) [ inl m ↦ inr m | inr m ↦ inl (omega (arith, l, m)) ]

module _ (kind : ElementKind) where
  -- these are the children of the part after the first j
  abbrev Taken : ℕ → List Child → Type 0
  Taken j ys = (x : Child) → IsOneOf ys x ↔ (part_of_class kind x ≡ suc j)

  -- items after the first j of a kind
  abbrev Fits : ℕ → List Item → Type 0
  Fits j [] = (x : Child) → part_of_class kind x ≤ j
  Fits j (one ys ∷ items) = ⊥
  Fits j (opt ys ∷ items) = Taken j ys × (suc j ≤ single_parts kind) × Fits (suc j) items
  Fits j (any ys ∷ items) = Taken j ys × (single_parts kind ≤ j) × Fits (suc j) items

  -- children of later parts than the first j, each after the one before it
  abbrev From : ℕ → List Child → Type 0
  From j [] = Unit {0}
  From j (x ∷ xs) = (j < part_of_class kind x) × Chain kind (part_of_class kind x) xs

  sooner : (j : ℕ) (xs : List Child) → From (suc j) xs → From j xs
  sooner j [] f = tt
  sooner j (x ∷ xs) f = (omega (arith, f.0), f.1)

  strictly : (j p : ℕ) → suc j ≤ single_parts kind → Later kind (suc j) p → suc j < p
  strictly j p s (inl l) = l
  strictly j p s (inr (e, l)) = omega (arith, s, e, l)

  -- a part that takes at most one child is not repeated
  behind_one_to : (j : ℕ) → suc j ≤ single_parts kind → (xs : List Child) → Chain kind (suc j) xs → From (suc j) xs
  behind_one_to j s [] c = tt
  behind_one_to j s (x ∷ xs) c = (strictly j (part_of_class kind x) s (behind_to kind (suc j) (part_of_class kind x) c.0), c.1)

  behind_one_from : (j : ℕ) → suc j < end_part → (xs : List Child) → From (suc j) xs → Chain kind (suc j) xs
  behind_one_from j less [] f = behind_from kind (suc j) end_part (omega arith) (inl less)
  behind_one_from j less (x ∷ xs) f = (behind_from kind (suc j) (part_of_class kind x) (omega arith) (inl f.0), f.1)

  above : (j p : ℕ) → Later kind (suc j) p → j < p
  above j p (inl l) = omega (arith, l)
  above j p (inr (e, l)) = omega (arith, e)

  again : (j p : ℕ) → single_parts kind ≤ j → j < p → Later kind (suc j) p
  again j p s l = elim (next_or_later j p l) [ inl e ↦ inr (e, omega (arith, s, l)) | inr m ↦ inl m ]

  -- another part is
  behind_any_to : (j : ℕ) → (xs : List Child) → Chain kind (suc j) xs → From j xs
  behind_any_to j [] c = tt
  behind_any_to j (x ∷ xs) c = (above j (part_of_class kind x) (behind_to kind (suc j) (part_of_class kind x) c.0), c.1)

  behind_any_from : (j : ℕ) → single_parts kind ≤ j → suc j < end_part → (xs : List Child) → From j xs → Chain kind (suc j) xs
  behind_any_from j s less [] f = behind_from kind (suc j) end_part (omega arith) (inl less)
  behind_any_from j s less (x ∷ xs) f = (behind_from kind (suc j) (part_of_class kind x) (omega arith) (again j (part_of_class kind x) s f.0), f.1)

  moved : (xs : List Child) (p q : ℕ) → p ≡ q → Chain kind p xs → Chain kind q xs
  moved xs p q e c = subst (λ (n : ℕ). Chain kind n xs) e c

  module _ (low : (x : Child) → part_of_class kind x < end_part) where
    less_than_end : (j : ℕ) (x : Child) → part_of_class kind x ≡ suc j → suc j < end_part
    less_than_end j x e = omega (arith, low x, e)

    matches_to : (items : List Item) (xs : List Child) → Matches items xs → (j : ℕ) → Fits j items → From j xs
    matches_to items xs ends j f = tt
    matches_to items xs (takes h m) j f = absurd f
    matches_to items xs (may_take {ys = ys} {items = rest} {x = x} {xs = others} h m) j f =
        let e = (f.0 x).0 h in
        (omega (arith, e), moved others (suc j) (part_of_class kind x) (sym e) (behind_one_from j (less_than_end j x e) others (matches_to rest others m (suc j) f.2)))
    matches_to items xs (takes_none {items = rest} {xs = others} m) j f = sooner j others (matches_to rest others m (suc j) f.2)
    matches_to items xs (takes_more {ys = ys} {items = rest} {x = x} {xs = others} h m) j f =
        let e = (f.0 x).0 h in
        (omega (arith, e), moved others (suc j) (part_of_class kind x) (sym e) (behind_any_from j f.1 (less_than_end j x e) others (matches_to (any ys ∷ rest) others m j f)))
    matches_to items xs (takes_no_more {items = rest} {xs = others} m) j f = sooner j others (matches_to rest others m (suc j) f.2)

    opt_from : (ys : List Child) (items : List Item) (j : ℕ) → Fits j (opt ys ∷ items) → ((zs : List Child) → From (suc j) zs → Matches items zs) → (xs : List Child) → From j xs → Matches (opt ys ∷ items) xs
    opt_from ys items j f rest [] c = takes_none (rest [] tt)
    opt_from ys items j f rest (x ∷ xs) c =
        elim (next_or_later j (part_of_class kind x) c.0) [
          | inl e ↦ may_take ((f.0 x).1 (sym e)) (rest xs (behind_one_to j f.1 xs (moved xs (part_of_class kind x) (suc j) (sym e) c.1)))
          | inr l ↦ takes_none (rest (x ∷ xs) (l, c.1))
        ]

    any_from : (ys : List Child) (items : List Item) (j : ℕ) → Fits j (any ys ∷ items) → ((zs : List Child) → From (suc j) zs → Matches items zs) → (xs : List Child) → From j xs → Matches (any ys ∷ items) xs
    any_from ys items j f rest [] c = takes_no_more (rest [] tt)
    any_from ys items j f rest (x ∷ xs) c =
        elim (next_or_later j (part_of_class kind x) c.0) [
          | inl e ↦ takes_more ((f.0 x).1 (sym e)) (any_from ys items j f rest xs (behind_any_to j xs (moved xs (part_of_class kind x) (suc j) (sym e) c.1)))
          | inr l ↦ takes_no_more (rest (x ∷ xs) (l, c.1))
        ]

    matches_from : (items : List Item) (j : ℕ) → Fits j items → (xs : List Child) → From j xs → Matches items xs
    matches_from [] j f [] c = ends
    matches_from [] j f (x ∷ xs) c = absurd (omega (arith, f x, c.0))
    matches_from (one ys ∷ items) j f xs c = absurd f
    matches_from (opt ys ∷ items) j f xs c = opt_from ys items j f (λ zs d. matches_from items (suc j) f.2 zs d) xs c
    matches_from (any ys ∷ items) j f xs c = any_from ys items j f (λ zs d. matches_from items (suc j) f.2 zs d) xs c

    -- a kind whose first part is optional
    from_beginning : (xs : List Child) → Chain kind 0 xs → From 0 xs
    from_beginning [] c = tt
    from_beginning (x ∷ xs) c = (positive (part_of_class kind x) (behind_to kind 0 (part_of_class kind x) c.0), c.1) where
      positive : (p : ℕ) → Later kind 0 p → 0 < p
      positive p (inl l) = l
      positive p (inr (e, l)) = omega (arith, l)

    to_beginning : needs_first kind ≡ false → (xs : List Child) → From 0 xs → Chain kind 0 xs
    to_beginning free [] f = begins_free kind end_part free (omega arith)
    to_beginning free (x ∷ xs) f = (begins_free kind (part_of_class kind x) free f.0, f.1)

    free_row : needs_first kind ≡ false → (items : List Item) → Fits 0 items → (xs : List Child) → Chain kind 0 xs ↔ Matches items xs
    free_row free items f xs = (λ c. matches_from items 0 f xs (from_beginning xs c), λ m. to_beginning free xs (matches_to items xs m 0 f))

    -- a kind whose first part is required
    needed_to : needs_first kind ≡ true → (ys : List Child) (items : List Item) → Taken 0 ys → 1 ≤ single_parts kind → Fits 1 items → (xs : List Child) → Chain kind 0 xs → Matches (one ys ∷ items) xs
    needed_to needs ys items t s f [] c = let e : end_part ≡ 1 = (begins_needed kind end_part needs).0 c in absurd (omega (arith, e))
    needed_to needs ys items t s f (x ∷ xs) c =
        let e = (begins_needed kind (part_of_class kind x) needs).0 c.0 in
        takes ((t x).1 e) (matches_from items 1 f xs (behind_one_to 0 s xs (moved xs (part_of_class kind x) 1 e c.1)))

    needed_from : needs_first kind ≡ true → (ys : List Child) (items : List Item) → Taken 0 ys → Fits 1 items → (xs : List Child) → Matches (one ys ∷ items) xs → Chain kind 0 xs
    needed_from needs ys items t f xs (takes {x = x} {xs = others} h m) =
        let e = (t x).0 h in
        ((begins_needed kind (part_of_class kind x) needs).1 e, moved others 1 (part_of_class kind x) (sym e) (behind_one_from 0 (omega arith) others (matches_to items others m 1 f)))

-- ---- the kinds of the table

-- a child of this part is taken by the item of that number alone
agree : ℕ → List Item → ℕ → Child → Bool
agree j [] p x = nat_le p j
agree j (item ∷ items) p x = same (nat_eq p (suc j)) (is_in (item_children item) x) && agree (suc j) items p x

-- the items that take at most one child are the first ones, and none is required
free : ℕ → List Item → ℕ → Bool
free j [] single = true
free j (one ys ∷ items) single = false
free j (opt ys ∷ items) single = nat_le (suc j) single && free (suc j) items single
free j (any ys ∷ items) single = nat_le single j && free (suc j) items single

is_placed : ElementKind → Child → Bool
is_placed kind x = nat_lt (part_of_class kind x) end_part && agree 0 (items_in (content_model_of kind)) (part_of_class kind x) x

placed : (kind : ElementKind) (x : Child) → IsTrue (is_placed kind x)
unfolding is_placed agree same content_model_of part_of_kind foreign_part
placed ResourceLists (known ResourceLists) = refl
placed EntryList (known ResourceLists) = refl
placed Entry (known ResourceLists) = refl
placed EntryRef (known ResourceLists) = refl
placed External (known ResourceLists) = refl
placed DisplayName (known ResourceLists) = refl
placed RlsServices (known ResourceLists) = refl
placed Service (known ResourceLists) = refl
placed ResourceList (known ResourceLists) = refl
placed Packages (known ResourceLists) = refl
placed Package (known ResourceLists) = refl
placed _ _ = refl

low : (kind : ElementKind) (x : Child) → part_of_class kind x < end_part
unfolding is_placed
low kind x = below (part_of_class kind x) end_part (and_first _ _ (placed kind x))

agreed : (kind : ElementKind) (x : Child) → IsTrue (agree 0 (items_in (content_model_of kind)) (part_of_class kind x) x)
unfolding is_placed
agreed kind x = and_second _ _ (placed kind x)

taken : (p j : ℕ) (ys : List Child) (x : Child) → IsTrue (same (nat_eq p (suc j)) (is_in ys x)) → IsOneOf ys x ↔ (p ≡ suc j)
taken p j ys x h =
    let both = same_exact (nat_eq p (suc j)) (is_in ys x) h in
    (λ i. equal p (suc j) (both.1 ((is_in_exact ys x).1 i)), λ e. (is_in_exact ys x).0 (both.0 (equal_of p (suc j) e)))

fits : (kind : ElementKind) (items : List Item) (j : ℕ) → ((x : Child) → IsTrue (agree j items (part_of_class kind x) x)) → IsTrue (free j items (single_parts kind)) → Fits kind j items
unfolding agree free
fits kind [] j a s = λ x. at_most (part_of_class kind x) j (a x)
fits kind (one ys ∷ items) j a s = cc
fits kind (opt ys ∷ items) j a s = (
  λ x. taken (part_of_class kind x) j ys x (and_first _ _ (a x)),
  at_most (suc j) (single_parts kind) (and_first _ _ s),
  fits kind items (suc j) (λ x. and_second _ _ (a x)) (and_second _ _ s),
)
fits kind (any ys ∷ items) j a s = (
  λ x. taken (part_of_class kind x) j ys x (and_first _ _ (a x)),
  at_most (single_parts kind) j (and_first _ _ s),
  fits kind items (suc j) (λ x. and_second _ _ (a x)) (and_second _ _ s),
)

matched_free : (kind : ElementKind) → needs_first kind ≡ false → IsTrue (free 0 (items_in (content_model_of kind)) (single_parts kind)) → (xs : List Child) → Chain kind 0 xs ↔ Matches (items_in (content_model_of kind)) xs
matched_free kind first s xs = free_row kind (low kind) first (items_in (content_model_of kind)) (fits kind (items_in (content_model_of kind)) 0 (agreed kind) s) xs

matched_needed : (kind : ElementKind) (ys : List Child) (items : List Item) → items_in (content_model_of kind) ≡ one ys ∷ items → needs_first kind ≡ true → 1 ≤ single_parts kind → IsTrue (free 1 items (single_parts kind)) → (xs : List Child)
    → Chain kind 0 xs ↔ Matches (items_in (content_model_of kind)) xs
unfolding agree
matched_needed kind ys items is needs s rest xs =
    let a : (x : Child) → IsTrue (agree 0 (one ys ∷ items) (part_of_class kind x) x) = λ x. subst (λ (l : List Item). IsTrue (agree 0 l (part_of_class kind x) x)) is (agreed kind x) in
    let t : Taken kind 0 ys = λ x. taken (part_of_class kind x) 0 ys x (and_first _ _ (a x)) in
    let f : Fits kind 1 items = fits kind items 1 (λ x. and_second _ _ (a x)) rest in (
      λ c. subst (λ (l : List Item). Matches l xs) (sym is) (needed_to kind (low kind) needs ys items t s f xs c),
      λ m. needed_from kind (low kind) needs ys items t f xs (subst (λ (l : List Item). Matches l xs) is m),
    )

pub matched : (kind : ElementKind) (xs : List Child) → Chain kind 0 xs ↔ Matches (items_in (content_model_of kind)) xs
unfolding content_model_of needs_first single_parts free
matched Service xs = matched_needed Service (known ResourceList ∷ known EntryList ∷ []) (opt (known Packages ∷ []) ∷ any (foreign ∷ []) ∷ []) refl refl (omega arith) refl xs
matched ResourceLists xs = matched_free ResourceLists refl refl xs
matched kind xs = matched_free kind refl refl xs
