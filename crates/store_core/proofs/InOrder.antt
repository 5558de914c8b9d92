-- Names in order: where no two are equal, the order of insertion doesn't matter.
use Rattle.std.proofs.Common.{◌≡◌, ◌≢◌, ℕ, List, [], ◌∷◌, refl, sym, ap, subst, ◌∙◌}
use Rattle.std.proofs.lemmas.Slice.Eq.{bytes_eq-Decides}
use Rattle.std.specs.BTreeMap.{insert_entry}
use Rattle.std.specs.Cmp.Lexicographic.{nat_list_cmp_total, slice_cmp, texts_ties}
use Rattle.std.specs.List.{AllByRecursion}
use Rattle.std.specs.Ordering.{is_eq, match_ordering, nat_cmp, ordering_reverse}
use Rattle.std.specs.declared.cmp.Ordering.{Ordering}
use Rattle.std.specs.declared.cmp.Ordering.TheVariants.{Less, Equal, Greater}
use Rattle.xml_tree.specs.Tree.{Tree}
use Rattle.store_core.specs.inner.ServiceListing.{with_entries}

abbrev pub Pair : Type 0
Pair = List ℕ × Tree

abbrev pub cmp : List ℕ → List ℕ → Ordering
cmp a b = slice_cmp nat_cmp a b

pub equal-texts : (a b : List ℕ) → cmp a b ≡ Equal → a ≡ b
equal-texts a b h = (bytes_eq-Decides a b).0 (texts_ties a b ∙ ap is_eq h)

-- one more in a list in the order of the names
abbrev pub placed : Pair → List Pair → List Pair
placed d [] = d ∷ []
placed d (e ∷ es) = match_ordering (cmp d.0 e.0) (d ∷ e ∷ es) (d ∷ e ∷ es) (e ∷ placed d es)

-- a list sorted by insertion, one after another; IsSortedByUser (specs/Indexes) says what comes of it
abbrev pub in_order : List Pair → List Pair
in_order [] = []
in_order (d ∷ ds) = placed d (in_order ds)

-- ---- two comparisons

pub turned : (a b : List ℕ) (o : Ordering) → cmp a b ≡ o → cmp b a ≡ ordering_reverse o
turned a b o h = nat_list_cmp_total.antisymm b a ∙ ap ordering_reverse h

-- a is before what b isn't after
before : (a b x : List ℕ) (o : Ordering) → cmp a b ≡ Less → cmp b x ≡ o → o ≢ Greater → cmp a x ≡ Less
before a b x Less h e low = nat_list_cmp_total.trans a b x h e
before a b x Equal h e low = subst (λ (y : List ℕ). cmp a y ≡ Less) (equal-texts b x e) h
before a b x Greater h e low = absurd (low refl)

-- ---- two more in order

abbrev pub put : Ordering → Pair → Pair → List Pair → List Pair → List Pair
put o d x xs placed = match_ordering o (d ∷ x ∷ xs) (d ∷ x ∷ xs) (x ∷ placed)

first : (d x : Pair) (xs : List Pair) → cmp d.0 x.0 ≡ Less → placed d (x ∷ xs) ≡ d ∷ x ∷ xs
first d x xs h = ap (λ (o : Ordering). put o d x xs (placed d xs)) h

further : (d x : Pair) (xs : List Pair) → cmp d.0 x.0 ≡ Greater → placed d (x ∷ xs) ≡ x ∷ placed d xs
further d x xs h = ap (λ (o : Ordering). put o d x xs (placed d xs)) h

module _ (d e : Pair) (less : cmp d.0 e.0 ≡ Less) where
  greater : cmp e.0 d.0 ≡ Greater
  greater = turned d.0 e.0 Less less

  abbrev Swaps : List Pair → Type 0
  Swaps xs = placed d (placed e xs) ≡ placed e (placed d xs)

  -- neither comes after x
  swap-first : (x : Pair) (xs : List Pair) (o : Ordering) → cmp e.0 x.0 ≡ o → o ≢ Greater → put o e x xs (placed e xs) ≡ e ∷ x ∷ xs → placed d (put o e x xs (placed e xs)) ≡ placed e (placed d (x ∷ xs))
  swap-first x xs o h low is =
      ap (placed d) is ∙ first d e (x ∷ xs) less
      ∙ sym (ap (placed e) (first d x xs (before d.0 e.0 x.0 o less h low)) ∙ further e d (x ∷ xs) greater ∙ ap (λ (ys : List Pair). d ∷ ys) (ap (λ (p : Ordering). put p e x xs (placed e xs)) h ∙ is))

  -- only e comes after x, or both do
  swap-further : (x : Pair) (xs : List Pair) (p : Ordering) → cmp e.0 x.0 ≡ Greater → Swaps xs → put p d x (placed e xs) (placed d (placed e xs)) ≡ placed e (put p d x xs (placed d xs))
  swap-further x xs Less h by = sym (further e d (x ∷ xs) greater ∙ ap (λ (ys : List Pair). d ∷ ys) (further e x xs h))
  swap-further x xs Equal h by = sym (further e d (x ∷ xs) greater ∙ ap (λ (ys : List Pair). d ∷ ys) (further e x xs h))
  swap-further x xs Greater h by = ap (λ (ys : List Pair). x ∷ ys) by ∙ sym (further e x (placed d xs) h)

  swap-step : (x : Pair) (xs : List Pair) (o : Ordering) → cmp e.0 x.0 ≡ o → Swaps xs → placed d (put o e x xs (placed e xs)) ≡ placed e (placed d (x ∷ xs))
  swap-step x xs Less h by = swap-first x xs Less h (λ (w : Less ≡ Greater). cc) refl
  swap-step x xs Equal h by = swap-first x xs Equal h (λ (w : Equal ≡ Greater). cc) refl
  swap-step x xs Greater h by = swap-further x xs (cmp d.0 x.0) h by

  swap : (xs : List Pair) → Swaps xs
  swap [] = first d e [] less ∙ sym (further e d [] greater)
  swap (x ∷ xs) = swap-step x xs (cmp e.0 x.0) refl (swap xs)

swaps-step : (d e : Pair) (xs : List Pair) (o : Ordering) → cmp d.0 e.0 ≡ o → o ≢ Equal → placed d (placed e xs) ≡ placed e (placed d xs)
swaps-step d e xs Less h other = swap d e h xs
swaps-step d e xs Equal h other = absurd (other refl)
swaps-step d e xs Greater h other = sym (swap e d (turned d.0 e.0 Greater h) xs)

-- ---- distinct names

abbrev pub Other : Pair → Pair → Type 0
Other x y = cmp x.0 y.0 ≢ Equal

abbrev pub NamesApart : List Pair → Type 0
NamesApart [] = Unit {0}
NamesApart (x ∷ xs) = AllByRecursion (Other x) xs × NamesApart xs

-- another name replaces none
enters-step : (d e : Pair) (es made : List Pair) (o : Ordering) → o ≢ Equal → made ≡ placed d es → match_ordering o (d ∷ e ∷ es) ((e.0, d.1) ∷ es) (e ∷ made) ≡ put o d e es (placed d es)
enters-step d e es made Less other is = refl
enters-step d e es made Equal other is = absurd (other refl)
enters-step d e es made Greater other is = ap (λ (ys : List Pair). e ∷ ys) is

enters : (d : Pair) (es : List Pair) → AllByRecursion (Other d) es → insert_entry cmp es d.0 d.1 ≡ placed d es
enters d [] a = refl
enters d (e ∷ es) a = enters-step d e es (insert_entry cmp es d.0 d.1) (cmp d.0 e.0) a.0 (enters d es a.1)

-- these inserted in order among others, the last first
abbrev onto : List Pair → List Pair → List Pair
onto made [] = made
onto made (d ∷ ds) = placed d (onto made ds)

onto-none : (ds : List Pair) → onto [] ds ≡ in_order ds
onto-none [] = refl
onto-none (d ∷ ds) = ap (placed d) (onto-none ds)

onto-placed : (d : Pair) (made ds : List Pair) → AllByRecursion (Other d) ds → onto (placed d made) ds ≡ placed d (onto made ds)
onto-placed d made [] a = refl
onto-placed d made (e ∷ ds) a = ap (placed e) (onto-placed d made ds a.1) ∙ sym (swaps-step d e (onto made ds) (cmp d.0 e.0) refl a.0)

-- each of these has another name than all of those
abbrev Apart : List Pair → List Pair → Type 0
Apart ds made = AllByRecursion (λ d. AllByRecursion (Other d) made) ds

module _ (P : Pair → Type 0) where
  placed-step : (d e : Pair) (es : List Pair) (o : Ordering) → P d → P e → AllByRecursion P es → AllByRecursion P (placed d es) → AllByRecursion P (put o d e es (placed d es))
  placed-step d e es Less p q a by = (p, (q, a))
  placed-step d e es Equal p q a by = (p, (q, a))
  placed-step d e es Greater p q a by = (q, by)

  pub each-placed : (d : Pair) (es : List Pair) → P d → AllByRecursion P es → AllByRecursion P (placed d es)
  each-placed d [] p a = (p, tt)
  each-placed d (e ∷ es) p a = placed-step d e es (cmp d.0 e.0) p a.0 a.1 (each-placed d es p a.1)

-- distinctness is symmetric
other-turned : (x y : Pair) → Other x y → Other y x
other-turned x y other = λ (h : cmp y.0 x.0 ≡ Equal). other (turned y.0 x.0 Equal h)

apart-placed : (d : Pair) (ds made : List Pair) → AllByRecursion (Other d) ds → Apart ds made → Apart ds (placed d made)
apart-placed d [] made a b = tt
apart-placed d (x ∷ ds) made a b = (each-placed (Other x) d made (other-turned d x a.0) b.0, apart-placed d ds made a.1 b.1)

with_entries-onto : (made ds : List Pair) → NamesApart ds → Apart ds made → with_entries made ds ≡ onto made ds
with_entries-onto made [] n a = refl
with_entries-onto made (d ∷ ds) n a =
    ap (λ (ys : List Pair). with_entries ys ds) (enters d made a.0)
    ∙ with_entries-onto (placed d made) ds n.1 (apart-placed d ds made n.0 a.1)
    ∙ onto-placed d made ds n.0

apart-none : (ds : List Pair) → Apart ds []
apart-none [] = tt
apart-none (d ∷ ds) = (tt, apart-none ds)

pub with_entries-in-order : (ds : List Pair) → NamesApart ds → with_entries [] ds ≡ in_order ds
with_entries-in-order ds n = with_entries-onto [] ds n (apart-none ds) ∙ onto-none ds

pub each-in-order : (P : Pair → Type 0) (ds : List Pair) → AllByRecursion P ds → AllByRecursion P (in_order ds)
each-in-order P [] a = tt
each-in-order P (d ∷ ds) a = each-placed P d (in_order ds) a.0 (each-in-order P ds a.1)
