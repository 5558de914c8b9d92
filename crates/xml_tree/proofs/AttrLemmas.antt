-- The first item that passes a test, by its place.
use Rattle.std.proofs.Common.{◌≡◌, ℕ, zero, suc, ◌<◌, List, [], ◌∷◌, ◌++◌, length, get_or, remove, slice_set, Some, None, Bool, true, false, refl, ap, ◌∙◌, arith, if◌then◌else◌}
use Rattle.std.specs.List.{slice_get, find}
use Rattle.xml_names.specs.Attributes.{change_first, remove_first, change_item}
use Rattle.xml_tree.specs.inner.Attributes.{first_index}

-- what holds for both results of a test
pub tested : {A : Type 0} (p : A → Bool) (x : A) (P : Bool → Type 0) → (p x ≡ true → P true) → (p x ≡ false → P false) → P (p x)
tested p x P pass fail = by (p x) refl
  where
    by : (b : Bool) → p x ≡ b → P b
    by true e = pass e
    by false e = fail e

module _ {A : Type 0} (p : A → Bool) where
  -- the item exists where its place is in the list
  pub find-place : (xs : List A) → first_index p xs < length xs → find p xs ≡ slice_get xs (first_index p xs)
  find-place [] h = absurd (omega arith)
  find-place (x ∷ xs) h =
      tested p x (λ b. (if b then 0 else suc (first_index p xs)) < length (x ∷ xs) → (if b then Some x else find p xs) ≡ slice_get (x ∷ xs) (if b then 0 else suc (first_index p xs)))
      (λ e k. refl) (λ e k. find-place xs (omega arith)) h

  pub find-none : (xs : List A) → (first_index p xs < length xs → ⊥) → find p xs ≡ None
  find-none [] h = refl
  find-none (x ∷ xs) h =
      tested p x (λ b. ((if b then 0 else suc (first_index p xs)) < length (x ∷ xs) → ⊥) → (if b then Some x else find p xs) ≡ None)
      (λ e k. absurd (k (omega arith))) (λ e k. find-none xs (λ l. k (omega arith))) h

  -- the first item is changed at its place
  pub change_first-place : (f : A → A) (d : A) (xs : List A) → first_index p xs < length xs → change_first p f d xs ≡ change_item (first_index p xs) f xs
  change_first-place f d [] h = absurd (omega arith)
  change_first-place f d (x ∷ xs) h =
      tested p x (λ b. (if b then 0 else suc (first_index p xs)) < length (x ∷ xs)
      → (if b then (f x ∷ xs) else (x ∷ change_first p f d xs)) ≡ change_item (if b then 0 else suc (first_index p xs)) f (x ∷ xs))
      (λ e k. refl) (λ e k. ap (λ l. x ∷ l) (change_first-place f d xs (omega arith))) h

  pub change_first-none : (f : A → A) (d : A) (xs : List A) → (first_index p xs < length xs → ⊥) → change_first p f d xs ≡ xs ++ d ∷ []
  change_first-none f d [] h = refl
  change_first-none f d (x ∷ xs) h =
      tested p x (λ b. ((if b then 0 else suc (first_index p xs)) < length (x ∷ xs) → ⊥) → (if b then (f x ∷ xs) else (x ∷ change_first p f d xs)) ≡ x ∷ (xs ++ d ∷ []))
      (λ e k. absurd (k (omega arith))) (λ e k. ap (λ l. x ∷ l) (change_first-none f d xs (λ l. k (omega arith)))) h

  -- the first item is removed at its place
  pub remove_first-place : (xs : List A) → first_index p xs < length xs → remove_first p xs ≡ remove xs (first_index p xs)
  remove_first-place [] h = absurd (omega arith)
  remove_first-place (x ∷ xs) h =
      tested p x (λ b. (if b then 0 else suc (first_index p xs)) < length (x ∷ xs)
      → (if b then xs else (x ∷ remove_first p xs)) ≡ remove (x ∷ xs) (if b then 0 else suc (first_index p xs)))
      (λ e k. refl) (λ e k. ap (λ l. x ∷ l) (remove_first-place xs (omega arith))) h

  pub remove_first-none : (xs : List A) → (first_index p xs < length xs → ⊥) → remove_first p xs ≡ xs
  remove_first-none [] h = refl
  remove_first-none (x ∷ xs) h =
      tested p x (λ b. ((if b then 0 else suc (first_index p xs)) < length (x ∷ xs) → ⊥) → (if b then xs else (x ∷ remove_first p xs)) ≡ x ∷ xs)
      (λ e k. absurd (k (omega arith))) (λ e k. ap (λ l. x ∷ l) (remove_first-none xs (λ l. k (omega arith)))) h

-- an item written at its place
pub set-change_item : {A : Type 0} (i : ℕ) (f : A → A) (xs : List A) (x y : A) → i < length xs → x ≡ get_or xs i x → y ≡ f x → slice_set xs i y ≡ change_item i f xs
set-change_item i f [] x y h is made = refl
set-change_item zero f (z ∷ xs) x y h is made = ap (λ w. w ∷ xs) (made ∙ ap f is)
set-change_item (suc i) f (z ∷ xs) x y h is made = ap (λ l. z ∷ l) (set-change_item i f xs x y (omega arith) is made)

pub ruleset by_place = (find-place, find-none, change_first-place, change_first-none, remove_first-place, remove_first-none)
