-- Lists with an item inserted, replaced or removed: the item at each place, and how many before
-- it pass a test.
use Rattle.std.proofs.Common.{◌≡◌, ℕ, zero, suc, ◌+◌, ◌<◌, ◌≤◌, Bool, false, cond, List, [], ◌∷◌, length, take, set, refl, sym, ap, ◌∙◌, Some, slice_get, insert, remove, count_by, IsTrue, arith}
use Rattle.std.proofs.lemmas.List.Sums.{sum_by-cons}
use Rattle.std.proofs.lemmas.Option.{same_Some}

pub get-insert_before : {A : Type 0} (xs : List A) (gap : ℕ) (e : A) (i : ℕ) → gap ≤ length xs → i < gap → slice_get (insert xs gap e) i ≡ slice_get xs i
get-insert_before xs zero e i le lt = absurd (omega arith)
get-insert_before [] (suc gap) e i le lt = absurd (omega arith)
get-insert_before (x ∷ xs) (suc gap) e zero le lt = refl
get-insert_before (x ∷ xs) (suc gap) e (suc i) le lt = get-insert_before xs gap e i (omega arith) (omega arith)

pub get-insert_at : {A : Type 0} (xs : List A) (gap : ℕ) (e : A) → gap ≤ length xs → slice_get (insert xs gap e) gap ≡ Some e
get-insert_at xs zero e le = refl
get-insert_at [] (suc gap) e le = absurd (omega arith)
get-insert_at (x ∷ xs) (suc gap) e le = get-insert_at xs gap e (omega arith)

pub get-insert_behind : {A : Type 0} (xs : List A) (gap : ℕ) (e : A) (i : ℕ) → gap ≤ length xs → gap ≤ i → slice_get (insert xs gap e) (suc i) ≡ slice_get xs i
get-insert_behind xs zero e i le from = refl
get-insert_behind [] (suc gap) e i le from = absurd (omega arith)
get-insert_behind (x ∷ xs) (suc gap) e zero le from = absurd (omega arith)
get-insert_behind (x ∷ xs) (suc gap) e (suc i) le from = get-insert_behind xs gap e i (omega arith) (omega arith)

pub take-insert_before : {A : Type 0} (xs : List A) (gap : ℕ) (e : A) (i : ℕ) → gap ≤ length xs → i ≤ gap → take i (insert xs gap e) ≡ take i xs
take-insert_before xs gap e zero le upto = refl
take-insert_before xs zero e (suc i) le upto = absurd (omega arith)
take-insert_before [] (suc gap) e (suc i) le upto = absurd (omega arith)
take-insert_before (x ∷ xs) (suc gap) e (suc i) le upto = ap (λ l. x ∷ l) (take-insert_before xs gap e i (omega arith) (omega arith))

-- one more item is one more in the count if it passes
pub count-cons : {A : Type 0} (p : A → Bool) (x : A) (xs : List A) → count_by p (x ∷ xs) ≡ cond (p x) 1 0 + count_by p xs
count-cons p x xs = sum_by-cons (λ y. cond (p y) 1 0) x xs

pub count-insert_behind : {A : Type 0} (p : A → Bool) (xs : List A) (gap : ℕ) (e : A) (i : ℕ) → gap ≤ length xs → gap ≤ i → count_by p (take (suc i) (insert xs gap e)) ≡ count_by p (take i xs) + cond (p e) 1 0
count-insert_behind p xs zero e i le from = omega (arith, count-cons p e (take i xs))
count-insert_behind p [] (suc gap) e i le from = absurd (omega arith)
count-insert_behind p (x ∷ xs) (suc gap) e zero le from = absurd (omega arith)
count-insert_behind p (x ∷ xs) (suc gap) e (suc i) le from =
    omega (arith, count-insert_behind p xs gap e i (omega arith) (omega arith), count-cons p x (take (suc i) (insert xs gap e)), count-cons p x (take i xs))

-- the count is no smaller before a later place
pub count_up_to : {A : Type 0} (p : A → Bool) (xs : List A) (i j : ℕ) → i ≤ j → count_by p (take i xs) ≤ count_by p (take j xs)
count_up_to p xs zero j le = omega arith
count_up_to p [] (suc i) zero le = absurd (omega arith)
count_up_to p [] (suc i) (suc j) le = omega arith
count_up_to p (x ∷ xs) (suc i) zero le = absurd (omega arith)
count_up_to p (x ∷ xs) (suc i) (suc j) le = omega (arith, count_up_to p xs i j (omega arith), count-cons p x (take i xs), count-cons p x (take j xs))

pub one_more : {A : Type 0} (p : A → Bool) (x : A) → IsTrue (p x) → 1 ≤ cond (p x) 1 0
one_more p x passes = rw passes (omega arith)

pub no_more : {A : Type 0} (p : A → Bool) (x : A) → p x ≡ false → ◌≡◌ {A = ℕ} (cond (p x) 1 0) 0
no_more p x fails = let choice : Bool → ℕ = λ b. cond b 1 0 in ap choice fails

-- and it is greater, if an item between passes
pub count_past : {A : Type 0} (p : A → Bool) (xs : List A) (i j : ℕ) (y : A) → slice_get xs i ≡ Some y → IsTrue (p y) → i < j → count_by p (take i xs) < count_by p (take j xs)
count_past p [] i j y there passes lt = cc
count_past p (x ∷ xs) i zero y there passes lt = absurd (omega arith)
count_past p (x ∷ xs) zero (suc j) y there passes lt = omega (arith, one_more p x (ap p (same_Some x y there) ∙ passes), count-cons p x (take j xs))
count_past p (x ∷ xs) (suc i) (suc j) y there passes lt =
    omega (arith, count_past p xs i j y there passes (omega arith), count-cons p x (take i xs), count-cons p x (take j xs))

-- where none between passes, the counts are equal
pub count_same : {A : Type 0} (p : A → Bool) (xs : List A) (i j : ℕ) → i ≤ j → ((k : ℕ) (y : A) → i ≤ k → k < j → slice_get xs k ≡ Some y → p y ≡ false) → count_by p (take i xs) ≡ count_by p (take j xs)
count_same p [] zero zero le none = refl
count_same p [] zero (suc j) le none = refl
count_same p [] (suc i) zero le none = refl
count_same p [] (suc i) (suc j) le none = refl
count_same p (x ∷ xs) zero zero le none = refl
count_same p (x ∷ xs) zero (suc j) le none =
    omega (arith, no_more p x (none 0 x (omega arith) (omega arith) refl), count-cons p x (take j xs), count_same p xs 0 j (omega arith) (λ k y from lt. none (suc k) y (omega arith) (omega arith)))
count_same p (x ∷ xs) (suc i) zero le none = absurd (omega arith)
count_same p (x ∷ xs) (suc i) (suc j) le none =
    omega (arith, count-cons p x (take i xs), count-cons p x (take j xs), count_same p xs i j (omega arith) (λ k y from lt. none (suc k) y (omega arith) (omega arith)))

-- removing undoes inserting
pub insert-remove : {A : Type 0} (xs : List A) (j : ℕ) (x : A) → slice_get xs j ≡ Some x → insert (remove xs j) j x ≡ xs
insert-remove [] j x there = cc
insert-remove (y ∷ xs) zero x there = ap (λ z. z ∷ xs) (sym (same_Some y x there))
insert-remove (y ∷ xs) (suc j) x there = ap (λ l. y ∷ l) (insert-remove xs j x there)

pub length_removed : {A : Type 0} (xs : List A) (j : ℕ) (x : A) → slice_get xs j ≡ Some x → j ≤ length (remove xs j)
length_removed [] j x there = cc
length_removed (y ∷ xs) zero x there = omega arith
length_removed (y ∷ xs) (suc j) x there = let n = length_removed xs j x there in omega arith

-- replacing is inserting where another item was removed
pub insert-remove_other : {A : Type 0} (xs : List A) (j : ℕ) (x e : A) → slice_get xs j ≡ Some x → insert (remove xs j) j e ≡ set xs j e
insert-remove_other [] j x e there = cc
insert-remove_other (y ∷ xs) zero x e there = refl
insert-remove_other (y ∷ xs) (suc j) x e there = ap (λ l. y ∷ l) (insert-remove_other xs j x e there)

pub set-insert : {A : Type 0} (xs : List A) (gap : ℕ) (e : A) → gap ≤ length xs → set (insert xs gap e) gap e ≡ insert xs gap e
set-insert xs zero e le = refl
set-insert [] (suc gap) e le = absurd (omega arith)
set-insert (x ∷ xs) (suc gap) e le = ap (λ l. x ∷ l) (set-insert xs gap e (omega arith))
