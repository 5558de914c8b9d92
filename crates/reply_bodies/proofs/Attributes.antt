-- The first attribute that passes is at the first index that passes.
use Rattle.std.proofs.Common.{◌≡◌, ℕ, Bool, true, false, cond, List, length, Option, Some, None, sym, ap, ◌∙◌}
use Rattle.std.specs.Prelude.{nat_lt}
use Rattle.std.specs.List.{find, position, position_or_len, slice_get}
use Rattle.std.specs.Borrow.{Bor}
use Rattle.std.specs.Option.{option_copied}
use Rattle.std.specs.Slice.{IsItemAt}
use Rattle.std.proofs.lemmas.Bool.{ltb-false}
use Rattle.std.proofs.lemmas.List.Folds.{find_at}
use Rattle.std.proofs.lemmas.Option.{slice_get-get_or, slice_get_past}

place_is : (b : Bool) (n i : ℕ) → cond b (Some n) None ≡ Some i → n ≡ i
place_is true n i h = cc
place_is false n i h = cc

no_place : (b : Bool) (n : ℕ) → cond b (Some n) None ≡ None → b ≡ false
no_place true n h = cc
no_place false n h = cc

pub found_place : {A : Type 0} (p : A → Bool) (xs : List A) (i : ℕ) → position p xs ≡ Some i → find p xs ≡ slice_get xs i
found_place p xs i h = find_at p xs ∙ ap (slice_get xs) (place_is (nat_lt (position_or_len p xs) (length xs)) (position_or_len p xs) i h)

pub no_found_place : {A : Type 0} (p : A → Bool) (xs : List A) → position p xs ≡ None → find p xs ≡ None
no_found_place p xs h =
    let n = position_or_len p xs in
    find_at p xs ∙ slice_get_past xs n (ltb-false n (length xs) (no_place (nat_lt n (length xs)) n h))

-- what `get` borrows
pub item_is : {A : Type 0} (xs : List A) (i : ℕ) (r : Option (Bor A)) → IsItemAt xs i r → option_copied r ≡ slice_get xs i
item_is xs i None h = sym (slice_get_past xs i h.3)
item_is xs i (Some x) h = ap Some h.1 ∙ sym (slice_get-get_or xs i x.now h.3.0)
