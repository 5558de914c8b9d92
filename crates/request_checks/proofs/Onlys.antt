-- A list of one value, and one of none or several; the part before the first `;`.
use Rattle.std.proofs.Common.{◌≡◌, ◌≢◌, ℕ, ◌+◌, ◌==◌, nat_eq, suc, nat_lt, Bool, true, false, not, cond, None, Some, List, [], ◌∷◌, take, length, refl, sym, ap, ◌∙◌, arith}
use Rattle.std.specs.Str.{bytes_eq}
use Rattle.std.specs.List.{slice_split, onto_first, before_first, position, position_or_len}
use Rattle.std.proofs.lemmas.Option.{cond_some, none-some}
use Rattle.std.proofs.lemmas.Bool.{ltb-false}
use Rattle.std.proofs.lemmas.List.{take_all}
use Rattle.httparse.specs.Grammar.{trim_ows}
use Rattle.http_wire.specs.Fields.{same_ignoring_case}
use Rattle.request_checks.specs.MediaTypes.{first_part, essence, is_single_type}
use Rattle.request_checks.specs.Rights.{is_only_value}

pub only_one : (wanted v : List ℕ) (values : List (List ℕ)) → values ≡ v ∷ [] → is_only_value wanted values ≡ bytes_eq v wanted
only_one wanted v values one = ap (is_only_value wanted) one

pub only_other : (wanted : List ℕ) (values : List (List ℕ)) → length values ≢ 1 → is_only_value wanted values ≡ false
only_other wanted [] other = refl
only_other wanted (v ∷ []) other = absurd (other refl)
only_other wanted (v ∷ w ∷ vs) other = refl

pub type_one : (wanted v : List ℕ) (values : List (List ℕ)) → values ≡ v ∷ [] → is_single_type wanted values ≡ same_ignoring_case (essence v) wanted
type_one wanted v values one = ap (is_single_type wanted) one

pub type_other : (wanted : List ℕ) (values : List (List ℕ)) → length values ≢ 1 → is_single_type wanted values ≡ false
type_other wanted [] other = refl
type_other wanted (v ∷ []) other = absurd (other refl)
type_other wanted (v ∷ w ∷ vs) other = refl

-- the first part ends before the first element that passes
first_part-onto : (x : ℕ) (parts : List (List ℕ)) → first_part (onto_first x parts) ≡ x ∷ first_part parts
first_part-onto x [] = refl
first_part-onto x (part ∷ parts) = refl

pub first_part-split : (p : ℕ → Bool) (xs : List ℕ) → first_part (slice_split p xs) ≡ before_first p xs
first_part-split p [] = refl
first_part-split p (x ∷ xs) = on (p x) (first_part-split p xs)
  where
    on : (b : Bool) → first_part (slice_split p xs) ≡ before_first p xs
        → first_part (cond b ([] ∷ slice_split p xs) (onto_first x (slice_split p xs))) ≡ take (cond (not b) (1 + position_or_len p xs) 0) (x ∷ xs)
    on true same = refl
    on false same =
        let one_more : suc (position_or_len p xs) ≡ 1 + position_or_len p xs = omega arith in
        first_part-onto x (slice_split p xs) ∙ ap (λ (l : List ℕ). x ∷ l) same ∙ ap (λ (n : ℕ). take n (x ∷ xs)) one_more

pub before_some : (p : ℕ → Bool) (xs : List ℕ) (i : ℕ) → Some i ≡ position p xs → take i xs ≡ before_first p xs
before_some p xs i at = ap (λ (n : ℕ). take n xs) (sym (cond_some (nat_lt (position_or_len p xs) (length xs)) (position_or_len p xs) i (sym at)).1)

pub before_none : (p : ℕ → Bool) (xs : List ℕ) → None ≡ position p xs → xs ≡ before_first p xs
before_none p xs at = on (nat_lt (position_or_len p xs) (length xs)) refl at
  where
    on : (inside : Bool) → nat_lt (position_or_len p xs) (length xs) ≡ inside → None ≡ cond inside (Some (position_or_len p xs)) None → xs ≡ before_first p xs
    on true is none = absurd (none-some _ none)
    on false is none = sym (take_all (position_or_len p xs) xs (ltb-false _ _ is))

pub essence_is : (value : List ℕ) → essence value ≡ trim_ows (before_first (λ b. b == 59) value)
essence_is value = ap trim_ows (first_part-split (λ b. nat_eq b 59) value)
