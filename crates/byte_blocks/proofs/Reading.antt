-- A block is read again, and only what begins with a block is read as one.
use Rattle.std.proofs.Common.{◌≡◌, ℕ, zero, suc, ◌^◌, ◌+◌, ◌<◌, ◌≤◌, List, [], ◌∷◌, ◌++◌, length, take, drop, Bool, true, false, cond, Option, Some, None, refl, sym, ap, ◌∙◌, append_assoc, arith, length-take}
use Rattle.std.proofs.Math.ListN.{get_or}
use Rattle.std.specs.Int.{w32, to_be_bytes}
use Rattle.std.proofs.lemmas.Bool.{le-ltb, ltb-false}
use Rattle.std.proofs.lemmas.List.{take_at, drop_at, length-append, take-append-drop}
use Rattle.std.proofs.lemmas.Nat.{from_be_bytes-to_be_bytes_4, be_bytes_4}
use Rattle.byte_blocks.specs.Blocks.{AreBytes, block, block_at, split_at, stated_length}

some_of : {A : Type 0} (b : Bool) (y z : A) → cond b None (Some y) ≡ Some z → (b ≡ false) × (y ≡ z)
some_of true y z e = absurd cc
some_of false y z e = (refl, cc)

chosen : {A : Type 0} (b : Bool) (o : Option A) (z : A) → cond b None o ≡ Some z → (b ≡ false) × (o ≡ Some z)
chosen true o z e = absurd cc
chosen false o z e = (refl, e)

pub block_length : (bytes : List ℕ) → length (block bytes) ≡ 4 + length bytes
unfolding block
block_length bytes = omega (arith, length-append (to_be_bytes w32 (length bytes)) bytes)

pub read_back : (bytes rest : List ℕ) → length bytes < 2 ^ 32 → block_at (block bytes ++ rest) ≡ Some (bytes, rest)
unfolding block block_at
read_back bytes rest short =
    rw (
      le-ltb (length (block bytes ++ rest)) 4 (omega (arith, length-append (to_be_bytes w32 (length bytes)) (bytes ++ rest))),
      from_be_bytes-to_be_bytes_4 (length bytes) short,
      le-ltb (length (bytes ++ rest)) (length bytes) (omega (arith, length-append bytes rest)),
      take_at bytes rest (length bytes) refl,
      drop_at bytes rest (length bytes) refl,
    ) refl

first_four : (bytes : List ℕ) → AreBytes bytes → (i : ℕ) → get_or (take 4 bytes) i 0 < 256
first_four bytes are i = first 4 bytes are i
  where
    first : (n : ℕ) (bytes : List ℕ) → AreBytes bytes → (i : ℕ) → get_or (take n bytes) i 0 < 256
    first zero bytes are i = omega arith
    first (suc n) [] are i = omega arith
    first (suc n) (b ∷ bytes) are zero = are.0
    first (suc n) (b ∷ bytes) are (suc i) = first n bytes are.1 i

module _ (all bytes rest : List ℕ) (is : block_at all ≡ Some (bytes, rest)) where
  abbrev stated : ℕ
  stated = stated_length all

  abbrev behind : List ℕ
  behind = drop 4 all

  long : 4 ≤ length all
  unfolding block_at
  long = ltb-false _ _ (chosen _ (split_at stated behind) (bytes, rest) is).0

  second : split_at stated behind ≡ Some (bytes, rest)
  unfolding block_at
  second = (chosen _ (split_at stated behind) (bytes, rest) is).1

  parts : ◌≡◌ {A = List ℕ × List ℕ} (take stated behind, drop stated behind) (bytes, rest)
  parts = (some_of _ (take stated behind, drop stated behind) (bytes, rest) second).1

  enough : stated ≤ length behind
  enough = ltb-false _ _ (some_of _ (take stated behind, drop stated behind) (bytes, rest) second).0

  first_part : take stated behind ≡ bytes
  first_part = ap (λ (p : List ℕ × List ℕ). p.0) parts

  second_part : drop stated behind ≡ rest
  second_part = ap (λ (p : List ℕ × List ℕ). p.1) parts

  len : length bytes ≡ stated
  len = ap (λ (l : List ℕ). length l) (sym first_part) ∙ omega (arith, length-take stated behind, enough)

  pub one_form : AreBytes all → all ≡ block bytes ++ rest
  unfolding block
  one_form are =
      sym (take-append-drop 4 all)
      ∙ ap (λ (l : List ℕ). l ++ drop 4 all) (sym (be_bytes_4 (take 4 all) (length bytes) (omega (arith, length-take 4 all, long)) (first_four all are) len))
      ∙ ap (λ (l : List ℕ). to_be_bytes w32 (length bytes) ++ l) (sym (take-append-drop stated behind) ∙ ap (λ (l : List ℕ). l ++ drop stated behind) first_part ∙ ap (λ (l : List ℕ). bytes ++ l) second_part)
      ∙ sym (append_assoc (to_be_bytes w32 (length bytes)) bytes rest)

  pub short : AreBytes all → length bytes < 2 ^ 32
  short are =
      let byte : (i : ℕ) → get_or (take 4 all) i 0 < 256 = first_four all are in
      omega (arith, len, byte 0, byte 1, byte 2, byte 3)
