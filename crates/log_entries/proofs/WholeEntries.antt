-- Which entries lie whole at the front of some bytes.
use Rattle.std.proofs.Common.{◌≡◌, ℕ, zero, suc, ◌+◌, ◌≤◌, List, [], ◌∷◌, ◌++◌, length, drop, Bool, true, false, cond, Option, Some, None, refl, sym, ap, subst, ◌∙◌, append_assoc, arith, length-drop, length-take}
use Rattle.std.specs.List.{AllByRecursion}
use Rattle.std.proofs.lemmas.Bool.{ltb-false}
use Rattle.log_entries.specs.Entries.{Entry, FitsEntryForm, entries_bytes, entry_bytes, entry_of_length, entry_at, stated_body, stated_length, stated_entry, leading_entries, leading_entries_after, with_entry_in_front}
use Rattle.log_entries.proofs.ReadBack.{entry_again}

-- what an entry that was read took
pub record Took (bytes : List ℕ) (x : Entry × List ℕ) : Type 0 where
  pub long : 28 + length x.0.content ≤ length bytes
  pub rest : x.1 ≡ drop (28 + length x.0.content) bytes

chosen : {A : Type 0} (b : Bool) (y z : A) → (cond b None (Some y)) ≡ Some z → (b ≡ false) × (y ≡ z)
chosen true y z e = absurd cc
chosen false y z e = (refl, cc)

not_none : {A : Type 0} (b : Bool) (o : Option A) (z : A) → cond b None o ≡ Some z → (b ≡ false) × (o ≡ Some z)
not_none true o z e = absurd cc
not_none false o z e = (refl, e)

is_chosen : {A : Type 0} (b : Bool) (y z : A) → cond b (Some y) None ≡ Some z → y ≡ z
is_chosen true y z e = cc
is_chosen false y z e = absurd cc

took_stated : (bytes : List ℕ) (n : ℕ) → 28 + n ≤ length bytes → Took bytes (stated_entry bytes n)
took_stated bytes n long =
    let len : length (drop 8 (stated_body bytes n)) ≡ n = omega (arith, length-drop 8 (stated_body bytes n), length-take (8 + n) (drop 20 bytes), length-drop 20 bytes) in
    record { long = omega (arith, len); rest = ap (λ (k : ℕ). drop (28 + k) bytes) (sym len) }

took_length : (mark bytes : List ℕ) (n : ℕ) (x : Entry × List ℕ) → entry_of_length mark bytes n ≡ Some x → Took bytes x
took_length mark bytes n x e =
    let first = not_none _ _ x e in
    subst (Took bytes) (is_chosen _ (stated_entry bytes n) x first.1) (took_stated bytes n (ltb-false _ _ first.0))

pub took : (mark bytes : List ℕ) (x : Entry × List ℕ) → entry_at mark bytes ≡ Some x → Took bytes x
unfolding entry_at
took mark bytes x e =
    let first = not_none _ _ x e in
    let second = not_none _ _ x first.1 in
    took_length mark bytes (stated_length bytes) x second.1

after_drop : (mark bytes : List ℕ) (k : ℕ) → leading_entries_after mark bytes k ≡ leading_entries_after mark (drop k bytes) 0
after_drop mark [] zero = refl
after_drop mark [] (suc k) = refl
after_drop mark (b ∷ bytes) zero = refl
after_drop mark (b ∷ bytes) (suc k) = after_drop mark bytes k

abbrev by_first : List ℕ → ℕ → List ℕ → Option (Entry × List ℕ) → List Entry × List ℕ
by_first mark b bytes o = elim o [ None ↦ ([], b ∷ bytes) | Some x ↦ with_entry_in_front x.0 (leading_entries_after mark bytes (27 + length x.0.content)) ]

pub whole_some : (mark bytes : List ℕ) (e : Entry) (after : List ℕ) → entry_at mark bytes ≡ Some (e, after) → leading_entries mark bytes ≡ with_entry_in_front e (leading_entries mark after)
unfolding leading_entries
whole_some mark [] e after is = absurd (omega (arith, (took mark [] (e, after) is).long))
whole_some mark (b ∷ bytes) e after is =
    let t = took mark (b ∷ bytes) (e, after) is in
    ap (by_first mark b bytes) is
    ∙ ap (with_entry_in_front e) (after_drop mark bytes (27 + length e.content))
    ∙ ap (λ (l : List ℕ). with_entry_in_front e (leading_entries_after mark l 0)) (tail (length e.content) ∙ sym t.rest)
  where
    tail : (n : ℕ) → drop (27 + n) bytes ≡ drop (28 + n) (b ∷ bytes)
    tail n = let same : 28 + n ≡ suc (27 + n) = omega arith in ap (λ (k : ℕ). drop k (b ∷ bytes)) (sym same)

pub whole_none : (mark bytes : List ℕ) → entry_at mark bytes ≡ None → leading_entries mark bytes ≡ ([], bytes)
unfolding leading_entries
whole_none mark [] is = refl
whole_none mark (b ∷ bytes) is = ap (by_first mark b bytes) is

-- the entries that were written, and what is whole after them
pub whole_text : (mark : List ℕ) (es : List Entry) (tail : List ℕ) → length mark ≡ 8 → AllByRecursion FitsEntryForm es
    → leading_entries mark (entries_bytes mark es ++ tail) ≡ (es ++ (leading_entries mark tail).0, (leading_entries mark tail).1)
whole_text mark [] tail marked fit = refl
whole_text mark (e ∷ es) tail marked fit =
    let rest = entries_bytes mark es ++ tail in
    ap (leading_entries mark) (append_assoc (entry_bytes mark e) (entries_bytes mark es) tail)
    ∙ whole_some mark (entry_bytes mark e ++ rest) e rest (entry_again mark marked e fit.0 rest)
    ∙ ap (with_entry_in_front e) (whole_text mark es tail marked fit.1)
