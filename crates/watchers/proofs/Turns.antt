-- Watchers notified in turn of one change.
use Rattle.std.proofs.Common.{◌≡◌, ℕ, ◌+◌, ◌<◌, ◌≤◌, List, [], ◌∷◌, ◌++◌, take, drop, length, get_or, set, remove, Option, inl, inr, refl, ap, sym, subst, ◌∙◌, arith}
use Rattle.std.proofs.lemmas.Grind.{common_steps}
use Rattle.edit_ops.specs.declared.edit.Edit.{Edit}
use Rattle.watchers.specs.Notifications.{HasKeptChange, HasLeftAt, AreNotified}
use Rattle.watchers.specs.WatcherStates.{WatcherState}
use Rattle.watchers.specs.inner.Notifications.{AreNotifiedUpTo}

-- ---- the item at an index, and the lists before and after it

module _ {B : Type 0} where
  from_here : (xs : List B) (i : ℕ) (d : B) → i < length xs → drop i xs ≡ get_or xs i d ∷ drop (i + 1) xs
  from_here xs i d lt = grind (arith, common_steps)

  up_to_written : (xs : List B) (i : ℕ) (b : B) (ys : List B) → i < length xs → take (i + 1) (set xs i b) ++ ys ≡ take i xs ++ b ∷ ys
  up_to_written xs i b ys lt = grind (arith, common_steps)

  behind_written : (xs : List B) (i : ℕ) (b : B) → i < length xs → drop (i + 1) (set xs i b) ≡ drop (i + 1) xs
  behind_written xs i b lt = grind (arith, common_steps)

  behind_removed : (xs : List B) (i : ℕ) → i < length xs → drop i (remove xs i) ≡ drop (i + 1) xs
  behind_removed xs i lt = grind (arith, common_steps)

  removed_written : (xs : List B) (i : ℕ) (b : B) → i < length xs → remove (set xs i b) i ≡ remove xs i
  removed_written xs i b lt = grind (arith, common_steps)

  up_to_removed : (xs : List B) (i : ℕ) → i < length xs → take i (remove xs i) ≡ take i xs
  up_to_removed xs i lt = grind (arith, common_steps)

-- ---- the loop that notifies them

module _ {B : Type 0} (state : B → WatcherState) (edit : Edit) where
  abbrev Tells : List B → List B → ℕ → Type 0
  Tells = AreNotified state edit

  abbrev SoFar : List B → List B → ℕ → ℕ → Type 0
  SoFar = AreNotifiedUpTo state edit

  abbrev Keeps : B → B → Type 0
  Keeps = HasKeptChange state edit

  abbrev Leaves : B → B → Type 0
  Leaves = HasLeftAt state edit

  pub one_kept : (old now : List B) (i left : ℕ) (d b : B) → i < length now → d ≡ get_or now i d → Keeps d b → SoFar old now i left → SoFar old (set now i b) (i + 1) left
  one_kept old now i left d b lt is_at kept so_far = record {
    within = grind (arith, common_steps);
    count = let c = so_far.count in grind (arith, common_steps);
    goes_on = λ new k h.
        let rest = subst (λ ds. Tells ds new k) (behind_written now i b lt) h in
        let step = subst (λ ds. Tells ds (b ∷ new) k) (sym (from_here now i d lt)) (inl (b, new, refl, subst (λ o. Keeps o b) is_at kept, rest)) in
        subst (λ ns. Tells old ns (left + k)) (sym (up_to_written now i b new lt)) (so_far.goes_on (b ∷ new) k step);
  }

  pub one_left : (old now : List B) (i left : ℕ) (d b : B) (after : List B) → i < length now → d ≡ get_or now i d → Leaves d b → after ≡ remove (set now i b) i
      → SoFar old now i left → SoFar old after i (left + 1)
  one_left old now i left d b after lt is_at gone removed so_far =
      subst (λ ns. SoFar old ns i (left + 1)) (sym (removed ∙ removed_written now i b lt)) (record {
        within = let w = so_far.within in grind (arith, common_steps);
        count = let c = so_far.count in grind (arith, common_steps);
        goes_on = λ new k h.
            let rest = subst (λ ds. Tells ds new k) (behind_removed now i lt) h in
            let step = subst (λ ds. Tells ds new (k + 1)) (sym (from_here now i d lt)) (inr (b, k, refl, subst (λ o. Leaves o b) is_at gone, rest)) in
            let e : left + (k + 1) ≡ left + 1 + k = omega arith in
            subst (λ ns. Tells old ns (left + 1 + k)) (ap (λ ts. ts ++ new) (sym (up_to_removed now i lt))) (subst (Tells old (take i now ++ new)) e (so_far.goes_on new (k + 1) step));
      })

  pub all_told : (old now : List B) (i left : ℕ) → length now ≤ i → SoFar old now i left → Tells old now left
  all_told old now i left end so_far =
      let none : drop i now ≡ [] = grind (arith, common_steps) in
      let all : take i now ++ [] ≡ now = grind (arith, common_steps) in
      let e : left + 0 ≡ left = omega arith in
      subst (λ ns. Tells old ns left) all (subst (Tells old (take i now ++ [])) e (so_far.goes_on [] 0 (subst (λ ds. Tells ds [] 0) (sym none) (refl, refl))))
