-- The plan over the gaps: gap by gap, computed, and with equivalent properties.
use Rattle.std.proofs.Common.{◌≡◌, ℕ, zero, suc, ◌+◌, ◌<◌, inl, inr, ◌↔◌, true, false, Bool, Result, Ok, Err, refl, sym, ap, ◌∙◌, subst, IsTrue, arith, add-one}
use Rattle.std.proofs.lemmas.Bool.{cases_lt}
use Rattle.node_select.specs.InsertionPoints.{IsLastValidGap, IsInsertionPlan, plan_with_gap, plan_with_invalid_gap, insertion_plan}

-- what holds of no gap below n, and not of n, holds of no gap up to n
up_to : (P : ℕ → Type 0) (n : ℕ) → ((k : ℕ) → k < n → P k → ⊥) → (P n → ⊥) → (k : ℕ) → k < n + 1 → P k → ⊥
up_to P n below here k lt p = elim (cases_lt k n) [ inl under ↦ below k under p | inr from ↦ here (let same : k ≡ n = omega arith in subst P same p) ]

first_and_second : (L V : ℕ → Type 0) (n : ℕ) → ((k : ℕ) → k < n → L k → V k → ⊥) → (L n → V n → ⊥) → (k : ℕ) → k < n + 1 → L k → V k → ⊥
first_and_second L V n below here k lt l v = up_to (λ i. L i × V i) n (λ i under p. below i under p.0 p.1) (λ p. here p.0 p.1) k lt (l, v)

not_after : (L V : ℕ → Type 0) (n gap : ℕ) → IsLastValidGap L V n gap → (L n → V n → ⊥) → IsLastValidGap L V (n + 1) gap
not_after L V n gap h here = record {
  within = let lt = h.within in omega arith;
  is_lawful = h.is_lawful;
  is_valid = h.is_valid;
  last = λ k lt l v. elim (cases_lt k n) [ inl under ↦ h.last k under l v | inr from ↦ absurd (let same : k ≡ n = omega arith in here (subst L same l) (subst V same v)) ];
}

-- one more gap, which isn't lawful
skipped : {E : Type 0} (unlawful invalid : E) (L V : ℕ → Type 0) (n : ℕ) (r : Result ℕ E) → IsInsertionPlan unlawful invalid L V n r → (L n → ⊥) → IsInsertionPlan unlawful invalid L V (n + 1) r
skipped unlawful invalid L V n (Ok gap) h no_law = not_after L V n gap h (λ l v. no_law l)
skipped unlawful invalid L V n (Err e) (inl h) no_law = inl (h.0, record { none = up_to L n h.1.none no_law })
skipped unlawful invalid L V n (Err e) (inr h) no_law = inr (
  h.0,
  record {
    some_gap = h.1.some_gap;
    within = let lt = h.1.within in omega arith;
    is_lawful = h.1.is_lawful;
    none = first_and_second L V n h.1.none (λ l v. no_law l);
  },
)

-- one that is lawful and not valid
refused : {E : Type 0} (unlawful invalid : E) (L V : ℕ → Type 0) (n : ℕ) (r : Result ℕ E) → IsInsertionPlan unlawful invalid L V n r → L n → (V n → ⊥) → IsInsertionPlan unlawful invalid L V (n + 1) (plan_with_invalid_gap invalid r)
refused unlawful invalid L V n (Ok gap) h l bad = not_after L V n gap h (λ _ v. bad v)
refused unlawful invalid L V n (Err e) (inl h) l bad = inr (
  refl,
  record {
    some_gap = n;
    within = omega arith;
    is_lawful = l;
    none = first_and_second L V n (λ k lt law v. h.1.none k lt law) (λ _ v. bad v);
  },
)
refused unlawful invalid L V n (Err e) (inr h) l bad = inr (
  refl,
  record {
    some_gap = n;
    within = omega arith;
    is_lawful = l;
    none = first_and_second L V n h.1.none (λ _ v. bad v);
  },
)

-- one that is both
taken : {E : Type 0} (unlawful invalid : E) (L V : ℕ → Type 0) (n : ℕ) → L n → V n → IsInsertionPlan unlawful invalid L V (n + 1) (Ok n)
taken unlawful invalid L V n l v = record { within = omega arith; is_lawful = l; is_valid = v; last = λ k lt _ _. omega arith }

not_true : IsTrue false → ⊥
not_true h = cc

-- one more gap, with tests of whether it is lawful and valid
pub plan_more : {E : Type 0} (unlawful invalid : E) (L V : ℕ → Type 0) (n : ℕ) (r : Result ℕ E) (lawful valid : Bool) → IsInsertionPlan unlawful invalid L V n r → (IsTrue lawful ↔ L n) → (IsTrue valid ↔ V n) → IsInsertionPlan unlawful invalid L V (n + 1) (plan_with_gap invalid r n lawful valid)
plan_more unlawful invalid L V n r false valid h l v = skipped unlawful invalid L V n r h (λ x. not_true (l.1 x))
plan_more unlawful invalid L V n r true false h l v = refused unlawful invalid L V n r h (l.0 refl) (λ x. not_true (v.1 x))
plan_more unlawful invalid L V n r true true h l v = taken unlawful invalid L V n (l.0 refl) (v.0 refl)

pub plan_none : {E : Type 0} (unlawful invalid : E) (L V : ℕ → Type 0) → IsInsertionPlan unlawful invalid L V 0 (Err unlawful)
plan_none unlawful invalid L V = inl (refl, record { none = λ k lt _. omega arith })

-- there is one plan
last_is_one : (L V : ℕ → Type 0) (n i j : ℕ) → IsLastValidGap L V n i → IsLastValidGap L V n j → i ≡ j
last_is_one L V n i j p q = omega (arith, p.last j q.within q.is_lawful q.is_valid, q.last i p.within p.is_lawful p.is_valid)

not_both : {E : Type 0} (unlawful invalid : E) (L V : ℕ → Type 0) (n i : ℕ) (e : E) → IsLastValidGap L V n i → IsInsertionPlan unlawful invalid L V n (Err e) → ⊥
not_both unlawful invalid L V n i e p (inl q) = q.1.none i p.within p.is_lawful
not_both unlawful invalid L V n i e p (inr q) = q.1.none i p.within p.is_lawful p.is_valid

pub one_plan : {E : Type 0} (unlawful invalid : E) (L V : ℕ → Type 0) (n : ℕ) (r s : Result ℕ E) → IsInsertionPlan unlawful invalid L V n r → IsInsertionPlan unlawful invalid L V n s → r ≡ s
one_plan unlawful invalid L V n (Ok i) (Ok j) p q = ap (λ (k : ℕ). Ok k) (last_is_one L V n i j p q)
one_plan unlawful invalid L V n (Ok i) (Err e) p q = absurd (not_both unlawful invalid L V n i e p q)
one_plan unlawful invalid L V n (Err e) (Ok j) p q = absurd (not_both unlawful invalid L V n j e q p)
one_plan unlawful invalid L V n (Err e) (Err f) (inl p) (inl q) = ap Err (p.0 ∙ sym q.0)
one_plan unlawful invalid L V n (Err e) (Err f) (inl p) (inr q) = absurd (p.1.none q.1.some_gap q.1.within q.1.is_lawful)
one_plan unlawful invalid L V n (Err e) (Err f) (inr p) (inl q) = absurd (q.1.none p.1.some_gap p.1.within p.1.is_lawful)
one_plan unlawful invalid L V n (Err e) (Err f) (inr p) (inr q) = ap Err (p.0 ∙ sym q.0)

-- the computed plan is the plan
pub plan_of_is : {E : Type 0} (unlawful invalid : E) (lawful valid : ℕ → Bool) (n : ℕ) → IsInsertionPlan unlawful invalid (λ j. IsTrue (lawful j)) (λ j. IsTrue (valid j)) n (insertion_plan unlawful invalid lawful valid n)
plan_of_is unlawful invalid lawful valid zero = plan_none unlawful invalid (λ j. IsTrue (lawful j)) (λ j. IsTrue (valid j))
plan_of_is unlawful invalid lawful valid (suc n) =
    let L : ℕ → Type 0 = λ j. IsTrue (lawful j) in
    let V : ℕ → Type 0 = λ j. IsTrue (valid j) in
    let next = plan_with_gap invalid (insertion_plan unlawful invalid lawful valid n) n (lawful n) (valid n) in
    subst (λ k. IsInsertionPlan unlawful invalid L V k next) (add-one n)
    (plan_more unlawful invalid L V n (insertion_plan unlawful invalid lawful valid n) (lawful n) (valid n) (plan_of_is unlawful invalid lawful valid n) (λ h. h, λ h. h) (λ h. h, λ h. h))

-- equivalent properties have the same plan
pub plan_alike : {E : Type 0} (unlawful invalid : E) (L L' V V' : ℕ → Type 0) (n : ℕ) (r : Result ℕ E) → ((j : ℕ) → j < n → L j ↔ L' j) → ((j : ℕ) → j < n → V j ↔ V' j) → IsInsertionPlan unlawful invalid L V n r → IsInsertionPlan unlawful invalid L' V' n r
plan_alike unlawful invalid L L' V V' n (Ok j) l v h = record {
  within = h.within;
  is_lawful = (l j h.within).0 h.is_lawful;
  is_valid = (v j h.within).0 h.is_valid;
  last = λ k lt a b. h.last k lt ((l k lt).1 a) ((v k lt).1 b);
}
plan_alike unlawful invalid L L' V V' n (Err e) l v (inl h) = inl (h.0, record { none = λ k lt a. h.1.none k lt ((l k lt).1 a) })
plan_alike unlawful invalid L L' V V' n (Err e) l v (inr h) = inr (
  h.0,
  record {
    some_gap = h.1.some_gap;
    within = h.1.within;
    is_lawful = (l h.1.some_gap h.1.within).0 h.1.is_lawful;
    none = λ k lt a b. h.1.none k lt ((l k lt).1 a) ((v k lt).1 b);
  },
)
