-- The relation and the computed selection agree, and children that the tests can't distinguish
-- are selected alike.
use Rattle.std.proofs.Common.{◌≡◌, ◌≢◌, ◌↔◌, ℕ, zero, suc, ◌+◌, ◌≤◌, ◌<◌, Bool, true, false, cond, ◌&&◌, List, [], ◌∷◌, take, map, length, count_by, Option, Some, None, refl, sym, ap, ◌∙◌, subst, arith, IsTrue, slice_get, eq-eqb, eqb-true}
use Rattle.std.proofs.lemmas.Option.{same_Some, none-some, slice_get_within}
use Rattle.node_select.specs.StepSelection.{StepTests, IsAtPosition, Matches, Selects, HaveSameTestResults, is_at_position, child_matches, matches, passing_numbers, only_item, selected_number}
use Rattle.node_select.proofs.ListEdits.{count-cons}

pub one_selected : {A : Type 0} (step : StepTests A) (child_elements : List A) (i k : ℕ) → Selects step child_elements i → Selects step child_elements k → i ≡ k
one_selected step child_elements i k s r = r.alone i s.this

-- ---- the position
pub any_position : (o : Option ℕ) (before : ℕ) → o ≡ None → IsAtPosition o before
any_position None before is = tt
any_position (Some n) before is = cc

pub position_count : (o : Option ℕ) (n before : ℕ) → o ≡ Some n → IsAtPosition o before → before + 1 ≡ n
position_count None n before is h = cc
position_count (Some m) n before is h = let same : m ≡ n = same_Some m n is in h ∙ same

pub position_from_count : (o : Option ℕ) (n before : ℕ) → o ≡ Some n → before + 1 ≡ n → IsAtPosition o before
position_from_count None n before is h = cc
position_from_count (Some m) n before is h = let same : m ≡ n = same_Some m n is in h ∙ sym same

pub no_zeroth : {A : Type 0} (step : StepTests A) (child_elements : List A) (i : ℕ) → step.position ≡ Some 0 → Matches step child_elements i → ⊥
no_zeroth step child_elements i is m = let at = position_count step.position 0 (count_by step.named (take i child_elements)) is m.at_position in omega arith

-- ---- the test of one child
pub is_at_position_is : (position : Option ℕ) (before : ℕ) → IsTrue (is_at_position position before) ↔ IsAtPosition position before
is_at_position_is None before = (λ h. tt, λ h. refl)
is_at_position_is (Some n) before = (λ h. eqb-true (before + 1) n h, λ h. eq-eqb (before + 1) n h)

three : (a b c : Bool) → IsTrue (a && (b && c)) ↔ (IsTrue a × IsTrue b × IsTrue c)
three true true c = (λ h. (refl, refl, h), λ h. h.2)
three true false c = (λ h. cc, λ h. let f : false ≡ true = h.1 in cc)
three false b c = (λ h. cc, λ h. let f : false ≡ true = h.0 in cc)

decided : {A : Type 0} (step : StepTests A) (child_elements : List A) (i : ℕ) (o : Option A) → slice_get child_elements i ≡ o → IsTrue (child_matches step (count_by step.named (take i child_elements)) o) ↔ Matches step child_elements i
decided step child_elements i None there = (λ h. cc, λ m. absurd (none-some m.child_element (sym there ∙ m.there)))
decided step child_elements i (Some child_element) there =
    let t = three (step.named child_element) (is_at_position step.position (count_by step.named (take i child_elements))) (step.tested child_element) in
    let p = is_at_position_is step.position (count_by step.named (take i child_elements)) in (
      λ h. let x = t.0 h in record { child_element = child_element; there = there; is_named = x.0; at_position = p.0 x.1; is_tested = x.2 },
      λ m. let same : m.child_element ≡ child_element = same_Some _ _ (sym m.there ∙ there) in t.1 (ap step.named (sym same) ∙ m.is_named, p.1 m.at_position, ap step.tested (sym same) ∙ m.is_tested),
    )

pub matches_is : {A : Type 0} (step : StepTests A) (child_elements : List A) (i : ℕ) → IsTrue (matches step child_elements i) ↔ Matches step child_elements i
matches_is step child_elements i = decided step child_elements i (slice_get child_elements i) refl

-- ---- the only number that passes
next : (i m : ℕ) → i ≤ m → i ≢ m → suc i ≤ m
next i m le ne = omega (arith, ne)

module _ (p : ℕ → Bool) where
  none_pass : (many i : ℕ) → ((m : ℕ) → i ≤ m → p m ≡ true → ⊥) → passing_numbers p i many ≡ []
  none_pass zero i h = refl
  none_pass (suc many) i h = by (p i) refl (none_pass many (suc i) (λ m le. h m (omega arith)))
    where
      by : (b : Bool) → p i ≡ b → passing_numbers p (suc i) many ≡ [] → passing_numbers p i (suc many) ≡ []
      by true e rest = absurd (h i (omega arith) e)
      by false e rest = rw e rest

  one_passes : (many i n : ℕ) → i ≤ n → n < i + many → p n ≡ true → ((m : ℕ) → p m ≡ true → m ≡ n) → passing_numbers p i many ≡ n ∷ []
  one_passes zero i n le lt h one = absurd (omega arith)
  one_passes (suc many) i n le lt h one = by (p i) refl (λ from. one_passes many (suc i) n from (omega arith) h one)
    where
      by : (b : Bool) → p i ≡ b → (suc i ≤ n → passing_numbers p (suc i) many ≡ n ∷ []) → passing_numbers p i (suc many) ≡ n ∷ []
      by true e rest =
          let same : i ≡ n = one i e in
          rw e (ap (λ l. i ∷ l) (none_pass many (suc i) (λ m le' t. absurd (omega (arith, one m t)))) ∙ ap (λ k. k ∷ []) same)
      by false e rest =
          let other : i ≢ n = λ s. let z : p i ≡ true = ap p s ∙ h in let w : true ≡ false = sym z ∙ e in cc in
          rw e (rest (next i n le other))

  pass_none : (many i : ℕ) → passing_numbers p i many ≡ [] → (m : ℕ) → i ≤ m → m < i + many → p m ≡ true → ⊥
  pass_none zero i h m le lt t = omega arith
  pass_none (suc many) i h m le lt t = by (p i) refl (pass_none many (suc i))
    where
      by : (b : Bool) → p i ≡ b → (passing_numbers p (suc i) many ≡ [] → (k : ℕ) → suc i ≤ k → k < suc i + many → p k ≡ true → ⊥) → ⊥
      by true e rest = let z : i ∷ passing_numbers p (suc i) many ≡ [] = rw e at h in cc
      by false e rest =
          let other : i ≢ m = λ s. let z : p i ≡ true = ap p s ∙ t in let w : true ≡ false = sym z ∙ e in cc in
          rest (rw e at h) m (next i m le other) (omega arith) t

  pass_one : (many i n : ℕ) → passing_numbers p i many ≡ n ∷ [] → (p n ≡ true) × (n < i + many) × ((m : ℕ) → i ≤ m → m < i + many → p m ≡ true → m ≡ n)
  pass_one zero i n h = cc
  pass_one (suc many) i n h = by (p i) refl (pass_one many (suc i) n)
    where
      by : (b : Bool) → p i ≡ b → (passing_numbers p (suc i) many ≡ n ∷ [] → (p n ≡ true) × (n < suc i + many) × ((m : ℕ) → suc i ≤ m → m < suc i + many → p m ≡ true → m ≡ n))
          → (p n ≡ true) × (n < i + suc many) × ((m : ℕ) → i ≤ m → m < i + suc many → p m ≡ true → m ≡ n)
      by true e rest =
          let z : i ∷ passing_numbers p (suc i) many ≡ n ∷ [] = rw e at h in let same : i ≡ n = cc in let none : passing_numbers p (suc i) many ≡ [] = cc in
          (ap p (sym same) ∙ e, omega arith, λ m le lt t. alone m le lt t same none)
        where
          alone : (m : ℕ) → i ≤ m → m < i + suc many → p m ≡ true → i ≡ n → passing_numbers p (suc i) many ≡ [] → m ≡ n
          alone m le lt t same none = omega (arith, λ (from : suc i ≤ m). pass_none many (suc i) none m from (omega arith) t)
      by false e rest =
          let r = rest (rw e at h) in
          (r.0, omega (arith, r.1), λ m le lt t. r.2 m (next i m le (λ s. let z : true ≡ false = sym t ∙ ap p (sym s) ∙ e in cc)) (omega arith) t)

only_is : (is : List ℕ) (n : ℕ) → only_item is ≡ Some n → is ≡ n ∷ []
only_is [] n h = cc
only_is (i ∷ []) n h = cc
only_is (i ∷ j ∷ is) n h = cc

-- ---- the relation and the function
pub selected_is : {A : Type 0} (step : StepTests A) (child_elements : List A) (i : ℕ) → (selected_number step child_elements ≡ Some i) ↔ Selects step child_elements i
selected_is step child_elements i =
    let p : ℕ → Bool = matches step child_elements in
    let is : (k : ℕ) → IsTrue (p k) ↔ Matches step child_elements k = matches_is step child_elements in (
      λ h. let one = pass_one p (length child_elements) 0 i (only_is (passing_numbers p 0 (length child_elements)) i h) in record {
        this = (is i).0 one.0;
        alone = λ k m. one.2 k (omega arith) (omega (arith, slice_get_within child_elements k m.child_element m.there)) ((is k).1 m);
      },
      λ s. ap only_item (one_passes p (length child_elements) 0 i (omega arith) (omega (arith, slice_get_within child_elements i s.this.child_element s.this.there)) ((is i).1 s.this) (λ k t. s.alone k ((is k).0 t))),
    )

-- a result that is some number exactly when that is selected is the computed one
pub answer_is : {A : Type 0} (step : StepTests A) (child_elements : List A) (r : Option ℕ) → ((i : ℕ) → (r ≡ Some i) ↔ Selects step child_elements i) → r ≡ selected_number step child_elements
answer_is step child_elements (Some i) h = sym ((selected_is step child_elements i).1 ((h i).0 refl))
answer_is step child_elements None h = by (selected_number step child_elements) refl
  where
    by : (o : Option ℕ) → selected_number step child_elements ≡ o → None ≡ o
    by None e = refl
    by (Some i) e = (h i).1 ((selected_is step child_elements i).0 e)

-- ---- children that the tests can't distinguish
heads : {X : Type 0} (x y : X) (xs ys : List X) → x ∷ xs ≡ y ∷ ys → (x ≡ y) × (xs ≡ ys)
heads x y xs ys h = (cc, cc)

same_count : {A B : Type 0} (p : A → Bool) (q : B → Bool) (xs : List A) (ys : List B) (i : ℕ) → map p xs ≡ map q ys → count_by p (take i xs) ≡ count_by q (take i ys)
same_count p q xs ys zero h = refl
same_count p q [] [] (suc i) h = refl
same_count p q [] (y ∷ ys) (suc i) h = cc
same_count p q (x ∷ xs) [] (suc i) h = cc
same_count p q (x ∷ xs) (y ∷ ys) (suc i) h =
    let choice : Bool → ℕ = λ b. cond b 1 0 in
    let e = heads (p x) (q y) (map p xs) (map q ys) h in
    omega (arith, count-cons p x (take i xs), count-cons q y (take i ys), same_count p q xs ys i e.1, ap choice e.0)

-- the i-th child of one list has a counterpart in the other, with the same test results
partner : {A B : Type 0} (p : A → Bool) (q : B → Bool) (xs : List A) (ys : List B) (i : ℕ) (x : A) → map p xs ≡ map q ys → slice_get xs i ≡ Some x → (y : B) × (slice_get ys i ≡ Some y) × (p x ≡ q y)
partner p q [] ys i x h there = cc
partner p q (a ∷ xs) [] i x h there = cc
partner p q (a ∷ xs) (b ∷ ys) zero x h there = (b, refl, ap p (sym (same_Some a x there)) ∙ (heads (p a) (q b) (map p xs) (map q ys) h).0)
partner p q (a ∷ xs) (b ∷ ys) (suc i) x h there = partner p q xs ys i x (heads (p a) (q b) (map p xs) (map q ys) h).1 there

pub alike_one_way : {A B : Type 0} (step : StepTests A) (step' : StepTests B) (xs : List A) (ys : List B) (i : ℕ) → HaveSameTestResults step step' xs ys → Matches step xs i → Matches step' ys i
alike_one_way step step' xs ys i a m =
    let n = partner step.named step'.named xs ys i m.child_element a.same_named m.there in
    let t = partner step.tested step'.tested xs ys i m.child_element a.same_tested m.there in
    let same : t.0 ≡ n.0 = same_Some _ _ (sym t.1 ∙ n.1) in record {
      child_element = n.0;
      there = n.1;
      is_named = sym n.2 ∙ m.is_named;
      at_position =
          subst (λ (o : Option ℕ). IsAtPosition o (count_by step'.named (take i ys))) a.same_position
          (subst (λ (k : ℕ). IsAtPosition step.position k) (same_count step.named step'.named xs ys i a.same_named) m.at_position);
      is_tested = ap step'.tested (sym same) ∙ sym t.2 ∙ m.is_tested;
    }

pub turned : {A B : Type 0} (step : StepTests A) (step' : StepTests B) (xs : List A) (ys : List B) → HaveSameTestResults step step' xs ys → HaveSameTestResults step' step ys xs
turned step step' xs ys a = record { same_position = sym a.same_position; same_named = sym a.same_named; same_tested = sym a.same_tested }

pub match_alike : {A B : Type 0} (step : StepTests A) (step' : StepTests B) (xs : List A) (ys : List B) (i : ℕ) → HaveSameTestResults step step' xs ys → Matches step xs i ↔ Matches step' ys i
match_alike step step' xs ys i a = (
  alike_one_way step step' xs ys i a,
  alike_one_way step' step ys xs i (turned step step' xs ys a),
)

pub select_alike : {A B : Type 0} (step : StepTests A) (step' : StepTests B) (xs : List A) (ys : List B) (i : ℕ) → HaveSameTestResults step step' xs ys → Selects step xs i ↔ Selects step' ys i
select_alike step step' xs ys i a =
    let m = λ (k : ℕ). match_alike step step' xs ys k a in (
      λ s. record { this = (m i).0 s.this; alone = λ k x. s.alone k ((m k).1 x) },
      λ s. record { this = (m i).1 s.this; alone = λ k x. s.alone k ((m k).0 x) },
    )
