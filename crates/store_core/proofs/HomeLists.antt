-- The other documents of a home in a list of entries.
use Rattle.std.proofs.Common.{◌≡◌, ℕ, ◌+◌, ◌≤◌, Bool, true, false, not, ◌&&◌, cond, List, [], ◌∷◌, length, filter, sum_by, sym, ap, ◌∙◌, arith}
use Rattle.doc_names.specs.NameEquality.{same_home, same_id}
use Rattle.doc_names.specs.declared.doc_id.DocId.{DocId}
use Rattle.store_core.specs.declared.entry.Entry.{Entry}
use Rattle.store_core.specs.inner.HomeSums.{is_other_at_home, others_at_home, stored_len}
use Rattle.store_core.proofs.HomeLemmas.{ones, sum-cons, sum-kept}

abbrev Row : Type 0
Row = DocId × Entry

-- a sum grows by the first item if that is another document of the home
pub sum-step : (id : DocId) (e : Row) (es : List Row) (b : Bool) → b ≡ (same_home id.home e.0.home && not (same_id id e.0)) → sum_by stored_len (others_at_home (e ∷ es) id) ≡ cond b e.1.len 0 + sum_by stored_len (others_at_home es id)
sum-step id e es b h = sum-kept stored_len e (others_at_home es id) (is_other_at_home id e) ∙ ap (λ (c : Bool). cond c e.1.len 0 + sum_by stored_len (others_at_home es id)) (sym h)

counted : (a b x y k : ℕ) → a ≡ x → b ≡ y → x ≡ k + y → a ≡ k + b
counted a b x y k first second h = omega (arith, first, second, h)

pub count-step : (id : DocId) (e : Row) (es : List Row) (b : Bool) → b ≡ (same_home id.home e.0.home && not (same_id id e.0)) → length (others_at_home (e ∷ es) id) ≡ cond b 1 0 + length (others_at_home es id)
count-step id e es b h =
    let one : Row → ℕ = λ x. 1 in
    let all = others_at_home (e ∷ es) id in
    let rest = others_at_home es id in
    counted (length all) (length rest) (sum_by one all) (sum_by one rest) (cond b 1 0) (ones all) (ones rest) (sum-kept one e rest (is_other_at_home id e) ∙ ap (λ (c : Bool). cond c 1 0 + sum_by one rest) (sym h))

-- those that pass a test add no more than all
module _ {X : Type 0} (f : X → ℕ) where
  less-kept : (x : X) (xs ys : List X) (b : Bool) → sum_by f ys ≤ sum_by f xs → sum_by f (cond b (x ∷ ys) ys) ≤ sum_by f (x ∷ xs)
  less-kept x xs ys true h = omega (arith, sum-cons f x ys, sum-cons f x xs, h)
  less-kept x xs ys false h = omega (arith, sum-cons f x xs, h)

  less-filtered : (p : X → Bool) (xs : List X) → sum_by f (filter p xs) ≤ sum_by f xs
  less-filtered p [] = omega arith
  less-filtered p (x ∷ xs) = less-kept x xs (filter p xs) (p x) (less-filtered p xs)

pub less-among : (id : DocId) (es : List Row) → sum_by stored_len (others_at_home es id) ≤ sum_by stored_len es
less-among id es = less-filtered stored_len (is_other_at_home id) es

fewer : (a b x y : ℕ) → a ≡ x → b ≡ y → x ≤ y → a ≤ b
fewer a b x y first second h = omega (arith, first, second, h)

pub less-long : (id : DocId) (es : List Row) → length (others_at_home es id) ≤ length es
less-long id es =
    let one : Row → ℕ = λ x. 1 in
    let rest = others_at_home es id in
    fewer (length rest) (length es) (sum_by one rest) (sum_by one es) (ones rest) (ones es) (less-filtered one (is_other_at_home id) es)
