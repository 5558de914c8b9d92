-- Exchanges on one connection after the other.
use Rattle.std.proofs.Common.{◌≡◌, ◌≢◌, ℕ, ◌<◌, ◌≤◌, ◌==◌, ◌⊎◌, inl, inr, Bool, true, false, List, [], ◌∷◌, ◌++◌, refl, sym, ap, ◌∙◌, if◌then◌else◌, arith}
use Rattle.std.proofs.lemmas.Bool.Decides.{eqb_tells, leb_tells}
use Rattle.std.specs.Prelude.{leb}
use Rattle.hall_serve.specs.Exchanges.{Exchange, exchanges_on}
use Rattle.hall_serve.specs.ServedInTurn.{AreInTurn}

module _ {E : Type 0} where
  -- one of another connection
  pub skip : (m : ℕ) (y : Exchange E) (ys : List (Exchange E)) → y.connection ≢ m → exchanges_on m (y ∷ ys) ≡ exchanges_on m ys
  skip m y ys away = by_case (eqb_tells y.connection m)
    where
      by_case : (((y.connection == m) ≡ true) × (y.connection ≡ m)) ⊎ (((y.connection == m) ≡ false) × (y.connection ≢ m)) → exchanges_on m (y ∷ ys) ≡ exchanges_on m ys
      by_case (inl (_, e)) = absurd (away e)
      by_case (inr (is, _)) = ap (λ (b : Bool). if b then y ∷ exchanges_on m ys else exchanges_on m ys) is

  -- it is among those of its connection
  pub not_none : (x : Exchange E) (xs : List (Exchange E)) → exchanges_on x.connection (x ∷ xs) ≡ [] → ⊥
  not_none x xs none = by_test (eqb_tells x.connection x.connection)
    where
      by_test : (((x.connection == x.connection) ≡ true) × (x.connection ≡ x.connection)) ⊎ (((x.connection == x.connection) ≡ false) × (x.connection ≢ x.connection)) → ⊥
      by_test (inl (is, _)) = let e : x ∷ exchanges_on x.connection xs ≡ [] = sym (ap (λ (b : Bool). if b then x ∷ exchanges_on x.connection xs else exchanges_on x.connection xs) is) ∙ none in let no : ⊥ = cc in no
      by_test (inr (_, away)) = away refl

  -- where none is of a later connection, it is of that one or an earlier one
  at_most : (last : ℕ) (x : Exchange E) (xs : List (Exchange E)) → ((n : ℕ) → last < n → exchanges_on n (x ∷ xs) ≡ []) → x.connection ≤ last
  at_most last x xs none = by_test (leb_tells x.connection last)
    where
      by_test : ((leb x.connection last ≡ true) × (x.connection ≤ last)) ⊎ ((leb x.connection last ≡ false) × (last < x.connection)) → x.connection ≤ last
      by_test (inl (_, within)) = within
      by_test (inr (_, later)) = absurd (not_none x xs (none x.connection later))

  -- one more, of the last connection
  pub in_turn_more : (first last : ℕ) (all : List (Exchange E)) (exchange : Exchange E) → first ≤ last → AreInTurn first all → ((n : ℕ) → last < n → exchanges_on n all ≡ []) → exchange.connection ≡ last → AreInTurn first (all ++ exchange ∷ [])
  in_turn_more first last [] exchange below g none of = (omega (arith, of, below), tt)
  in_turn_more first last (x ∷ xs) exchange below g none of =
      let within = at_most last x xs none in
      (g.0, in_turn_more x.connection last xs exchange within g.1 (λ n later. sym (skip n x xs (λ e. let no : ⊥ = omega (arith, e, later, within) in no)) ∙ none n later) of)
