-- The place of the first item that passes a test.
use Rattle.std.specs.Prelude.{ℕ, suc, Bool, List, [], ◌∷◌, if◌then◌else◌}

-- the place of the first item that passes the test, or the number of items
abbrev pub first_index : {A : Type 0} → (A → Bool) → List A → ℕ
first_index p [] = 0
first_index p (y ∷ ys) = if p y then 0 else suc (first_index p ys)
