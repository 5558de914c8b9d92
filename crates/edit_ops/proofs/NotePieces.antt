-- No change records, by the lengths of both pieces.
use Rattle.std.proofs.Common.{◌≡◌, ℕ, true, false, ◌==◌, Bool, suc, List, [], ◌∷◌, ◌++◌, length, sym, ◌∙◌, arith}
use Rattle.std.proofs.lemmas.Bool.Decides.{nat_tests}
use Rattle.edit_ops.specs.Notes.{Note}
use Rattle.edit_ops.specs.RecordParts.{has_no_notes}

positive : (k : ℕ) → (suc k == 0) ≡ false
positive k = grind (arith, nat_tests)

pub some-older : (older newer : List Note) (a : Bool) → a ≡ (length older == 0) → a ≡ false → a ≡ has_no_notes (older ++ newer)
some-older [] newer a is f = let both : true ≡ false = sym is ∙ f in cc
some-older (n ∷ older) newer a is f = f

pub none-older : (older newer : List Note) (a b : Bool) → a ≡ (length older == 0) → a ≡ true → b ≡ (length newer == 0) → b ≡ has_no_notes (older ++ newer)
none-older [] [] a b is t also = also
none-older [] (n ∷ newer) a b is t also = also ∙ positive (length newer)
none-older (n ∷ older) newer a b is t also = let both : false ≡ true = sym (is ∙ positive (length older)) ∙ t in cc
