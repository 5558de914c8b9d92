-- Tests of all characters of a text.
use Rattle.std.proofs.Common.{◌≡◌, ℕ, Bool, true, false, List, [], ◌∷◌, refl}
use Rattle.std.specs.Prelude.{◌&&◌, ◌==◌}
use Rattle.std.specs.List.{list_all}
use Rattle.xml_grammar.specs.Rules.{AllPass}

pub join : (a b : Bool) → a ≡ true → b ≡ true → a && b ≡ true
join true true h i = refl
join true false h i = absurd cc
join false b h i = absurd cc

pub pass_all : (p : ℕ → Bool) (cs : List ℕ) → AllPass p cs → list_all p cs ≡ true
pass_all p [] h = refl
pass_all p (c ∷ cs) h = join (p c) (list_all p cs) h.0 (pass_all p cs h.1)
