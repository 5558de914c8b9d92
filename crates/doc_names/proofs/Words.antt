-- ASCII words.
use Rattle.std.proofs.Common.{◌≡◌, ℕ, List, [], ◌∷◌, true}
use Rattle.std.proofs.lemmas.Bool.{and_parts, ltb-true}
use Rattle.std.proofs.lemmas.Str.Ascii.{IsAscii-nil, IsAscii-cons}
use Rattle.std.specs.Char.{is_ascii}
use Rattle.std.specs.List.{list_all}
use Rattle.std.specs.Str.{IsAscii}

pub word_letters : (cs : List ℕ) → list_all is_ascii cs ≡ true → IsAscii cs
word_letters [] h = IsAscii-nil
word_letters (c ∷ cs) h = let both = and_parts (is_ascii c) (list_all is_ascii cs) h in IsAscii-cons c cs (ltb-true c 128 both.0) (word_letters cs both.1)
