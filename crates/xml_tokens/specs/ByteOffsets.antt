-- Places in texts.
use Rattle.std.specs.Prelude.{ℕ, ◌-◌, ◌==◌, List, length, encode_utf8_all}

-- the byte at which this rest of the text begins
abbrev pub byte_offset : List ℕ → List ℕ → ℕ
byte_offset bytes left = length bytes - length (encode_utf8_all left)
