-- Blocks of bytes: a length in four bytes, the highest first, and that many bytes. The form is
-- this project's own.
use Rattle.std.specs.Prelude.{ℕ, ◌<◌, nat_lt, if◌then◌else◌, List, ◌++◌, length, take, drop}
use Rattle.std.specs.Prelude.{Option, None, Some}
use Rattle.std.specs.Int.{w32, to_be_bytes, from_be_bytes}
use Rattle.std.specs.List.{AllByRecursion}

-- the block of these bytes
unfoldable pub block : List ℕ → List ℕ
block bytes = to_be_bytes w32 (length bytes) ++ bytes

-- the length that the bytes begin with
abbrev pub stated_length : List ℕ → ℕ
stated_length bytes = from_be_bytes w32 (take 4 bytes)

-- the first `len` bytes, and the others, if there are at least `len`
abbrev pub split_at : ℕ → List ℕ → Option (List ℕ × List ℕ)
split_at len bytes =
    if nat_lt (length bytes) len then None else Some (take len bytes, drop len bytes)

-- what the block at the front holds, and the bytes after it, if one is whole there
unfoldable pub block_at : List ℕ → Option (List ℕ × List ℕ)
block_at bytes =
    if nat_lt (length bytes) 4 then None else split_at (stated_length bytes) (drop 4 bytes)

-- each number is a byte
abbrev pub AreBytes : List ℕ → Type 0
AreBytes bytes = AllByRecursion (λ byte. byte < 256) bytes
