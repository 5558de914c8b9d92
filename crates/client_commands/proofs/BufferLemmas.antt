-- Buffers that are filled piece by piece.
use Rattle.std.proofs.Common.{ℕ, ◌+◌, ◌≤◌, List, ◌++◌, length, take, arith, length-append}
use Rattle.std.proofs.lemmas.List.{length-take-le}

-- a piece after the front of a buffer is within it
pub behind_front : (buffer piece behind : List ℕ) (held count : ℕ) → held ≤ length buffer → count ≤ length piece → held + count ≤ length (take held buffer ++ (piece ++ behind))
behind_front buffer piece behind held count inside enough =
    omega (arith, length-append (take held buffer) (piece ++ behind), length-append piece behind, length-take-le held buffer inside)
