-- What was read and written of buffers.
use Rattle.std.proofs.Common.{◌≡◌, ℕ, ◌+◌, ◌≤◌, List, ◌++◌, length, take, drop, sym, ap, ◌∙◌, arith, length-append, length-drop}
use Rattle.std.proofs.lemmas.List.{length-take, length-take-le, take-append-le, take-take, take_at}
use Rattle.std.proofs.Math.Seq.{take-add}
use Rattle.server_peer.specs.BufferStates.{RepliesState, with_replies}

-- the bytes given are still the front when others are appended
pub still_front : (r : RepliesState) (given : ℕ) (more : List ℕ) → length r.bytes ≤ r.room → given ≤ length r.bytes → take given (with_replies r more).bytes ≡ take given r.bytes
still_front r given more within inside = take-take given r.room (r.bytes ++ more) (omega (arith, within, inside)) ∙ take-append-le given r.bytes more inside

pub still_inside : (r : RepliesState) (given : ℕ) (more : List ℕ) → length r.bytes ≤ r.room → given ≤ length r.bytes → given ≤ length (with_replies r more).bytes
still_inside r given more within inside = omega (arith, length-take r.room (r.bytes ++ more), length-append r.bytes more, within, inside)

-- the next bytes are given after the earlier ones
pub gives_on : (bytes front rest before : List ℕ) (given count : ℕ) → given + count ≤ length bytes → front ≡ take count (drop given bytes) → before ≡ take given bytes → before ++ take count (front ++ rest) ≡ take (given + count) bytes
gives_on bytes front rest before given count fits is was =
    let long : length front ≡ count = ap length is ∙ length-take-le count (drop given bytes) (omega (arith, length-drop given bytes, fits)) in
    ap (λ (l : List ℕ). before ++ l) (take_at front rest count long ∙ is)
    ∙ ap (λ (l : List ℕ). l ++ take count (drop given bytes)) was
    ∙ sym (take-add given count bytes)
