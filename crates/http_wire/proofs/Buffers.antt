-- Buffered bytes: with their source, and in a range of a buffer of fixed size.
use Rattle.std.proofs.Common.{◌≡◌, ℕ, ◌+◌, ◌-◌, ◌≤◌, nat_lt, Bool, true, false, List, [], ◌++◌, length, take, drop, slice_range, refl, ap, sym, ◌∙◌, arith, length-append, length-drop}
use Rattle.std.proofs.lemmas.Bool.{ltb-true, ltb-false}
use Rattle.std.proofs.lemmas.List.{append-nil, nil_from_length, length-take-le, take-append-le, drop-append-le, drop-take, drop-drop}
use Rattle.std.proofs.Math.Seq.{take-append-add}
use Rattle.xcap_io.specs.StreamStates.{InputState}
use Rattle.xcap_io.specs.StreamTraffic.{IsEnded}
use Rattle.http_wire.specs.NextRequests.{BufferedSource}
use Rattle.http_wire.specs.inner.ReadBuffer.{BuffersMoreOrEnds}

abbrev pub buffered : List ℕ → InputState → BufferedSource
buffered held source = record { held = held; source = source }

-- the number of bytes in a range
pub length-between : (buffer : List ℕ) (start end : ℕ) → start ≤ end → end ≤ length buffer → length (slice_range buffer start end) ≡ end - start
length-between buffer start end ordered inside = length-take-le (end - start) (drop start buffer) (omega (arith, length-drop start buffer))

-- the bytes after the first n
pub between-rest : (buffer : List ℕ) (start end count : ℕ) → start + count ≤ end → slice_range buffer (start + count) end ≡ drop count (slice_range buffer start end)
between-rest buffer start end count inside =
    let left : ℕ = end - (start + count) in
    let split : end - start ≡ count + left = omega arith in
    ap (take left) (sym (drop-drop count start buffer)) ∙ sym (drop-take count left (drop start buffer)) ∙ ap (λ (n : ℕ). drop count (take n (drop start buffer))) (sym split)

-- the front of a buffer, and then the first bytes of a piece that was put after it
pub put_behind : (buffer piece behind : List ℕ) (held count : ℕ) → held ≤ length buffer → count ≤ length piece → take (held + count) (take held buffer ++ (piece ++ behind)) ≡ take held buffer ++ take count piece
put_behind buffer piece behind held count inside enough =
    let front : List ℕ = take held buffer in
    ap (λ (n : ℕ). take (n + count) (front ++ (piece ++ behind))) (sym (length-take-le held buffer inside))
    ∙ take-append-add front (piece ++ behind) count
    ∙ ap (λ (l : List ℕ). front ++ l) (take-append-le count piece behind enough)

-- with the first bytes of a piece appended
pub between-more : (buffer piece behind : List ℕ) (start end count : ℕ) → start ≤ end → end ≤ length buffer → count ≤ length piece
    → slice_range (take end buffer ++ (piece ++ behind)) start (end + count) ≡ slice_range buffer start end ++ take count piece
between-more buffer piece behind start end count ordered inside enough =
    let front : List ℕ = take end buffer in
    let long : ℕ = end - start in
    let same_end : end ≡ start + long = omega arith in
    let whole : end + count - start ≡ long + count = omega arith in
    let held : drop start front ≡ slice_range buffer start end = ap (λ (n : ℕ). drop start (take n buffer)) same_end ∙ drop-take start long buffer in
    ap (take (end + count - start)) (drop-append-le start front (piece ++ behind) (omega (arith, length-take-le end buffer inside)))
    ∙ ap (λ (n : ℕ). take n (drop start front ++ (piece ++ behind))) whole
    ∙ ap (λ (l : List ℕ). take (long + count) (l ++ (piece ++ behind))) held
    ∙ put_behind (drop start buffer) piece behind long count (omega (arith, length-drop start buffer)) enough

-- the buffered bytes, followed by the first bytes of a piece, in the changed buffer
pub filled : (held buffer items piece behind : List ℕ) (start end count : ℕ) → slice_range buffer start end ≡ held → items ≡ take end buffer ++ (piece ++ behind) → start ≤ end → end ≤ length buffer → count ≤ length piece
    → slice_range items start (end + count) ≡ held ++ take count piece
filled held buffer items piece behind start end count before is ordered inside enough =
    ap (λ (l : List ℕ). slice_range l start (end + count)) is
    ∙ between-more buffer piece behind start end count ordered inside enough
    ∙ ap (λ (l : List ℕ). l ++ take count piece) before

-- the buffered bytes, whatever was put after them
pub unfilled : (held buffer items behind : List ℕ) (start end : ℕ) → slice_range buffer start end ≡ held → items ≡ take end buffer ++ behind → start ≤ end → end ≤ length buffer → slice_range items start end ≡ held
unfilled held buffer items behind start end before is ordered inside =
    let none : end + 0 ≡ end = omega arith in
    ap (slice_range items start) (sym none) ∙ filled held buffer items [] behind start end 0 before is ordered inside (omega arith) ∙ append-nil held

-- a read gave n bytes, or none at the end
pub gained : (count : ℕ) (held held' read : List ℕ) (left' : InputState) → held' ≡ held ++ read → length read ≡ count → (count ≡ 0 → IsEnded left') → BuffersMoreOrEnds (nat_lt 0 count) held held' left'
gained count held held' read left' added size ends = by_test (nat_lt 0 count) refl
  where
    by_test : (b : Bool) → nat_lt 0 count ≡ b → BuffersMoreOrEnds b held held' left'
    by_test true some = omega (arith, ltb-true 0 count some, ap length added, length-append held read, size)
    by_test false none =
        let zero : count ≡ 0 = omega (arith, ltb-false 0 count none) in
        (added ∙ ap (λ (l : List ℕ). held ++ l) (nil_from_length read (size ∙ zero)) ∙ append-nil held, ends zero)
