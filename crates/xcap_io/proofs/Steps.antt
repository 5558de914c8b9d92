-- How one call after another adds to what a stream has given or taken.
use Rattle.std.proofs.Common.{◌≡◌, ℕ, ◌+◌, ◌-◌, ◌<◌, ◌≤◌, ◌==◌, true, min, List, [], ◌++◌, length, take, drop, sym, ap, ◌∙◌, subst, arith, length-drop, length-append, take-append-drop}
use Rattle.std.proofs.lemmas.Bool.Decides.{nat_tests}
use Rattle.std.proofs.lemmas.List.{length-take-le, take_at, take-append-le, drop-drop, drop_all}
use Rattle.xcap_io.specs.StreamTraffic.{TakesBytes}
use Rattle.xcap_io.proofs.TrafficSums.{took_on}
use Rattle.std.proofs.Math.Seq.{take-add}
use Rattle.xcap_io.specs.StreamWrites.{TakesProperPrefix}

-- the next m of the bytes, after the first n of them
pub appends_next : (a b c : List ℕ) (n m : ℕ) (bytes : List ℕ) → TakesBytes a b (take n bytes) → TakesBytes b c (take m (drop n bytes)) → TakesBytes a c (take (n + m) bytes)
appends_next a b c n m bytes first next =
    subst (TakesBytes a c) (sym (take-add n m bytes)) (took_on a b c (take n bytes) (take m (drop n bytes)) first next)

-- a write that stopped within the first bytes stopped before the next ones too
pub stopped_first : (a b : List ℕ) (first next : List ℕ) → TakesProperPrefix a b first → TakesProperPrefix a b (first ++ next)
stopped_first a b first next stopped = (
  stopped.0,
  omega (arith, length-append first next, stopped.1),
  subst (TakesBytes a b) (sym (take-append-le stopped.0 first next (omega (arith, stopped.1)))) stopped.2,
)

-- what a stream has left is the bytes that it gives next, at the front of a buffer, and then the
-- rest
pub gives_next : (input front rest : List ℕ) (given count : ℕ) → given + count ≤ length input → front ≡ take count (drop given input) → drop given input ≡ take count (front ++ rest) ++ drop (given + count) input
gives_next input front rest given count fits is =
    let long : length front ≡ count = ap length is ∙ length-take-le count (drop given input) (omega (arith, length-drop given input)) in
    sym (take-append-drop count (drop given input)) ∙ ap (λ (l : List ℕ). l ++ drop count (drop given input)) (sym is ∙ sym (take_at front rest count long)) ∙ ap (λ (l : List ℕ). take count (front ++ rest) ++ l) (drop-drop count given input)

-- where no byte was given although some were wanted, nothing is left
pub none_left : (input : List ℕ) (given count most : ℕ) → count ≡ min most (length input - given) → 0 < most → count ≡ 0 → drop (given + count) input ≡ []
none_left input given count most is some none = drop_all (given + count) input (omega arith)

-- then the front of the buffer has n bytes
pub gives_count : (input front rest : List ℕ) (given count : ℕ) → given + count ≤ length input → front ≡ take count (drop given input) → length (take count (front ++ rest)) ≡ count
gives_count input front rest given count fits is =
    let long : length front ≡ count = ap length is ∙ length-take-le count (drop given input) (omega (arith, length-drop given input)) in
    ap length (take_at front rest count long) ∙ long

-- the number that is compared with 0
pub is_none : (n : ℕ) → (n == 0) ≡ true → n ≡ 0
is_none n tested = grind (arith, nat_tests)
