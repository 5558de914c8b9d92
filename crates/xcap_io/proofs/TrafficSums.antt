-- How one call after another adds to the traffic of a stream.
use Rattle.std.proofs.Common.{◌≡◌, ℕ, ◌==◌, List, [], ◌++◌, sym, ap, ◌∙◌, append-nil, append_assoc}
use Rattle.std.specs.Io.KnownBytes.{IsAtEnd}
use Rattle.std.proofs.KnownBytes.{Consumes-nil, Consumes-trans}
use Rattle.xcap_io.specs.StreamStates.{InputState}
use Rattle.xcap_io.specs.StreamTraffic.{GivesBytes, IsEnded, TakesBytes}

pub gave_none : (a : InputState) → GivesBytes a a []
gave_none a = record { behind = sym (append-nil a.given); consumed = Consumes-nil a.left; truthful = λ before. before }

pub gave_on : (a b c : InputState) (first next : List ℕ) → GivesBytes a b first → GivesBytes b c next → GivesBytes a c (first ++ next)
gave_on a b c first next p q = record {
  behind = q.behind ∙ ap (λ l. l ++ next) p.behind ∙ append_assoc a.given first next;
  consumed = Consumes-trans a.left b.left c.left first next p.consumed q.consumed;
  truthful = λ before. q.truthful (p.truthful before);
}

-- a read that gave no bytes found the end
pub found_end : (a : InputState) (n : ℕ) → n ≡ 0 → a.ended ≡ (n == 0) → IsAtEnd a.left → IsEnded a
found_end a n none ended at_end = (ended ∙ ap (λ m. m == 0) none, at_end)

pub took_none : (a : List ℕ) → TakesBytes a a []
took_none a = sym (append-nil a)

pub took_on : (a b c first next : List ℕ) → TakesBytes a b first → TakesBytes b c next → TakesBytes a c (first ++ next)
took_on a b c first next p q = q ∙ ap (λ l. l ++ next) p ∙ append_assoc a first next
