-- The decision on a request, before anything is changed. RFC 4825, section 8.
use Rattle.std.specs.Prelude.{Some}
use Rattle.store_core.specs.PreparedChanges.{IsReady}
use Rattle.store_core.specs.StoreViews.{StoreView}
use Rattle.xcap_machine.specs.Answers.{Answer, reply_only}
use Rattle.xcap_put.specs.declared.decision.Decision.{Decision}
use Rattle.xcap_put.specs.declared.decision.Decision.TheVariants.{Stays, Changes}

-- the answer of a decision
abbrev pub answer_of : Decision → Answer
answer_of (Stays reply) = reply_only reply
answer_of (Changes reply prepared) =
    record { reply = reply; made = Some (prepared.doc, prepared.note) }

-- the store has reserved the memory of the change
abbrev pub IsReadyFor : StoreView → Decision → Type 0
IsReadyFor store (Stays reply) = Unit {0}
IsReadyFor store (Changes reply prepared) = IsReady store prepared

-- the answer is of this kind, and the store is ready for it
pub record DecidesAnswer (Is : Answer → Type 0) (store : StoreView)
    (decision : Decision) : Type 0 where
  pub answers : Is (answer_of decision)
  pub ready : IsReadyFor store decision
