-- Which state a restart comes to, if a crash comes at some moment. This is the project's own.
use Rattle.std.specs.Prelude.{◌≡◌, ◌⊎◌, ℕ, List, [], ◌∷◌, map, Option, None, Some, option_map}
use Rattle.std.specs.Prelude.{IfSome}
use Rattle.std.specs.List.{AllByRecursion}
use Rattle.reply_text.specs.ReplyHeads.{SentReply}
use Rattle.http_wire.specs.declared.request.Request.{Request}
use Rattle.change_log.specs.LogContents.{Contents}
use Rattle.change_log.specs.LogHistories.{Moment, HoldsAtEachMoment}
use Rattle.change_records.specs.Records.{IsRecordable, change_record, kept_request}
use Rattle.logged_state.specs.DurableAnswers.{Accepts, Answers, Call, DurableState}

-- the request is as its record gives it
abbrev pub IsRecorded : Request → Type 0
IsRecorded request = IsRecordable request × (kept_request request ≡ request)

-- Begins says that a snapshot of these parts, with this next number, is of a state.
module _ {M E : Type 0} (Step : M → Request → SentReply → M → Option E → Type 0)
    (Begins : List (List ℕ) → ℕ → M → Type 0) where
  -- the machine makes a change on each of the requests in turn
  abbrev pub MakesChanges : M → List Request → M → Type 0
  MakesChanges m [] n = n ≡ m
  MakesChanges m (request ∷ requests) n =
      (reply : SentReply) × (mid : M) × (edit : E) × Step m request reply mid (Some edit)
      × MakesChanges mid requests n

  -- A restart from these contents comes to this state: the machine begins with the snapshot, and
  -- makes the changes of the records again.
  pub record ComesTo (found : Contents) (m : M) : Type 0 where
    pub origin : M
    pub requests : List Request
    pub begins : Begins found.parts found.first origin
    pub told : AllByRecursion IsRecorded requests
    pub changes : found.changes ≡ map change_record requests
    pub made : MakesChanges origin requests m

  -- it comes to the state after the change that the machine makes on this request
  abbrev pub ComesAfter : M → Request → Contents → Type 0
  ComesAfter m request found =
      (reply : SentReply) × (next : M) × (edit : E) × Step m request reply next (Some edit)
      × ComesTo found next

  -- it comes to this state, or to the one after the pending change, if there is one
  abbrev pub Survives : M → Option Request → Contents → Type 0
  Survives m None found = ComesTo found m
  Survives m (Some request) found = ComesTo found m ⊎ ComesAfter m request found

  -- The log keeps the state, with at most one pending change: that of a request that was answered
  -- by the 500, since when nothing was changed.
  pub record IsKept (m : M) (pending : Option Request) (now : Moment) : Type 0 where
    pub comes : ComesTo now.kept m
    pub open_change : now.open_change ≡ option_map change_record pending
    pub accepted : IfSome pending (λ request. IsRecordable request × Accepts Step m request)
    pub instead : IfSome now.instead (λ found. ComesTo found m)

  -- while a request is answered: it comes to the state before, or to one change more, which is the
  -- pending one or that of this request
  abbrev pub SurvivesCall : M → Option Request → Request → Contents → Type 0
  SurvivesCall m pending request found =
      Survives m pending found ⊎ Survives m (Some request) found

  -- What a call left: the log keeps the new state; a change that was made is pending no longer,
  -- nor is any before it; and the log survived each moment of the call.
  pub record KeepsCall (old : DurableState M) (pending : Option Request) (call : Call E)
      (new : DurableState M) (next : Option Request) : Type 0 where
    pub kept : IsKept new.machine next new.log.history.now
    pub settled : IfSome call.edit (λ _. next ≡ None)
    pub one_of : (next ≡ None) ⊎ ((next ≡ pending) ⊎ (next ≡ Some call.request))
    pub any_moment : HoldsAtEachMoment (SurvivesCall old.machine pending call.request)
        old.log.history new.log.history

  -- the calls were answered one after the other, and the log survived each moment of each
  abbrev pub KeepsCalls : DurableState M → Option Request → List (Call E) → DurableState M
      → Option Request → Type 0
  KeepsCalls old pending [] new last = (new ≡ old) × (last ≡ pending)
  KeepsCalls old pending (call ∷ calls) new last =
      (mid : DurableState M) × (next : Option Request) × Answers Step old call mid
      × KeepsCall old pending call mid next × KeepsCalls mid next calls new last
