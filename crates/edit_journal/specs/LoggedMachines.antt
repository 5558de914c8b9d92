-- What a machine whose accepted requests are logged did, and what its journal has. This is the
-- project's own.
use Rattle.std.specs.Prelude.{◌≡◌, ℕ, ◌+◌, List, [], ◌∷◌, ◌++◌, length, All, Option, None, Some}
use Rattle.std.specs.Bool.{MatchBool}
use Rattle.reply_text.specs.ReplyHeads.{SentReply, plain_reply}
use Rattle.http_wire.specs.declared.request.Request.{Request}
use Rattle.edit_journal.specs.Journals.{IsPrefixOf}
use Rattle.edit_journal.specs.JournalLogs.{LogState}
use Rattle.edit_journal.specs.Records.{IsRecordable, record_of, recorded_request}
use Rattle.edit_journal.specs.JournalTexts.{IsRecordedRequest, journal_text}
use Rattle.edit_journal.specs.LoggedRequests.{AcceptsRequest}

-- The bytes are the records of the requests, which have the log's length; and after them, only
-- where the log is torn, a prefix of the record of a request that would be accepted now, or all of
-- it.
pub record HoldsLog (Accepted : Request → Type 0) (log : LogState) (requests : List Request)
    (bytes : List ℕ) : Type 0 where
  pub rest : List ℕ
  pub recorded : All IsRecordedRequest requests
  pub split : bytes ≡ journal_text requests ++ rest
  pub len : length (journal_text requests) ≡ log.len
  pub behind : MatchBool log.is_torn
      ((request : Request) × IsRecordable request × Accepted request
      × IsPrefixOf rest (record_of request))
      (rest ≡ [])

-- A machine, the requests accepted so far, as their records give them, and how many requests got
-- the 500 because they couldn't be recorded.
pub record LoggedMachineState (M : Type 0) : Type 0 where
  pub machine : M
  pub requests : List Request
  pub failures : ℕ

-- the request as its record gives it, where it made a change
abbrev pub accepted_requests : {E : Type 0} → Request → Option E → List Request
accepted_requests request None = []
accepted_requests request (Some edit) = recorded_request request ∷ []

module _ {M E : Type 0} (Step : M → Request → SentReply → M → Option E → Type 0) where
  -- A request is answered by the machine; or, where the machine would make a change, by the 500,
  -- and the machine is unchanged.
  pub data LoggedStep (old : LoggedMachineState M) (request : Request) (reply : SentReply)
      (new : LoggedMachineState M)
      (edit : Option E) : Type 0 where
    answered : Step old.machine request reply new.machine edit
        → new.requests ≡ old.requests ++ accepted_requests request edit
        → new.failures ≡ old.failures → LoggedStep old request reply new edit
    not_logged : AcceptsRequest Step old.machine request → reply ≡ plain_reply 500 request.closes
        → new ≡ record old { failures = old.failures + 1 }
        → edit ≡ None → LoggedStep old request reply new edit
