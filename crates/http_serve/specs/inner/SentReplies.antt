-- A reply that was sent on a connection, and how the connection then ends or goes on. RFC 9112,
-- section 9.6.
use Rattle.std.specs.Prelude.{◌≡◌, ℕ, Bool, true, false, List, Option, None, Some, Result, Ok, Err}
use Rattle.std.specs.Prelude.{if◌then◌else◌}
use Rattle.reply_text.specs.ReplyHeads.{SentReply, reply_bytes}
use Rattle.xcap_io.specs.StreamTraffic.{TakesBytes}
use Rattle.xcap_io.specs.StreamWrites.{TakesProperPrefix}
use Rattle.http_wire.specs.declared.request.Request.{Request}
use Rattle.http_wire.specs.declared.request.Asked.{Asked}
use Rattle.http_wire.specs.declared.close_reason.CloseReason.{CloseReason}
use Rattle.http_wire.specs.declared.close_reason.CloseReason.TheVariants.{Closed, ReadFailed}
use Rattle.http_wire.specs.declared.close_reason.CloseReason.TheVariants.{WriteFailed}
use Rattle.http_serve.specs.ItemAnswers.{AnswersNextRequest}

-- why the connection ends after a write of a reply, by whether the reply closes it
abbrev pub ending_after : {E : Type 0} → Result (Unit {0}) E → Bool → Option CloseReason
ending_after (Err e) closes = Some WriteFailed
ending_after (Ok u) closes = if closes then Some Closed else None

-- The bytes of a reply were taken, or a proper prefix of them where its write failed; it closes
-- where the connection then ended.
abbrev pub SendsReply : Option CloseReason → SentReply → List ℕ → List ℕ → Type 0
SendsReply None reply old new = (reply.closes ≡ false) × TakesBytes old new (reply_bytes reply)
SendsReply (Some Closed) reply old new =
    (reply.closes ≡ true) × TakesBytes old new (reply_bytes reply)
SendsReply (Some WriteFailed) reply old new = TakesProperPrefix old new (reply_bytes reply)
SendsReply (Some ReadFailed) reply old new = ⊥

-- Some answer to the reader's result that leaves the machine unchanged was sent.
pub record SendsAnswer {M E : Type 0} (Step : M → Request → List ℕ → M → Option E → Type 0)
    (machine : M) (asked : Asked) (ending : Option CloseReason) (old new : List ℕ) : Type 0 where
  pub reply : SentReply
  pub answers : AnswersNextRequest Step machine asked reply None machine
  pub sends : SendsReply ending reply old new
