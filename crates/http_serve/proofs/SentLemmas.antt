-- Replies that were sent.
use Rattle.std.proofs.Common.{◌≡◌, ◌∙◌, ℕ, Bool, true, false, List, Option, None, Some, Result, Ok, Err, sym}
use Rattle.reply_text.specs.ReplyHeads.{SentReply, reply_bytes}
use Rattle.xcap_io.specs.StreamStates.{OnlyWrites, StreamState}
use Rattle.xcap_io.specs.StreamWrites.{WritesAll}
use Rattle.http_wire.specs.declared.close_reason.CloseReason.{CloseReason}
use Rattle.http_serve.specs.inner.OpenFaultCounts.{CountsFaultOfEnding}
use Rattle.http_serve.proofs.Faults.{faults_on}
use Rattle.http_serve.specs.inner.SentReplies.{SendsReply, ending_after}

pub sends_so : {E : Type 0} (written : Result (Unit {0}) E) (closes : Bool) (reply : SentReply) (old new : List ℕ) → closes ≡ reply.closes → WritesAll old new written (reply_bytes reply) → SendsReply (ending_after written closes) reply old new
sends_so (Err e) closes reply old new is writes = writes
sends_so (Ok u) true reply old new is writes = (sym is, writes)
sends_so (Ok u) false reply old new is writes = (sym is, writes)

pub counts_so : {E : Type 0} (written : Result (Unit {0}) E) (closes : Bool) (old new : StreamState) → OnlyWrites old new written → CountsFaultOfEnding (ending_after written closes) old new
counts_so (Err e) closes old new only = (only.writes.same_read_faults, only.counts)
counts_so (Ok u) true old new only = (only.writes.same_read_faults, only.counts)
counts_so (Ok u) false old new only = (only.writes.same_read_faults, only.counts)

-- the counters after reads that didn't fail, and what was sent then
pub counts_after : (ending : Option CloseReason) (old mid new : StreamState) → mid.read_faults ≡ old.read_faults → mid.write_faults ≡ old.write_faults → CountsFaultOfEnding ending mid new → CountsFaultOfEnding ending old new
counts_after None old mid new reads writes f = (f.0 ∙ reads, f.1 ∙ writes)
counts_after (Some ended) old mid new reads writes f = faults_on ended old mid new reads writes f
