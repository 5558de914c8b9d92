-- The server makes the same change on a request as its record gives it.
use Rattle.std.specs.Prelude.{Some}
use Rattle.http_wire.specs.declared.request.Request.{Request}
use Rattle.edit_ops.specs.declared.edit.Edit.{Edit}
use Rattle.reply_text.specs.ReplyHeads.{SentReply}
use Rattle.change_records.specs.Records.{kept_request}
use Rattle.xcap_machine.specs.Machine.{change_from_edit}
use Rattle.xcap_machine.specs.ServerStates.{ServerState}
use Rattle.unread_parts.proofs.RecordedRequests.{recorded_changes}
use Rattle.xcap_server.specs.inner.ServerSteps.{AnswersRequest}

pub recorded_makes : (old : ServerState) (request : Request) (reply : SentReply) (new : ServerState)
    (e : Edit) → AnswersRequest old request reply new (Some e)
    → (again : SentReply) × AnswersRequest old (kept_request request) again new (Some e)
recorded_makes old request reply new e step =
    let made = change_from_edit e in
    let again = recorded_changes old.root old.content request reply made step.does.answers in (
      again.0,
      record {
        does = record { answers = again.1; goes_on = step.does.goes_on };
        same_root = step.same_root;
      },
    )
