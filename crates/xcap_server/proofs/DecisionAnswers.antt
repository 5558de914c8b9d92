-- A decision that is carried out is the answer to its request.
use Rattle.std.proofs.Common.{◌≡◌, sym, ap, subst, ◌∙◌}
use Rattle.http_wire.specs.declared.request.Request.{Request}
use Rattle.edit_ops.specs.declared.edit.Edit.{Edit}
use Rattle.xcap_machine.specs.Answers.{Answer}
use Rattle.xcap_machine.specs.Machine.{answer_with_edit, content_after_answer}
use Rattle.xcap_machine.specs.Requests.{IsAnswer}
use Rattle.store_core.specs.StoreViews.{StoreView}
use Rattle.store_core.specs.Contents.{StoreContents as Content}
use Rattle.xcap_put.specs.Decisions.{DecidesAnswer, answer_of}
use Rattle.xcap_put.specs.declared.decision.Decision.{Decision}
use Rattle.http_serve.specs.declared.machine.MachineReply.{MachineReply}
use Rattle.xcap_machine.specs.ServerStates.{ServerState}
use Rattle.xcap_server.specs.inner.ServerSteps.{AnswersRequest}

pub answered_so : (old new : ServerState) (request : Request) (s : StoreView) (d : Decision) (a : MachineReply Edit) → s.content ≡ old.content → DecidesAnswer (IsAnswer old.root old.content request) s d
    → answer_with_edit a.reply a.edit ≡ answer_of d → new.content ≡ content_after_answer s.content (answer_of d).made → new.root ≡ old.root → AnswersRequest old request a.reply new a.edit
answered_so old new request s d a same decides gives makes root = record {
  does = record {
    answers = subst (IsAnswer old.root old.content request) (sym gives) decides.answers;
    goes_on = makes ∙ ap (λ (c : Content). content_after_answer c (answer_of d).made) same ∙ sym (ap (λ (x : Answer). content_after_answer old.content x.made) gives);
  };
  same_root = root;
}
