use Rattle.std.proofs.Common.{ℕ, List, None, ap, ◌∙◌}
use Rattle.reply_text.specs.declared.media_types.MediaType.TheVariants as medias
use Rattle.request_checks.specs.Methods.{method_of, reply_for_method}
use Rattle.store_core.specs.Contents.{StoreContents}
use Rattle.xcap_machine.specs.Answers.{found_reply}
use Rattle.host_status.specs.StatusTexts.{status_text}
use Rattle.host_status.proofs.status_replies.status_reply.Goals as goal

pub returns : goal.returns
returns c = record {
  ok =
      c.text_reply.ensures.exact
      ∙ ap (λ (body : List ℕ). reply_for_method (method_of c.args.request.now.method) (found_reply None medias.PlainText body c.args.request.now.closes))
      (c.in_ok-text.ensures.ok ∙ ap (λ (x : StoreContents). status_text x c.args.counts.now) c.store.ensures.same_contents);
}
