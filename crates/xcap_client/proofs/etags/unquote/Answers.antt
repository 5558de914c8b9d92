use Rattle.std.proofs.Common.{sym, ◌∙◌}
use Rattle.request_checks.specs.Tags.{is_tag_byte}
use Rattle.xcap_client.proofs.QuoteLemmas.{all_pass, not_quoted}
use Rattle.xcap_client.proofs.etags.unquote.Goals as goal
use Rattle.xcap_client.proofs.etags.unquote.Goals.{in_default-via-in-Some+else-are_tag_bytes, in_default-via-in_default}

pub returns-in-Some : goal.returns-in-Some
returns-in-Some c = record {
  quoted_or_none = (all_pass is_tag_byte c.in-Some.opaque.now (sym c.are_tag_bytes.ensures.exact ∙ c.if-are_tag_bytes.true), c.in-Some.ensures.enclosed_or_none);
}

pub returns-in_default : goal.returns-in_default
returns-in_default c = record {
  quoted_or_none = λ opaque is. elim c.in_default.branch [
    | in_default-via-in-Some+else-are_tag_bytes w ↦
        not_quoted c.args.text.now w.in-Some.opaque.now w.in-Some.ensures.enclosed_or_none (sym w.are_tag_bytes.ensures.exact ∙ w.if-are_tag_bytes.false) opaque is
    | in_default-via-in_default w ↦ w.in_default.ensures.enclosed_or_none opaque is.1
  ];
}
