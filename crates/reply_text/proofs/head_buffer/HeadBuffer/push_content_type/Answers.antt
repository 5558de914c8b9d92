use Rattle.std.proofs.Common.{◌≡◌, append_assoc, ◌∙◌}
use Rattle.reply_text.specs.ReplyHeads.{media_line}
use Rattle.reply_text.specs.MediaTypes.{media_type}
use Rattle.reply_text.proofs.head_buffer.HeadBuffer.push_content_type.Goals as goal

pub returns-clause-appends_bytes : goal.returns-clause-appends_bytes
unfolding media_line
returns-clause-appends_bytes c =
    let name : c.as_bytes.result.now ≡ media_type c.args.media = c.as_bytes.ensures.value ∙ c.media_type.ensures.expected_word in
    rw (c.push-3.ensures.adds_bytes, c.push-2.ensures.adds_bytes, c.push.ensures.adds_bytes, name) (simp append_assoc)
