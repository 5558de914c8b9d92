-- Replies as their bytes. RFC 9112, section 2.1.
use Rattle.std.specs.Prelude.{◌≡◌, ℕ, List, Option}
use Rattle.reply_text.specs.ReplyHeads.{SentReply, reply_bytes}
use Rattle.http_wire.specs.declared.request.Request.{Request}

-- The step of a machine that answers with replies, as a step that answers with their bytes.
pub record StepsInBytes {M E : Type 0} (Step : M → Request → SentReply → M → Option E → Type 0)
    (machine : M) (request : Request) (bytes : List ℕ) (next : M) (edit : Option E) : Type 0 where
  pub reply : SentReply
  pub written : bytes ≡ reply_bytes reply
  pub step : Step machine request reply next edit
