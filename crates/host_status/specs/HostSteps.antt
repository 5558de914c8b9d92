-- What the server of `host` does with a request. The target `~status` is the project's own; all
-- else is as the machine answers it. RFC 9110, sections 9.3.1 (GET) and 9.3.2 (HEAD).
use Rattle.std.specs.Prelude.{◌≡◌, ℕ, Bool, true, false, ◌&&◌, List, codes, Option, None}
use Rattle.std.specs.Option.{option_map_or}
use Rattle.std.specs.Str.{bytes_eq}
use Rattle.edit_ops.specs.declared.edit.Edit.{Edit}
use Rattle.reply_text.specs.ReplyHeads.{SentReply}
use Rattle.reply_text.specs.declared.media_types.MediaType.TheVariants as medias
use Rattle.http_wire.specs.declared.request.Request.{Request}
use Rattle.request_checks.specs.Methods.{is_reading, method_of, reply_for_method}
use Rattle.store_core.specs.Contents.{StoreContents, contents_of}
use Rattle.store_core.specs.State.{State}
use Rattle.store_core.specs.ValidStates.{IsValidState}
use Rattle.xcap_uri.specs.Targets.{rest_under_root}
use Rattle.xcap_machine.specs.Answers.{found_reply}
use Rattle.xcap_machine.specs.Machine.{ValidStep}
use Rattle.host_status.specs.StatusTexts.{status_text}
use Rattle.host_status.specs.declared.answer_counts.AnswerCounts.{AnswerCounts}

-- the target is the root or its path, then a slash, then `~status`, and nothing more
unfoldable pub is_status_target : List ℕ → List ℕ → Bool
is_status_target root target =
    option_map_or (λ rest. bytes_eq rest (codes "~status")) (rest_under_root root target) false

-- a GET or HEAD of that target
unfoldable pub asks_for_status : List ℕ → Request → Bool
asks_for_status root request =
    is_status_target root request.target && is_reading (method_of request.method)

-- the reply: the text about these contents, or for HEAD the same without its body
abbrev pub status_reply : StoreContents → AnswerCounts → Request → SentReply
status_reply c counts request =
    reply_for_method (method_of request.method)
    (found_reply None medias.PlainText (status_text c counts) request.closes)

-- A step of the server of `host` under this root. A request for the status is answered by the text
-- about the state, and changes nothing; how many requests were answered is left open. Any other
-- request is answered by the machine.
pub data HostStep (root : List ℕ) (m : State) (request : Request) (reply : SentReply)
    (next : State) (edit : Option Edit) : Type 0 where
  status : (counts : AnswerCounts) → asks_for_status root request ≡ true → IsValidState m
      → reply ≡ status_reply (contents_of m) counts request → next ≡ m → edit ≡ None
      → HostStep root m request reply next edit
  other : asks_for_status root request ≡ false → ValidStep root m request reply next edit
      → HostStep root m request reply next edit
