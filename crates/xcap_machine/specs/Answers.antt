-- The answer to a request: a reply, and the change of a document that is made, if there is one.
-- RFC 4825, sections 8 and 11.
use Rattle.std.specs.Prelude.{◌≡◌, ℕ, Bool, List, [], length, Option, None, Some, MatchOption}
use Rattle.reply_bodies.specs.Conflicts.{conflict_bytes}
use Rattle.reply_bodies.specs.declared.conflicts.ErrorBody.{ErrorBody}
use Rattle.doc_names.specs.declared.doc_id.DocId.{DocId}
use Rattle.edit_ops.specs.Notes.{Note}
use Rattle.reply_text.specs.ReplyHeads.{SentReply, sent_reply}
use Rattle.reply_text.specs.declared.media_types.MediaType.{MediaType}
use Rattle.reply_text.specs.declared.media_types.MediaType.TheVariants as media
use Rattle.http_wire.specs.declared.request.Request.{Request}
use Rattle.request_checks.specs.Conditions.{IsConditionReply}

-- a change that is made: the document's name, and the record of the change
abbrev pub MadeChange : Type 0
MadeChange = DocId × Note

pub record Answer : Type 0 where
  pub reply : SentReply
  pub made : Option MadeChange

-- a reply alone: nothing is changed
abbrev pub reply_only : SentReply → Answer
reply_only reply = record { reply = reply; made = None }

-- what conditions are tested against: the tag of the document, if it is stored, and whether the
-- resource is there (RFC 9110, section 13.1)
pub record Representation : Type 0 where
  pub tag : Option ℕ
  pub exists : Bool

-- the reply of a request's conditions, or what follows where they pass; by whether the request
-- reads (RFC 9110, section 13.2)
abbrev pub AppliesConditions : Request → Representation → Bool → Answer → Type 0 → Type 0
AppliesConditions request current reading a GoesOn =
    (stop : Option SentReply) × IsConditionReply request current.tag current.exists reading stop
    × MatchOption stop GoesOn (λ reply. a ≡ reply_only reply)

-- ---- replies

-- the resource doesn't allow the method (RFC 9110, section 15.5.6)
abbrev pub not_allowed_reply : Bool → Bool → SentReply
not_allowed_reply read_only closes =
    sent_reply (record {
      status = 405;
      tag = None;
      read_only = Some read_only;
      media = None;
      size = 0;
      closes = closes;
    })
    []

-- a conflict, with its error document (RFC 4825, section 11)
abbrev pub error_reply : ErrorBody → Bool → SentReply
error_reply body closes =
    sent_reply (record {
      status = 409;
      tag = None;
      read_only = None;
      media = Some media.Error;
      size = length (conflict_bytes body);
      closes = closes;
    })
    (conflict_bytes body)

-- a status with the tag of a document (RFC 4825, section 8.5)
abbrev pub tagged_reply : ℕ → ℕ → Bool → SentReply
tagged_reply status tag closes =
    sent_reply (record {
      status = status;
      tag = Some tag;
      read_only = None;
      media = None;
      size = 0;
      closes = closes;
    })
    []

-- a text of this media type, with the document's tag, if it has one
abbrev pub found_reply : Option ℕ → MediaType → List ℕ → Bool → SentReply
found_reply tag m body closes =
    sent_reply (record {
      status = 200;
      tag = tag;
      read_only = None;
      media = Some m;
      size = length body;
      closes = closes;
    })
    body
