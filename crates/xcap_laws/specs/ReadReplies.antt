-- Replies as a client reads them: the response that a connection's bytes are where they begin with
-- a reply. RFC 9112, sections 4 (status line), 5 (field lines) and 6.3 (the length of a body), and
-- 9.3.2, by which the replies of a connection come one after the other.
use Rattle.std.specs.Prelude.{◌≡◌, ◌≢◌, ℕ, ◌<◌, Bool, true, List, ◌++◌, length, decimal}
use Rattle.std.specs.Prelude.{flat_map, Option, option_map, Ok}
use Rattle.httparse.specs.Grammar.{ResponseHead, status_code}
use Rattle.http_wire.specs.declared.request.Request.{Request}
use Rattle.reply_text.specs.ReplyHeads.{HeadFields, SentReply, reply_bytes, plain_reply, sent_reply}
use Rattle.reply_text.specs.Statuses.{is_status}
use Rattle.request_checks.specs.Methods.{method_of}
use Rattle.request_checks.specs.declared.method.Method.TheVariants.{Head}
use Rattle.store_core.specs.Contents.{StoreContents}
use Rattle.xcap_client.specs.ResponseHeads.{BeginsWithHead}
use Rattle.xcap_client.specs.Responses.{IsResponseOf}
use Rattle.xcap_client.specs.declared.response.Response.{Response}
use Rattle.xcap_machine.specs.Answers.{Answer}
use Rattle.xcap_machine.specs.Requests.{IsAnswer}

-- A reply that is sent with its whole body: the machine's, on whatever store contents, to a
-- request that isn't a HEAD; or a fixed one without tag and body, by which a server answers what
-- is no request, and refuses a request where memory or the journal fails.
pub data IsCompleteReply (reply : SentReply) : Type 0 where
  answer : (root : List ℕ) (c : StoreContents) (request : Request) (a : Answer)
      → IsAnswer root c request a → method_of request.method ≢ Head → reply ≡ a.reply
      → IsCompleteReply reply
  fixed : (status : ℕ) (closes : Bool) → is_status status ≡ true → reply ≡ plain_reply status closes
      → IsCompleteReply reply

-- the response with the reply's status and body, and this number as its tag, if there is one
abbrev pub response_of_reply : SentReply → Option ℕ → Response
response_of_reply reply tag =
    record { status = reply.status; tag = option_map decimal tag; body = reply.body }

-- Whatever bytes follow the reply on its connection, the head at their front ends where the
-- reply's does, and their meaning is the response with the reply's status, the tag that it is sent
-- with, and its body to its last byte.
pub record IsReadBackReply (reply : SentReply) : Type 0 where
  pub fields : HeadFields
  pub is_sent : reply ≡ sent_reply fields reply.body
  pub head : ResponseHead
  pub begins : (more : List ℕ)
      → BeginsWithHead (reply_bytes reply ++ more) head (reply.body ++ more)
  pub says : (more : List ℕ)
      → IsResponseOf (reply_bytes reply ++ more) (Ok (response_of_reply reply fields.tag))

-- Whatever bytes follow the reply, it is a head alone, with the reply's status, and ends with it.
pub record IsHeadOnlyReply (reply : SentReply) : Type 0 where
  pub head : ResponseHead
  pub begins : (more : List ℕ) → BeginsWithHead (reply_bytes reply ++ more) head more
  pub same_status : status_code head ≡ reply.status

-- a reply with its whole body, whose length is a number of 64 bits, as any body's in memory is
pub record IsCountableReply (reply : SentReply) : Type 0 where
  pub whole : IsCompleteReply reply
  pub countable : length reply.body < 18446744073709551616

-- the bytes of the replies, one after the other
abbrev pub joined_bytes : List SentReply → List ℕ
joined_bytes replies = flat_map reply_bytes replies
