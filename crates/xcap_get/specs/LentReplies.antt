-- Replies whose body is lent by the store: those with a stored document, or with an element of
-- one. RFC 4825, sections 7.3, 7.6 and 8.3.
use Rattle.std.specs.Prelude.{◌≡◌, ◌≢◌, ℕ, Bool, true, false, List, Option, None, Some, MatchOption}
use Rattle.std.specs.Prelude.{Ok, if◌then◌else◌}
use Rattle.std.specs.Bool.{MatchBool}
use Rattle.doc_names.specs.declared.doc_id.Home.{Home}
use Rattle.doc_names.specs.declared.doc_id.Home.TheVariants.{Global, User}
use Rattle.xcap_uri.specs.Targets.{IsTargetResult, is_element_end}
use Rattle.xcap_uri.specs.declared.target.Target.{Target}
use Rattle.xcap_uri.specs.declared.target.Target.TheVariants.{Document, Node, Deep, Feed}
use Rattle.xcap_uri.specs.declared.target.Target.TheVariants.{ElementFeed, Flat}
use Rattle.reply_text.specs.ReplyHeads.{SentReply}
use Rattle.http_wire.specs.declared.request.Request.{Request}
use Rattle.request_checks.specs.declared.method.Method.{Method}
use Rattle.request_checks.specs.declared.method.Method.TheVariants.{Get, Head, Put, Delete, Other}
use Rattle.request_checks.specs.Methods.{method_of}
use Rattle.store_core.specs.Contents.{StoreContents}
use Rattle.xcap_machine.specs.Answers.{Answer, reply_only}
use Rattle.xcap_machine.specs.Requests.{IsAnswer}

abbrev pub is_get : Method → Bool
is_get Get = true
is_get Head = false
is_get Put = false
is_get Delete = false
is_get Other = false

-- the documents of users are stored; those under `global` are computed
abbrev pub is_stored_home : Home → Bool
is_stored_home Global = false
is_stored_home (User xui) = true

-- a document of a user, or an element in one
abbrev pub is_lendable : Target → Bool
is_lendable (Document id) = is_stored_home id.home
is_lendable (Node id selector) =
    if is_element_end selector.end then is_stored_home id.home else false
is_lendable (Deep auid home) = false
is_lendable (Feed mode tag id) = false
is_lendable (ElementFeed tag id selector raw) = false
is_lendable (Flat id service) = false

-- What is lent, by the answers that are allowed, of which there is one: its reply where that has
-- status 200, else nothing.
abbrev pub LendsFound : (Answer → Type 0) → Option SentReply → Type 0
LendsFound Allows (Some reply) = Allows (reply_only reply) × (reply.status ≡ 200)
LendsFound Allows None = (reply : SentReply) × Allows (reply_only reply) × (reply.status ≢ 200)

-- nothing is lent of what isn't lendable
abbrev pub LendsIf : Bool → (Answer → Type 0) → Option SentReply → Type 0
LendsIf lendable Allows lent = MatchBool lendable (LendsFound Allows lent) (lent ≡ None)

-- The request is a GET of a stored document or of an element in one, and its answer under this
-- root, on these contents, is this reply, with status 200.
pub record IsFoundReply (root : List ℕ) (c : StoreContents) (request : Request) (reply : SentReply)
    : Type 0 where
  pub target : Target
  pub means : IsTargetResult root request.target (Ok target)
  pub lendable : is_lendable target ≡ true
  pub gets : is_get (method_of request.method) ≡ true
  pub answers : IsAnswer root c request (reply_only reply)
  pub found : reply.status ≡ 200

-- that reply is lent, and nothing exactly where there is none
abbrev pub LendsFoundReply : List ℕ → StoreContents → Request → Option SentReply → Type 0
LendsFoundReply root c request lent =
    MatchOption lent ((reply : SentReply) → IsFoundReply root c request reply → ⊥)
    (λ reply. IsFoundReply root c request reply)
