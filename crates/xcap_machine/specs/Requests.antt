-- The answer to a request on given store contents, with this server's own targets: the feeds of
-- documents and of elements, and flat lists. All else is as the standards say, in
-- `StandardRequests`.
use Rattle.std.specs.Prelude.{◌≡◌, ℕ, List, Result, MatchResult}
use Rattle.store_core.specs.Contents.{StoreContents}
use Rattle.xcap_uri.specs.Targets.{IsTargetResult}
use Rattle.reply_text.specs.ReplyHeads.{plain_reply}
use Rattle.xcap_uri.specs.declared.fault.UriFault.{UriFault}
use Rattle.xcap_uri.specs.declared.fault.UriFault.TheVariants.{OutsideRoot, UnknownAuid}
use Rattle.xcap_uri.specs.declared.target.Target.{Target}
use Rattle.xcap_uri.specs.declared.target.Target.TheVariants.{Feed, ElementFeed, Flat}
use Rattle.http_wire.specs.declared.request.Request.{Request}
use Rattle.request_checks.specs.declared.method.Method.{Method}
use Rattle.request_checks.specs.Methods.{method_of}
use Rattle.xcap_machine.specs.Answers.{Answer, reply_only}
use Rattle.xcap_machine.specs.ElementFeeds.{ReadsElementFeed}
use Rattle.xcap_machine.specs.Feeds.{ReadsFeed}
use Rattle.xcap_machine.specs.FlatLists.{ReadsFlatList}
use Rattle.xcap_machine.specs.ReadRequests.{ReadRequest}
use Rattle.xcap_machine.specs.ServerStates.{ServerState}
use Rattle.xcap_machine.specs.StandardRequests as standard

-- ---- this server's own targets

-- GET and HEAD of a feed, of the feed of an element, and of a flat list
abbrev pub ReadsOwn : ServerState → Target → ReadRequest → Answer → Type 0
ReadsOwn server (Feed mode tag id) get a =
    ReadsFeed server (record { mode = mode; tag = tag; id = id }) get a
ReadsOwn server (ElementFeed tag id selector raw) get a =
    ReadsElementFeed server
    (record { tag = tag; watched = record { doc = id; selector = selector; raw = raw } }) get a
ReadsOwn server (Flat id service) get a = ReadsFlatList server id service get a
ReadsOwn server _ get a = ⊥

-- ---- all in order, with these targets

abbrev pub AnswersByTarget : ServerState → Target → Method → Request → Answer → Type 0
AnswersByTarget server target method request a =
    standard.AnswersByTarget ReadsOwn server target method request a

-- outside the root, or in no usage, there is nothing: 404; any other fault is the client's: 400
abbrev pub fault_status : UriFault → ℕ
fault_status OutsideRoot = 404
fault_status UnknownAuid = 404
fault_status _ = 400

-- the answer to a request, under this root, on these store contents: by its target, or by the
-- target's fault
abbrev pub IsAnswer : List ℕ → StoreContents → Request → Answer → Type 0
IsAnswer root c request a =
    let server : ServerState = record { root = root; content = c } in
    (read : Result Target UriFault) × IsTargetResult root request.target read
    × MatchResult read
    (λ target. AnswersByTarget server target (method_of request.method) request a)
    (λ fault. a ≡ reply_only (plain_reply (fault_status fault) request.closes))
