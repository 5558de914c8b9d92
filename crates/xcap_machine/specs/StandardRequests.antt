-- The answer to a request by the standards, on given store contents: the first line that applies
-- decides. The target (RFC 4825, section 6), the method, the user, whether the resource is there
-- (RFC 4825, section 8), the conditions (RFC 9110, section 13), and then reading or the change.
-- The order of the lines is this server's own. What its own targets give, which can only be read,
-- is a parameter here; `Requests` says it.
use Rattle.std.specs.Prelude.{◌≡◌, ℕ, Bool, true, false, not, List, None}
use Rattle.std.specs.Bool.{MatchBool}
use Rattle.store_core.specs.Contents.{StoreContents}
use Rattle.node_select.specs.declared.selector.End.{End}
use Rattle.node_select.specs.declared.selector.End.TheVariants.{Namespaces}
use Rattle.doc_names.specs.declared.doc_id.Auid.{Auid}
use Rattle.doc_names.specs.declared.doc_id.Home.{Home}
use Rattle.doc_names.specs.Usages.{usage_of}
use Rattle.doc_names.specs.declared.usages.Usage.{Usage}
use Rattle.reply_text.specs.ReplyHeads.{plain_reply}
use Rattle.xcap_uri.specs.Meanings.{IsOwnAddress, IsTarget, LeadsNowhere}
use Rattle.xcap_uri.specs.declared.target.Target.{Target}
use Rattle.xcap_uri.specs.declared.target.Target.TheVariants.{Document, Node, Deep, Feed}
use Rattle.xcap_uri.specs.declared.target.Target.TheVariants.{ElementFeed, Flat}
use Rattle.http_wire.specs.declared.request.Request.{Request}
use Rattle.request_checks.specs.declared.method.Method.{Method}
use Rattle.request_checks.specs.declared.method.Method.TheVariants.{Get, Head, Put, Delete, Other}
use Rattle.request_checks.specs.Methods.{method_of, is_reading}
use Rattle.request_checks.specs.Rights.{is_allowed}
use Rattle.xcap_machine.specs.Answers.{Answer, reply_only, not_allowed_reply}
use Rattle.xcap_machine.specs.ReadRequests.{ReadRequest, ReadsDocument, ReadsNode}
use Rattle.xcap_machine.specs.DocumentWrites.{WritesIfStored, PutsDocument, missing_parent_answer}
use Rattle.xcap_machine.specs.DocumentWrites.{DeletesDocument}
use Rattle.xcap_machine.specs.NodeWrites.{PutsNode, DeletesNode, IsWritableSelector}
use Rattle.xcap_machine.specs.ServerStates.{ServerState}

-- ---- the target

-- namespace bindings can't be put
abbrev pub is_namespace_bindings : End → Bool
is_namespace_bindings Namespaces = true
is_namespace_bindings _ = false

-- the targets that can only be read
abbrev pub is_read_only : Target → Bool
is_read_only (Document id) = false
is_read_only (Node id selector) = is_namespace_bindings selector.end
is_read_only (Deep auid home) = false
is_read_only _ = true

-- the methods that a target allows
abbrev pub allows_method : Target → Method → Bool
allows_method target Get = true
allows_method target Head = true
allows_method target Put = not (is_read_only target)
allows_method target Delete = not (is_read_only target)
allows_method target Other = false

-- a target that ends in an attribute is writable
abbrev pub IsWritableTarget : Target → Type 0
IsWritableTarget (Node id selector) = IsWritableSelector selector
IsWritableTarget _ = Unit {0}

-- ---- by method

-- this server's own targets are read only, so they never come here
abbrev pub PutsTarget : ServerState → Target → Usage → Request → Answer → Type 0
PutsTarget server (Document id) usage request a = PutsDocument server.content id usage request a
PutsTarget server (Node id selector) usage request a =
    PutsNode server (record { id = id; usage = usage; selector = selector; request = request }) a
PutsTarget server (Deep auid home) usage request a =
    a ≡ missing_parent_answer server.root auid home request
PutsTarget server _ usage request a = ⊥

abbrev pub DeletesTarget : StoreContents → Target → Usage → Request → Answer → Type 0
DeletesTarget c (Document id) usage request a = DeletesDocument c id request a
DeletesTarget c (Node id selector) usage request a =
    DeletesNode c (record { id = id; usage = usage; selector = selector; request = request }) a
DeletesTarget c (Deep auid home) usage request a = a ≡ reply_only (plain_reply 404 request.closes)
DeletesTarget c _ usage request a = ⊥

-- ---- all in order

-- the usage and the home of a target
abbrev pub auid_of : Target → Auid
auid_of (Document id) = id.auid
auid_of (Node id selector) = id.auid
auid_of (Deep auid home) = auid
auid_of (Feed mode tag id) = id.auid
auid_of (ElementFeed tag id selector raw) = id.auid
auid_of (Flat id service) = id.auid

abbrev pub home_of : Target → Home
home_of (Document id) = id.home
home_of (Node id selector) = id.home
home_of (Deep auid home) = home
home_of (Feed mode tag id) = id.home
home_of (ElementFeed tag id selector raw) = id.home
home_of (Flat id service) = id.home

-- What this server's own targets give.
module _ (ReadsOwn : ServerState → Target → ReadRequest → Answer → Type 0) where
  -- GET and HEAD
  abbrev pub ReadsTarget : ServerState → Target → ReadRequest → Answer → Type 0
  ReadsTarget server (Document id) get a = ReadsDocument server.content id get a
  ReadsTarget server (Node id selector) get a = ReadsNode server.content id selector get a
  ReadsTarget server (Deep auid home) get a = a ≡ reply_only (plain_reply 404 get.request.closes)
  ReadsTarget server own get a = ReadsOwn server own get a

  -- by the method, which the target allows
  abbrev pub AnswersByMethod : ServerState → Target → Method → Request → Answer → Type 0
  AnswersByMethod server target Get request a =
      ReadsTarget server target (record { method = Get; request = request }) a
  AnswersByMethod server target Head request a =
      ReadsTarget server target (record { method = Head; request = request }) a
  AnswersByMethod server target Put request a =
      WritesIfStored (usage_of (auid_of target)) request a
      (λ usage. PutsTarget server target usage request a)
  AnswersByMethod server target Delete request a =
      WritesIfStored (usage_of (auid_of target)) request a
      (λ usage. DeletesTarget server.content target usage request a)
  AnswersByMethod server target Other request a = ⊥

  -- whether the user may read or write there
  abbrev pub AnswersByUser : ServerState → Target → Method → Request → Answer → Type 0
  AnswersByUser server target method request a =
      MatchBool
      (is_allowed (not (is_reading method)) (auid_of target) (home_of target) request.fields)
      (AnswersByMethod server target method request a)
      (a ≡ reply_only (plain_reply 403 request.closes))

  -- whether the target allows the method
  abbrev pub AnswersByTarget : ServerState → Target → Method → Request → Answer → Type 0
  AnswersByTarget server target method request a =
      MatchBool (allows_method target method)
      (AnswersByUser server target method request a)
      (a ≡ reply_only (not_allowed_reply (is_read_only target) request.closes))

-- ---- the standards alone

-- where this server has no targets of its own
abbrev pub ReadsNothing : ServerState → Target → ReadRequest → Answer → Type 0
ReadsNothing server target get a = ⊥

-- The answer to a request, under this root, on these store contents: by the target that its
-- address means; 404 where the address leads nowhere; and 400 for any other address. To a request
-- for one of this server's own addresses the reply is left open, but it changes nothing.
pub data IsStandardAnswer (root : List ℕ) (c : StoreContents) (request : Request)
    (a : Answer) : Type 0 where
  by_target : (target : Target) → IsTarget root request.target target
      → AnswersByTarget ReadsNothing (record { root = root; content = c }) target
      (method_of request.method) request a
      → IsStandardAnswer root c request a
  leads_nowhere : LeadsNowhere root request.target → a ≡ reply_only (plain_reply 404 request.closes)
      → IsStandardAnswer root c request a
  means_nothing : ((target : Target) → IsTarget root request.target target → ⊥)
      → (LeadsNowhere root request.target → ⊥) → a ≡ reply_only (plain_reply 400 request.closes)
      → IsStandardAnswer root c request a
  is_own : IsOwnAddress root request.target → a.made ≡ None
      → a.reply.closes ≡ request.closes → IsStandardAnswer root c request a
