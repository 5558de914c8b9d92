-- Definitions for the laws of access. RFC 4825, section 5.7: a user reads and writes documents
-- under the user's own home alone.
use Rattle.std.specs.Prelude.{◌≡◌, ℕ, true, false, not, List, filter, Option, None, Some, Ok}
use Rattle.std.specs.Prelude.{if◌then◌else◌}
use Rattle.xml_tree.specs.Tree.{Tree}
use Rattle.doc_names.specs.NameEquality.{same_home}
use Rattle.doc_names.specs.declared.doc_id.DocId.{DocId}
use Rattle.doc_names.specs.declared.doc_id.Home.{Home}
use Rattle.doc_names.specs.declared.doc_id.Home.TheVariants.{Global, User}
use Rattle.edit_ops.specs.declared.edit.Edit.{Edit}
use Rattle.http_wire.specs.declared.request.Request.{Request}
use Rattle.reply_text.specs.ReplyHeads.{SentReply, plain_reply}
use Rattle.request_checks.specs.Methods.{is_reading, method_of}
use Rattle.request_checks.specs.Rights.{is_allowed, is_from_user}
use Rattle.store_core.specs.Contents.{StoreContents}
use Rattle.store_core.specs.DocumentChanges.{stored_id}
use Rattle.xcap_uri.specs.Targets.{IsTargetResult}
use Rattle.xcap_uri.specs.declared.target.Target.{Target}
use Rattle.xcap_machine.specs.Answers.{not_allowed_reply}
use Rattle.xcap_machine.specs.StandardRequests.{auid_of, home_of, is_read_only, allows_method}
use Rattle.xcap_machine.specs.Resources.{IsIndexOfServices}

-- ---- requests that aren't allowed

-- the address of the request means this target, in whose home its user may not do what the
-- request asks: read, or write
pub record IsForbiddenRequest (root : List ℕ) (request : Request) (target : Target) : Type 0 where
  pub means : IsTargetResult root request.target (Ok target)
  pub refused : is_allowed (not (is_reading (method_of request.method))) (auid_of target)
      (home_of target) request.fields ≡ false

-- the reply to a forbidden request: 403; or 405, where the target allows nobody the method
abbrev pub forbidden_reply : Target → Request → SentReply
forbidden_reply target request =
    if allows_method target (method_of request.method) then plain_reply 403 request.closes
    else not_allowed_reply (is_read_only target) request.closes

-- ---- homes

-- the documents that aren't under the home of this user, in order
abbrev pub documents_elsewhere : {D : Type 0} → (D → DocId) → List ℕ → List D → List D
documents_elsewhere id_of xui ds = filter (λ d. not (same_home (User xui) (id_of d).home)) ds

-- the document is under the home of the user who makes the request, and all documents that aren't
-- under that home are unchanged
pub record IsOwnHomeChange {D : Type 0} (id_of : D → DocId) (request : Request) (doc : DocId)
    (old new : List D) : Type 0 where
  pub xui : List ℕ
  pub by_user : is_from_user xui request.fields ≡ true
  pub at_home : doc.home ≡ User xui
  pub others : documents_elsewhere id_of xui new ≡ documents_elsewhere id_of xui old

-- a request without an edit changes no document, and one with an edit is an own change
abbrev pub ChangesOwnHome : {D : Type 0} → (D → DocId) → Request → Option Edit → List D → List D
    → Type 0
ChangesOwnHome id_of request None old new = new ≡ old
ChangesOwnHome id_of request (Some e) old new = IsOwnHomeChange id_of request e.doc old new

-- the documents under a home, in order
abbrev pub documents_under : {D : Type 0} → (D → DocId) → Home → List D → List D
documents_under id_of home ds = filter (λ d. same_home home (id_of d).home) ds

-- the contents don't differ in what is global: the documents there, of which a valid state has
-- none; the index of services (RFC 4826, section 4.4.7); and the next number, from which the index
-- has its tag
pub record AgreesOnGlobal (c d : StoreContents) : Type 0 where
  pub documents : documents_under stored_id Global c.documents
      ≡ documents_under stored_id Global d.documents
  pub index : (root : Tree) → IsIndexOfServices c root → IsIndexOfServices d root
  pub next : c.next ≡ d.next

-- the contents don't differ under this home: for a user's, in its documents
abbrev pub AgreesUnderHome : Home → StoreContents → StoreContents → Type 0
AgreesUnderHome Global c d = AgreesOnGlobal c d
AgreesUnderHome (User xui) c d =
    documents_under stored_id (User xui) c.documents
    ≡ documents_under stored_id (User xui) d.documents

-- the request comes from no other user than this one
abbrev pub IsFromNoOtherUser : List ℕ → Request → Type 0
IsFromNoOtherUser xui request =
    (other : List ℕ) → is_from_user other request.fields ≡ true → other ≡ xui
