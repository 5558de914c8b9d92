-- Replies to requests for the feed of an element. RFC 5874, section 3, defines the diff document
-- of an element.
use Rattle.std.specs.Prelude.{◌≡◌, ℕ, List, Some, Ok, encode_utf8_all, slice_get}
use Rattle.xml_tree.specs.Print.{document_print}
use Rattle.doc_names.specs.DocIds.{id_text}
use Rattle.http_wire.specs.declared.request.Request.{Request}
use Rattle.request_checks.specs.Methods.{method_of}
use Rattle.request_checks.specs.declared.method.Method.TheVariants.{Get}
use Rattle.element_watch.specs.ElementNotices.{element_notice}
use Rattle.element_watch.specs.declared.element_states.ElementState.{ElementState}
use Rattle.store_core.specs.Contents.{Represents, StoreContents}
use Rattle.store_core.specs.DocumentChanges.{find_document, document_id}
use Rattle.store_core.specs.State.{Document, State, Version, versions}
use Rattle.store_core.specs.ValidStates.{IsValidState}
use Rattle.xcap_uri.specs.Targets.{IsTargetResult}
use Rattle.xcap_uri.specs.declared.target.Target.TheVariants.{ElementFeed}
use Rattle.xcap_machine.specs.Answers.{Answer}
use Rattle.xcap_machine.specs.ElementFeeds.{ElementQuery}
use Rattle.xcap_machine.specs.Requests.{IsAnswer}

-- in a valid state the answer to a GET of this feed has the status 200, the document of the feed
-- is `document`, and the tag is that of its version `from`
pub record AnswersElementFeed (root : List ℕ) (c : StoreContents) (m : State) (query : ElementQuery)
    (a : Answer) : Type 0 where
  pub document : Document
  pub from : Version
  pub kept : IsValidState m
  pub stands : Represents c m
  pub request : Request
  pub answers : IsAnswer root c request a
  pub target : IsTargetResult root request.target
      (Ok (ElementFeed query.tag query.watched.doc query.watched.selector query.watched.raw))
  pub reads : method_of request.method ≡ Get
  pub ok : a.reply.status ≡ 200
  pub there : find_document document_id m.documents query.watched.doc ≡ Some document
  pub number : ℕ
  pub is_version : slice_get (versions document) number ≡ Some from
  pub same_tag : from.tag ≡ query.tag

-- the text of the diff document that says this of the element
abbrev pub element_notice_text : List ℕ → ElementQuery → ElementState → List ℕ
element_notice_text root query state =
    encode_utf8_all
    (document_print
    (element_notice root (id_text query.watched.doc) query.watched.raw state))
