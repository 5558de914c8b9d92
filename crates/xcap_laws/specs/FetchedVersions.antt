-- A document that is fetched, as a version since which feeds start. RFC 4825, sections 8.3 (GET)
-- and 8.5 (entity tags).
use Rattle.std.specs.Prelude.{◌≡◌, [], Some, Ok}
use Rattle.xml_names.specs.declared.limits.TheConstants.{MAX_LEVELS}
use Rattle.tree_text.specs.Faults.{IsTextResult}
use Rattle.doc_names.specs.declared.doc_id.DocId.{DocId}
use Rattle.reply_text.specs.ReplyHeads.{SentReply}
use Rattle.request_checks.specs.MediaTypes.{document_media_type}
use Rattle.store_core.specs.Contents.{StoreContents}
use Rattle.store_core.specs.DocumentChanges.{find_document, document_id}
use Rattle.store_core.specs.Since.{ReportedChanges, since}
use Rattle.store_core.specs.State.{Document, State}
use Rattle.xcap_machine.specs.Answers.{found_reply}

-- the reply sends the current version of the document: its tag, and a text that spells its tree;
-- no change is reported since that tag
pub record SendsVersion (c : StoreContents) (m : State) (id : DocId)
    (reply : SentReply) : Type 0 where
  pub document : Document
  pub there : find_document document_id m.documents id ≡ Some document
  pub tagged : reply
      ≡ found_reply (Some document.now.tag) (document_media_type id.auid) reply.body reply.closes
  pub text : IsTextResult MAX_LEVELS [] reply.body (Ok document.now.tree)
  pub starts : since c id document.now.tag ≡ ReportedChanges []
