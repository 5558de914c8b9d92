-- Versions of documents as the machine proceeds from state to state. RFC 4825, section 8.5: each
-- change gives a document a new entity tag.
use Rattle.std.specs.Prelude.{◌≡◌, ℕ, List, Option, Some, slice_get}
use Rattle.doc_names.specs.declared.doc_id.DocId.{DocId}
use Rattle.edit_ops.specs.declared.edit.Edit.{Edit}
use Rattle.reply_text.specs.ReplyHeads.{SentReply}
use Rattle.http_wire.specs.declared.request.Request.{Request}
use Rattle.store_core.specs.DocumentChanges.{find_document, document_id}
use Rattle.store_core.specs.State.{Document, State, Version, versions}
use Rattle.xcap_machine.specs.Machine.{ValidStep}

-- the machine gets from one state to another by any number of steps
pub data ReachesByValidSteps (root : List ℕ) : State → State → Type 0 where
  stays : (m : State) → ReachesByValidSteps root m m
  goes_on : (m n last : State) (request : Request) (reply : SentReply) (edit : Option Edit)
      → ValidStep root m request reply n edit → ReachesByValidSteps root n last
      → ReachesByValidSteps root m last

-- the document of this name, which is stored in the state, has the version
pub record HasVersion (m : State) (id : DocId) (v : Version) : Type 0 where
  pub document : Document
  pub there : find_document document_id m.documents id ≡ Some document
  pub number : ℕ
  pub is_version : slice_get (versions document) number ≡ Some v
