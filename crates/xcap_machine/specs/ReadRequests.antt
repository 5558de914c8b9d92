-- Requests that read. RFC 4825, section 8.3 (GET) with the conditions of RFC 9110, section 13. The
-- tag of a node is the tag of its document (RFC 4825, sections 7.11 and 8.5).
use Rattle.std.specs.Prelude.{◌≡◌, ℕ, true, List, Option, None, Some, encode_utf8_all}
use Rattle.store_core.specs.Contents.{StoreContents}
use Rattle.xml_tree.specs.Print.{document_print}
use Rattle.node_select.specs.declared.selector.Selector.{Selector}
use Rattle.doc_names.specs.declared.doc_id.DocId.{DocId}
use Rattle.reply_text.specs.ReplyHeads.{plain_reply}
use Rattle.reply_text.specs.declared.media_types.MediaType.{MediaType}
use Rattle.http_wire.specs.declared.request.Request.{Request}
use Rattle.request_checks.specs.MediaTypes.{document_media_type}
use Rattle.request_checks.specs.Methods.{reply_for_method}
use Rattle.request_checks.specs.declared.method.Method.{Method}
use Rattle.reply_bodies.specs.Nodes.{encode_optional, found_text, node_media_type}
use Rattle.xcap_machine.specs.Answers.{Answer, AppliesConditions, found_reply, reply_only}
use Rattle.xcap_machine.specs.Resources.{IsResourceOf, Resource, absent, beyond_limit, there}

-- a GET or HEAD: the method, and the request
pub record ReadRequest : Type 0 where
  pub method : Method
  pub request : Request

-- what is found in a document with this tag is sent, unless a condition stops the request
abbrev pub AnswersWithFound : Option (List ℕ) → ℕ → MediaType → ReadRequest → Answer → Type 0
AnswersWithFound None tag media get a = a ≡ reply_only (plain_reply 404 get.request.closes)
AnswersWithFound (Some text) tag media get a =
    AppliesConditions get.request (record { tag = Some tag; exists = true }) true a
    (a ≡ reply_only
    (reply_for_method get.method (found_reply (Some tag) media text get.request.closes)))

-- a document is sent
abbrev pub SendsDocument : Resource → MediaType → ReadRequest → Answer → Type 0
SendsDocument absent media get a = a ≡ reply_only (plain_reply 404 get.request.closes)
SendsDocument beyond_limit media get a = a ≡ reply_only (plain_reply 507 get.request.closes)
SendsDocument (there t tag) media get a =
    AnswersWithFound (Some (encode_utf8_all (document_print t))) tag media get a

-- a node of a document is sent
abbrev pub SendsNode : Resource → Selector → ReadRequest → Answer → Type 0
SendsNode absent selector get a = a ≡ reply_only (plain_reply 404 get.request.closes)
SendsNode beyond_limit selector get a = a ≡ reply_only (plain_reply 507 get.request.closes)
SendsNode (there t tag) selector get a =
    AnswersWithFound (encode_optional (found_text t selector)) tag
    (node_media_type selector.end) get a

-- GET or HEAD of a document, and of a node of one
abbrev pub ReadsDocument : StoreContents → DocId → ReadRequest → Answer → Type 0
ReadsDocument c id get a =
    (r : Resource) × IsResourceOf c id r × SendsDocument r (document_media_type id.auid) get a

abbrev pub ReadsNode : StoreContents → DocId → Selector → ReadRequest → Answer → Type 0
ReadsNode c id selector get a = (r : Resource) × IsResourceOf c id r × SendsNode r selector get a
