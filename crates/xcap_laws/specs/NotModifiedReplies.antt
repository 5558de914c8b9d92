-- A 304 to a request. RFC 9110, sections 13.1.2 (If-None-Match) and 15.4.5 (304).
use Rattle.std.specs.Prelude.{◌≡◌, ℕ, Bool, true, List, [], codes, Option, None, Some, Ok}
use Rattle.std.specs.List.{list_any}
use Rattle.doc_names.specs.declared.doc_id.DocId.{DocId}
use Rattle.http_wire.specs.declared.request.Request.{Request}
use Rattle.reply_text.specs.ReplyHeads.{SentReply, sent_reply}
use Rattle.request_checks.specs.Fields.{FieldValue, Missing, Star, Tags, HasFieldValue}
use Rattle.request_checks.specs.Methods.{is_reading, method_of}
use Rattle.request_checks.specs.Rights.{fields_named}
use Rattle.request_checks.specs.Verdicts.{matches_etag_weakly}
use Rattle.store_core.specs.Contents.{StoreContents}
use Rattle.xcap_machine.specs.Answers.{Answer, reply_only}
use Rattle.xcap_machine.specs.Resources.{IsResourceOf, there}
use Rattle.xcap_uri.specs.Targets.{IsTargetResult}
use Rattle.xcap_uri.specs.declared.target.Target.{Target}
use Rattle.xcap_uri.specs.declared.target.Target.TheVariants.{Document, Node}
use Rattle.xml_tree.specs.Tree.{Tree}

-- the document that a target is, or is a node of (RFC 4825, section 6)
abbrev pub target_document : Target → Option DocId
target_document (Document id) = Some id
target_document (Node id selector) = Some id
target_document _ = None

-- a 304 with this tag (RFC 9110, section 15.4.5)
abbrev pub not_modified_reply : ℕ → Bool → SentReply
not_modified_reply tag closes =
    sent_reply
    (record {
      status = 304;
      tag = Some tag;
      read_only = None;
      media = None;
      size = 0;
      closes = closes;
    })
    []

-- the field names the tag, by the weak comparison, or every tag (RFC 9110, section 13.1.2)
abbrev pub FieldNamesTag : ℕ → FieldValue → Type 0
FieldNamesTag tag Missing = ⊥
FieldNamesTag tag Star = Unit {0}
FieldNamesTag tag (Tags tags) = list_any (matches_etag_weakly (Some tag)) tags ≡ true

-- the request reads a document that is there, or a node of one; its If-None-Match names the
-- document's present tag; and the answer is 304 with this tag (RFC 9110, section 13.2.2)
pub record IsUnmodified (root : List ℕ) (c : StoreContents) (request : Request)
    (a : Answer) : Type 0 where
  pub reads : is_reading (method_of request.method) ≡ true
  pub target : Target
  pub means : IsTargetResult root request.target (Ok target)
  pub id : DocId
  pub of_document : target_document target ≡ Some id
  pub tree : Tree
  pub tag : ℕ
  pub held : IsResourceOf c id (there tree tag)
  pub value : FieldValue
  pub says : HasFieldValue (fields_named (codes "if-none-match") request.fields) value
  pub names : FieldNamesTag tag value
  pub answers : a ≡ reply_only (not_modified_reply tag request.closes)
