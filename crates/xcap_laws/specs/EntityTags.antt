-- Tags in replies, and in requests that write. RFC 9110, sections 8.8.3 and 13.1.1.
use Rattle.std.specs.Prelude.{◌≡◌, ℕ, ◌<◌, true, List, codes, Some, IfSome}
use Rattle.std.specs.List.{list_any}
use Rattle.edit_ops.specs.declared.edit.Edit.{Edit}
use Rattle.http_wire.specs.declared.request.Request.{Request}
use Rattle.reply_text.specs.ReplyHeads.{HeadFields, SentReply, sent_reply}
use Rattle.request_checks.specs.Fields.{FieldValue, HasFieldValue}
use Rattle.request_checks.specs.Rights.{fields_named}
use Rattle.request_checks.specs.Verdicts.{matches_etag_strongly}
use Rattle.request_checks.specs.declared.entity_tags.EntityTag.{EntityTag}
use Rattle.store_core.specs.Contents.{StoreContents}
use Rattle.store_core.specs.DocumentChanges.{find_document, document_id}
use Rattle.store_core.specs.State.{Document, State, Version}
use Rattle.xcap_machine.specs.Resources.{version_of}
use Rattle.xml_tree.specs.Tree.{Tree}

-- the request's field `If-Match` says this (RFC 9110, section 13.1.1)
abbrev pub HasIfMatch : Request → FieldValue → Type 0
HasIfMatch request value = HasFieldValue (fields_named (codes "if-match") request.fields) value

-- the request's field `If-None-Match` says this (RFC 9110, section 13.1.2)
abbrev pub HasIfNoneMatch : Request → FieldValue → Type 0
HasIfNoneMatch request value = HasFieldValue (fields_named (codes "if-none-match") request.fields)
    value

-- the tag is the strong one of this number (RFC 9110, section 8.8.3.2)
abbrev pub IsStrongTagOf : EntityTag → ℕ → Type 0
IsStrongTagOf tag number = matches_etag_strongly (Some number) tag ≡ true

-- the change replaces or removes a stored version whose tag is one of these
pub record ChangesTaggedVersion (c : StoreContents) (e : Edit)
    (tags : List EntityTag) : Type 0 where
  pub tree : Tree
  pub held : version_of c e.doc ≡ Some (tree, e.note.previous)
  pub named : list_any (matches_etag_strongly (Some e.note.previous)) tags ≡ true

-- the document of the change is stored, and this is its present version
pub record IsPresentVersion (m : State) (e : Edit) (v : Version) : Type 0 where
  pub document : Document
  pub there : find_document document_id m.documents e.doc ≡ Some document
  pub is_now : document.now ≡ v

-- the reply has no tag, or one below this number (RFC 9110, section 8.8.3)
pub record HasTagBelow (reply : SentReply) (bound : ℕ) : Type 0 where
  pub fields : HeadFields
  pub body : List ℕ
  pub answers : reply ≡ sent_reply fields body
  pub below : IfSome fields.tag (λ tag. tag < bound)
