-- Feeds: what became of a document since one of its versions. RFC 5874, section 3, defines the
-- diff document of changes, and RFC 5875, section 4.3, the modes of diff processing. That a feed
-- has an address, and that neither conditions nor tags apply to it, is this server's own.
use Rattle.std.specs.Prelude.{◌≡◌, ℕ, List, None, encode_utf8_all}
use Rattle.xml_tree.specs.Tree.{Tree}
use Rattle.xml_tree.specs.Print.{document_print}
use Rattle.doc_names.specs.DocIds.{id_text}
use Rattle.doc_names.specs.declared.doc_id.DocId.{DocId}
use Rattle.reply_text.specs.ReplyHeads.{plain_reply}
use Rattle.reply_text.specs.declared.media_types.MediaType.TheVariants as medias
use Rattle.xcap_uri.specs.declared.target.Mode.{Mode}
use Rattle.request_checks.specs.Methods.{reply_for_method}
use Rattle.patch_rules.specs.Notices.{gone_notice}
use Rattle.patch_write.specs.Modes.{notice_of}
use Rattle.store_core.specs.Since.{ChangesSince, Gone, Unknown, ReportedChanges, since}
use Rattle.xcap_machine.specs.Answers.{Answer, found_reply, reply_only}
use Rattle.xcap_machine.specs.ReadRequests.{ReadRequest}
use Rattle.xcap_machine.specs.ServerStates.{ServerState}

-- a feed: the mode, the tag of the version that the client has, and the document
pub record FeedQuery : Type 0 where
  pub mode : Mode
  pub tag : ℕ
  pub id : DocId

-- a diff document is sent, without a tag
abbrev pub sends_notice : Tree → ReadRequest → Answer
sends_notice notice get =
    let text = encode_utf8_all (document_print notice) in
    reply_only (reply_for_method get.method (found_reply None medias.Diff text get.request.closes))

-- the answer by the result of the since-query: the document is gone; the changes since the tag are
-- no longer known; or the changes
abbrev pub changes_since_answer : List ℕ → FeedQuery → ChangesSince → ReadRequest → Answer
changes_since_answer root feed Gone get =
    sends_notice (gone_notice root (id_text feed.id) feed.tag) get
changes_since_answer root feed Unknown get = reply_only (plain_reply 410 get.request.closes)
changes_since_answer root feed (ReportedChanges ns) get =
    sends_notice (notice_of feed.mode root (id_text feed.id) feed.tag ns) get

-- GET or HEAD of a feed
abbrev pub ReadsFeed : ServerState → FeedQuery → ReadRequest → Answer → Type 0
ReadsFeed server feed get a =
    a ≡ changes_since_answer server.root feed (since server.content feed.id feed.tag) get
