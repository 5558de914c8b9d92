-- Feeds of elements: whether an element may have changed since a version of its document. RFC
-- 5874, section 3, defines the diff document of an element. That such a feed has an address, and
-- that neither conditions nor tags apply to it, is this server's own.
use Rattle.std.specs.Prelude.{◌≡◌, ℕ}
use Rattle.xml_tree.specs.Tree.{Tree}
use Rattle.doc_names.specs.DocIds.{id_text}
use Rattle.reply_text.specs.ReplyHeads.{plain_reply}
use Rattle.patch_rules.specs.Notices.{gone_notice}
use Rattle.store_core.specs.Since.{ChangesSince, Gone, Unknown, ReportedChanges, since}
use Rattle.element_watch.specs.WatchedElements.{IsElementNotice, WatchedElement}
use Rattle.xcap_machine.specs.Answers.{Answer, reply_only}
use Rattle.xcap_machine.specs.Feeds.{sends_notice}
use Rattle.xcap_machine.specs.ReadRequests.{ReadRequest}
use Rattle.xcap_machine.specs.ServerStates.{ServerState}

-- the feed of an element: the tag of the version that the client has, and the element
pub record ElementQuery : Type 0 where
  pub tag : ℕ
  pub watched : WatchedElement

-- the answer by the result of the since-query: the document is gone; the changes since the tag are
-- no longer known; or the diff document of the element
abbrev pub AnswersElementQuery : ServerState → ElementQuery → ChangesSince → ReadRequest → Answer
    → Type 0
AnswersElementQuery server query Gone get a =
    a ≡ sends_notice (gone_notice server.root (id_text query.watched.doc) query.tag) get
AnswersElementQuery server query Unknown get a = a ≡ reply_only (plain_reply 410 get.request.closes)
AnswersElementQuery server query (ReportedChanges ns) get a =
    (notice : Tree) × IsElementNotice server.root query.watched server.content ns notice
    × (a ≡ sends_notice notice get)

-- GET or HEAD of the feed of an element
abbrev pub ReadsElementFeed : ServerState → ElementQuery → ReadRequest → Answer → Type 0
ReadsElementFeed server query get a =
    AnswersElementQuery server query (since server.content query.watched.doc query.tag) get a
