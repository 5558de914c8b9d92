-- The answer to a change, by what the store does with it and its contents afterwards.
use Rattle.std.proofs.Common.{◌≡◌, Bool, Option, None, Some, Result, Ok, Err, refl}
use Rattle.doc_names.specs.declared.doc_id.DocId.{DocId}
use Rattle.edit_ops.specs.declared.change.Change.{Change}
use Rattle.edit_ops.specs.Notes.{Note}
use Rattle.store_core.specs.DocumentChanges.{change_kind, refusal_of, refusal_or, change_result, contents_after, find_document, stored_id, note_for}
use Rattle.store_core.specs.declared.refusal.StoreRefusal.{StoreRefusal}
use Rattle.store_core.specs.Contents.{StoreContents}
use Rattle.reply_text.specs.ReplyHeads.{SentReply}
use Rattle.xcap_machine.specs.Answers.{Answer, reply_only}
use Rattle.xcap_machine.specs.DocumentWrites.{change_answer, refusal_reply}
use Rattle.xcap_machine.specs.inner.AnswerCases.{store_answer}

-- the store refuses the change, or makes it with a record
abbrev pub told_by_store : DocId → Bool → (Note → SentReply) → Result (Note × StoreContents) StoreRefusal → Answer
told_by_store id closes reply (Err refusal) = reply_only (refusal_reply refusal closes)
told_by_store id closes reply (Ok (note, next)) = record { reply = reply note; made = Some (id, note) }

either_way : (id : DocId) (closes : Bool) (reply : Note → SentReply) (refusal : Option StoreRefusal) (note : Note) (next : StoreContents) → store_answer id closes reply refusal note ≡ told_by_store id closes reply (refusal_or refusal note next)
either_way id closes reply None note next = refl
either_way id closes reply (Some refusal) note next = refl

pub as_the_store : (c : StoreContents) (id : DocId) (change : Change) (closes : Bool) (reply : Note → SentReply) → change_answer c id change closes reply ≡ told_by_store id closes reply (change_result c id change)
as_the_store c id change closes reply =
    let held = find_document stored_id c.documents id in
    either_way id closes reply (refusal_of c id change held (change_kind change)) (note_for c id change held) (contents_after c id change)
