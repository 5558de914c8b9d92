-- The abstract machine: a state has all documents with all their versions, and a step answers one
-- request.
use Rattle.std.specs.Prelude.{◌≡◌, ℕ, List, Option, None, Some, option_map}
use Rattle.edit_ops.specs.declared.edit.Edit.{Edit}
use Rattle.reply_text.specs.ReplyHeads.{SentReply}
use Rattle.http_wire.specs.declared.request.Request.{Request}
use Rattle.store_core.specs.DocumentChanges.{state_after, contents_after}
use Rattle.store_core.specs.Contents.{HasDocumentsOf, StoreContents, contents_of}
use Rattle.store_core.specs.ValidStates.{IsValidState}
use Rattle.store_core.specs.State.{State}
use Rattle.xcap_machine.specs.Answers.{Answer, MadeChange}
use Rattle.xcap_machine.specs.Requests.{IsAnswer}
use Rattle.xcap_machine.specs.StandardRequests.{IsStandardAnswer}

-- the state after a change, if there is one
abbrev pub state_after_answer : State → Option MadeChange → State
state_after_answer m None = m
state_after_answer m (Some made) = state_after m made.0 made.1.change

-- the change that watchers are notified of
abbrev pub change_from_edit : Edit → MadeChange
change_from_edit e = (e.doc, e.note)

-- the answer with a reply, and with the change of an edit, if there is one
abbrev pub answer_with_edit : SentReply → Option Edit → Answer
answer_with_edit reply edit = record { reply = reply; made = option_map change_from_edit edit }

-- The step of the machine of the standards under this root: in the state `m`, a request gets this
-- reply, by the documents that the state has now; the machine is then in the state `next`, and
-- watchers are notified of this edit, if a change was made. What this server's own addresses are
-- answered is left open.
pub record StandardStep (root : List ℕ) (m : State) (request : Request) (reply : SentReply)
    (next : State) (edit : Option Edit) : Type 0 where
  pub content : StoreContents
  pub has : HasDocumentsOf content m
  pub answers : IsStandardAnswer root content request (answer_with_edit reply edit)
  pub goes_on : next ≡ state_after_answer m (option_map change_from_edit edit)

-- A step of the machine of the standards that is also one of `OwnStep`, which says what this
-- server's own addresses are answered.
abbrev pub StandardStepWith : (List ℕ → State → Request → SentReply → State → Option Edit → Type 0)
    → List ℕ → State → Request → SentReply → State → Option Edit → Type 0
StandardStepWith OwnStep root m request reply next edit =
    StandardStep root m request reply next edit × OwnStep root m request reply next edit

-- The step of the machine of this root, this server's own targets included: in the state `m`, a
-- request gets this reply, the machine is then in the state `next`, and watchers are notified of
-- this edit, if a change was made.
pub record Step (root : List ℕ) (m : State) (request : Request) (reply : SentReply) (next : State)
    (edit : Option Edit) : Type 0 where
  pub answers : IsAnswer root (contents_of m) request (answer_with_edit reply edit)
  pub goes_on : next ≡ state_after_answer m (option_map change_from_edit edit)

-- a step from a valid state to a valid state
abbrev pub ValidStep : List ℕ → State → Request → SentReply → State → Option Edit → Type 0
ValidStep root m request reply next edit =
    IsValidState m × Step root m request reply next edit × IsValidState next

-- ---- the step on store contents, on which alone an answer depends

-- the contents after a change, if there is one
abbrev pub content_after_answer : StoreContents → Option MadeChange → StoreContents
content_after_answer c None = c
content_after_answer c (Some made) = contents_after c made.0 made.1.change

-- On the contents `c`, a request gets this reply, watchers are notified of this edit, if a change
-- was made, and the contents are then `next`.
pub record ContentStep (root : List ℕ) (c : StoreContents) (request : Request) (reply : SentReply)
    (next : StoreContents) (edit : Option Edit) : Type 0 where
  pub answers : IsAnswer root c request (answer_with_edit reply edit)
  pub goes_on : next ≡ content_after_answer c (option_map change_from_edit edit)
