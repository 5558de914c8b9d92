-- A journal of a server has the records of requests at which the machine makes changes.
use Rattle.std.proofs.Common.{◌≡◌, ℕ, ◌≤◌, Bool, true, false, List, [], ◌∷◌, ◌++◌, length, All, Option, Some, refl, sym, ap, subst, ◌∙◌, arith, append-nil, append_assoc}
use Rattle.std.proofs.lemmas.List.Elements.{All-nil, All-cons, All-append}
use Rattle.std.specs.Bool.{MatchBool}
use Rattle.http_wire.specs.declared.request.Request.{Request}
use Rattle.edit_ops.specs.declared.edit.Edit.{Edit}
use Rattle.reply_text.specs.ReplyHeads.{SentReply}
use Rattle.request_checks.specs.Methods.{method_of}
use Rattle.edit_journal.specs.Journals.{IsPrefixOf, JournalState}
use Rattle.edit_journal.specs.JournalLogs.{LogState}
use Rattle.edit_journal.specs.Records.{IsRecordable, record_of, recorded_request}
use Rattle.edit_journal.specs.JournalTexts.{IsRecordedRequest, journal_text}
use Rattle.edit_journal.proofs.WholeRecords.{is_told, text_one_more, journal_text-append}
use Rattle.store_core.specs.Contents.{contents_of}
use Rattle.store_core.specs.State.{State, first_state}
use Rattle.xcap_machine.specs.Answers.{MadeChange}
use Rattle.xcap_machine.specs.Machine.{ValidStep, answer_with_edit, change_from_edit}
use Rattle.xcap_machine.specs.Requests.{IsAnswer}
use Rattle.xcap_machine.proofs.Ways.{way_of}
use Rattle.edit_journal.specs.LoggedRequests.{AcceptsRequest}
use Rattle.xcap_server.specs.LoggedServers.{LogsRequests}
use Rattle.xcap_server.specs.ReplayedRequests.{AcceptsRequests}
use Rattle.xcap_machine.specs.ServerStates.{ServerState}
use Rattle.xcap_server.proofs.LoggedServers.{redoing_more}
use Rattle.unread_parts.proofs.RecordedRequests.{changes_by}
use Rattle.unread_parts.proofs.SameChanges.{makes_too, same_fields}
use Rattle.edit_journal.proofs.Broken.{first_of_first}

-- as its record has it, a request makes the same change
recorded_step : (root : List ℕ) (m next : State) (request : Request) (reply : SentReply) (e : Edit) → ValidStep root m request reply next (Some e) → (reply' : SentReply) × ValidStep root m (recorded_request request) reply' next (Some e)
recorded_step root m next request reply e step =
    let answer = answer_with_edit reply (Some e) in
    let writes = changes_by (method_of request.method) request.closes (contents_of m) answer (change_from_edit e) refl (way_of root (contents_of m) request answer step.1.answers) in
    let other = makes_too (change_from_edit e) request false request.fields (same_fields request.fields) answer refl root (contents_of m) writes step.1.answers in (
      other.0.reply,
      (
        step.0,
        record {
          answers = subst (λ (o : Option MadeChange). IsAnswer root (contents_of m) (recorded_request request) (record { reply = other.0.reply; made = o })) other.2 other.1;
          goes_on = step.1.goes_on;
        },
        step.2,
      ),
    )

abbrev Comes : List ℕ → Bool → List Request → List ℕ → Type 0
Comes root is_torn requests bytes =
    (torn : List Request) × (last : State) × (length torn ≤ 1) × (is_torn ≡ false → torn ≡ []) × All IsRecordedRequest (requests ++ torn)
    × AcceptsRequests root (first_state 1) (requests ++ torn) last × IsPrefixOf bytes (journal_text (requests ++ torn))

comes_by : (root : List ℕ) (is_torn : Bool) (requests : List Request) (state : State) (rest : List ℕ) → All IsRecordedRequest requests → AcceptsRequests root (first_state 1) requests state
    → MatchBool is_torn ((request : Request) × IsRecordable request × AcceptsRequest (ValidStep root) state request × IsPrefixOf rest (record_of request)) (rest ≡ []) → Comes root is_torn requests (journal_text requests ++ rest)
comes_by root true requests state rest recorded way (request, can, accepted, (more, is)) =
    let step = recorded_step root state accepted.1 request accepted.0 accepted.2 accepted.3 in (
      recorded_request request ∷ [],
      accepted.1,
      omega arith,
      (λ no. cc),
      All-append IsRecordedRequest requests (recorded_request request ∷ []) recorded (All-cons IsRecordedRequest (recorded_request request) [] (is_told request can) (All-nil IsRecordedRequest)),
      redoing_more root requests (first_state 1) state accepted.1 (recorded_request request) step.0 accepted.2 way step.1,
      (more, text_one_more requests request ∙ ap (λ l. journal_text requests ++ l) is ∙ sym (append_assoc (journal_text requests) rest more)),
    )
comes_by root false requests state rest recorded way none = (
  [],
  state,
  omega arith,
  (λ _. refl),
  subst (λ (l : List Request). All IsRecordedRequest l) (sym (append-nil requests)) recorded,
  subst (λ (l : List Request). AcceptsRequests root (first_state 1) l state) (sym (append-nil requests)) way,
  ([], journal_text-append requests [] ∙ ap (λ l. journal_text requests ++ l) (sym none) ∙ sym (append-nil (journal_text requests ++ rest))),
)

pub comes_to_a_state : (server : ServerState) (log : LogState) (journal : JournalState) (requests : List Request) (bytes : List ℕ) → LogsRequests server log journal requests → IsPrefixOf bytes journal.held
    → Comes server.root log.is_torn requests bytes
comes_to_a_state server log journal requests bytes logs begins =
    let all = comes_by server.root log.is_torn requests logs.stands.state logs.holds.rest logs.holds.recorded logs.stands.redone logs.holds.behind in (
      all.0,
      all.1,
      all.2,
      all.3,
      all.4,
      all.5,
      first_of_first bytes journal.held (journal_text (requests ++ all.0)) begins (subst (λ (l : List ℕ). IsPrefixOf l (journal_text (requests ++ all.0))) (sym logs.holds.split) all.6),
    )
