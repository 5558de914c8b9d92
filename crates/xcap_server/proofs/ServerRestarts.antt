-- A server restarts from some first bytes of a text.
use Rattle.std.proofs.Common.{◌≡◌, ℕ, List, [], ◌∷◌, ◌++◌, take, All, Option, None, Some, Result, Ok, Err, sym, ap, subst}
use Rattle.http_wire.specs.declared.request.Request.{Request}
use Rattle.edit_journal.specs.Journals.{IsPrefixOf}
use Rattle.edit_journal.specs.JournalLogs.{LogState}
use Rattle.edit_journal.specs.declared.limits.TheConstants.{MAX_JOURNAL_BYTES}
use Rattle.edit_journal.specs.Restarts.{RestartState, RestartsReplayer}
use Rattle.edit_journal.specs.JournalTexts.{IsRecordedRequest, journal_text}
use Rattle.edit_journal.specs.declared.journal_restart.RestartFault.{RestartFault}
use Rattle.edit_journal.specs.declared.journal_restart.RestartFault.TheVariants.{ReadFailed, AppendFailed, Damaged, Refused, TooLong, NoMemory}
use Rattle.edit_journal.specs.PrefixRestarts.{RestartEndsAfter}
use Rattle.edit_journal.proofs.RestartLemmas.{ends_behind}
use Rattle.store_core.specs.Contents.{Represents, StoreContents}
use Rattle.store_core.specs.State.{State, first_state}
use Rattle.xcap_machine.specs.Answers.{Answer, MadeChange, reply_only}
use Rattle.xcap_machine.specs.Machine.{answer_with_edit, change_from_edit}
use Rattle.xcap_machine.specs.Requests.{IsAnswer}
use Rattle.xcap_machine.proofs.OneAnswer.{one_answer}
use Rattle.xcap_server.specs.ReplayedRequests.{AcceptsRequests, RefusesRequest, ResultsFromRequests}
use Rattle.xcap_machine.specs.ServerStates.{ServerState}
use Rattle.xcap_server.specs.RestartedServers.{RefusesNoRequest, RepresentsRequests}
use Rattle.xcap_server.proofs.Ways.{one_way, over}

-- a request at which the machine makes a change isn't refused
not_refused : (server : ServerState) (state last : State) (next : Request) (others : List Request) → Represents server.content state → AcceptsRequests server.root state (next ∷ others) last → ¬ (RefusesRequest server next)
not_refused server state last next others stands (reply, mid, edit, step, more) (reply', refuses) =
    let answers : IsAnswer server.root server.content next (answer_with_edit reply (Some edit)) = subst (λ (c : StoreContents). IsAnswer server.root c next (answer_with_edit reply (Some edit))) (sym stands) step.1.answers in
    let same = one_answer server.root server.content next (answer_with_edit reply (Some edit)) (reply_only reply') answers refuses in
    let no : ◌≡◌ {A = Option MadeChange} (Some (change_from_edit edit)) None = ap (λ (a : Answer). a.made) same in
    cc

module _ (all done : List Request) (last : State) (new : ServerState) (way : AcceptsRequests new.root (first_state 1) all last) (stood : ResultsFromRequests new done) where
  again : (left : List Request) → all ≡ done ++ left → RepresentsRequests new done left last
  again left is =
      let parts = over new.root done left (first_state 1) last (subst (λ (rs : List Request). AcceptsRequests new.root (first_state 1) rs last) is way) in
      let same = one_way new.root done (first_state 1) parts.0 stood.state parts.1 stood.redone in
      record {
        state = stood.state;
        stands = stood.stands;
        led = stood.redone;
        only = λ other to. one_way new.root done (first_state 1) other stood.state to stood.redone;
        goes_on = subst (λ (s : State). AcceptsRequests new.root s left last) same parts.2;
      }

  abbrev Returns : List ℕ → List ℕ → Result LogState RestartFault → Type 0
  Returns bytes rest result = (left : List Request) × RepresentsRequests new done left last × RestartEndsAfter RefusesNoRequest (record { all = all; bytes = bytes; done = done; left = left; rest = rest }) new result

  returns : (bytes rest : List ℕ) (result : Result LogState RestartFault) (left : List Request) → RestartEndsAfter RefusesRequest (record { all = all; bytes = bytes; done = done; left = left; rest = rest }) new result → Returns bytes rest result
  returns bytes rest (Ok log) left ends = (left, again left ends.requests, ends)
  returns bytes rest (Err ReadFailed) left ends = (left, again left ends.requests, ends)
  returns bytes rest (Err AppendFailed) left ends = (left, again left ends, ends)
  returns bytes rest (Err (Damaged place)) left ends = absurd ends
  returns bytes rest (Err (Refused number)) left (is, (next, others, is', refuses)) =
      let stands = again left is in
      absurd (not_refused new stands.state last next others stands.stands (subst (λ (rs : List Request). AcceptsRequests new.root stands.state rs last) is' stands.goes_on) refuses)
  returns bytes rest (Err TooLong) left ends = (left, again left ends.requests, ends)
  returns bytes rest (Err NoMemory) left ends = (left, again left ends, ends)

pub comes_back : (all : List Request) (last : State) (old new : RestartState ServerState) (result : Result LogState RestartFault)
    → All IsRecordedRequest all → AcceptsRequests old.replayer.root (first_state 1) all last → ResultsFromRequests old.replayer [] → new.replayer.root ≡ old.replayer.root
    → (restarts : RestartsReplayer ResultsFromRequests RefusesRequest old new result) → IsPrefixOf (take MAX_JOURNAL_BYTES restarts.bytes) (journal_text all)
    → (left : List Request) × RepresentsRequests new.replayer restarts.requests left last × RestartEndsAfter RefusesNoRequest (record { all = all; bytes = take MAX_JOURNAL_BYTES restarts.bytes; done = restarts.requests; left = left; rest = restarts.rest }) new.replayer result
comes_back all last old new result told way none root r begins =
    let ends = ends_behind ResultsFromRequests RefusesRequest all old new result told r begins in
    let way' = subst (λ (x : List ℕ). AcceptsRequests x (first_state 1) all last) (sym root) way in
    returns all r.requests last new.replayer way' (r.stood [] none) (take MAX_JOURNAL_BYTES r.bytes) r.rest result ends.0 ends.1
