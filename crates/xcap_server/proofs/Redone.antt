-- What repeating an accepted request does to a server.
use Rattle.std.proofs.Common.{◌≡◌, ℕ, List, [], ◌∷◌, ◌++◌, Option, None, Some, sym, ap, subst, ◌∙◌}
use Rattle.http_wire.specs.declared.request.Request.{Request}
use Rattle.edit_ops.specs.declared.edit.Edit.{Edit}
use Rattle.reply_text.specs.ReplyHeads.{SentReply}
use Rattle.edit_journal.specs.Replayers.{IsEquivalentState, ReplaysRequest}
use Rattle.edit_journal.specs.declared.replayer.ReplayStep.TheVariants.{Done, Refused, NoMemory}
use Rattle.store_core.specs.Contents.{Represents, StoreContents, contents_of}
use Rattle.store_core.specs.ValidStates.{IsValidState}
use Rattle.store_core.specs.State.{State, first_state}
use Rattle.xcap_machine.specs.Answers.{Answer, MadeChange}
use Rattle.xcap_machine.specs.Machine.{ValidStep, answer_with_edit, change_from_edit}
use Rattle.xcap_machine.specs.Requests.{IsAnswer}
use Rattle.xcap_machine.proofs.OneAnswer.{one_answer}
use Rattle.xcap_server.specs.ReplayedRequests.{AcceptsRequests, RefusesRequest, ResultsFromRequests}
use Rattle.xcap_machine.specs.ServerStates.{ServerState}
use Rattle.xcap_server.proofs.LoggedServers.{redoing_more, same_server}

-- a server stands for the requests that an equal server stands for
pub means_the_same : (old new : ServerState) → new ≡ old → IsEquivalentState ResultsFromRequests RefusesRequest old new
means_the_same old new same =
    subst (λ (x : ServerState). IsEquivalentState ResultsFromRequests RefusesRequest old x) (sym same)
    (record { stands_too = λ requests. (λ h. h, λ h. h); refuses_too = λ request. (λ h. h, λ h. h) })

-- out of memory
pub redo_nothing : (old new : ServerState) (request : Request) → new.root ≡ old.root → new.content ≡ old.content → ReplaysRequest ResultsFromRequests RefusesRequest old request NoMemory new
redo_nothing old new request root content = means_the_same old new (same_server old new root content)

module _ (old new : ServerState) (request : Request) (reply : SentReply) (root : new.root ≡ old.root) (m : State) (stands : Represents old.content m) (kept : IsValidState m) where
  -- the server's answer, from each state that its contents represent
  abbrev Steps : Option Edit → Type 0
  Steps edit = (n : State) → IsValidState n → Represents old.content n → (next : State) × ValidStep old.root n request reply next edit × Represents new.content next

  answered_so : (edit : Option Edit) → Steps edit → IsAnswer old.root old.content request (answer_with_edit reply edit)
  answered_so edit steps = subst (λ (c : StoreContents). IsAnswer old.root c request (answer_with_edit reply edit)) (sym stands) (steps m kept stands).1.1.answers

  -- a request that makes a change
  pub redo_done : (edit : Edit) → Steps (Some edit) → ReplaysRequest ResultsFromRequests RefusesRequest old request Done new
  redo_done edit steps = (
    λ refuses. (
        let same = one_answer old.root old.content request _ _ refuses.1 (answered_so (Some edit) steps) in
        let no : ◌≡◌ {A = Option MadeChange} None (Some (change_from_edit edit)) = ap (λ (a : Answer). a.made) same in
        cc
        ),
    λ requests past. (
        let o = steps past.state past.kept past.stands in
        record {
          state = o.0;
          kept = o.1.2;
          redone = subst (λ (r : List ℕ). AcceptsRequests r (first_state 1) (requests ++ request ∷ []) o.0) (sym root) (redoing_more old.root requests (first_state 1) past.state o.0 request reply edit past.redone o.1);
          stands = o.2;
        }
        ),
  )

  -- a request that makes no change
  pub redo_refused : Steps None → ReplaysRequest ResultsFromRequests RefusesRequest old request Refused new
  redo_refused steps =
      let o = steps m kept stands in
      let content : new.content ≡ old.content = o.2 ∙ ap contents_of o.1.1.goes_on ∙ sym stands in
      ((reply, answered_so None steps), means_the_same old new (same_server old new root content))
