use Rattle.std.proofs.Common.{Result, ap, refl, subst, sym, ◌∙◌}
use Rattle.change_log.specs.LogContents.{with_change}
use Rattle.change_log.specs.LogStates.{kept_contents}
use Rattle.change_log.specs.LogHistories.{IsFoundBeforeOr}
use Rattle.change_log.proofs.Passing.{no_call}
use Rattle.change_records.specs.Records.{change_record}
use Rattle.edit_journal.specs.declared.journal_log.AppendFault.{AppendFault}
use Rattle.xcap_put.specs.Decisions.{DecidesAnswer}
use Rattle.xcap_machine.specs.Requests.{IsAnswer}
use Rattle.xcap_machine.specs.ServerStates.{ServerState}
use Rattle.xcap_server.specs.inner.ServerSteps.{CarriesOutDecision}
use Rattle.xcap_server.proofs.DurableServers.{answered_by, answered_stays, has_record, nothing_by}
use Rattle.xcap_server.proofs.LoggedServers.{carried_closes, decided_closes}
use Rattle.xcap_server.proofs.durable_service.ServiceDurableMachine.answer_durably.Goals as goal

pub returns-then-not-has_change-clause-machine_reply : goal.returns-then-not-has_change-clause-machine_reply
returns-then-not-has_change-clause-machine_reply g c =
    answered_stays c.args.self.now (record { root = c.self.inside.root; content = c.commit.new.store.content }) c.args.request.now c.decide.new.store c.in_ok-decision.decision
    (c.decide.ensures.contents_unchanged ∙ ap (λ (s : ServerState). s.content) c.self.view_is)
    (subst (λ (s : ServerState). DecidesAnswer (IsAnswer s.root s.content c.args.request.now) c.decide.new.store c.in_ok-decision.decision) c.self.view_is c.in_ok-decision.ensures.machine_decision)
    (ap (λ (s : ServerState). s.root) c.self.view_is)
    c.commit.result (g.L.ChangeLog.state c.args.log.now) (sym c.has_change.ensures.exact ∙ c.if-not-has_change.true)
    c.commit.ensures.decided_answer c.commit.ensures.makes_change

pub returns-then-not-has_change-clause-any_moment : goal.returns-then-not-has_change-clause-any_moment
returns-then-not-has_change-clause-any_moment g c =
    let log = g.L.ChangeLog.state c.args.log.now in
    no_call (IsFoundBeforeOr log.history (with_change (change_record c.args.request.now) (kept_contents log))) log.history

pub returns-then-not-has_change-clause-closes_as_asked : goal.returns-then-not-has_change-clause-closes_as_asked
returns-then-not-has_change-clause-closes_as_asked g c =
    decided_closes c.args.self.now c.args.self.now c.args.request.now c.decide.new.store c.in_ok-decision.decision
    (c.decide.ensures.contents_unchanged ∙ ap (λ (s : ServerState). s.content) c.self.view_is)
    (subst (λ (s : ServerState). DecidesAnswer (IsAnswer s.root s.content c.args.request.now) c.decide.new.store c.in_ok-decision.decision) c.self.view_is c.in_ok-decision.ensures.machine_decision)
    refl c.commit.result c.commit.ensures.decided_answer

pub append_request-appended-requires-clause-recordable : goal.append_request-appended-requires-clause-recordable
append_request-appended-requires-clause-recordable g c =
    has_record c.args.self.now c.args.self.now c.args.request.now c.decide.new.store c.in_ok-decision.decision
    (c.decide.ensures.contents_unchanged ∙ ap (λ (s : ServerState). s.content) c.self.view_is)
    (subst (λ (s : ServerState). DecidesAnswer (IsAnswer s.root s.content c.args.request.now) c.decide.new.store c.in_ok-decision.decision) c.self.view_is c.in_ok-decision.ensures.machine_decision)
    refl (sym c.has_change.ensures.exact ∙ c.if-not-has_change.false) c.requires.recordable

pub returns-clause-machine_reply : goal.returns-clause-machine_reply
returns-clause-machine_reply g c =
    let state = g.L.ChangeLog.state in
    answered_by c.args.self.now (record { root = c.self.inside.root; content = c.carry_out.new.store.content }) c.args.request.now c.decide.new.store c.in_ok-decision.decision
    (c.decide.ensures.contents_unchanged ∙ ap (λ (s : ServerState). s.content) c.self.view_is)
    (subst (λ (s : ServerState). DecidesAnswer (IsAnswer s.root s.content c.args.request.now) c.decide.new.store c.in_ok-decision.decision) c.self.view_is c.in_ok-decision.ensures.machine_decision)
    (ap (λ (s : ServerState). s.root) c.self.view_is)
    c.carry_out.result c.carry_out.new.store refl (sym c.has_change.ensures.exact ∙ c.if-not-has_change.false) c.requires.recordable
    c.append_request-appended.result (state c.args.log.now) (state c.append_request-appended.new.log)
    (subst (λ (r : Result (Unit {0}) AppendFault). CarriesOutDecision c.decide.new.store (record { request = c.args.request.now; decision = c.in_ok-decision.decision }) r c.carry_out.result c.carry_out.new.store) c.entered.ensures.exact c.carry_out.ensures.carries_out)
    (record { ok = c.append_request-appended.ensures.appended; err = c.append_request-appended.ensures.not_appended; cause = c.append_request-appended.ensures.cause })

pub returns-clause-closes_as_asked : goal.returns-clause-closes_as_asked
returns-clause-closes_as_asked g c =
    carried_closes c.args.self.now (record { root = c.self.inside.root; content = c.carry_out.new.store.content }) c.args.request.now c.decide.new.store c.in_ok-decision.decision
    (c.decide.ensures.contents_unchanged ∙ ap (λ (s : ServerState). s.content) c.self.view_is)
    (subst (λ (s : ServerState). DecidesAnswer (IsAnswer s.root s.content c.args.request.now) c.decide.new.store c.in_ok-decision.decision) c.self.view_is c.in_ok-decision.ensures.machine_decision)
    (ap (λ (s : ServerState). s.root) c.self.view_is)
    c.carry_out.result c.carry_out.new.store refl c.entered.result c.carry_out.ensures.carries_out

pub returns-clause-err_unchanged : goal.returns-clause-err_unchanged
returns-clause-err_unchanged g c =
    nothing_by c.args.self.now (record { root = c.self.inside.root; content = c.carry_out.new.store.content }) c.args.request.now c.decide.new.store c.in_ok-decision.decision
    (c.decide.ensures.contents_unchanged ∙ ap (λ (s : ServerState). s.content) c.self.view_is)
    (subst (λ (s : ServerState). DecidesAnswer (IsAnswer s.root s.content c.args.request.now) c.decide.new.store c.in_ok-decision.decision) c.self.view_is c.in_ok-decision.ensures.machine_decision)
    (ap (λ (s : ServerState). s.root) c.self.view_is)
    c.carry_out.result c.carry_out.new.store refl (sym c.has_change.ensures.exact ∙ c.if-not-has_change.false) c.requires.recordable
    c.append_request-appended.result c.args.log.now c.append_request-appended.new.log
    (subst (λ (r : Result (Unit {0}) AppendFault). CarriesOutDecision c.decide.new.store (record { request = c.args.request.now; decision = c.in_ok-decision.decision }) r c.carry_out.result c.carry_out.new.store) c.entered.ensures.exact c.carry_out.ensures.carries_out)
    c.append_request-appended.ensures.no_memory
