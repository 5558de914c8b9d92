use Rattle.std.proofs.Common.{ap, refl, subst, sym, ◌∙◌}
use Rattle.xcap_put.specs.Decisions.{DecidesAnswer}
use Rattle.xcap_machine.specs.Requests.{IsAnswer}
use Rattle.xcap_machine.specs.ServerStates.{ServerState}
use Rattle.xcap_server.proofs.LoggedServers.{answered_unchanged, carried_closes, carried_nothing, carried_out, decided_closes, is_recordable}
use Rattle.xcap_server.proofs.logged_service.ServiceLoggedMachine.answer_logged.Goals as goal

pub returns-then-not-has_change-clause-machine_reply : goal.returns-then-not-has_change-clause-machine_reply
returns-then-not-has_change-clause-machine_reply g c =
    answered_unchanged c.args.self.now (record { root = c.self.inside.root; content = c.commit.new.store.content }) c.args.request.now c.decide.new.store c.in_ok-decision.decision
    (c.decide.ensures.contents_unchanged ∙ ap (λ (s : ServerState). s.content) c.self.view_is)
    (subst (λ (s : ServerState). DecidesAnswer (IsAnswer s.root s.content c.args.request.now) c.decide.new.store c.in_ok-decision.decision) c.self.view_is c.in_ok-decision.ensures.machine_decision)
    (ap (λ (s : ServerState). s.root) c.self.view_is)
    c.commit.result c.args.log.now (g.J.Journal.state c.args.journal.now) (sym c.has_change.ensures.exact ∙ c.if-not-has_change.true)
    c.commit.ensures.decided_answer c.commit.ensures.makes_change

pub returns-then-not-has_change-clause-closes_as_asked : goal.returns-then-not-has_change-clause-closes_as_asked
returns-then-not-has_change-clause-closes_as_asked g c =
    decided_closes c.args.self.now c.args.self.now c.args.request.now c.decide.new.store c.in_ok-decision.decision
    (c.decide.ensures.contents_unchanged ∙ ap (λ (s : ServerState). s.content) c.self.view_is)
    (subst (λ (s : ServerState). DecidesAnswer (IsAnswer s.root s.content c.args.request.now) c.decide.new.store c.in_ok-decision.decision) c.self.view_is c.in_ok-decision.ensures.machine_decision)
    refl c.commit.result c.commit.ensures.decided_answer

pub append-entered-requires-clause-recordable : goal.append-entered-requires-clause-recordable
append-entered-requires-clause-recordable g c =
    is_recordable c.args.self.now c.args.self.now c.args.request.now c.decide.new.store c.in_ok-decision.decision
    (c.decide.ensures.contents_unchanged ∙ ap (λ (s : ServerState). s.content) c.self.view_is)
    (subst (λ (s : ServerState). DecidesAnswer (IsAnswer s.root s.content c.args.request.now) c.decide.new.store c.in_ok-decision.decision) c.self.view_is c.in_ok-decision.ensures.machine_decision)
    refl (sym c.has_change.ensures.exact ∙ c.if-not-has_change.false) c.requires.loggable

pub returns-clause-machine_reply : goal.returns-clause-machine_reply
returns-clause-machine_reply g c =
    carried_out c.args.self.now (record { root = c.self.inside.root; content = c.carry_out.new.store.content }) c.args.request.now c.decide.new.store c.in_ok-decision.decision
    (c.decide.ensures.contents_unchanged ∙ ap (λ (s : ServerState). s.content) c.self.view_is)
    (subst (λ (s : ServerState). DecidesAnswer (IsAnswer s.root s.content c.args.request.now) c.decide.new.store c.in_ok-decision.decision) c.self.view_is c.in_ok-decision.ensures.machine_decision)
    (ap (λ (s : ServerState). s.root) c.self.view_is)
    c.carry_out.result c.carry_out.new.store refl c.append-entered.result c.args.log.now c.append-entered.new.self (g.J.Journal.state c.args.journal.now) (g.J.Journal.state c.append-entered.new.journal)
    (sym c.has_change.ensures.exact ∙ c.if-not-has_change.false) c.carry_out.ensures.carries_out c.requires.loggable c.append-entered.ensures.adds_record

pub returns-clause-closes_as_asked : goal.returns-clause-closes_as_asked
returns-clause-closes_as_asked g c =
    carried_closes c.args.self.now (record { root = c.self.inside.root; content = c.carry_out.new.store.content }) c.args.request.now c.decide.new.store c.in_ok-decision.decision
    (c.decide.ensures.contents_unchanged ∙ ap (λ (s : ServerState). s.content) c.self.view_is)
    (subst (λ (s : ServerState). DecidesAnswer (IsAnswer s.root s.content c.args.request.now) c.decide.new.store c.in_ok-decision.decision) c.self.view_is c.in_ok-decision.ensures.machine_decision)
    (ap (λ (s : ServerState). s.root) c.self.view_is)
    c.carry_out.result c.carry_out.new.store refl c.append-entered.result c.carry_out.ensures.carries_out

pub returns-clause-err_unchanged : goal.returns-clause-err_unchanged
returns-clause-err_unchanged g c =
    carried_nothing c.args.self.now (record { root = c.self.inside.root; content = c.carry_out.new.store.content }) c.args.request.now c.decide.new.store c.in_ok-decision.decision
    (c.decide.ensures.contents_unchanged ∙ ap (λ (s : ServerState). s.content) c.self.view_is)
    (subst (λ (s : ServerState). DecidesAnswer (IsAnswer s.root s.content c.args.request.now) c.decide.new.store c.in_ok-decision.decision) c.self.view_is c.in_ok-decision.ensures.machine_decision)
    (ap (λ (s : ServerState). s.root) c.self.view_is)
    c.carry_out.result c.carry_out.new.store refl c.append-entered.result c.args.log.now c.append-entered.new.self (g.J.Journal.state c.args.journal.now) (g.J.Journal.state c.append-entered.new.journal)
    c.args.journal.now c.append-entered.new.journal c.carry_out.ensures.carries_out c.append-entered.ensures.no_memory_unchanged c.append-entered.ensures.adds_record
