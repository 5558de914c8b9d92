use Rattle.std.proofs.Common.{ap, subst, ◌∙◌}
use Rattle.xcap_machine.specs.Requests.{IsAnswer}
use Rattle.xcap_put.specs.Decisions.{DecidesAnswer}
use Rattle.xcap_machine.specs.ServerStates.{ServerState}
use Rattle.xcap_server.proofs.DecisionAnswers.{answered_so}
use Rattle.xcap_server.proofs.service.Service.respond.Goals as goal

pub returns-clause-machine_reply : goal.returns-clause-machine_reply
returns-clause-machine_reply c =
    answered_so c.args.self.now (record { root = c.self.inside.root; content = c.commit.new.store.content }) c.args.request.now c.decide.new.store c.in_ok-decision.decision c.commit.result
    (c.decide.ensures.contents_unchanged ∙ ap (λ (s : ServerState). s.content) c.self.view_is)
    (subst (λ (s : ServerState). DecidesAnswer (IsAnswer s.root s.content c.args.request.now) c.decide.new.store c.in_ok-decision.decision) c.self.view_is c.in_ok-decision.ensures.machine_decision)
    c.commit.ensures.decided_answer c.commit.ensures.makes_change (ap (λ (s : ServerState). s.root) c.self.view_is)
