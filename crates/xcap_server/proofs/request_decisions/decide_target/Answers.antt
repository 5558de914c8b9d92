use Rattle.std.proofs.Common.{Bool, IfOk, ap, refl, subst, sym, ◌∙◌}
use Rattle.request_checks.specs.declared.method.Method.{Method}
use Rattle.xcap_machine.specs.Answers.{not_allowed_reply}
use Rattle.xcap_machine.specs.Requests.{AnswersByTarget}
use Rattle.xcap_machine.specs.inner.RecordValues.{server_state}
use Rattle.xcap_put.specs.Decisions.{DecidesAnswer}
use Rattle.xcap_put.specs.declared.decision.Decision.TheVariants.{Stays}
use Rattle.xcap_server.proofs.Dispatch.{other_refused, reads_either, turned}
use Rattle.xcap_server.proofs.request_decisions.decide_target.Goals as goal

pub decide_read-decision-requires : goal.decide_read-decision-requires
decide_read-decision-requires c = record { reading_method = reads_either c.args.method c.in-Get.is }

pub returns-in-Put-clause-machine_decision : goal.returns-in-Put-clause-machine_decision
returns-in-Put-clause-machine_decision c =
    subst (λ (m : Method). IfOk c.decide_put.result (λ d. DecidesAnswer (AnswersByTarget (server_state c.args.root.now c.args.store.now.content) c.args.target m c.args.request.now) c.decide_put.new.store d)) (sym c.in-Put.is) c.decide_put.ensures.machine_decision

pub returns-in-Delete-clause-machine_decision : goal.returns-in-Delete-clause-machine_decision
returns-in-Delete-clause-machine_decision c =
    subst (λ (m : Method). IfOk c.decide_delete.result (λ d. DecidesAnswer (AnswersByTarget (server_state c.args.root.now c.args.store.now.content) c.args.target m c.args.request.now) c.decide_delete.new.store d)) (sym c.in-Delete.is) c.decide_delete.ensures.machine_decision

pub returns-in-Other-clause-machine_decision : goal.returns-in-Other-clause-machine_decision
returns-in-Other-clause-machine_decision c =
    let reply = c.method-reply.result in
    let server = server_state c.args.root.now c.args.store.now.content in
    turned c.args.root.now c.args.store.now.content c.args.target c.args.request.now c.args.store.now c.args.method (Stays reply) reply refl
    (other_refused server c.args.target c.args.request.now c.args.method reply c.in-Other.is (c.method-reply.ensures.exact ∙ ap (λ (b : Bool). not_allowed_reply b c.args.request.now.closes) c.is_read_only.ensures.exact))
