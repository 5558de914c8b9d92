use Rattle.std.proofs.Common.{◌≡◌, subst}
use Rattle.reply_text.specs.ReplyHeads.{plain_reply}
use Rattle.xcap_uri.specs.declared.fault.UriFault.{UriFault}
use Rattle.xcap_machine.specs.Requests.{fault_status}
use Rattle.xcap_put.specs.declared.decision.Decision.TheVariants.{Stays}
use Rattle.xcap_machine.proofs.AttributeAddresses.{writable}
use Rattle.xcap_server.proofs.Dispatch.{fault_decided, target_decided}
use Rattle.xcap_server.proofs.request_decisions.decide.Goals as goal

pub returns-in-Err-Fault-clause-machine_decision : goal.returns-in-Err-Fault-clause-machine_decision
returns-in-Err-Fault-clause-machine_decision c =
    fault_decided c.args.root.now c.args.store.now.content c.args.request.now c.args.store.now c.as_slice.result.now c.read_target.result c.in-Err-Fault.field-0 c.in-Err-Fault.fault c.decide_fault.result c.as_slice.ensures.exact c.in-Err-Fault.is
    c.in-Err-Fault.field-0-is c.read_target.ensures.rules_answer
    (subst (λ (fault : UriFault). c.decide_fault.result ≡ Stays (plain_reply (fault_status fault) c.args.request.now.closes)) c.in-Err-Fault.fault-is c.decide_fault.ensures.fault_reply)

pub returns-in-Ok-clause-machine_decision : goal.returns-in-Ok-clause-machine_decision
returns-in-Ok-clause-machine_decision c =
    target_decided c.args.root.now c.args.store.now.content c.args.request.now c.decide_target.new.store c.in-Ok.target c.of.result c.decide_target.result (rw c.as_slice.ensures.exact at c.in-Ok.ensures.rules_answer) c.of.ensures.reads_rule
    c.decide_target.ensures.machine_decision

pub decide_target-requires-clause-writable : goal.decide_target-requires-clause-writable
decide_target-requires-clause-writable c = writable c.args.root.now c.args.request.now.target c.in-Ok.target (rw c.as_slice.ensures.exact at c.in-Ok.ensures.rules_answer)
