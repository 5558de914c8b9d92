use Rattle.std.proofs.Common.{◌≡◌, false, refl, subst, sym}
use Rattle.request_checks.specs.declared.method.Method.TheVariants.{Put}
use Rattle.xcap_uri.specs.Targets.{IsReadableTarget}
use Rattle.xcap_uri.specs.declared.target.Target.{Target}
use Rattle.xcap_machine.specs.StandardRequests.{IsWritableTarget, is_read_only}
use Rattle.xcap_machine.specs.inner.RecordValues.{server_state}
use Rattle.xcap_put.specs.declared.decision.Decision.TheVariants.{Stays}
use Rattle.xcap_server.specs.inner.WritableTargets.{target_of}
use Rattle.xcap_server.proofs.Dispatch.{decides_put, turned, usage_is, user_home}
use Rattle.xcap_server.proofs.request_decisions.decide_put.Goals as goal

pub put_target-requires-clause-not_read_only : goal.put_target-requires-clause-not_read_only
put_target-requires-clause-not_read_only c = subst (λ (t : Target). is_read_only t ≡ false) (sym c.in-Ok.ensures.continues_or_replies.1) c.in-Ok.ensures.continues_or_replies.0

pub put_target-requires-clause-readable : goal.put_target-requires-clause-readable
put_target-requires-clause-readable c = subst (λ (t : Target). IsReadableTarget t) (sym c.in-Ok.ensures.continues_or_replies.1) c.requires.readable

pub put_target-requires-clause-writable : goal.put_target-requires-clause-writable
put_target-requires-clause-writable c = subst (λ (t : Target). IsWritableTarget t) (sym c.in-Ok.ensures.continues_or_replies.1) c.requires.writable

pub put_target-requires-clause-user_document : goal.put_target-requires-clause-user_document
put_target-requires-clause-user_document c =
    let access = c.in-Ok.access in
    let gives = c.in-Ok.ensures.continues_or_replies in
    user_home c.args.root.now c.args.store.now.content c.args.target c.args.request.now c.args.store.now (target_of access.target) access.usage gives.1 gives.2

pub put_target-requires-clause-usage_of_doc : goal.put_target-requires-clause-usage_of_doc
put_target-requires-clause-usage_of_doc c =
    let access = c.in-Ok.access in
    let gives = c.in-Ok.ensures.continues_or_replies in
    usage_is c.args.root.now c.args.store.now.content c.args.target c.args.request.now c.args.store.now (target_of access.target) access.usage gives.1 gives.2

pub returns-in-Ok-clause-machine_decision : goal.returns-in-Ok-clause-machine_decision
returns-in-Ok-clause-machine_decision c =
    let access = c.in-Ok.access in
    let gives = c.in-Ok.ensures.continues_or_replies in
    decides_put c.args.root.now c.args.store.now.content c.args.target c.args.request.now c.put_target.new.store (target_of access.target) access.usage gives.1 gives.2 c.put_target.result gives.0 c.put_target.ensures.machine_decision

pub returns-in-Err-clause-machine_decision : goal.returns-in-Err-clause-machine_decision
returns-in-Err-clause-machine_decision c =
    turned c.args.root.now c.args.store.now.content c.args.target c.args.request.now c.args.store.now Put (Stays c.in-Err.reply) c.in-Err.reply refl
    (c.in-Err.ensures.continues_or_replies (server_state c.args.root.now c.args.store.now.content) Put tt)
