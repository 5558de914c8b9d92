use Rattle.std.proofs.Common.{◌≡◌, false, refl, subst, sym}
use Rattle.request_checks.specs.declared.method.Method.TheVariants.{Delete}
use Rattle.xcap_uri.specs.declared.target.Target.{Target}
use Rattle.xcap_machine.specs.StandardRequests.{is_read_only}
use Rattle.xcap_machine.specs.inner.RecordValues.{server_state}
use Rattle.xcap_put.specs.declared.decision.Decision.TheVariants.{Stays}
use Rattle.xcap_server.specs.inner.WritableTargets.{target_of}
use Rattle.xcap_server.proofs.Dispatch.{decides_delete, turned, usage_is}
use Rattle.xcap_server.proofs.request_decisions.decide_delete.Goals as goal

pub delete_target-requires : goal.delete_target-requires
delete_target-requires c = record {
  not_read_only =
      subst (λ (t : Target). is_read_only t ≡ false) (sym c.in-Ok.ensures.continues_or_replies.1) c.in-Ok.ensures.continues_or_replies.0;
  usage_of_doc =
      let access = c.in-Ok.access in
      let gives = c.in-Ok.ensures.continues_or_replies in
      usage_is c.args.root.now c.args.store.now.content c.args.target c.args.request.now c.args.store.now (target_of access.target) access.usage gives.1 gives.2;
}

pub returns-in-Ok-clause-machine_decision : goal.returns-in-Ok-clause-machine_decision
returns-in-Ok-clause-machine_decision c =
    let access = c.in-Ok.access in
    let gives = c.in-Ok.ensures.continues_or_replies in
    decides_delete c.args.root.now c.args.store.now.content c.args.target c.args.request.now c.delete_target.new.store (target_of access.target) access.usage gives.1 gives.2 c.delete_target.result gives.0 c.delete_target.ensures.machine_decision

pub returns-in-Err-clause-machine_decision : goal.returns-in-Err-clause-machine_decision
returns-in-Err-clause-machine_decision c =
    turned c.args.root.now c.args.store.now.content c.args.target c.args.request.now c.args.store.now Delete (Stays c.in-Err.reply) c.in-Err.reply refl
    (c.in-Err.ensures.continues_or_replies (server_state c.args.root.now c.args.store.now.content) Delete tt)
