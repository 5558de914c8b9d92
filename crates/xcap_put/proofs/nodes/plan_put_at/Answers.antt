use Rattle.xcap_machine.specs.NodeWrites.{PutsFragment, node_exists}
use Rattle.xcap_machine.specs.inner.RecordValues.{node_write}
use Rattle.xcap_put.proofs.NodeRequests.{plan_stopped, plan_unstopped}
use Rattle.xcap_put.proofs.nodes.plan_put_at.Goals as goal

pub returns-in-Some : goal.returns-in-Some
returns-in-Some c = record {
  plans_put =
      plan_stopped c.args.usage c.args.tree.now c.args.request.now c.args.tag c.node_exists-exists.result (node_exists c.args.tree.now c.args.selector.now) c.node_exists-exists.ensures.there_before
      (λ d id a. PutsFragment d (node_write id c.args.usage c.args.selector.now c.args.request.now) c.args.tree.now c.args.spot.now a) _ c.in_ok-reply.ensures.exact c.in-Some.reply c.in-Some.is;
}

pub returns-in-None : goal.returns-in-None
returns-in-None c = record {
  plans_put =
      plan_unstopped c.args.usage c.args.tree.now c.args.request.now c.args.tag c.node_exists-exists.result (node_exists c.args.tree.now c.args.selector.now) c.node_exists-exists.ensures.there_before
      (λ d id a. PutsFragment d (node_write id c.args.usage c.args.selector.now c.args.request.now) c.args.tree.now c.args.spot.now a) _ c.in_ok-reply.ensures.exact c.put_fragment.result c.in-None.is
      c.put_fragment.ensures.plans_put;
}
