use Rattle.xcap_put.proofs.NodeRequests.{put_at_spot}
use Rattle.xcap_put.proofs.nodes.plan_put_in_document.Goals as goal

pub returns-in-Ok : goal.returns-in-Ok
returns-in-Ok c = record {
  plans_put =
      put_at_spot c.args.root.now c.args.doc.now c.args.usage c.args.selector.now c.args.held.0.now c.args.held.1 c.args.request.now c.in-Ok.spot c.in-Ok.ensures.as_specified
      c.plan_put_at.result c.plan_put_at.ensures.plans_put;
}
