use Rattle.std.proofs.Common.{ℕ, Option, None, Some, sym, ap}
use Rattle.xml_tree.specs.Tree.{Tree}
use Rattle.xcap_machine.specs.Answers.{Answer, reply_only}
use Rattle.xcap_machine.specs.NodeWrites.{DeletesNode}
use Rattle.xcap_machine.specs.inner.AnswerCases.{DeletesNodeIfStored, DeletesNodeOfVersion}
use Rattle.xcap_machine.specs.inner.RecordValues.{node_write}
use Rattle.xcap_put.proofs.NodeRequests.{decides_planned}
use Rattle.xcap_put.proofs.DecisionAnswers.{stays}
use Rattle.xcap_put.proofs.StoredAnswers.{of_version}
use Rattle.xcap_put.proofs.PlanAnswers.{asks_for}
use Rattle.xcap_put.proofs.nodes.delete_node.Goals as goal

pub decide_plan-requires : goal.decide_plan-requires
decide_plan-requires c = record {
  change_asked =
      let t = c.in-Some.held.0.now in
      let tag = c.in-Some.held.1 in
      asks_for c.args.store.now.content c.args.doc c.args.usage t tag c.args.request.now.closes
      (λ d a. DeletesNodeOfVersion d (node_write c.args.doc c.args.usage c.args.selector.now c.args.request.now) (t, tag) a) c.in_ok-plan-in-Some.plan c.requires.usage_of_doc (sym c.in-Some.ensures.exact)
      (c.in_ok-plan-in-Some.ensures.plans_removal c.args.doc);
}

pub returns-in_ok-plan-in-Some-clause-decides_removal : goal.returns-in_ok-plan-in-Some-clause-decides_removal
returns-in_ok-plan-in-Some-clause-decides_removal c =
    let content = c.args.store.now.content in
    let P : Option (Tree × ℕ) → Answer → Type 0 = λ v a. DeletesNodeIfStored content (node_write c.args.doc c.args.usage c.args.selector.now c.args.request.now) v a in
    decides_planned content c.args.doc c.args.request.now.closes (Some (c.in-Some.held.0.now, c.in-Some.held.1)) P c.in-Some.ensures.exact c.in_ok-plan-in-Some.plan
    ((c.in_ok-plan-in-Some.ensures.plans_removal c.args.doc).answers content) c.decide_plan.new.store c.decide_plan.result c.decide_plan.ensures.decides_by_plan

pub returns-in-None-clause-decides_removal : goal.returns-in-None-clause-decides_removal
returns-in-None-clause-decides_removal c =
    let content = c.args.store.now.content in
    let reply = c.fixed.result in
    let P : Option (Tree × ℕ) → Type 0 = λ v. DeletesNodeIfStored content (node_write c.args.doc c.args.usage c.args.selector.now c.args.request.now) v (reply_only reply) in
    stays (DeletesNode content (node_write c.args.doc c.args.usage c.args.selector.now c.args.request.now)) c.args.store.now reply
    (of_version content c.args.doc None P c.in-None.ensures.exact (ap reply_only c.fixed.ensures.exact))
