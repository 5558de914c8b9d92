use Rattle.std.proofs.Common.{ℕ, Option, None, Some, sym}
use Rattle.xml_tree.specs.Tree.{Tree}
use Rattle.xcap_machine.specs.Answers.{Answer, reply_only}
use Rattle.xcap_machine.specs.NodeWrites.{PutsNode}
use Rattle.xcap_machine.specs.inner.AnswerCases.{PutsNodeIfStored, PutsNodeOfVersion}
use Rattle.xcap_machine.specs.inner.RecordValues.{server_state, node_write}
use Rattle.xcap_put.proofs.NodeRequests.{decides_planned}
use Rattle.xcap_put.proofs.DecisionAnswers.{stays}
use Rattle.xcap_put.proofs.StoredAnswers.{of_version}
use Rattle.xcap_put.proofs.PlanAnswers.{asks_for}
use Rattle.xcap_put.proofs.nodes.put_node.Goals as goal

pub decide_plan-requires : goal.decide_plan-requires
decide_plan-requires c = record {
  change_asked =
      let t = c.in-Some.held.0.now in
      let tag = c.in-Some.held.1 in
      asks_for c.args.store.now.content c.args.doc c.args.usage t tag c.args.request.now.closes
      (λ d a. PutsNodeOfVersion (server_state c.args.root.now d) (node_write c.args.doc c.args.usage c.args.selector.now c.args.request.now) (t, tag) a) c.in_ok-plan-in-Some.plan c.requires.usage_of_doc (sym c.in-Some.ensures.exact)
      c.in_ok-plan-in-Some.ensures.plans_put;
}

pub returns-in_ok-plan-in-Some-clause-decides_put : goal.returns-in_ok-plan-in-Some-clause-decides_put
returns-in_ok-plan-in-Some-clause-decides_put c =
    let content = c.args.store.now.content in
    let P : Option (Tree × ℕ) → Answer → Type 0 = λ v a. PutsNodeIfStored (server_state c.args.root.now content) (node_write c.args.doc c.args.usage c.args.selector.now c.args.request.now) v a in
    decides_planned content c.args.doc c.args.request.now.closes (Some (c.in-Some.held.0.now, c.in-Some.held.1)) P c.in-Some.ensures.exact c.in_ok-plan-in-Some.plan
    (c.in_ok-plan-in-Some.ensures.plans_put.answers content) c.decide_plan.new.store c.decide_plan.result c.decide_plan.ensures.decides_by_plan

pub returns-in_ok-reply-in-None-clause-decides_put : goal.returns-in_ok-reply-in-None-clause-decides_put
returns-in_ok-reply-in-None-clause-decides_put c =
    let content = c.args.store.now.content in
    let reply = c.in_ok-reply-in-None.reply in
    let P : Option (Tree × ℕ) → Type 0 = λ v. PutsNodeIfStored (server_state c.args.root.now content) (node_write c.args.doc c.args.usage c.args.selector.now c.args.request.now) v (reply_only reply) in
    stays (PutsNode (server_state c.args.root.now content) (node_write c.args.doc c.args.usage c.args.selector.now c.args.request.now)) c.args.store.now reply
    (of_version content c.args.doc None P c.in-None.ensures.exact (sym c.in_ok-reply-in-None.ensures.reply_or_missing))
