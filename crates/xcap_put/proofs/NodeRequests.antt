-- Requests on nodes, line by line: what is missing, what the conditions reply, and what a plan
-- leads to.
use Rattle.std.proofs.Common.{◌≡◌, ℕ, Bool, true, false, List, Option, None, Some, Result, Ok, Err, IfOk, refl, sym, subst}
use Rattle.xml_tree.specs.Tree.{Tree}
use Rattle.doc_names.specs.declared.doc_id.DocId.{DocId}
use Rattle.doc_names.specs.declared.usages.Usage.{Usage}
use Rattle.node_select.specs.declared.selector.Selector.{Selector}
use Rattle.edit_rules.specs.Spots.{IsSpot}
use Rattle.edit_rules.specs.declared.spot.Spot.{Spot}
use Rattle.http_wire.specs.declared.request.Request.{Request}
use Rattle.reply_text.specs.ReplyHeads.{SentReply}
use Rattle.request_checks.specs.Conditions.{IsConditionReply}
use Rattle.store_core.specs.StoreViews.{StoreView}
use Rattle.store_core.specs.Contents.{StoreContents as Content}
use Rattle.xcap_machine.specs.Answers.{Answer, AppliesConditions, reply_only}
use Rattle.xcap_machine.specs.NodeWrites.{RemovesNode, PutsFragment, node_exists}
use Rattle.xcap_machine.specs.Resources.{version_of}
use Rattle.xcap_machine.specs.inner.AnswerCases.{DeletesNodeOfVersion, PutsNodeOfVersion}
use Rattle.xcap_machine.specs.inner.RecordValues.{representation, server_state, node_write}
use Rattle.xcap_machine.proofs.Cases.{at_true, stopped, unstopped}
use Rattle.xcap_put.specs.Decisions.{DecidesAnswer}
use Rattle.xcap_put.specs.inner.RequestPlans.{IsPlanFor, answer_of_plan, Plan}
use Rattle.xcap_put.specs.declared.decision.Decision.{Decision}
use Rattle.xcap_put.proofs.DecisionAnswers.{all_so}
use Rattle.xcap_put.proofs.PlanAnswers.{Plans, plans_so, stopped_by}

-- ---- conditions

module _ (usage : Usage) (t : Tree) (request : Request) (tag : ℕ) (exists there : Bool) (known : exists ≡ there) (P : Content → DocId → Answer → Type 0) where
  abbrev pub BehindIt : Content → DocId → Answer → Type 0
  BehindIt c id a = AppliesConditions request (representation (Some tag) there) false a (P c id a)

  module _ (stop : Option SentReply) (is : IsConditionReply request (Some tag) exists false stop) where
    is_its_stop : IsConditionReply request (Some tag) there false stop
    is_its_stop = subst (λ (b : Bool). IsConditionReply request (Some tag) b false stop) known is

    pub plan_stopped : (reply : SentReply) → stop ≡ Some reply → Plans usage t request.closes BehindIt (Err reply)
    plan_stopped reply so =
        stopped_by usage t request.closes BehindIt (Err reply) reply refl (λ c id. stopped request (Some tag) there false stop is_its_stop reply (P c id (reply_only reply)) so)

    pub plan_unstopped : {E : Type 0} (plan : Result Plan E) → stop ≡ None → IfOk plan (Plans usage t request.closes P) → IfOk plan (Plans usage t request.closes BehindIt)
    plan_unstopped plan so plans =
        plans_so usage t request.closes P BehindIt (λ c id a p. unstopped request (Some tag) there false stop is_its_stop a (P c id a) so p) plan plans

-- ---- PUT

module _ (root : List ℕ) (id : DocId) (usage : Usage) (selector : Selector) (t : Tree) (tag : ℕ) (request : Request) where
  abbrev PutsIt : Content → Answer → Type 0
  PutsIt c a = PutsNodeOfVersion (server_state root c) (node_write id usage selector request) (t, tag) a

  abbrev PutsThere : Spot → Content → DocId → Answer → Type 0
  PutsThere spot c d a = AppliesConditions request (representation (Some tag) (node_exists t selector)) false a (PutsFragment c (node_write d usage selector request) t spot a)

  pub put_at_spot : {E : Type 0} (spot : Spot) → IsSpot t selector (Ok spot) → (plan : Result Plan E) → IfOk plan (Plans usage t request.closes (PutsThere spot)) → IfOk plan (IsPlanFor usage t id request.closes PutsIt)
  put_at_spot spot is (Ok plan) plans = let p = plans id in record { answers = λ c. (Ok spot, is, p.answers c); may_be_made = p.may_be_made }
  put_at_spot spot is (Err e) plans = tt

-- ---- DELETE

module _ (usage : Usage) (selector : Selector) (t : Tree) (tag : ℕ) (request : Request) where
  abbrev DeletesIt : Content → DocId → Answer → Type 0
  DeletesIt c id a = DeletesNodeOfVersion c (node_write id usage selector request) (t, tag) a

  pub there : {E : Type 0} (plan : Result Plan E) → node_exists t selector ≡ true
      → IfOk plan (Plans usage t request.closes (λ c id a. AppliesConditions request (representation (Some tag) true) false a (RemovesNode c (node_write id usage selector request) t a))) → IfOk plan (Plans usage t request.closes DeletesIt)
  there plan is plans =
      plans_so usage t request.closes (λ c id a. AppliesConditions request (representation (Some tag) true) false a (RemovesNode c (node_write id usage selector request) t a)) DeletesIt (λ c id a so. at_true _ _ _ is so) plan plans

-- ---- the decision by a plan

pub decides_planned : {E : Type 0} (c : Content) (id : DocId) (closes : Bool) (v : Option (Tree × ℕ)) (P : Option (Tree × ℕ) → Answer → Type 0) → v ≡ version_of c id → (plan : Plan) → P v (answer_of_plan c id closes plan)
    → (s : StoreView) (r : Result Decision E) → IfOk r (λ d. DecidesAnswer (λ a. a ≡ answer_of_plan c id closes plan) s d) → IfOk r (λ d. DecidesAnswer (P (version_of c id)) s d)
decides_planned c id closes v P is plan answered s r decides =
    all_so (λ a. a ≡ answer_of_plan c id closes plan) s (P (version_of c id))
    (λ a so. subst (λ (x : Option (Tree × ℕ)). P x a) is (subst (λ (x : Answer). P v x) (sym so) answered)) r decides
