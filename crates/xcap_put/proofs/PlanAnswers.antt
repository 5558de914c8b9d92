-- Plans of requests on nodes: their answers, and that their changes may be made.
use Rattle.std.proofs.Common.{◌≡◌, ℕ, Bool, List, Option, Some, Result, Ok, Err, IfOk, IsTrue, refl, sym, subst}
use Rattle.xml_names.specs.Characters.{has_only_chars}
use Rattle.xml_tree.specs.Tree.{Tree}
use Rattle.doc_names.specs.Usages.{usage_of}
use Rattle.doc_names.specs.declared.doc_id.DocId.{DocId}
use Rattle.doc_names.specs.declared.usages.Usage.{Usage}
use Rattle.node_select.specs.declared.selector.End.{End}
use Rattle.node_select.specs.declared.selector.End.TheVariants as ends
use Rattle.node_select.specs.declared.selector.Selector.{Selector}
use Rattle.edit_ops.specs.declared.change.Change.{Change}
use Rattle.edit_rules.specs.AttributePuts.{IsAttrPlan, IsWritable}
use Rattle.edit_rules.specs.Deletions.{IsDeletePlan}
use Rattle.edit_rules.specs.ElementPuts.{FitsWithinLevelsAt, IsProperAt, IsPutPlan}
use Rattle.edit_rules.specs.Spots.{EndsInAttribute, IsSpotOf}
use Rattle.edit_rules.specs.declared.edit_refusal.EditRefusal.{EditRefusal}
use Rattle.edit_rules.specs.declared.spot.Spot.{Spot}
use Rattle.edit_rules.proofs.StaysProper.{delete_leaves, put_leaves, written_leaves}
use Rattle.edit_rules.proofs.Twice.{deleted_is, put_is, written_change, written_is}
use Rattle.reply_text.specs.ReplyHeads.{SentReply}
use Rattle.store_core.specs.ValidStates.{IsSoundDocument}
use Rattle.store_core.specs.Contents.{StoreContents as Content}
use Rattle.xcap_machine.specs.Answers.{Answer, reply_only}
use Rattle.xcap_machine.specs.NodeWrites.{IsWritableSelector, plan_answer}
use Rattle.xcap_machine.specs.Resources.{version_of}
use Rattle.xcap_machine.specs.DocumentWrites.{put_reply}
use Rattle.xcap_machine.proofs.PutPremises.{asks_to_edit}
use Rattle.xcap_put.specs.inner.RequestPlans.{AsksForPlan, IsPlanFor, IsPlanFromResult, IsValidChange, HasValidChange, Plan}

-- ---- plans of one kind

-- for each document of this usage with this tree
abbrev pub Plans : Usage → Tree → Bool → (Content → DocId → Answer → Type 0) → Plan → Type 0
Plans usage t closes Is plan = (id : DocId) → IsPlanFor usage t id closes (λ c a. Is c id a) plan

module _ (usage : Usage) (t : Tree) (closes : Bool) (Is : Content → DocId → Answer → Type 0) where
  -- a reply alone
  pub stopped_by : (plan : Plan) (reply : SentReply) → plan ≡ Err reply → ((c : Content) (id : DocId) → Is c id (reply_only reply)) → Plans usage t closes Is plan
  stopped_by plan reply so is id = subst (λ (p : Plan). IsPlanFor usage t id closes (λ c a. Is c id a) p) (sym so) (record { answers = λ c. is c id; may_be_made = tt })

  pub all_stopped_by : {E : Type 0} (r : Result Plan E) (reply : SentReply) → IfOk r (λ plan. plan ≡ Err reply) → ((c : Content) (id : DocId) → Is c id (reply_only reply)) → IfOk r (Plans usage t closes Is)
  all_stopped_by (Ok plan) reply so is = stopped_by plan reply so is
  all_stopped_by (Err e) reply so is = tt

  -- plans of one kind are of another
  pub plans_so : (Will : Content → DocId → Answer → Type 0) → ((c : Content) (id : DocId) (a : Answer) → Is c id a → Will c id a) → {E : Type 0} (r : Result Plan E) → IfOk r (Plans usage t closes Is) → IfOk r (Plans usage t closes Will)
  plans_so Will so (Ok (Err reply)) plans = λ id. record { answers = λ c. so c id _ ((plans id).answers c); may_be_made = tt }
  plans_so Will so (Ok (Ok planned)) plans = λ id. record { answers = λ c. so c id _ ((plans id).answers c); may_be_made = (plans id).may_be_made }
  plans_so Will so (Err e) plans = tt

-- ---- by a planned change

-- the answer to a planned change, or to none
abbrev pub Planned : (Result Change EditRefusal → Type 0) → Bool → Bool → Content → DocId → Answer → Type 0
Planned IsPlan exists closes c id a = (r : Result Change EditRefusal) × IsPlan r × (a ≡ plan_answer c id closes (put_reply exists closes) r)

module _ (usage : Usage) (t : Tree) (closes exists : Bool) (IsPlan : Result Change EditRefusal → Type 0) (may : (change : Change) → IsPlan (Ok change) → IsValidChange usage t change) where
  one_so : (r : Result Change EditRefusal) (plan : Plan) → IsPlan r → IsPlanFromResult r exists closes plan → Plans usage t closes (Planned IsPlan exists closes) plan
  one_so (Ok change) plan p is id =
      subst (λ (x : Plan). IsPlanFor usage t id closes (λ c a. Planned IsPlan exists closes c id a) x) (sym is) (record { answers = λ c. (Ok change, p, refl); may_be_made = may change p })
  one_so (Err why) plan p is id =
      subst (λ (x : Plan). IsPlanFor usage t id closes (λ c a. Planned IsPlan exists closes c id a) x) (sym is) (record { answers = λ c. (Err why, p, refl); may_be_made = tt })

  pub planned_so : {E : Type 0} (r : Result Change EditRefusal) (plan : Result Plan E) → IsPlan r → IfOk plan (IsPlanFromResult r exists closes) → IfOk plan (Plans usage t closes (Planned IsPlan exists closes))
  planned_so r (Ok plan) p is = one_so r plan p is
  planned_so r (Err e) p is = tt

-- ---- planned changes may be made

module _ (usage : Usage) (t : Tree) (selector : Selector) (sound : IsSoundDocument usage t) where
  pub put_may : (spot : Spot) (e : Tree) → IsSpotOf t selector spot → IsProperAt t spot e → FitsWithinLevelsAt spot e → (change : Change) → IsPutPlan (record { usage = usage; document = t; steps = selector.steps }) spot e (Ok change) → IsValidChange usage t change
  put_may spot e is proper room change plan = record {
    leaves = put_leaves usage t selector spot e change plan is sound.proper sound.low proper room;
    faultless = (put_is usage t selector.steps spot e change plan).faultless;
  }

  pub delete_may : (change : Change) → IsDeletePlan usage t selector (Ok change) → IsValidChange usage t change
  delete_may change plan = record { leaves = delete_leaves usage t selector change plan sound.proper sound.low; faultless = (deleted_is usage t selector change plan).faultless }

  value_may : (uri local p value : List ℕ) → IsWritable uri local → IsTrue (has_only_chars value) → (change : Change) → IsAttrPlan (record { usage = usage; document = t; steps = selector.steps }) (ends.Attribute uri local) p value (Ok change) → IsValidChange usage t change
  value_may uri local p value writable chars change plan =
      let w = written_is usage t selector.steps uri local p value change plan in
      record { leaves = written_leaves usage t selector.steps uri local p value change w sound.proper sound.low writable chars; faultless = written_change usage t selector.steps uri local p value change w }

  pub attr_may : (p value : List ℕ) → EndsInAttribute selector.end → IsWritableSelector selector → IsTrue (has_only_chars value) → (change : Change) → IsAttrPlan (record { usage = usage; document = t; steps = selector.steps }) selector.end p value (Ok change) → IsValidChange usage t change
  attr_may p value (uri, (local, is)) writable chars change plan =
      value_may uri local p value (writable uri local is) chars change (subst (λ (end : End). IsAttrPlan (record { usage = usage; document = t; steps = selector.steps }) end p value (Ok change)) is plan)

-- ---- the store may be asked

asks_by : (c : Content) (id : DocId) (usage : Usage) (t : Tree) (tag : ℕ) (plan : Plan) → usage_of id.auid ≡ Some usage → ◌≡◌ {A = Option (Tree × ℕ)} (version_of c id) (Some (t, tag)) → HasValidChange usage t plan → AsksForPlan c id plan
asks_by c id usage t tag (Err reply) known is may = tt
asks_by c id usage t tag (Ok planned) known is may = asks_to_edit c id usage t tag planned.change known is may.leaves may.faultless

pub asks_for : (c : Content) (id : DocId) (usage : Usage) (t : Tree) (tag : ℕ) (closes : Bool) (Is : Content → Answer → Type 0) (plan : Plan) → usage_of id.auid ≡ Some usage → ◌≡◌ {A = Option (Tree × ℕ)} (version_of c id) (Some (t, tag))
    → IsPlanFor usage t id closes Is plan → AsksForPlan c id plan
asks_for c id usage t tag closes Is plan known is p = asks_by c id usage t tag plan known is p.may_be_made
