-- The plan of a request on a node, before the store is asked. RFC 4825, sections 8.2 and 8.4.
use Rattle.std.specs.Prelude.{◌≡◌, Bool, true, false, Option, None, Some, Result, Ok, Err, IsSome}
use Rattle.xml_tree.specs.Tree.{Tree, at}
use Rattle.doc_names.specs.declared.doc_id.DocId.{DocId}
use Rattle.doc_names.specs.declared.usages.Usage.{Usage}
use Rattle.usage_docs.specs.Validation.{HasFirstFault}
use Rattle.edit_ops.specs.Changes.{edited}
use Rattle.edit_ops.specs.declared.change.Change.{Change}
use Rattle.edit_rules.specs.CheckedChanges.{LeavesProperTree}
use Rattle.edit_rules.specs.declared.edit_refusal.EditRefusal.{EditRefusal}
use Rattle.edit_rules.specs.declared.spot.Spot.{Spot}
use Rattle.edit_rules.specs.declared.spot.Spot.TheVariants.{Over, Under, Beside, Value}
use Rattle.node_select.specs.declared.selector.Selector.{Selector}
use Rattle.http_wire.specs.declared.request.Request.{Request}
use Rattle.reply_text.specs.ReplyHeads.{SentReply}
use Rattle.store_core.specs.ChangePreconditions.{MayRequest}
use Rattle.store_core.specs.Contents.{StoreContents}
use Rattle.xcap_machine.specs.Answers.{Answer, reply_only}
use Rattle.xcap_machine.specs.NodeWrites.{RemovesNode, node_exists, plan_refusal_reply}
use Rattle.xcap_machine.specs.DocumentWrites.{change_answer, put_reply}
use Rattle.xcap_put.specs.declared.plan.PlannedChange.{PlannedChange}

-- ---- the element of an edit target

-- the element is in the tree
abbrev pub SpotExists : Tree → Spot → Type 0
SpotExists t (Over p) = IsSome (at p t)
SpotExists t (Under q) = IsSome (at q t)
SpotExists t Beside = Unit {0}
SpotExists t (Value p) = IsSome (at p t)

-- ---- plans

-- the change that the store is asked for, or the reply without a change
abbrev pub Plan : Type 0
Plan = Result PlannedChange SentReply

-- a change of a document that is stored with this tree: one that leaves a document of the usage,
-- if it isn't too long
pub record IsValidChange (usage : Usage) (t : Tree) (change : Change) : Type 0 where
  pub leaves : LeavesProperTree t change
  pub faultless : HasFirstFault usage (edited t change) None

abbrev pub HasValidChange : Usage → Tree → Plan → Type 0
HasValidChange usage t (Err reply) = Unit {0}
HasValidChange usage t (Ok planned) = IsValidChange usage t planned.change

-- the store may be asked for the plan's change
abbrev pub AsksForPlan : StoreContents → DocId → Plan → Type 0
AsksForPlan c id (Err reply) = Unit {0}
AsksForPlan c id (Ok planned) = MayRequest c id planned.change

-- the answer on these contents: the reply alone, or the store's answer to the change
abbrev pub answer_of_plan : StoreContents → DocId → Bool → Plan → Answer
answer_of_plan c id closes (Err reply) = reply_only reply
answer_of_plan c id closes (Ok planned) =
    change_answer c id planned.change closes (put_reply planned.exists closes)

-- whatever the contents are, the plan's answer is of this kind
pub record IsPlanFor (usage : Usage) (t : Tree) (id : DocId) (closes : Bool)
    (Is : StoreContents → Answer → Type 0) (plan : Plan) : Type 0 where
  pub answers : (c : StoreContents) → Is c (answer_of_plan c id closes plan)
  pub may_be_made : HasValidChange usage t plan

-- the plan is the planned change, or the reply for the reason why there is none
abbrev pub IsPlanFromResult : Result Change EditRefusal → Bool → Bool → Plan → Type 0
IsPlanFromResult (Ok change) exists closes plan =
    plan ≡ Ok (record { change = change; exists = exists })
IsPlanFromResult (Err why) exists closes plan = plan ≡ Err (plan_refusal_reply why closes)

-- the plan of a DELETE of what the selector finds, before the conditions are tested; there is none
-- where nothing is found
abbrev pub IsRemovalPlan : Usage → Tree → Selector → Request → Option Plan → Type 0
IsRemovalPlan usage t selector request None = node_exists t selector ≡ false
IsRemovalPlan usage t selector request (Some plan) =
    (node_exists t selector ≡ true)
    × ((id : DocId)
    → IsPlanFor usage t id request.closes
    (λ c a.
    RemovesNode c (record { id = id; usage = usage; selector = selector; request = request }) t a)
    plan)
