-- Requests that write an element or an attribute of a document. RFC 4825, sections 8.2.1 to 8.2.5
-- (PUT) and 8.4 (DELETE), with the conflicts of section 11 and the entity tags of section 8.5.
-- Which change is made, or why there is none, is defined in `edit_rules`. The order of the tests
-- is this server's own: the parent, the conditions, the media type, the body, and then the plan.
use Rattle.std.specs.Prelude.{◌≡◌, ℕ, suc, ◌-◌, Bool, true, false, List, [], length, is_some, Some}
use Rattle.std.specs.Prelude.{Result, Ok, Err, MatchOption, MatchResult}
use Rattle.std.specs.Bool.{MatchBool}
use Rattle.store_core.specs.Contents.{StoreContents}
use Rattle.xml_tree.specs.Tree.{Tree}
use Rattle.xml_tree.specs.TreeScopes.{scope_around, scope_at}
use Rattle.xml_names.specs.declared.names.Decl.{Decl}
use Rattle.xml_names.specs.declared.limits.TheConstants.{MAX_LEVELS}
use Rattle.tree_text.specs.Spellings.{ReadsTree, ReadsValue}
use Rattle.tree_text.specs.declared.fault.TextFault.{TextFault}
use Rattle.tree_text.specs.declared.fault.ValueFault.{ValueFault}
use Rattle.tree_text.specs.declared.fault.ValueFault.TheVariants as values
use Rattle.doc_names.specs.declared.usages.Usage.{Usage}
use Rattle.doc_names.specs.declared.doc_id.DocId.{DocId}
use Rattle.node_select.specs.declared.selector.End.TheVariants as ends
use Rattle.node_select.specs.declared.selector.Selector.{Selector}
use Rattle.reply_bodies.specs.Nodes.{found_text, node_media_type}
use Rattle.edit_ops.specs.declared.change.Change.{Change}
use Rattle.edit_ops.specs.Notes.{Note}
use Rattle.edit_rules.specs.declared.spot.Spot.{Spot}
use Rattle.edit_rules.specs.declared.spot.Spot.TheVariants.{Over, Under, Beside, Value}
use Rattle.edit_rules.specs.declared.spot.NoParent.{NoParent}
use Rattle.edit_rules.specs.declared.edit_refusal.EditRefusal.{EditRefusal}
use Rattle.edit_rules.specs.declared.edit_refusal.EditRefusal.TheVariants.{NotFound, CannotInsert}
use Rattle.edit_rules.specs.declared.edit_refusal.EditRefusal.TheVariants.{CannotDelete, Faulty}
use Rattle.edit_rules.specs.AttributePuts.{IsAttrPlan, IsWritable}
use Rattle.edit_rules.specs.Deletions.{IsDeletePlan}
use Rattle.edit_rules.specs.ElementPuts.{IsPutPlan}
use Rattle.edit_rules.specs.Spots.{IsSpot}
use Rattle.reply_bodies.specs.declared.conflicts.ErrorBody.{ErrorBody}
use Rattle.reply_bodies.specs.declared.conflicts.ErrorBody.TheVariants as conflicts
use Rattle.reply_text.specs.ReplyHeads.{SentReply, plain_reply}
use Rattle.http_wire.specs.declared.request.Request.{Request}
use Rattle.request_checks.specs.MediaTypes.{has_media_type}
use Rattle.xcap_uri.specs.Ancestors.{ancestor_uri}
use Rattle.xcap_machine.specs.Answers.{Answer, AppliesConditions, reply_only, error_reply}
use Rattle.xcap_machine.specs.Answers.{tagged_reply}
use Rattle.xcap_machine.specs.Resources.{version_of}
use Rattle.xcap_machine.specs.ServerStates.{ServerState}
use Rattle.xcap_machine.specs.DocumentWrites.{change_answer, fault_conflict, put_reply}
use Rattle.xcap_machine.specs.DocumentWrites.{missing_parent_answer, text_conflict}

-- ---- the attribute that a selector ends in

-- an attribute that the selector ends in is writable
abbrev pub IsWritableSelector : Selector → Type 0
IsWritableSelector selector =
    (uri local : List ℕ) → selector.end ≡ ends.Attribute uri local → IsWritable uri local

-- ---- the answer to a plan

-- the reply by the refusal of a PUT or DELETE of a node
abbrev pub plan_refusal_reply : EditRefusal → Bool → SentReply
plan_refusal_reply NotFound closes = plain_reply 404 closes
plan_refusal_reply CannotInsert closes = error_reply conflicts.CannotInsert closes
plan_refusal_reply CannotDelete closes = error_reply conflicts.CannotDelete closes
plan_refusal_reply (Faulty fault) closes = error_reply (fault_conflict fault) closes

-- the store is asked for a planned change, and the reply is made from its record
abbrev pub plan_answer : StoreContents → DocId → Bool → (Note → SentReply)
    → Result Change EditRefusal → Answer
plan_answer c id closes reply (Err why) = reply_only (plan_refusal_reply why closes)
plan_answer c id closes reply (Ok change) = change_answer c id change closes reply

-- ---- PUT (RFC 4825, sections 8.2.1 to 8.2.5)

-- the declarations in scope around an element that is put at an edit target
abbrev pub edit_target_scope : Tree → Spot → List (List Decl)
edit_target_scope t (Over p) = scope_around p t
edit_target_scope t (Under q) = scope_at q t
edit_target_scope t _ = []

-- the greatest height of an element there: a document has at most `MAX_LEVELS`
abbrev pub max_height_at : Spot → ℕ
max_height_at (Over p) = MAX_LEVELS - length p
max_height_at (Under q) = MAX_LEVELS - suc (length q)
max_height_at Beside = MAX_LEVELS
max_height_at (Value p) = 0

-- whether the node is there already, so that it is replaced
abbrev pub node_exists : Tree → Selector → Bool
node_exists t selector = is_some (found_text t selector)

-- the body isn't UTF-8, or isn't the value of an attribute
abbrev pub value_conflict : ValueFault → ErrorBody
value_conflict values.NotUtf8 = conflicts.NotUtf8
value_conflict (values.NotValue place) = conflicts.NotXmlAttValue

-- a PUT or DELETE of a node: the document's name and usage, the selector, and the request
pub record NodeWrite : Type 0 where
  pub id : DocId
  pub usage : Usage
  pub selector : Selector
  pub request : Request

-- a PUT of a node of a document that is stored with this tree
module _ (c : StoreContents) (put : NodeWrite) (t : Tree) where
  -- the answer to a planned PUT: the node is new, or replaces the old one
  abbrev pub planned_put_answer : Result Change EditRefusal → Answer
  planned_put_answer plan =
      let closes = put.request.closes in
      plan_answer c put.id closes (put_reply (node_exists t put.selector) closes) plan

  -- the answer to a body that is parsed as an element in the scope of the edit target, no higher
  -- than fits there; or has a fault
  abbrev pub PutsElement : Spot → Answer → Type 0
  PutsElement spot a =
      let closes = put.request.closes in
      (read : Result Tree TextFault)
      × ReadsTree (max_height_at spot) (edit_target_scope t spot) put.request.body read
      × MatchResult read
      (λ e.
      (plan : Result Change EditRefusal)
      × IsPutPlan
      (record { usage = put.usage; document = t; steps = put.selector.steps }) spot e plan
      × (a ≡ planned_put_answer plan))
      (λ fault. a ≡ reply_only (error_reply (text_conflict conflicts.NotXmlFrag fault) closes))

  -- the answer to a body that is the value of an attribute of the element at p; or has a fault
  abbrev pub PutsValue : List ℕ → Answer → Type 0
  PutsValue p a =
      (read : Result (List ℕ) ValueFault) × ReadsValue put.request.body read
      × MatchResult read
      (λ value.
      (plan : Result Change EditRefusal)
      × IsAttrPlan
      (record { usage = put.usage; document = t; steps = put.selector.steps }) put.selector.end p
      value plan
      × (a ≡ planned_put_answer plan))
      (λ fault. a ≡ reply_only (error_reply (value_conflict fault) put.request.closes))

  -- by the edit target: of an attribute, or of an element
  abbrev pub PutsAtEditTarget : Spot → Answer → Type 0
  PutsAtEditTarget (Value p) a = PutsValue p a
  PutsAtEditTarget spot a = PutsElement spot a

  -- the body has the media type of elements or attributes
  abbrev pub PutsFragment : Spot → Answer → Type 0
  PutsFragment spot a =
      MatchBool (has_media_type (node_media_type put.selector.end) put.request.fields)
      (PutsAtEditTarget spot a)
      (a ≡ reply_only (plain_reply 415 put.request.closes))

-- a PUT of a node of a document that is stored with this tree and this tag: there is an edit
-- target, or no parent, and then the closest ancestor is named; then the conditions are tested, by
-- the document's tag
abbrev pub PutsByEditTarget : ServerState → NodeWrite → Tree × ℕ → Result Spot NoParent → Answer
    → Type 0
PutsByEditTarget server put held (Err none) a =
    let uri = ancestor_uri server.root put.id held.0 put.selector.steps in
    a ≡ reply_only (error_reply (conflicts.NoParent uri) put.request.closes)
PutsByEditTarget server put held (Ok spot) a =
    AppliesConditions put.request
    (record { tag = Some held.1; exists = node_exists held.0 put.selector }) false a
    (PutsFragment server.content put held.0 spot a)

-- by whether the document of the node is stored
abbrev pub PutsNode : ServerState → NodeWrite → Answer → Type 0
PutsNode server put a =
    MatchOption (version_of server.content put.id)
    (a ≡ missing_parent_answer server.root put.id.auid put.id.home put.request)
    (λ held. (spot : Result Spot NoParent) × IsSpot held.0 put.selector spot
    × PutsByEditTarget server put held spot a)

-- ---- DELETE (RFC 4825, section 8.4)

-- the reply to a DELETE of a node: the document has a new tag
abbrev pub node_delete_reply : Bool → Note → SentReply
node_delete_reply closes note = tagged_reply 200 note.next closes

-- the node that the selector finds in this tree is removed
abbrev pub RemovesNode : StoreContents → NodeWrite → Tree → Answer → Type 0
RemovesNode c cut t a =
    let closes = cut.request.closes in
    (plan : Result Change EditRefusal) × IsDeletePlan cut.usage t cut.selector plan
    × (a ≡ plan_answer c cut.id closes (node_delete_reply closes) plan)

-- by whether the document of the node is stored: where the node is there, the conditions are
-- tested
abbrev pub DeletesNode : StoreContents → NodeWrite → Answer → Type 0
DeletesNode c cut a =
    MatchOption (version_of c cut.id) (a ≡ reply_only (plain_reply 404 cut.request.closes)) (λ held.
    MatchBool (node_exists held.0 cut.selector)
    (AppliesConditions cut.request (record { tag = Some held.1; exists = true }) false a
    (RemovesNode c cut held.0 a))
    (a ≡ reply_only (plain_reply 404 cut.request.closes)))
