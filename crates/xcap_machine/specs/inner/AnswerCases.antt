-- The answer to a request, case by case: by its target, by the stored version of the document, and
-- by what a text is parsed as.
use Rattle.std.specs.Prelude.{◌≡◌, ℕ, Bool, true, false, List, Option, Some, Result, option_map}
use Rattle.std.specs.Prelude.{MatchOption, MatchResult}
use Rattle.std.specs.Bool.{MatchBool}
use Rattle.std.specs.Option.{option_map_or}
use Rattle.store_core.specs.Contents.{StoreContents}
use Rattle.xml_tree.specs.Tree.{Tree}
use Rattle.tree_text.specs.declared.fault.TextFault.{TextFault}
use Rattle.tree_text.specs.declared.fault.ValueFault.{ValueFault}
use Rattle.doc_names.specs.declared.usages.Usage.{Usage}
use Rattle.doc_names.specs.declared.doc_id.DocId.{DocId}
use Rattle.edit_ops.specs.declared.change.Change.{Change}
use Rattle.edit_ops.specs.declared.change.Change.TheVariants.{RemoveDocument}
use Rattle.edit_rules.specs.declared.spot.Spot.{Spot}
use Rattle.edit_rules.specs.declared.spot.NoParent.{NoParent}
use Rattle.edit_rules.specs.declared.edit_refusal.EditRefusal.{EditRefusal}
use Rattle.edit_rules.specs.AttributePuts.{IsAttrPlan}
use Rattle.edit_rules.specs.ElementPuts.{IsPutPlan}
use Rattle.edit_rules.specs.Spots.{IsSpot}
use Rattle.usage_docs.specs.Validation.{HasFirstFault}
use Rattle.usage_docs.specs.declared.validation.Fault.{Fault}
use Rattle.edit_ops.specs.Notes.{Note}
use Rattle.store_core.specs.declared.refusal.StoreRefusal.{StoreRefusal}
use Rattle.reply_bodies.specs.declared.conflicts.ErrorBody.TheVariants as conflicts
use Rattle.reply_text.specs.ReplyHeads.{SentReply, plain_reply}
use Rattle.http_wire.specs.declared.request.Request.{Request}
use Rattle.request_checks.specs.Methods.{method_of}
use Rattle.request_checks.specs.declared.method.Method.{Method}
use Rattle.xcap_uri.specs.declared.fault.UriFault.{UriFault}
use Rattle.xcap_uri.specs.declared.target.Target.{Target}
use Rattle.xcap_machine.specs.Answers.{Answer, AppliesConditions, reply_only, error_reply}
use Rattle.xcap_machine.specs.NodeWrites.{RemovesNode, NodeWrite, PutsByEditTarget, node_exists}
use Rattle.xcap_machine.specs.NodeWrites.{planned_put_answer}
use Rattle.xcap_machine.specs.NodeWrites.{value_conflict}
use Rattle.xcap_machine.specs.ReadRequests.{ReadRequest}
use Rattle.xcap_machine.specs.Requests.{AnswersByTarget, ReadsOwn, fault_status}
use Rattle.xcap_machine.specs.StandardRequests as standard
use Rattle.xcap_machine.specs.ServerStates.{ServerState}
use Rattle.xcap_machine.specs.DocumentWrites.{change_answer, delete_reply, fault_conflict}
use Rattle.xcap_machine.specs.DocumentWrites.{missing_parent_answer, refusal_reply, text_conflict}

-- ---- by the target, with this server's own ones

abbrev pub ReadsTarget : ServerState → Target → ReadRequest → Answer → Type 0
ReadsTarget server target get a = standard.ReadsTarget ReadsOwn server target get a

abbrev pub AnswersByMethod : ServerState → Target → Method → Request → Answer → Type 0
AnswersByMethod server target method request a =
    standard.AnswersByMethod ReadsOwn server target method request a

abbrev pub AnswersByUser : ServerState → Target → Method → Request → Answer → Type 0
AnswersByUser server target method request a =
    standard.AnswersByUser ReadsOwn server target method request a

-- by its target, which is read already
abbrev pub IsAnswerByTarget : List ℕ → StoreContents → Result Target UriFault → Request → Answer
    → Type 0
IsAnswerByTarget root c read request a =
    let server : ServerState = record { root = root; content = c } in
    MatchResult read
    (λ target. AnswersByTarget server target (method_of request.method) request a)
    (λ fault. a ≡ reply_only (plain_reply (fault_status fault) request.closes))

-- ---- what stops a request that writes

-- a reply that stops the request, or what follows where there is none
abbrev pub AnswersUnlessStopped : Option SentReply → Answer → Type 0 → Type 0
AnswersUnlessStopped stop a GoesOn = MatchOption stop GoesOn (λ reply. a ≡ reply_only reply)

-- the tag of a document, if it is stored
abbrev pub version_tag : Option (Tree × ℕ) → Option ℕ
version_tag version = option_map (λ held. held.1) version

-- a change that is refused, and one that is made, from whose record the reply is made
abbrev pub store_answer : DocId → Bool → (Note → SentReply) → Option StoreRefusal → Note → Answer
store_answer id closes reply refusal note =
    option_map_or (λ why. reply_only (refusal_reply why closes)) refusal
    (record { reply = reply note; made = Some (id, note) })

-- ---- PUT of a document

-- a tree with a fault is a conflict; one without gets the answer
abbrev pub judgement_answer : Option Fault → Bool → Answer → Answer
judgement_answer judgement closes answer =
    option_map_or (λ fault. reply_only (error_reply (fault_conflict fault) closes)) judgement answer

-- a text, which is parsed as a tree, with its one first fault, or has a fault
abbrev pub PutsParsedText : Usage → Result Tree TextFault → Bool → (Tree → Answer) → Answer → Type 0
PutsParsedText usage read closes answer a =
    MatchResult read (λ t.
    (judgement : Option Fault) × HasFirstFault usage t judgement
    × (a ≡ judgement_answer judgement closes (answer t)))
    (λ fault. a ≡ reply_only (error_reply (text_conflict conflicts.NotWellFormed fault) closes))

-- ---- PUT of a node

module _ (c : StoreContents) (put : NodeWrite) (t : Tree) where
  -- a text, which is parsed as an element or has a fault
  abbrev pub PutsElementText : Spot → Result Tree TextFault → Answer → Type 0
  PutsElementText spot read a =
      MatchResult read
      (λ e.
      (plan : Result Change EditRefusal)
      × IsPutPlan
      (record { usage = put.usage; document = t; steps = put.selector.steps }) spot e plan
      × (a ≡ planned_put_answer c put t plan))
      (λ fault.
      a
      ≡ reply_only (error_reply (text_conflict conflicts.NotXmlFrag fault) put.request.closes))

  -- a text, which is the value of an attribute or has a fault
  abbrev pub PutsValueText : List ℕ → Result (List ℕ) ValueFault → Answer → Type 0
  PutsValueText p read a =
      MatchResult read
      (λ value.
      (plan : Result Change EditRefusal)
      × IsAttrPlan
      (record { usage = put.usage; document = t; steps = put.selector.steps }) put.selector.end p
      value plan
      × (a ≡ planned_put_answer c put t plan))
      (λ fault. a ≡ reply_only (error_reply (value_conflict fault) put.request.closes))

-- a node of a document that is stored with this tree and this tag
abbrev pub PutsNodeOfVersion : ServerState → NodeWrite → Tree × ℕ → Answer → Type 0
PutsNodeOfVersion server put held a =
    (spot : Result Spot NoParent) × IsSpot held.0 put.selector spot
    × PutsByEditTarget server put held spot a

-- by whether the document of the node is stored, and with which version
abbrev pub PutsNodeIfStored : ServerState → NodeWrite → Option (Tree × ℕ) → Answer → Type 0
PutsNodeIfStored server put version a =
    MatchOption version
    (a ≡ missing_parent_answer server.root put.id.auid put.id.home put.request)
    (λ held. PutsNodeOfVersion server put held a)

-- ---- DELETE

abbrev pub DeletesNodeOfVersion : StoreContents → NodeWrite → Tree × ℕ → Answer → Type 0
DeletesNodeOfVersion c cut held a =
    MatchBool (node_exists held.0 cut.selector)
    (AppliesConditions cut.request (record { tag = Some held.1; exists = true }) false a
    (RemovesNode c cut held.0 a))
    (a ≡ reply_only (plain_reply 404 cut.request.closes))

abbrev pub DeletesNodeIfStored : StoreContents → NodeWrite → Option (Tree × ℕ) → Answer → Type 0
DeletesNodeIfStored c cut version a =
    MatchOption version
    (a ≡ reply_only (plain_reply 404 cut.request.closes))
    (λ held. DeletesNodeOfVersion c cut held a)

abbrev pub DeletesDocumentIfStored : StoreContents → DocId → Option (Tree × ℕ) → Request → Answer
    → Type 0
DeletesDocumentIfStored c id version request a =
    MatchOption version (a ≡ reply_only (plain_reply 404 request.closes)) (λ held.
    AppliesConditions request (record { tag = Some held.1; exists = true }) false a
    (a ≡ change_answer c id RemoveDocument request.closes (delete_reply request.closes)))
