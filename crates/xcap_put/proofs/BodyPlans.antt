-- The plan for the body of a PUT of a node, by what the body is parsed as.
use Rattle.std.proofs.Common.{◌≡◌, ℕ, Bool, true, List, Result, Ok, Err, IfOk, refl, sym, subst}
use Rattle.store_core.specs.Contents.{StoreContents as Content}
use Rattle.xml_tree.specs.Tree.{Tree}
use Rattle.reply_bodies.specs.declared.conflicts.ErrorBody.TheVariants as conflicts
use Rattle.tree_text.specs.Faults.{IsBodyResult, IsTextResult}
use Rattle.tree_text.specs.Spellings.{ReadsTree}
use Rattle.tree_text.proofs.SpellingLemmas.{reads_tree, reads_value}
use Rattle.xml_names.specs.ReadErrors.{ResultSatisfies}
use Rattle.xml_names.specs.declared.read_error.ReadError.{ReadError}
use Rattle.xml_names.specs.declared.read_error.ReadError.TheVariants.{Fault}
use Rattle.tree_text.specs.declared.fault.TextFault.{TextFault}
use Rattle.tree_text.specs.declared.fault.ValueFault.{ValueFault}
use Rattle.doc_names.specs.declared.doc_id.DocId.{DocId}
use Rattle.doc_names.specs.declared.usages.Usage.{Usage}
use Rattle.node_select.specs.declared.selector.Selector.{Selector}
use Rattle.reply_bodies.specs.Nodes.{node_media_type}
use Rattle.edit_ops.specs.declared.change.Change.{Change}
use Rattle.edit_rules.specs.AttributePuts.{IsAttrPlan}
use Rattle.edit_rules.specs.Deletions.{IsDeletePlan}
use Rattle.edit_rules.specs.ElementPuts.{IsPutPlan}
use Rattle.edit_rules.specs.declared.edit_refusal.EditRefusal.{EditRefusal}
use Rattle.edit_rules.specs.declared.spot.Spot.{Spot}
use Rattle.edit_rules.specs.declared.spot.Spot.TheVariants.{Over, Under, Beside, Value}
use Rattle.http_wire.specs.declared.request.Request.{Request}
use Rattle.request_checks.specs.MediaTypes.{has_media_type}
use Rattle.xcap_machine.specs.Answers.{Answer, error_reply}
use Rattle.xcap_machine.specs.NodeWrites.{RemovesNode, PutsAtEditTarget, PutsElement, PutsFragment, PutsValue, node_exists, max_height_at, edit_target_scope, value_conflict}
use Rattle.xcap_machine.specs.DocumentWrites.{text_conflict}
use Rattle.xcap_machine.specs.inner.RecordValues.{node_write}
use Rattle.xcap_machine.proofs.Cases.{at_true}
use Rattle.xcap_put.specs.inner.RequestPlans.{IsPlanFromResult, IsValidChange, Plan}
use Rattle.xcap_put.proofs.PlanAnswers.{Planned, Plans, all_stopped_by, plans_so, planned_so}

module _ (usage : Usage) (selector : Selector) (t : Tree) (request : Request) where
  abbrev closes : Bool
  closes = request.closes

  -- a planned change, with the reply to a node that is there already, or isn't
  planned_put : {E : Type 0} (IsPlan : Result Change EditRefusal → Type 0) → ((change : Change) → IsPlan (Ok change) → IsValidChange usage t change) → (exists : Bool) → exists ≡ node_exists t selector
      → (r : Result Change EditRefusal) (plan : Result Plan E) → IsPlan r → IfOk plan (IsPlanFromResult r exists closes) → IfOk plan (Plans usage t closes (Planned IsPlan (node_exists t selector) closes))
  planned_put IsPlan may exists known r plan words told =
      planned_so usage t closes (node_exists t selector) IsPlan may r plan words (subst (λ (b : Bool). IfOk plan (IsPlanFromResult r b closes)) known told)

  -- ---- elements

  abbrev PutsOne : Spot → Content → DocId → Answer → Type 0
  PutsOne spot c id a = PutsElement c (node_write id usage selector request) t spot a

  spelled_element : (spot : Spot) (bytes : List ℕ) (read : Result Tree TextFault) → bytes ≡ request.body → IsTextResult (max_height_at spot) (edit_target_scope t spot) bytes read → IsTextResult (max_height_at spot) (edit_target_scope t spot) request.body read
  spelled_element spot bytes read same spelled = subst (λ (b : List ℕ). IsTextResult (max_height_at spot) (edit_target_scope t spot) b read) same spelled

  read_element : (spot : Spot) (read : Result Tree TextFault) → IsTextResult (max_height_at spot) (edit_target_scope t spot) request.body read → ReadsTree (max_height_at spot) (edit_target_scope t spot) request.body read
  read_element spot read answer = reads_tree (max_height_at spot) (edit_target_scope t spot) request.body read answer

  pub element_puts : {E : Type 0} (spot : Spot) (e : Tree) (bytes : List ℕ) → bytes ≡ request.body → IsTextResult (max_height_at spot) (edit_target_scope t spot) bytes (Ok e)
      → ((change : Change) → IsPutPlan (record { usage = usage; document = t; steps = selector.steps }) spot e (Ok change) → IsValidChange usage t change) → (exists : Bool) → exists ≡ node_exists t selector
      → (r : Result Change EditRefusal) (plan : Result Plan E) → IsPutPlan (record { usage = usage; document = t; steps = selector.steps }) spot e r → IfOk plan (IsPlanFromResult r exists closes) → IfOk plan (Plans usage t closes (PutsOne spot))
  element_puts spot e bytes same spelled may exists known r plan words told =
      plans_so usage t closes (Planned (IsPutPlan (record { usage = usage; document = t; steps = selector.steps }) spot e) (node_exists t selector) closes) (PutsOne spot) (λ c id a is. (Ok e, read_element spot (Ok e) (spelled_element spot bytes (Ok e) same spelled), is)) plan
      (planned_put (IsPutPlan (record { usage = usage; document = t; steps = selector.steps }) spot e) may exists known r plan words told)

  pub element_refused : {E : Type 0} (spot : Spot) (fault : TextFault) (error : ReadError TextFault) (bytes : List ℕ) → bytes ≡ request.body → error ≡ Fault fault → ResultSatisfies (IsTextResult (max_height_at spot) (edit_target_scope t spot) bytes) (Err error)
      → (plan : Result Plan E) → IfOk plan (λ p. p ≡ Err (error_reply (text_conflict conflicts.NotXmlFrag fault) closes)) → IfOk plan (Plans usage t closes (PutsOne spot))
  element_refused spot fault error bytes same is answered plan told =
      let spelled : IsTextResult (max_height_at spot) (edit_target_scope t spot) bytes (Err fault) = subst (λ (e : ReadError TextFault). ResultSatisfies (IsTextResult (max_height_at spot) (edit_target_scope t spot) bytes) (Err e)) is answered in
      all_stopped_by usage t closes (PutsOne spot) plan (error_reply (text_conflict conflicts.NotXmlFrag fault) closes) told (λ c id. (Err fault, read_element spot (Err fault) (spelled_element spot bytes (Err fault) same spelled), refl))

  -- ---- attributes

  abbrev PutsIt : List ℕ → Content → DocId → Answer → Type 0
  PutsIt p c id a = PutsValue c (node_write id usage selector request) t p a

  spelled_value : (bytes : List ℕ) (read : Result (List ℕ) ValueFault) → bytes ≡ request.body → IsBodyResult bytes read → IsBodyResult request.body read
  spelled_value bytes read same spelled = subst (λ (b : List ℕ). IsBodyResult b read) same spelled

  pub value_puts : {E : Type 0} (p value bytes : List ℕ) → bytes ≡ request.body → IsBodyResult bytes (Ok value)
      → ((change : Change) → IsAttrPlan (record { usage = usage; document = t; steps = selector.steps }) selector.end p value (Ok change) → IsValidChange usage t change) → (exists : Bool) → exists ≡ node_exists t selector
      → (r : Result Change EditRefusal) (plan : Result Plan E) → IsAttrPlan (record { usage = usage; document = t; steps = selector.steps }) selector.end p value r → IfOk plan (IsPlanFromResult r exists closes) → IfOk plan (Plans usage t closes (PutsIt p))
  value_puts p value bytes same spelled may exists known r plan words told =
      plans_so usage t closes (Planned (IsAttrPlan (record { usage = usage; document = t; steps = selector.steps }) selector.end p value) (node_exists t selector) closes) (PutsIt p) (λ c id a is. (Ok value, reads_value request.body (Ok value) (spelled_value bytes (Ok value) same spelled), is)) plan
      (planned_put (IsAttrPlan (record { usage = usage; document = t; steps = selector.steps }) selector.end p value) may exists known r plan words told)

  pub value_refused : {E : Type 0} (p : List ℕ) (fault : ValueFault) (error : ReadError ValueFault) (bytes : List ℕ) → bytes ≡ request.body → error ≡ Fault fault → ResultSatisfies (IsBodyResult bytes) (Err error)
      → (plan : Result Plan E) → IfOk plan (λ x. x ≡ Err (error_reply (value_conflict fault) closes)) → IfOk plan (Plans usage t closes (PutsIt p))
  value_refused p fault error bytes same is answered plan told =
      let spelled : IsBodyResult bytes (Err fault) = subst (λ (e : ReadError ValueFault). ResultSatisfies (IsBodyResult bytes) (Err e)) is answered in
      all_stopped_by usage t closes (PutsIt p) plan (error_reply (value_conflict fault) closes) told (λ c id. (Err fault, reads_value request.body (Err fault) (spelled_value bytes (Err fault) same spelled), refl))

  -- ---- by the edit target

  abbrev PutsHere : Spot → Content → DocId → Answer → Type 0
  PutsHere spot c id a = PutsAtEditTarget c (node_write id usage selector request) t spot a

  pub at_over : {E : Type 0} (spot : Spot) (plan : Result Plan E) (p : List ℕ) → spot ≡ Over p → IfOk plan (Plans usage t closes (PutsOne spot)) → IfOk plan (Plans usage t closes (PutsHere spot))
  at_over spot plan p is = subst (λ (s : Spot). IfOk plan (Plans usage t closes (PutsOne s)) → IfOk plan (Plans usage t closes (PutsHere s))) (sym is) (λ plans. plans)

  pub at_under : {E : Type 0} (spot : Spot) (plan : Result Plan E) (q : List ℕ) → spot ≡ Under q → IfOk plan (Plans usage t closes (PutsOne spot)) → IfOk plan (Plans usage t closes (PutsHere spot))
  at_under spot plan q is = subst (λ (s : Spot). IfOk plan (Plans usage t closes (PutsOne s)) → IfOk plan (Plans usage t closes (PutsHere s))) (sym is) (λ plans. plans)

  pub at_beside : {E : Type 0} (spot : Spot) (plan : Result Plan E) → spot ≡ Beside → IfOk plan (Plans usage t closes (PutsOne spot)) → IfOk plan (Plans usage t closes (PutsHere spot))
  at_beside spot plan is = subst (λ (s : Spot). IfOk plan (Plans usage t closes (PutsOne s)) → IfOk plan (Plans usage t closes (PutsHere s))) (sym is) (λ plans. plans)

  pub at_value : {E : Type 0} (spot : Spot) (plan : Result Plan E) (p : List ℕ) → spot ≡ Value p → IfOk plan (Plans usage t closes (PutsIt p)) → IfOk plan (Plans usage t closes (PutsHere spot))
  at_value spot plan p is plans = subst (λ (s : Spot). IfOk plan (Plans usage t closes (PutsHere s))) (sym is) plans

  -- ---- by the media type

  abbrev pub PutsThere : Spot → Content → DocId → Answer → Type 0
  PutsThere spot c id a = PutsFragment c (node_write id usage selector request) t spot a

  pub of_type : {E : Type 0} (spot : Spot) (plan : Result Plan E) → has_media_type (node_media_type selector.end) request.fields ≡ true → IfOk plan (Plans usage t closes (PutsHere spot)) → IfOk plan (Plans usage t closes (PutsThere spot))
  of_type spot plan is plans = plans_so usage t closes (PutsHere spot) (PutsThere spot) (λ c id a so. at_true _ _ _ is so) plan plans

  -- ---- DELETE

  pub cuts : {E : Type 0} → ((change : Change) → IsDeletePlan usage t selector (Ok change) → IsValidChange usage t change) → (r : Result Change EditRefusal) (plan : Result Plan E) → IsDeletePlan usage t selector r → IfOk plan (IsPlanFromResult r true closes)
      → IfOk plan (Plans usage t closes (λ c id a. RemovesNode c (node_write id usage selector request) t a))
  cuts may r plan words told =
      plans_so usage t closes (Planned (IsDeletePlan usage t selector) true closes) (λ c id a. RemovesNode c (node_write id usage selector request) t a) (λ c id a is. is) plan
      (planned_so usage t closes true (IsDeletePlan usage t selector) may r plan words told)
