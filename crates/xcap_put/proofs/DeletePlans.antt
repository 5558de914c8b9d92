-- The plan of a DELETE shows whether the node is there.
use Rattle.std.proofs.Common.{◌≡◌, ◌≢◌, ◌↔◌, inl, inr, ℕ, Bool, true, false, List, [], ◌∷◌, Option, None, Some, MatchOption, IsSome, Result, Ok, Err, IfOk, refl, subst}
use Rattle.xml_tree.specs.Tree.{Tree}
use Rattle.doc_names.specs.declared.usages.Usage.{Usage}
use Rattle.usage_docs.specs.declared.validation.Fault.{Fault}
use Rattle.usage_docs.specs.declared.validation.Fault.TheVariants.{Invalid, Unformed, Repeated}
use Rattle.node_select.specs.declared.selector.End.{End}
use Rattle.node_select.specs.declared.selector.End.TheVariants.{Element, Attribute, Namespaces}
use Rattle.node_select.specs.declared.selector.Selector.{Selector}
use Rattle.node_select.specs.Selection.{FindsNode}
use Rattle.reply_bodies.specs.Nodes.{found_text}
use Rattle.edit_ops.specs.declared.change.Change.{Change}
use Rattle.edit_ops.specs.declared.change.Change.TheVariants.{Remove, DropAttr}
use Rattle.edit_rules.specs.Deletions.{FindsNothingAfter, IsDeletePlan, IsDeletePlanFor, IsElementRemoval}
use Rattle.edit_rules.specs.CheckedChanges.{change_or_fault, IsCheckedChange, IsCheckedIfLawful}
use Rattle.edit_rules.specs.declared.edit_refusal.EditRefusal.{EditRefusal}
use Rattle.edit_rules.specs.declared.edit_refusal.EditRefusal.TheVariants.{NotFound, CannotDelete, Faulty}
use Rattle.http_wire.specs.declared.request.Request.{Request}
use Rattle.xcap_machine.specs.NodeWrites.{node_exists}
use Rattle.xcap_put.specs.inner.RequestPlans.{IsRemovalPlan, IsPlanFromResult, IsValidChange, Plan}
use Rattle.xcap_put.proofs.BodyPlans.{cuts}

-- ---- where a node is found, it isn't reported as missing

judged_never : (change : Change) (fault : Option Fault) → ◌≡◌ {A = Result Change EditRefusal} (Err NotFound) (change_or_fault change fault) → ⊥
judged_never change None is = cc
judged_never change (Some Invalid) is = cc
judged_never change (Some Unformed) is = cc
judged_never change (Some (Repeated clash)) is = cc

tested_never : (lawful : Type 0) (u : Usage) (t : Tree) (change : Change) → IsCheckedIfLawful CannotDelete lawful (IsCheckedChange u t change) (Err NotFound) → ⊥
tested_never lawful u t change (inl h) = let z : ◌≡◌ {A = Result Change EditRefusal} (Err NotFound) (Err CannotDelete) = h.0 in cc
tested_never lawful u t change (inr h) = judged_never change h.1.0 h.1.1.1

removal_never : (u : Usage) (t : Tree) (selector : Selector) (p : List ℕ) → IsElementRemoval (record { usage = u; document = t; selector = selector }) p (Err NotFound) → ⊥
removal_never u t selector [] h = let z : ◌≡◌ {A = Result Change EditRefusal} (Err NotFound) (Err (Faulty Invalid)) = h in cc
removal_never u t selector (n ∷ p) h = tested_never (FindsNothingAfter selector t (Remove (n ∷ p))) u t (Remove (n ∷ p)) h

found_never : (u : Usage) (t : Tree) (selector : Selector) (p : List ℕ) (e : Tree) (end : End) → IsDeletePlanFor (record { usage = u; document = t; selector = selector }) p e end (Err NotFound) → ⊥
found_never u t selector p e Element h = removal_never u t selector p h
found_never u t selector p e (Attribute uri local) h = tested_never (FindsNothingAfter selector t (DropAttr p h.attr.name)) u t (DropAttr p h.attr.name) h.then
found_never u t selector p e Namespaces h = h

-- ---- the refusal

error_is : (why other : EditRefusal) → ◌≡◌ {A = Result Change EditRefusal} (Err why) (Err other) → why ≡ other
error_is why other is = cc

no_error : (change : Change) (why : EditRefusal) → ◌≡◌ {A = Result Change EditRefusal} (Ok change) (Err why) → ⊥
no_error change why is = cc

-- by the law `texts_are_those_of_found_nodes`, and where a planned change may be made
module _ (texts : (root : Tree) (selector : Selector) → IsSome (found_text root selector) ↔ FindsNode root selector)
    (u : Usage) (t : Tree) (selector : Selector) (request : Request) (may : (change : Change) → IsDeletePlan u t selector (Ok change) → IsValidChange u t change) where
  absent : IsDeletePlan u t selector (Err NotFound) → node_exists t selector ≡ false
  absent (inl h) = by (node_exists t selector) refl
    where
      by : (b : Bool) → node_exists t selector ≡ b → node_exists t selector ≡ false
      by true is = absurd (h.1 ((texts t selector).0 is))
      by false is = is
  absent (inr h) = absurd (found_never u t selector h.0.path h.0.element selector.end h.1)

  present : (r : Result Change EditRefusal) → (r ≡ Err NotFound → ⊥) → IsDeletePlan u t selector r → node_exists t selector ≡ true
  present r found (inl h) = absurd (found h.0)
  present r found (inr h) = (texts t selector).1 h.0

  pub cut : (change : Change) → IsDeletePlan u t selector (Ok change) → IsRemovalPlan u t selector request (Some (Ok (record { change = change; exists = true })))
  cut change words = (
    present (Ok change) (no_error change NotFound) words,
    cuts u selector t request {E = Unit {0}} may (Ok change) (Ok (Ok (record { change = change; exists = true }))) words refl,
  )

  pub removal_refusal : {E : Type 0} (why : EditRefusal) → IsDeletePlan u t selector (Err why) → (r : Result (Option Plan) E)
      → IfOk r (λ plan. MatchOption plan (why ≡ NotFound) (λ p. (why ≢ NotFound) × IsPlanFromResult (Err why) true request.closes p)) → IfOk r (λ plan. IsRemovalPlan u t selector request plan)
  removal_refusal why words (Err e) told = tt
  removal_refusal why words (Ok None) told = absent (subst (λ (w : EditRefusal). IsDeletePlan u t selector (Err w)) told words)
  removal_refusal why words (Ok (Some plan)) told = (
    present (Err why) (λ e. told.0 (error_is why NotFound e)) words,
    cuts u selector t request {E = Unit {0}} may (Err why) (Ok plan) words told.1,
  )
