-- What accepted requests leave.
use Rattle.std.proofs.Common.{◌≡◌, ℕ, Bool, true, false, List, [], ◌∷◌, map, is_some, Option, None, Some, Result, Ok, Err, refl, sym, ap, subst, ◌∙◌, inl, inr}
use Rattle.xml_tree.specs.Tree.{Tree}
use Rattle.doc_names.specs.declared.usages.Usage.{Usage}
use Rattle.doc_names.specs.declared.doc_id.DocId.{DocId}
use Rattle.node_select.specs.declared.selector.Step.{Step}
use Rattle.node_select.specs.declared.selector.End.{End}
use Rattle.node_select.specs.declared.selector.End.TheVariants as ends
use Rattle.node_select.specs.declared.selector.Selector.{Selector}
use Rattle.tree_text.specs.Faults.{IsTextResult}
use Rattle.xml_names.specs.declared.names.Decl.{Decl}
use Rattle.edit_ops.specs.Changes.{edited}
use Rattle.edit_ops.specs.declared.change.Change.{Change}
use Rattle.edit_ops.specs.declared.change.Change.TheVariants.{CreateDocument, Insert, Replace, Remove, DropAttr, RemoveDocument}
use Rattle.edit_rules.specs.AttributePuts.{IsAttrPlan, IsValuePlan}
use Rattle.edit_rules.specs.Deletions.{IsDeletePlan, IsDeletePlanFor, IsElementRemoval, FindsNothingAfter}
use Rattle.edit_rules.specs.LawfulInsertions.{IsLawfulReplacement}
use Rattle.edit_rules.specs.ElementPuts.{IsResultOfGap, IsPutPlan}
use Rattle.edit_rules.specs.declared.edit_refusal.EditRefusal.TheVariants.{CannotDelete, CannotInsert}
use Rattle.edit_rules.specs.declared.edit_refusal.EditRefusal.{EditRefusal}
use Rattle.edit_rules.specs.declared.spot.Spot.{Spot}
use Rattle.edit_rules.specs.declared.spot.Spot.TheVariants.{Over, Under, Beside, Value}
use Rattle.edit_rules.proofs.Twice.{deleted_is, judged_ok, put_is, put_twice, tested_ok, written_again, written_finds, written_is}
use Rattle.xcap_uri.specs.declared.target.Target.{Target}
use Rattle.xcap_uri.specs.declared.target.Target.TheVariants.{Document, Node, Deep, Feed, ElementFeed, Flat}
use Rattle.edit_ops.specs.declared.edit.Edit.{Edit}
use Rattle.reply_text.specs.ReplyHeads.{SentReply}
use Rattle.http_wire.specs.declared.request.Request.{Request}
use Rattle.request_checks.specs.declared.method.Method.TheVariants.{Put, Delete}
use Rattle.store_core.specs.DocumentChanges.{Edits, change_kind, refusal_of_tree, contents_after, find_document, stored_document_after, stored_id}
use Rattle.store_core.specs.Contents.{StoredDocument, Represents, StoreContents as Content}
use Rattle.store_core.specs.ValidStates.{AreDistinct, IsValidState}
use Rattle.store_core.specs.State.{State}
use Rattle.xcap_machine.specs.Answers.{Answer, MadeChange}
use Rattle.xcap_machine.specs.WriteEffects.{DeleteTargetIsGone, DocumentExists, ElementExists, IsUnconditional, PreservesTrees, NodeIsGone, NodeExists, PutTargetExists, RepeatedPutPreservesTrees, TargetIsGone, TargetExists, ValueExists}
use Rattle.xcap_machine.specs.NodeWrites.{node_delete_reply, node_exists, max_height_at, edit_target_scope}
use Rattle.xcap_machine.specs.Machine.{ContentStep, answer_with_edit, change_from_edit}
use Rattle.xcap_machine.specs.Requests.{IsAnswer}
use Rattle.xcap_machine.specs.StandardRequests.{DeletesTarget, PutsTarget}
use Rattle.xcap_machine.specs.Resources.{version_of}
use Rattle.xcap_machine.specs.DocumentWrites.{change_answer, delete_reply, put_change, put_reply}
use Rattle.xcap_machine.specs.inner.AnswerCases.{PutsNodeIfStored, PutsNodeOfVersion}
use Rattle.xcap_machine.specs.inner.RecordValues.{accepted_put, server_state, node_write}
use Rattle.xcap_machine.proofs.AcceptedRequests.{Accepts, DocumentPut, Enters, HeldPut, NodePut, StoreMade, accepted, by_target, delete_enters, document_deleted, document_put, no_bindings, node_deleted, node_put, of_element, of_value, put_again_enters, put_enters, stopped_never, store_made}
use Rattle.store_core.proofs.HeldAfter.{edited_there, made_there, new_held, removed_there, same_others, same_others_more}
use Rattle.xcap_machine.proofs.After.{edit_let_in, let_in_again, make_let_in, names_apart, same_limits, seen_at, unseen_at}
use Rattle.xcap_machine.proofs.PutPremises.{held_at}
use Rattle.xcap_machine.proofs.Steps.{step_of}
use Rattle.xcap_machine.proofs.Twice.{document_again, element_again, leaves_trees, same_place, value_again}
use Rattle.edit_rules.specs.CheckedChanges.{IsCheckedChange}

-- ---- planned changes are edits

element_edits : (u : Usage) (t : Tree) (steps : List Step) (spot : Spot) (e : Tree) (change : Change) → IsPutPlan (record { usage = u; document = t; steps = steps }) spot e (Ok change) → change_kind change ≡ Edits
element_edits u t steps (Over p) e change h = let m = tested_ok CannotInsert (IsLawfulReplacement steps t e p) u t (Replace p e) change h in ap change_kind m.is
element_edits u t steps (Under q) e change h = by h.gap h.then
  where
    by : (g : Result ℕ EditRefusal) → IsResultOfGap (λ gap. IsCheckedChange u t (Insert q gap e)) g (Ok change) → change_kind change ≡ Edits
    by (Err why) then = let z = then in cc
    by (Ok gap) then = ap change_kind (judged_ok u t (Insert q gap e) change then).0
element_edits u t steps Beside e change h = cc
element_edits u t steps (Value p) e change h = absurd h

value_edits : (u : Usage) (t : Tree) (steps : List Step) (uri local p value : List ℕ) (change : Change) → IsValuePlan (record { usage = u; document = t; steps = steps }) (record { path = p; uri = uri; local = local }) value (Ok change) → change_kind change ≡ Edits
value_edits u t steps uri local p value change h = ap change_kind (written_is u t steps uri local p value change h).is

removal_edits : (u : Usage) (t : Tree) (selector : Selector) (p : List ℕ) (change : Change) → IsElementRemoval (record { usage = u; document = t; selector = selector }) p (Ok change) → change_kind change ≡ Edits
removal_edits u t selector [] change h = cc
removal_edits u t selector (n ∷ p) change h = ap change_kind (tested_ok CannotDelete (FindsNothingAfter selector t (Remove (n ∷ p))) u t (Remove (n ∷ p)) change h).is

plan_for_edits : (u : Usage) (t : Tree) (selector : Selector) (p : List ℕ) (e : Tree) (end : End) (change : Change) → IsDeletePlanFor (record { usage = u; document = t; selector = selector }) p e end (Ok change) → change_kind change ≡ Edits
plan_for_edits u t selector p e ends.Element change h = removal_edits u t selector p change h
plan_for_edits u t selector p e (ends.Attribute uri local) change h =
    let drop = DropAttr p h.attr.name in ap change_kind (tested_ok CannotDelete (FindsNothingAfter selector t drop) u t drop change h.then).is
plan_for_edits u t selector p e ends.Namespaces change h = absurd h

delete_edits : (u : Usage) (t : Tree) (selector : Selector) (change : Change) → IsDeletePlan u t selector (Ok change) → change_kind change ≡ Edits
delete_edits u t selector change (inl h) = let z = h.0 in cc
delete_edits u t selector change (inr h) = plan_for_edits u t selector h.0.path h.0.element selector.end change h.1

-- ---- the document after a change

-- it is stored with this tree and this tag, and the tree would be accepted again
record Now (next : Content) (id : DocId) (t : Tree) (tag : ℕ) : Type 0 where
  held : StoredDocument
  there : find_document stored_id next.documents id ≡ Some held
  tree : held.tree ≡ t
  numbered : held.tag ≡ tag
  let_in : refusal_of_tree next id false t ≡ None

seen_now : (next : Content) (id : DocId) (t : Tree) (tag : ℕ) → Now next id t tag → ◌≡◌ {A = Option (Tree × ℕ)} (version_of next id) (Some (t, tag))
seen_now next id t tag n =
    seen_at next id n.held n.there ∙ ap (λ (x : Tree). let v : Tree × ℕ = (x, n.held.tag) in Some v) n.tree ∙ ap (λ (k : ℕ). let v : Tree × ℕ = (t, k) in Some v) n.numbered

module _ (c : Content) (id : DocId) (made : MadeChange) where
  now_edited : (change : Change) (t : Tree) (tag : ℕ) → change_kind change ≡ Edits → ◌≡◌ {A = Option (Tree × ℕ)} (version_of c id) (Some (t, tag)) → StoreMade c id change made → Now (contents_after c id change) id (edited t change) made.1.next
  now_edited change t tag acts held s =
      let h = held_at c id t tag held in
      let let_in = edit_let_in c id change h.0 acts h.1 s.unrefused in
      record {
        held = stored_document_after c.next change h.0;
        there = edited_there c id change h.0 acts h.1;
        tree = ap (λ (x : Tree). edited x change) h.2;
        numbered = sym s.number;
        let_in = let_in_again c (contents_after c id change) id false (edited t change) (same_limits c id change Edits acts) (same_others c id change acts) (subst (λ (x : Tree). refusal_of_tree c id false (edited x change) ≡ None) h.2 let_in);
      }

  now_made : (t : Tree) → find_document stored_id c.documents id ≡ None → StoreMade c id (CreateDocument t) made → Now (contents_after c id (CreateDocument t)) id t made.1.next
  now_made t none s = record {
    held = new_held id c.next t;
    there = made_there c id t none;
    tree = refl;
    numbered = sym s.number;
    let_in = let_in_again c (contents_after c id (CreateDocument t)) id true t refl (same_others_more c id t) (make_let_in c id t s.unrefused);
  }

  -- a document that was put, whether it is new or not
  now_put : (t : Tree) → StoreMade c id (put_change (is_some (version_of c id)) t) made → Now (contents_after c id (put_change (is_some (version_of c id)) t)) id t made.1.next
  now_put t s = by (find_document stored_id c.documents id) refl
    where
      at_change : (exists : Bool) → is_some (version_of c id) ≡ exists → (StoreMade c id (put_change exists t) made → Now (contents_after c id (put_change exists t)) id t made.1.next)
          → Now (contents_after c id (put_change (is_some (version_of c id)) t)) id t made.1.next
      at_change exists is go =
          subst (λ (b : Bool). Now (contents_after c id (put_change b t)) id t made.1.next) (sym is) (go (subst (λ (b : Bool). StoreMade c id (put_change b t) made) is s))

      by : (o : Option StoredDocument) → find_document stored_id c.documents id ≡ o → Now (contents_after c id (put_change (is_some (version_of c id)) t)) id t made.1.next
      by None is = at_change false (ap is_some (unseen_at c id is)) (now_made t is)
      by (Some h) is = at_change true (ap is_some (seen_at c id h is)) (now_edited (Replace [] t) h.tree h.tag refl (seen_at c id h is))

-- ---- accepted requests

-- the contents afterwards are what the change makes
next_is : (root : List ℕ) (c next : Content) (request : Request) (edit : Edit) (id : DocId) (change : Change) → (reply : SentReply) → ContentStep root c request reply next (Some edit) → StoreMade c id change (change_from_edit edit) → next ≡ contents_after c id change
next_is root c next request edit id change reply a s =
    a.goes_on ∙ ap (λ (d : DocId). contents_after c d edit.note.change) s.of_document ∙ ap (λ (x : Change). contents_after c id x) s.of_change

module _ (root : List ℕ) (c next : Content) (request : Request) (edit : Edit) where
  abbrev made : MadeChange
  made = change_from_edit edit

  -- ---- PUT of a document

  module _ (id : DocId) (a : Accepts root c request Put (Document id) next edit) where
    abbrev answer : Answer
    answer = answer_with_edit a.reply (Some edit)

    document_enters : Enters (Document id) Put request (λ usage. PutsTarget (server_state root c) (Document id) usage request answer)
    document_enters = put_enters root c request (Document id) answer made refl (by_target root c request answer (Document id) Put a.means a.asks a.does.answers)

    document_made : DocumentPut c id document_enters.usage request answer
    document_made = document_put c id document_enters.usage request answer made refl document_enters.does

    document_now : Now next id document_made.tree edit.note.next
    document_now =
        let change = put_change (is_some (version_of c id)) document_made.tree in
        let s = store_made c id change request.closes (put_reply (is_some (version_of c id)) request.closes) answer made refl document_made.answers in
        subst (λ (x : Content). Now x id document_made.tree edit.note.next) (sym (next_is root c next request edit id change a.reply a.does s)) (now_put c id made document_made.tree s)

    document_is_there : DocumentExists next id edit.note.next request.body
    document_is_there = record { tree = document_made.tree; spelled = document_made.spelled; held = seen_now next id document_made.tree edit.note.next document_now }

    document_leaves : AreDistinct (map stored_id next.documents) → IsUnconditional request → (b : Answer) → IsAnswer root next request b → PreservesTrees next request b
    document_leaves apart free b is =
        let t = document_made.tree in
        let now = document_now in
        let again = put_again_enters root next request (Document id) b (λ usage. PutsTarget (server_state root c) (Document id) usage request answer) document_enters (by_target root next request b (Document id) Put a.means a.asks is) in
        let put = document_again next id document_enters.usage request t edit.note.next b document_made.typed document_made.spelled document_made.judged free (seen_now next id t edit.note.next now) again in
        leaves_trees next id (Replace [] t) now.held refl now.there now.let_in request b (put_reply true request.closes) (λ n. refl) (sym now.tree) apart put

  -- ---- PUT of a node

  module _ (id : DocId) (selector : Selector) (a : Accepts root c request Put (Node id selector) next edit) where
    abbrev node_answer : Answer
    node_answer = answer_with_edit a.reply (Some edit)

    node_enters : Enters (Node id selector) Put request (λ usage. PutsTarget (server_state root c) (Node id selector) usage request node_answer)
    node_enters = put_enters root c request (Node id selector) node_answer made refl (by_target root c request node_answer (Node id selector) Put a.means a.asks a.does.answers)

    node_made : HeldPut c id node_enters.usage selector (version_of c id) request node_answer
    node_made = node_put root c id node_enters.usage selector (version_of c id) request node_answer made refl node_enters.does

    abbrev before : Tree
    before = node_made.tree

    node_now : (change : Change) → change_kind change ≡ Edits → node_answer ≡ change_answer c id change request.closes (put_reply (node_exists before selector) request.closes) → Now next id (edited before change) edit.note.next
    node_now change acts answers =
        let s = store_made c id change request.closes (put_reply (node_exists before selector) request.closes) node_answer made refl answers in
        subst (λ (x : Content). Now x id (edited before change) edit.note.next) (sym (next_is root c next request edit id change a.reply a.does s)) (now_edited c id made change before node_made.tag acts node_made.held s)

    element_is_there : selector.end ≡ ends.Element → ElementExists (accepted_put c next id edit.note.next selector request.body)
    element_is_there ends_so = by node_made.put.put
      where
        by : NodePut c id node_enters.usage selector before request node_answer → ElementExists (accepted_put c next id edit.note.next selector request.body)
        by (of_value p uri local value ends_in place spelled change plan answers) = let z : ends.Element ≡ ends.Attribute uri local = sym ends_so ∙ ends_in in cc
        by (of_element spot _ place e spelled change plan answers) =
            let put = put_is node_enters.usage before selector.steps spot e change plan in
            record {
              before = before;
              old_tag = node_made.tag;
              was_held = node_made.held;
              spot = spot;
              is_spot = place;
              element = e;
              spelled = spelled;
              after = edited before change;
              held = seen_now next id (edited before change) edit.note.next (node_now change (element_edits node_enters.usage before selector.steps spot e change plan) answers);
              path = put.path;
              selects = put.selects;
              there = put.there;
            }

    value_is_there : (uri local : List ℕ) → selector.end ≡ ends.Attribute uri local → ValueExists (accepted_put c next id edit.note.next selector request.body) uri local
    value_is_there uri local ends_so = by node_made.put.put
      where
        by : NodePut c id node_enters.usage selector before request node_answer → ValueExists (accepted_put c next id edit.note.next selector request.body) uri local
        by (of_element spot ends_in place e spelled change plan answers) = let z : ends.Element ≡ ends.Attribute uri local = sym ends_in ∙ ends_so in cc
        by (of_value p _ _ value _ place spelled change plan answers) =
            let here : IsValuePlan (record { usage = node_enters.usage; document = before; steps = selector.steps }) (record { path = p; uri = uri; local = local }) value (Ok change) = subst (λ (end : End). IsAttrPlan (record { usage = node_enters.usage; document = before; steps = selector.steps }) end p value (Ok change)) ends_so plan in
            record {
              value = value;
              spelled = spelled;
              after = edited before change;
              held = seen_now next id (edited before change) edit.note.next (node_now change (value_edits node_enters.usage before selector.steps uri local p value change here) answers);
              path = p;
              finds = written_finds node_enters.usage before selector.steps uri local p value change (written_is node_enters.usage before selector.steps uri local p value change here);
            }

    node_leaves : AreDistinct (map stored_id next.documents) → IsUnconditional request → (b : Answer) → IsAnswer root next request b → PreservesTrees next request b
    node_leaves apart free b is = by node_made.put.put
      where
        again : PutsTarget (server_state root next) (Node id selector) node_enters.usage request b
        again = put_again_enters root next request (Node id selector) b (λ usage. PutsTarget (server_state root c) (Node id selector) usage request node_answer) node_enters (by_target root next request b (Node id selector) Put a.means a.asks is)

        -- of the document as it is stored afterwards
        of_version : (t : Tree) → ◌≡◌ {A = Option (Tree × ℕ)} (version_of next id) (Some (t, edit.note.next)) → PutsNodeOfVersion (server_state root next) (node_write id node_enters.usage selector request) (t, edit.note.next) b
        of_version t held = subst (λ (v : Option (Tree × ℕ)). PutsNodeIfStored (server_state root next) (node_write id node_enters.usage selector request) v b) held again

        leaves : (change : Change) (t : Tree) → Now next id t edit.note.next → change_kind change ≡ Edits → edited t change ≡ t → b ≡ change_answer next id change request.closes (put_reply true request.closes) → PreservesTrees next request b
        leaves change t now acts same put =
            let of_held : edited now.held.tree change ≡ now.held.tree = ap (λ (x : Tree). edited x change) now.tree ∙ same ∙ sym now.tree in
            let let_in : refusal_of_tree next id false (edited now.held.tree change) ≡ None = subst (λ (x : Tree). refusal_of_tree next id false x ≡ None) (sym (of_held ∙ now.tree)) now.let_in in
            leaves_trees next id change now.held acts now.there let_in request b (put_reply true request.closes) (λ n. refl) of_held apart put

        by : NodePut c id node_enters.usage selector before request node_answer → PreservesTrees next request b
        by (of_element spot ends_so place e spelled change plan answers) =
            let usage = node_enters.usage in
            let t = edited before change in
            let now = node_now change (element_edits usage before selector.steps spot e change plan) answers in
            let put = put_is usage before selector.steps spot e change plan in
            let twice = put_twice usage before selector.steps e change put in
            let same = same_place usage before selector.steps spot e change put.path plan put.selects in
            let spelled_there : IsTextResult (max_height_at (Over put.path)) (edit_target_scope t (Over put.path)) request.body (Ok e) =
            subst (λ (n : ℕ). IsTextResult n (edit_target_scope t (Over put.path)) request.body (Ok e)) (sym same.levels) (subst (λ (s : List (List Decl)). IsTextResult (max_height_at spot) s request.body (Ok e)) (sym same.scope) spelled) in
            leaves (Replace put.path e) t now refl twice.1
            (element_again next id usage selector t request b node_made.put.typed free root edit.note.next put.path e (ends_so, put.selects) twice.0 put.there spelled_there (of_version t (seen_now next id t edit.note.next now)))
        by (of_value p uri local value ends_so place spelled change plan answers) =
            let usage = node_enters.usage in
            let t = edited before change in
            let here : IsValuePlan (record { usage = usage; document = before; steps = selector.steps }) (record { path = p; uri = uri; local = local }) value (Ok change) = subst (λ (end : End). IsAttrPlan (record { usage = usage; document = before; steps = selector.steps }) end p value (Ok change)) ends_so plan in
            let acts = value_edits usage before selector.steps uri local p value change here in
            let now = node_now change acts answers in
            let written = written_is usage before selector.steps uri local p value change here in
            let twice = written_again usage before selector uri local p value change ends_so written in
            leaves change t now acts twice.2
            (value_again next id usage selector t request b node_made.put.typed free root edit.note.next p uri local value change ends_so twice.0 twice.1 (written_finds usage before selector.steps uri local p value change written) spelled (of_version t (seen_now next id t edit.note.next now)))

  node_is_there : (id : DocId) (selector : Selector) → Accepts root c request Put (Node id selector) next edit → NodeExists (accepted_put c next id edit.note.next selector request.body) selector.end
  node_is_there id selector a = by selector.end refl
    where
      by : (end : End) → selector.end ≡ end → NodeExists (accepted_put c next id edit.note.next selector request.body) end
      by ends.Element ends_so = element_is_there id selector a ends_so
      by (ends.Attribute uri local) ends_so = value_is_there id selector a uri local ends_so
      by ends.Namespaces ends_so = absurd (no_bindings c id (node_enters id selector a).usage selector (before id selector a) request (node_answer id selector a) (node_made id selector a).put.put ends_so)

  -- ---- by target

  -- which lines an accepted PUT passed
  put_passed : (target : Target) (a : Accepts root c request Put target next edit) → Enters target Put request (λ usage. PutsTarget (server_state root c) target usage request (answer_with_edit a.reply (Some edit)))
  put_passed target a = put_enters root c request target (answer_with_edit a.reply (Some edit)) made refl (by_target root c request (answer_with_edit a.reply (Some edit)) target Put a.means a.asks a.does.answers)

  -- it is for a document or a node
  of_documents : (P : Target → Type 0) → ((id : DocId) → Accepts root c request Put (Document id) next edit → P (Document id))
      → ((id : DocId) (selector : Selector) → Accepts root c request Put (Node id selector) next edit → P (Node id selector))
      → (target : Target) → Accepts root c request Put target next edit → P target
  of_documents P document node (Document id) a = document id a
  of_documents P document node (Node id selector) a = node id selector a
  of_documents P document node (Deep auid home) a = absurd (stopped_never (answer_with_edit a.reply (Some edit)) _ made refl (put_passed (Deep auid home) a).does)
  of_documents P document node (Feed mode tag id) a = absurd (put_passed (Feed mode tag id) a).does
  of_documents P document node (ElementFeed tag id selector raw) a = absurd (put_passed (ElementFeed tag id selector raw) a).does
  of_documents P document node (Flat id service) a = absurd (put_passed (Flat id service) a).does

  target_is_there : (target : Target) → Accepts root c request Put target next edit → TargetExists c next target edit.note.next request.body
  target_is_there = of_documents (λ (t : Target). TargetExists c next t edit.note.next request.body) document_is_there node_is_there

  leaves_by : (target : Target) → Accepts root c request Put target next edit → AreDistinct (map stored_id next.documents) → IsUnconditional request → (b : Answer) → IsAnswer root next request b → PreservesTrees next request b
  leaves_by = of_documents (λ (t : Target). AreDistinct (map stored_id next.documents) → IsUnconditional request → (b : Answer) → IsAnswer root next request b → PreservesTrees next request b) document_leaves node_leaves

  put_leaves_trees : (m : State) (target : Target) (b : Answer) → IsValidState m → Represents c m → Accepts root c request Put target next edit → IsUnconditional request → IsAnswer root next request b → PreservesTrees next request b
  put_leaves_trees m target b kept stands a free is =
      let step = step_of root c next m request a.reply (Some edit) a.does kept stands in
      leaves_by target a (names_apart next step.0 step.2 step.1.2) free b is

  -- ---- DELETE

  document_is_gone : (id : DocId) → Accepts root c request Delete (Document id) next edit → ◌≡◌ {A = Option (Tree × ℕ)} (version_of next id) None
  document_is_gone id a =
      let answer = answer_with_edit a.reply (Some edit) in
      let e = delete_enters root c request (Document id) answer made refl (by_target root c request answer (Document id) Delete a.means a.asks a.does.answers) in
      let d = document_deleted c id (version_of c id) request answer made refl e.does in
      let s = store_made c id RemoveDocument request.closes (delete_reply request.closes) answer made refl d.answers in
      ap (λ (x : Content). version_of x id) (next_is root c next request edit id RemoveDocument a.reply a.does s) ∙ unseen_at (contents_after c id RemoveDocument) id (removed_there c id)

  node_is_gone : (id : DocId) (selector : Selector) → Accepts root c request Delete (Node id selector) next edit → NodeIsGone next id edit.note.next selector
  node_is_gone id selector a =
      let answer = answer_with_edit a.reply (Some edit) in
      let e = delete_enters root c request (Node id selector) answer made refl (by_target root c request answer (Node id selector) Delete a.means a.asks a.does.answers) in
      let d = node_deleted c id e.usage selector (version_of c id) request answer made refl e.does in
      let s = store_made c id d.change request.closes (node_delete_reply request.closes) answer made refl d.answers in
      let t = edited d.tree d.change in
      let now : Now next id t edit.note.next = subst (λ (x : Content). Now x id t edit.note.next) (sym (next_is root c next request edit id d.change a.reply a.does s))
      (now_edited c id made d.change d.tree d.tag (delete_edits e.usage d.tree selector d.change d.plan) d.held s) in
      record { after = t; held = seen_now next id t edit.note.next now; finds_nothing = (deleted_is e.usage d.tree selector d.change d.plan).finds_nothing }

  delete_passed : (target : Target) (a : Accepts root c request Delete target next edit) → Enters target Delete request (λ usage. DeletesTarget c target usage request (answer_with_edit a.reply (Some edit)))
  delete_passed target a = delete_enters root c request target (answer_with_edit a.reply (Some edit)) made refl (by_target root c request (answer_with_edit a.reply (Some edit)) target Delete a.means a.asks a.does.answers)

  target_is_gone : (target : Target) → Accepts root c request Delete target next edit → TargetIsGone next target edit.note.next
  target_is_gone (Document id) a = document_is_gone id a
  target_is_gone (Node id selector) a = node_is_gone id selector a
  target_is_gone (Deep auid home) a = absurd (stopped_never (answer_with_edit a.reply (Some edit)) _ made refl (delete_passed (Deep auid home) a).does)
  target_is_gone (Feed mode tag id) a = absurd (delete_passed (Feed mode tag id) a).does
  target_is_gone (ElementFeed tag id selector raw) a = absurd (delete_passed (ElementFeed tag id selector raw) a).does
  target_is_gone (Flat id service) a = absurd (delete_passed (Flat id service) a).does

-- ---- what a request does

pub put_is_there : (root : List ℕ) (c next : Content) (request : Request) (reply : SentReply) (edit : Option Edit) → ContentStep root c request reply next edit → PutTargetExists root c request edit next
put_is_there root c next request reply None does = tt
put_is_there root c next request reply (Some edit) does = λ asks.
    let a = accepted root c next request reply edit Put does asks in
    (a.0, a.1.means, target_is_there root c next request edit a.0 a.1)

pub deleted_is_gone : (root : List ℕ) (c next : Content) (request : Request) (reply : SentReply) (edit : Option Edit) → ContentStep root c request reply next edit → DeleteTargetIsGone root request edit next
deleted_is_gone root c next request reply None does = tt
deleted_is_gone root c next request reply (Some edit) does = λ asks.
    let a = accepted root c next request reply edit Delete does asks in
    (a.0, a.1.means, target_is_gone root c next request edit a.0 a.1)

pub second_put_leaves : (root : List ℕ) (c next : Content) (request : Request) (reply : SentReply) (edit : Option Edit) (m : State) → IsValidState m → Represents c m → ContentStep root c request reply next edit → RepeatedPutPreservesTrees root request edit next
second_put_leaves root c next request reply None m kept stands does = tt
second_put_leaves root c next request reply (Some edit) m kept stands does = λ asks free again is.
    let a = accepted root c next request reply edit Put does asks in
    put_leaves_trees root c next request edit m a.0 again kept stands a.1 free is
