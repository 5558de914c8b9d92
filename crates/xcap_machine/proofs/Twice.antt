-- A PUT that was accepted, made again: its place is what was put, its plan replaces that by
-- itself, and every tree is unchanged.
use Rattle.std.specs.Prelude.{nat_le}
use Rattle.tree_print.specs.AttributeBodyPrints.{body_print}
use Rattle.std.specs.Bool.{MatchBool}
use Rattle.std.proofs.Common.{◌≡◌, ℕ, suc, ◌+◌, ◌-◌, Bool, true, false, List, [], ◌∷◌, ◌++◌, length, find, map, is_some, Option, None, Some, IsSome, option_map, option_and_then, Result, Ok, Err, refl, sym, ap, subst, ◌∙◌}
use Rattle.std.specs.Option.{option_or as or_else}
use Rattle.node_select.specs.InsertionPoints.{IsInsertionPlan}
use Rattle.xml_tree.specs.Tree.{Tree, at, child_elements_of}
use Rattle.xml_tree.specs.Edits.{put_in, put_kid, put_over}
use Rattle.xml_tree.specs.TreeScopes.{scope_around, scope_at}
use Rattle.xml_names.specs.declared.names.Attr.{Attr}
use Rattle.xml_tree.proofs.PathLemmas.{front-snoc}
use Rattle.xml_tree.proofs.PlaceLaws.{at-changed}
use Rattle.xml_tree.proofs.ProperEdits.{around-change_at}
use Rattle.tree_text.specs.Faults.{IsBodyResult, IsTextResult}
use Rattle.tree_text.specs.declared.fault.TextFault.{TextFault}
use Rattle.tree_text.specs.declared.fault.ValueFault.{ValueFault}
use Rattle.tree_text.proofs.SpellingLemmas.{reads_one_tree, reads_one_value}
use Rattle.usage_docs.specs.Validation.{HasFirstFault}
use Rattle.usage_docs.specs.Validity as usage
use Rattle.usage_docs.specs.declared.validation.Fault.{Fault}
use Rattle.usage_docs.proofs.Judgements.{judged_one}
use Rattle.doc_names.specs.declared.usages.Usage.{Usage}
use Rattle.doc_names.specs.declared.doc_id.DocId.{DocId}
use Rattle.node_select.specs.Selection.{SelectsPath, is_attr_named}
use Rattle.node_select.specs.declared.selector.Step.{Step}
use Rattle.node_select.specs.declared.selector.End.{End}
use Rattle.node_select.specs.declared.selector.End.TheVariants as ends
use Rattle.node_select.specs.declared.selector.Selector.{Selector}
use Rattle.node_select.proofs.Along.{one_path, path_there}
use Rattle.node_select.proofs.ReachLemmas.{path_is}
use Rattle.reply_bodies.specs.Nodes.{found_text, node_media_type, node_text, node_text_at}
use Rattle.edit_ops.specs.Changes.{edited}
use Rattle.edit_ops.specs.declared.change.Change.{Change}
use Rattle.edit_ops.specs.declared.change.Change.TheVariants.{Insert, Replace}
use Rattle.edit_rules.specs.AttributePuts.{FindsValue, IsAttrPlan}
use Rattle.edit_rules.specs.LawfulInsertions.{IsLawfulGap, IsLawfulReplacement}
use Rattle.edit_rules.specs.ElementPuts.{IsResultOfGap, IsElementInsertion, IsPutPlan}
use Rattle.edit_rules.specs.Spots.{IsSpotOf}
use Rattle.usage_docs.specs.declared.validation.Fault.TheVariants.{Invalid}
use Rattle.edit_rules.specs.declared.edit_refusal.EditRefusal.{EditRefusal}
use Rattle.edit_rules.specs.declared.edit_refusal.EditRefusal.TheVariants.{CannotInsert, Faulty}
use Rattle.edit_rules.specs.declared.spot.NoParent.{NoParent}
use Rattle.edit_rules.specs.declared.spot.Spot.{Spot}
use Rattle.edit_rules.specs.declared.spot.Spot.TheVariants.{Over, Under, Beside, Value}
use Rattle.edit_rules.proofs.OneAnswer as plans
use Rattle.edit_rules.proofs.StaysSelected.{scope_kept}
use Rattle.edit_rules.proofs.Twice.{judged_ok, tested_ok}
use Rattle.edit_ops.specs.Notes.{Note}
use Rattle.reply_text.specs.ReplyHeads.{SentReply, plain_reply}
use Rattle.http_wire.specs.declared.request.Request.{Request}
use Rattle.request_checks.specs.Conditions.{IsConditionReply}
use Rattle.request_checks.proofs.ReadConditions.{no_stop}
use Rattle.request_checks.specs.MediaTypes.{document_media_type, has_media_type}
use Rattle.store_core.specs.DocumentChanges.{ChangeKind, Edits, change_kind, refusal_of, refusal_of_number, refusal_of_tree, refusal_or, change_result, contents_after, find_document, stored_id, note_for, refusal_if}
use Rattle.store_core.specs.Contents.{StoredDocument, StoreContents as Content}
use Rattle.store_core.specs.ValidStates.{AreDistinct}
use Rattle.store_core.specs.declared.refusal.StoreRefusal.{StoreRefusal}
use Rattle.store_core.specs.declared.refusal.StoreRefusal.TheVariants.{NoNumber}
use Rattle.xcap_machine.specs.Answers.{Answer, reply_only}
use Rattle.xcap_machine.specs.WriteEffects.{IsUnconditional, PreservesTrees, named_trees}
use Rattle.xcap_machine.specs.NodeWrites.{PutsAtEditTarget, PutsFragment, PutsByEditTarget, node_exists, max_height_at, planned_put_answer, edit_target_scope}
use Rattle.xcap_machine.specs.Machine.{content_after_answer}
use Rattle.xcap_machine.specs.Resources.{version_of}
use Rattle.xcap_machine.specs.DocumentWrites.{PutsDocument, PutsParsedBody, change_answer, put_answer, put_change, put_reply}
use Rattle.xcap_machine.specs.inner.AnswerCases.{PutsElementText, PutsNodeOfVersion, PutsValueText, PutsParsedText, judgement_answer, version_tag as tag_of}
use Rattle.xcap_machine.specs.inner.RecordValues.{server_state, node_write}
use Rattle.xcap_machine.proofs.AcceptedRequests.{match_true, unstopped_by}
use Rattle.xcap_machine.proofs.After.{same_trees}
use Rattle.xcap_machine.proofs.Steps.{made_change}
use Rattle.xcap_machine.proofs.ChangeAnswers.{as_the_store, told_by_store}
use Rattle.edit_rules.specs.CheckedChanges.{IsCheckedChange}

-- ---- no condition stops it

pub unstopped : (request : Request) (tag : Option ℕ) (exists : Bool) → IsUnconditional request → IsConditionReply request tag exists false None
unstopped request tag exists h = no_stop request tag exists false h.no_match h.no_none_match

-- ---- the change once more

-- a change of a stored document, which leaves its tree and whose tree was accepted, is made, or
-- its number is too great
module _ (c : Content) (id : DocId) (change : Change) (h : StoredDocument) (acts : change_kind change ≡ Edits) (there : find_document stored_id c.documents id ≡ Some h) (let_in : refusal_of_tree c id false (edited h.tree change) ≡ None) where
  abbrev note : Note
  note = note_for c id change (Some h)

  changing_is : change_result c id change ≡ refusal_or (refusal_of_number c) note (contents_after c id change)
  changing_is =
      ap (λ (o : Option StoredDocument). refusal_or (refusal_of c id change o (change_kind change)) (note_for c id change o) (contents_after c id change)) there
      ∙ ap (λ (a : ChangeKind). refusal_or (refusal_of c id change (Some h) a) note (contents_after c id change)) acts
      ∙ ap (λ (o : Option StoreRefusal). refusal_or (or_else o (refusal_of_number c)) note (contents_after c id change)) let_in

  by_number : (request : Request) (a : Answer) (reply : Note → SentReply) → ((n : Note) → (reply n).status ≡ 200) → edited h.tree change ≡ h.tree → AreDistinct (map stored_id c.documents)
      → (b : Bool) → nat_le 18446744073709551616 c.next ≡ b → a ≡ told_by_store id request.closes reply (refusal_or (refusal_if b NoNumber) note (contents_after c id change))
      → change_result c id change ≡ refusal_or (refusal_if b NoNumber) note (contents_after c id change) → PreservesTrees c request a
  by_number request a reply ok same apart true e is made = subst (λ (t : Bool). MatchBool t (a ≡ reply_only (plain_reply 507 request.closes)) ((a.reply.status ≡ 200) × (named_trees (content_after_answer c a.made) ≡ named_trees c))) (sym e) is
  by_number request a reply ok same apart false e is made =
      let next = content_after_answer c a.made in
      let note_is : note.change ≡ change = made_change c id change note (contents_after c id change) made in
      let here : next ≡ contents_after c id change = ap (λ (x : Answer). content_after_answer c x.made) is ∙ ap (λ (x : Change). contents_after c id x) note_is in
      let leaves : (a.reply.status ≡ 200) × (named_trees next ≡ named_trees c) = (ap (λ (x : Answer). x.reply.status) is ∙ ok note, ap named_trees here ∙ same_trees c id change h apart acts there same) in
      subst (λ (t : Bool). MatchBool t (a ≡ reply_only (plain_reply 507 request.closes)) ((a.reply.status ≡ 200) × (named_trees next ≡ named_trees c))) (sym e) leaves

  pub leaves_trees : (request : Request) (a : Answer) (reply : Note → SentReply) → ((n : Note) → (reply n).status ≡ 200) → edited h.tree change ≡ h.tree → AreDistinct (map stored_id c.documents)
      → a ≡ change_answer c id change request.closes reply → PreservesTrees c request a
  leaves_trees request a reply ok same apart is =
      by_number request a reply ok same apart (nat_le 18446744073709551616 c.next) refl (is ∙ (as_the_store c id change request.closes reply ∙ ap (told_by_store id request.closes reply) changing_is)) changing_is

-- ---- a document once more

pub document_again : (c : Content) (id : DocId) (usage : Usage) (request : Request) (t : Tree) (tag : ℕ) (b : Answer) → has_media_type (document_media_type id.auid) request.fields ≡ true → IsTextResult 64 [] request.body (Ok t) → HasFirstFault usage t None
    → IsUnconditional request → ◌≡◌ {A = Option (Tree × ℕ)} (version_of c id) (Some (t, tag)) → PutsDocument c id usage request b → b ≡ change_answer c id (Replace [] t) request.closes (put_reply true request.closes)
document_again c id usage request t tag b typed spelled judged free held h =
    let Body : Type 0 = PutsParsedBody usage request (put_answer c id request.closes) b in
    let body = unstopped_by request (tag_of (version_of c id)) (is_some (version_of c id)) (MatchBool (has_media_type (document_media_type id.auid) request.fields) Body (b ≡ reply_only (plain_reply 415 request.closes))) b
    (unstopped request (tag_of (version_of c id)) (is_some (version_of c id)) free) h in
    let read = match_true (has_media_type (document_media_type id.auid) request.fields) Body (b ≡ reply_only (plain_reply 415 request.closes)) typed body in
    let same : read.0 ≡ Ok t = reads_one_tree 64 [] request.body read.0 t read.1 spelled in
    let here : PutsParsedText usage (Ok t) request.closes (put_answer c id request.closes) b = subst (λ (r : Result Tree TextFault). PutsParsedText usage r request.closes (put_answer c id request.closes) b) same read.2 in
    let none : here.0 ≡ None = judged_one usage t here.0 None here.1 judged in
    let answer : b ≡ put_answer c id request.closes t = subst (λ (f : Option Fault). b ≡ judgement_answer f request.closes (put_answer c id request.closes t)) none here.2 in
    answer ∙ ap (λ (o : Option (Tree × ℕ)). change_answer c id (put_change (is_some o) t) request.closes (put_reply (is_some o) request.closes)) held

-- ---- an element once more: the place

pub around_snoc : (q : List ℕ) (i : ℕ) (t : Tree) → scope_around (q ++ i ∷ []) t ≡ scope_at q t
around_snoc [] i t = refl
around_snoc (n ∷ q) i t = ap (λ (p : List ℕ). scope_at p t) (front-snoc (n ∷ q) i)

length_snoc : (q : List ℕ) (i : ℕ) → length (q ++ i ∷ []) ≡ suc (length q)
length_snoc [] i = refl
length_snoc (n ∷ q) i = ap suc (length_snoc q i)

-- the place of what was put has the levels and the scope of its edit target
pub record SamePlace (t after : Tree) (spot : Spot) (path : List ℕ) : Type 0 where
  pub levels : max_height_at (Over path) ≡ max_height_at spot
  pub scope : edit_target_scope after (Over path) ≡ edit_target_scope t spot

same_under : (u : Usage) (t : Tree) (steps : List Step) (q : List ℕ) (e : Tree) (change : Change) (path : List ℕ) → IsElementInsertion (record { usage = u; document = t; steps = steps }) q e (Ok change) → SelectsPath steps (edited t change) path → SamePlace t (edited t change) (Under q) path
same_under u t steps q e change path h selects = by h.gap h.is_chosen h.then
  where
    by : (g : Result ℕ EditRefusal) → IsInsertionPlan CannotInsert (Faulty Invalid) (IsLawfulGap steps t e q) (λ j. usage.IsValidDocument u (put_in q j e t)) (length (child_elements_of h.parent) + 1) g → IsResultOfGap (λ gap. IsCheckedChange u t (Insert q gap e)) g (Ok change) → SamePlace t (edited t change) (Under q) path
    by (Err why) chosen then = let z = then in cc
    by (Ok gap) chosen then =
        let j = judged_ok u t (Insert q gap e) change then in
        let lawful : SelectsPath steps (edited t change) (q ++ gap ∷ []) = subst (λ (x : Change). SelectsPath steps (edited t x) (q ++ gap ∷ [])) (sym j.0) chosen.is_lawful in
        let path_is : path ≡ q ++ gap ∷ [] = one_path steps (edited t change) path (q ++ gap ∷ []) selects lawful in
        record {
          levels = ap (λ (p : List ℕ). max_height_at (Over p)) path_is ∙ ap (λ (n : ℕ). 64 - n) (length_snoc q gap);
          scope =
              ap (λ (p : List ℕ). scope_around p (edited t change)) path_is ∙ around_snoc q gap (edited t change) ∙ ap (λ (x : Change). scope_at q (edited t x)) j.0
              ∙ scope_kept q (put_kid gap e) (λ x. refl) t;
        }

nowhere : (o : Option Tree) → IsSome o → o ≡ None → ⊥
nowhere None h e = cc
nowhere (Some x) h e = cc

kept_around : (p : List ℕ) (e t : Tree) → IsSome (at p (put_over p e t)) → scope_around p (put_over p e t) ≡ scope_around p t
kept_around p e t there = by (at p t) refl
  where
    by : (o : Option Tree) → at p t ≡ o → scope_around p (put_over p e t) ≡ scope_around p t
    by (Some x) is = around-change_at p (λ _. e) t x is
    by None is = absurd (nowhere (at p (put_over p e t)) there (at-changed p (λ _. e) t ∙ ap (option_map (λ (x : Tree). e)) is))

pub same_place : (u : Usage) (t : Tree) (steps : List Step) (spot : Spot) (e : Tree) (change : Change) (path : List ℕ) → IsPutPlan (record { usage = u; document = t; steps = steps }) spot e (Ok change) → SelectsPath steps (edited t change) path → SamePlace t (edited t change) spot path
same_place u t steps (Over p) e change path plan selects =
    let m = tested_ok CannotInsert (IsLawfulReplacement steps t e p) u t (Replace p e) change plan in
    let there : SelectsPath steps (edited t change) p = subst (λ (x : Change). SelectsPath steps (edited t x) p) (sym m.is) m.is_lawful in
    let path_is : path ≡ p = one_path steps (edited t change) path p selects there in
    record {
      levels = ap (λ (q : List ℕ). max_height_at (Over q)) path_is;
      scope = ap (λ (q : List ℕ). scope_around q (edited t change)) path_is ∙ ap (λ (x : Change). scope_around p (edited t x)) m.is ∙ kept_around p e t (path_there steps (put_over p e t) p m.is_lawful);
    }
same_place u t steps (Under q) e change path plan selects = same_under u t steps q e change path plan selects
same_place u t steps Beside e change path plan selects = cc
same_place u t steps (Value p) e change path plan selects = absurd plan

-- ---- a node once more

-- an address that selects something is there
there_by : (t : Tree) (selector : Selector) (p : List ℕ) (o : Option (List ℕ)) → SelectsPath selector.steps t p → node_text_at selector.end p t ≡ o → is_some o ≡ true → node_exists t selector ≡ true
there_by t selector p o selects is some =
    let found : found_text t selector ≡ o = ap (λ (x : Option (List ℕ)). option_and_then (λ q. node_text_at selector.end q t) x) ((path_is selector.steps t p).1 selects) ∙ is in
    ap is_some found ∙ some

pub element_there : (t : Tree) (selector : Selector) (p : List ℕ) (e : Tree) → selector.end ≡ ends.Element → SelectsPath selector.steps t p → at p t ≡ Some e → node_exists t selector ≡ true
element_there t selector p e ends_so selects there =
    there_by t selector p (node_text_at ends.Element p t) selects (ap (λ (end : End). node_text_at end p t) ends_so) (ap (λ (o : Option Tree). is_some (option_and_then (node_text ends.Element (scope_at p t)) o)) there)

value_there : (t : Tree) (selector : Selector) (p uri local value : List ℕ) → selector.end ≡ ends.Attribute uri local → FindsValue selector.steps (record { path = p; uri = uri; local = local }) t value → node_exists t selector ≡ true
value_there t selector p uri local value ends_so finds =
    let end : End = ends.Attribute uri local in
    there_by t selector p (node_text_at end p t) finds.selects (ap (λ (x : End). node_text_at x p t) ends_so)
    (ap (λ (o : Option Tree). is_some (option_and_then (node_text end (scope_at p t)) o)) finds.there ∙ by (find (is_attr_named (scope_at p t) uri local) finds.element.attrs) finds.has)
  where
    by : (o : Option Attr) → option_map (λ (a : Attr). a.value) o ≡ Some value → is_some (option_map (λ (attr : Attr). body_print attr.value) o) ≡ true
    by None h = cc
    by (Some a) h = refl

module _ (c : Content) (id : DocId) (usage : Usage) (selector : Selector) (t : Tree) (request : Request) (b : Answer) (typed : has_media_type (node_media_type selector.end) request.fields ≡ true) (free : IsUnconditional request) where
  -- where the edit target is this one, the answer is the one for it
  put_at : (root : List ℕ) (tag : ℕ) (spot : Spot) → IsSpotOf t selector spot → PutsNodeOfVersion (server_state root c) (node_write id usage selector request) (t, tag) b → PutsAtEditTarget c (node_write id usage selector request) t spot b
  put_at root tag spot place h =
      let same : h.0 ≡ Ok spot = plans.one_spot t selector h.0 (Ok spot) h.1 place in
      let here : PutsByEditTarget (server_state root c) (node_write id usage selector request) (t, tag) (Ok spot) b = subst (λ (r : Result Spot NoParent). PutsByEditTarget (server_state root c) (node_write id usage selector request) (t, tag) r b) same h.2 in
      let fragment = unstopped_by request (Some tag) (node_exists t selector) (PutsFragment c (node_write id usage selector request) t spot b) b (unstopped request (Some tag) (node_exists t selector) free) here in
      match_true (has_media_type (node_media_type selector.end) request.fields) (PutsAtEditTarget c (node_write id usage selector request) t spot b) (b ≡ reply_only (plain_reply 415 request.closes)) typed fragment

  planned : (r : Result Change EditRefusal) (change : Change) → r ≡ Ok change → node_exists t selector ≡ true → b ≡ planned_put_answer c (node_write id usage selector request) t r → b ≡ change_answer c id change request.closes (put_reply true request.closes)
  planned r change same there is =
      is ∙ ap (λ (x : Result Change EditRefusal). planned_put_answer c (node_write id usage selector request) t x) same ∙ ap (λ (x : Bool). change_answer c id change request.closes (put_reply x request.closes)) there

  pub element_again : (root : List ℕ) (tag : ℕ) (p : List ℕ) (e : Tree) → IsSpotOf t selector (Over p) → IsPutPlan (record { usage = usage; document = t; steps = selector.steps }) (Over p) e (Ok (Replace p e)) → at p t ≡ Some e
      → IsTextResult (max_height_at (Over p)) (edit_target_scope t (Over p)) request.body (Ok e) → PutsNodeOfVersion (server_state root c) (node_write id usage selector request) (t, tag) b → b ≡ change_answer c id (Replace p e) request.closes (put_reply true request.closes)
  element_again root tag p e place plan there spelled h =
      let here = put_at root tag (Over p) place h in
      let same : here.0 ≡ Ok e = reads_one_tree (max_height_at (Over p)) (edit_target_scope t (Over p)) request.body here.0 e here.1 spelled in
      let text : PutsElementText c (node_write id usage selector request) t (Over p) (Ok e) b = subst (λ (r : Result Tree TextFault). PutsElementText c (node_write id usage selector request) t (Over p) r b) same here.2 in
      planned text.0 (Replace p e) (plans.one_put usage t selector.steps (Over p) e text.0 (Ok (Replace p e)) text.1 plan) (element_there t selector p e place.0 place.1 there) text.2

  pub value_again : (root : List ℕ) (tag : ℕ) (p uri local value : List ℕ) (change : Change) → selector.end ≡ ends.Attribute uri local → IsSpotOf t selector (Value p) → IsAttrPlan (record { usage = usage; document = t; steps = selector.steps }) (ends.Attribute uri local) p value (Ok change)
      → FindsValue selector.steps (record { path = p; uri = uri; local = local }) t value → IsBodyResult request.body (Ok value) → PutsNodeOfVersion (server_state root c) (node_write id usage selector request) (t, tag) b → b ≡ change_answer c id change request.closes (put_reply true request.closes)
  value_again root tag p uri local value change ends_so place plan finds spelled h =
      let here = put_at root tag (Value p) place h in
      let same : here.0 ≡ Ok value = reads_one_value request.body here.0 value here.1 spelled in
      let text : PutsValueText c (node_write id usage selector request) t p (Ok value) b = subst (λ (r : Result (List ℕ) ValueFault). PutsValueText c (node_write id usage selector request) t p r b) same here.2 in
      let plan_so : IsAttrPlan (record { usage = usage; document = t; steps = selector.steps }) selector.end p value (Ok change) = subst (λ (end : End). IsAttrPlan (record { usage = usage; document = t; steps = selector.steps }) end p value (Ok change)) (sym ends_so) plan in
      planned text.0 change (plans.one_attr usage t selector.steps selector.end p value text.0 (Ok change) text.1 plan_so) (value_there t selector p uri local value ends_so finds) text.2
