-- Which lines an accepted request passed, up to the change that is made.
use Rattle.std.proofs.Common.{◌≡◌, ℕ, Bool, true, false, not, List, [], is_some, Option, None, Some, Result, Ok, Err, refl, sym, ap, subst, ◌∙◌}
use Rattle.std.specs.Bool.{MatchBool}
use Rattle.xml_tree.specs.Tree.{Tree}
use Rattle.tree_text.specs.Faults.{IsBodyResult, IsTextResult}
use Rattle.tree_text.specs.Spellings.{ReadsTree}
use Rattle.tree_text.proofs.SpellingLemmas.{spelled_answer, spelled_body}
use Rattle.tree_text.specs.declared.fault.TextFault.{TextFault}
use Rattle.usage_docs.specs.Validation.{HasFirstFault}
use Rattle.usage_docs.specs.declared.validation.Fault.{Fault}
use Rattle.doc_names.specs.Usages.{usage_of}
use Rattle.doc_names.specs.declared.usages.Usage.{Usage}
use Rattle.doc_names.specs.declared.doc_id.DocId.{DocId}
use Rattle.node_select.specs.declared.selector.End.TheVariants as ends
use Rattle.node_select.specs.declared.selector.Selector.{Selector}
use Rattle.edit_ops.specs.declared.change.Change.{Change}
use Rattle.edit_ops.specs.declared.change.Change.TheVariants.{RemoveDocument}
use Rattle.edit_rules.specs.AttributePuts.{IsAttrPlan}
use Rattle.edit_rules.specs.Deletions.{IsDeletePlan}
use Rattle.edit_rules.specs.ElementPuts.{IsPutPlan}
use Rattle.edit_rules.specs.Spots.{IsSpot, IsSpotOf}
use Rattle.edit_rules.specs.declared.edit_refusal.EditRefusal.{EditRefusal}
use Rattle.edit_rules.specs.declared.spot.NoParent.{NoParent}
use Rattle.edit_rules.specs.declared.spot.Spot.{Spot}
use Rattle.edit_rules.specs.declared.spot.Spot.TheVariants.{Over, Under, Beside, Value}
use Rattle.xcap_uri.specs.Targets.{IsTargetResult}
use Rattle.xcap_uri.specs.declared.target.Target.{Target}
use Rattle.xcap_uri.proofs.TargetAnswers.{one_target}
use Rattle.xcap_uri.specs.declared.fault.UriFault.{UriFault}
use Rattle.edit_ops.specs.Notes.{Note}
use Rattle.edit_ops.specs.declared.edit.Edit.{Edit}
use Rattle.reply_text.specs.ReplyHeads.{SentReply, plain_reply}
use Rattle.http_wire.specs.declared.request.Request.{Request}
use Rattle.request_checks.specs.Conditions.{IsConditionReply}
use Rattle.request_checks.proofs.ReadConditions.{one_stop}
use Rattle.request_checks.specs.MediaTypes.{document_media_type, has_media_type}
use Rattle.request_checks.specs.Methods.{method_of, is_reading}
use Rattle.request_checks.specs.Rights.{is_allowed}
use Rattle.request_checks.specs.declared.method.Method.{Method}
use Rattle.request_checks.specs.declared.method.Method.TheVariants.{Put, Delete}
use Rattle.reply_bodies.specs.Nodes.{node_media_type}
use Rattle.store_core.specs.DocumentChanges.{change_kind, refusal_of, refusal_or, change_result, contents_after, find_document, stored_id, note_for}
use Rattle.store_core.specs.Contents.{StoredDocument, StoreContents as Content}
use Rattle.store_core.specs.declared.refusal.StoreRefusal.{StoreRefusal}
use Rattle.xcap_machine.specs.Answers.{Answer, AppliesConditions, MadeChange, not_allowed_reply, reply_only}
use Rattle.xcap_machine.specs.NodeWrites.{RemovesNode, PutsAtEditTarget, PutsElement, PutsFragment, PutsByEditTarget, PutsValue, node_delete_reply, node_exists, max_height_at, plan_answer, planned_put_answer, edit_target_scope}
use Rattle.xcap_machine.specs.Machine.{ContentStep, answer_with_edit, change_from_edit}
use Rattle.xcap_machine.specs.Requests.{AnswersByTarget, IsAnswer}
use Rattle.xcap_machine.specs.inner.AnswerCases.{AnswersByMethod, AnswersByUser}
use Rattle.xcap_machine.specs.StandardRequests.{DeletesTarget, PutsTarget, auid_of, home_of, is_read_only, allows_method}
use Rattle.xcap_machine.specs.Resources.{version_of}
use Rattle.xcap_machine.specs.DocumentWrites.{WritesIfStored, PutsDocument, PutsParsedBody, change_answer, delete_reply, put_answer, put_reply}
use Rattle.xcap_machine.specs.inner.AnswerCases.{DeletesDocumentIfStored, DeletesNodeIfStored, PutsNodeIfStored, IsAnswerByTarget, PutsParsedText, judgement_answer, version_tag as tag_of, AnswersUnlessStopped}
use Rattle.xcap_machine.specs.inner.RecordValues.{representation, server_state, node_write}
use Rattle.xcap_machine.proofs.Steps.{made_change}
use Rattle.xcap_machine.proofs.ChangeAnswers.{as_the_store, told_by_store}

-- a request of this method, for this target, is accepted: it makes a change, with this edit, and
-- leaves these contents
pub record Accepts (root : List ℕ) (c : Content) (request : Request) (method : Method) (target : Target) (next : Content) (edit : Edit) : Type 0 where
  pub reply : SentReply
  pub does : ContentStep root c request reply next (Some edit)
  pub asks : method_of request.method ≡ method
  pub means : IsTargetResult root request.target (Ok target)

-- ---- a line that doesn't stop the request

pub stopped_never : (a : Answer) (reply : SentReply) (made : MadeChange) → a.made ≡ Some made → a ≡ reply_only reply → ⊥
stopped_never a reply made is same = let z : None ≡ Some made = sym (ap (λ (x : Answer). x.made) same) ∙ is in cc

either_made : (b : Bool) (P : Type 0) (a : Answer) (reply : SentReply) (made : MadeChange) → a.made ≡ Some made → MatchBool b P (a ≡ reply_only reply) → (b ≡ true) × P
either_made true P a reply made is h = (refl, h)
either_made false P a reply made is h = absurd (stopped_never a reply made is h)

past_made : (stop : Option SentReply) (P : Type 0) (a : Answer) (made : MadeChange) → a.made ≡ Some made → AnswersUnlessStopped stop a P → P
past_made None P a made is h = h
past_made (Some reply) P a made is h = absurd (stopped_never a reply made is h)

behind_made : (request : Request) (tag : Option ℕ) (exists : Bool) (P : Type 0) (a : Answer) (made : MadeChange) → a.made ≡ Some made → AppliesConditions request (representation tag exists) false a P → P
behind_made request tag exists P a made is h = past_made h.0 P a made is h.2

stored_made : (u : Option Usage) (request : Request) (P : Usage → Type 0) (a : Answer) (made : MadeChange) → a.made ≡ Some made → WritesIfStored u request a P → (usage : Usage) × (u ≡ Some usage) × P usage
stored_made None request P a made is h = absurd (stopped_never a (plain_reply 403 request.closes) made is h)
stored_made (Some usage) request P a made is h = (usage, refl, h)

pub match_true : (b : Bool) (P Q : Type 0) → b ≡ true → MatchBool b P Q → P
match_true true P Q is h = h
match_true false P Q is h = let z : false ≡ true = is in cc

past_none : (stop : Option SentReply) (P : Type 0) (a : Answer) → stop ≡ None → AnswersUnlessStopped stop a P → P
past_none None P a is h = h
past_none (Some reply) P a is h = let z : Some reply ≡ None = is in cc

pub unstopped_by : (request : Request) (tag : Option ℕ) (exists : Bool) (P : Type 0) (a : Answer) → IsConditionReply request tag exists false None → AppliesConditions request (representation tag exists) false a P → P
unstopped_by request tag exists P a free h = past_none h.0 P a (one_stop request tag exists false h.0 None h.1 free) h.2

-- ---- up to the method

pub by_target : (root : List ℕ) (c : Content) (request : Request) (a : Answer) (target : Target) (method : Method) → IsTargetResult root request.target (Ok target) → method_of request.method ≡ method
    → IsAnswer root c request a → AnswersByTarget (server_state root c) target method request a
by_target root c request a target method means asks is =
    let same : is.0 ≡ Ok target = one_target root request.target is.0 (Ok target) is.1 means in
    let here : AnswersByTarget (server_state root c) target (method_of request.method) request a = subst (λ (r : Result Target UriFault). IsAnswerByTarget root c r request a) same is.2 in
    subst (λ (m : Method). AnswersByTarget (server_state root c) target m request a) asks here

-- a change is made for a target that the address means
pub accepted : (root : List ℕ) (c next : Content) (request : Request) (reply : SentReply) (edit : Edit) (method : Method) → ContentStep root c request reply next (Some edit) → method_of request.method ≡ method
    → (target : Target) × Accepts root c request method target next edit
accepted root c next request reply edit method does asks = by does.answers.0 does.answers.1 does.answers.2
  where
    by : (read : Result Target UriFault) → IsTargetResult root request.target read → IsAnswerByTarget root c read request (answer_with_edit reply (Some edit)) → (target : Target) × Accepts root c request method target next edit
    by (Err fault) means is = absurd (stopped_never (answer_with_edit reply (Some edit)) _ (change_from_edit edit) refl is)
    by (Ok target) means is = (target, record { reply = reply; does = does; asks = asks; means = means })

-- the target was asked for `P`, and the usage that it is in
pub record Enters (target : Target) (method : Method) (request : Request) (P : Usage → Type 0) : Type 0 where
  pub is_taken : allows_method target method ≡ true
  pub is_user : is_allowed (not (is_reading method)) (auid_of target) (home_of target) request.fields ≡ true
  pub usage : Usage
  pub known : usage_of (auid_of target) ≡ Some usage
  pub does : P usage

module _ (root : List ℕ) (c : Content) (request : Request) (target : Target) (a : Answer) where
  pub put_enters : (made : MadeChange) → a.made ≡ Some made → AnswersByTarget (server_state root c) target Put request a → Enters target Put request (λ usage. PutsTarget (server_state root c) target usage request a)
  put_enters made is h =
      let taken = either_made (allows_method target Put) (AnswersByUser (server_state root c) target Put request a) a (not_allowed_reply (is_read_only target) request.closes) made is h in
      let user = either_made (is_allowed (not (is_reading Put)) (auid_of target) (home_of target) request.fields) (AnswersByMethod (server_state root c) target Put request a) a (plain_reply 403 request.closes) made is taken.1 in
      let stored = stored_made (usage_of (auid_of target)) request (λ usage. PutsTarget (server_state root c) target usage request a) a made is user.1 in
      record { is_taken = taken.0; is_user = user.0; usage = stored.0; known = stored.1; does = stored.2 }

  pub delete_enters : (made : MadeChange) → a.made ≡ Some made → AnswersByTarget (server_state root c) target Delete request a → Enters target Delete request (λ usage. DeletesTarget c target usage request a)
  delete_enters made is h =
      let taken = either_made (allows_method target Delete) (AnswersByUser (server_state root c) target Delete request a) a (not_allowed_reply (is_read_only target) request.closes) made is h in
      let user = either_made (is_allowed (not (is_reading Delete)) (auid_of target) (home_of target) request.fields) (AnswersByMethod (server_state root c) target Delete request a) a (plain_reply 403 request.closes) made is taken.1 in
      let stored = stored_made (usage_of (auid_of target)) request (λ usage. DeletesTarget c target usage request a) a made is user.1 in
      record { is_taken = taken.0; is_user = user.0; usage = stored.0; known = stored.1; does = stored.2 }

  -- the same request, made again, gets as far
  pub put_again_enters : (P : Usage → Type 0) (e : Enters target Put request P) → AnswersByTarget (server_state root c) target Put request a → PutsTarget (server_state root c) target e.usage request a
  put_again_enters P e h =
      let taken = match_true (allows_method target Put) (AnswersByUser (server_state root c) target Put request a) (a ≡ reply_only (not_allowed_reply (is_read_only target) request.closes)) e.is_taken h in
      let user = match_true (is_allowed (not (is_reading Put)) (auid_of target) (home_of target) request.fields) (AnswersByMethod (server_state root c) target Put request a) (a ≡ reply_only (plain_reply 403 request.closes)) e.is_user taken in
      subst (λ (u : Option Usage). WritesIfStored u request a (λ usage. PutsTarget (server_state root c) target usage request a)) e.known user

-- ---- the change that the store makes

pub record StoreMade (c : Content) (id : DocId) (change : Change) (made : MadeChange) : Type 0 where
  pub of_document : made.0 ≡ id
  pub of_change : made.1.change ≡ change
  pub number : made.1.next ≡ c.next
  pub unrefused : refusal_of c id change (find_document stored_id c.documents id) (change_kind change) ≡ None

note_number : (c : Content) (id : DocId) (change : Change) (held : Option StoredDocument) → (note_for c id change held).next ≡ c.next
note_number c id change None = refl
note_number c id change (Some h) = refl

answered_so : (refusal : Option StoreRefusal) (note : Note) (c : Content) (x : Note × Content) → refusal_or refusal note c ≡ Ok x → (refusal ≡ None) × (x.0 ≡ note)
answered_so None note c x h = let same : ◌≡◌ {A = Note × Content} (note, c) x = cc in (refl, sym (ap (λ (y : Note × Content). y.0) same))
answered_so (Some refusal) note c x h = let z : ◌≡◌ {A = Result (Note × Content) StoreRefusal} (Err refusal) (Ok x) = h in cc

pub store_made : (c : Content) (id : DocId) (change : Change) (closes : Bool) (reply : Note → SentReply) (a : Answer) (made : MadeChange) → a.made ≡ Some made → a ≡ change_answer c id change closes reply → StoreMade c id change made
store_made c id change closes reply a made is same = by (change_result c id change) refl (sym is ∙ ap (λ (x : Answer). x.made) (same ∙ as_the_store c id change closes reply))
  where
    by : (r : Result (Note × Content) StoreRefusal) → change_result c id change ≡ r → Some made ≡ (told_by_store id closes reply r).made → StoreMade c id change made
    by (Err refusal) e h = let z : Some made ≡ None = h in cc
    by (Ok (note, next)) e h =
        let both : ◌≡◌ {A = MadeChange} made (id, note) = cc in
        let found = find_document stored_id c.documents id in
        let told = answered_so (refusal_of c id change found (change_kind change)) (note_for c id change found) (contents_after c id change) (note, next) e in
        let note_is : made.1 ≡ note = ap (λ (x : MadeChange). x.1) both in
        record {
          of_document = ap (λ (x : MadeChange). x.0) both;
          of_change = ap (λ (n : Note). n.change) note_is ∙ made_change c id change note next e;
          number = ap (λ (n : Note). n.next) (note_is ∙ told.1) ∙ note_number c id change found;
          unrefused = told.0;
        }

-- ---- PUT of documents

pub record DocumentPut (c : Content) (id : DocId) (usage : Usage) (request : Request) (a : Answer) : Type 0 where
  pub typed : has_media_type (document_media_type id.auid) request.fields ≡ true
  pub tree : Tree
  pub spelled : IsTextResult 64 [] request.body (Ok tree)
  pub judged : HasFirstFault usage tree None
  pub answers : a ≡ put_answer c id request.closes tree

pub document_put : (c : Content) (id : DocId) (usage : Usage) (request : Request) (a : Answer) (made : MadeChange) → a.made ≡ Some made → PutsDocument c id usage request a → DocumentPut c id usage request a
document_put c id usage request a made is h =
    let Body : Type 0 = PutsParsedBody usage request (put_answer c id request.closes) a in
    let body = behind_made request (tag_of (version_of c id)) (is_some (version_of c id)) (MatchBool (has_media_type (document_media_type id.auid) request.fields) Body (a ≡ reply_only (plain_reply 415 request.closes))) a made is h in
    let typed = either_made (has_media_type (document_media_type id.auid) request.fields) Body a (plain_reply 415 request.closes) made is body in
    by typed.0 typed.1.0 typed.1.1 typed.1.2
  where
    by_fault : has_media_type (document_media_type id.auid) request.fields ≡ true → (t : Tree) → IsTextResult 64 [] request.body (Ok t) → (judgement : Option Fault) → HasFirstFault usage t judgement → a ≡ judgement_answer judgement request.closes (put_answer c id request.closes t) → DocumentPut c id usage request a
    by_fault typed t read None judged answers = record { typed = typed; tree = t; spelled = read; judged = judged; answers = answers }
    by_fault typed t read (Some fault) judged answers = absurd (stopped_never a _ made is answers)

    by : has_media_type (document_media_type id.auid) request.fields ≡ true → (read : Result Tree TextFault) → ReadsTree 64 [] request.body read → PutsParsedText usage read request.closes (put_answer c id request.closes) a → DocumentPut c id usage request a
    by typed (Err fault) read h = absurd (stopped_never a _ made is h)
    by typed (Ok t) read h = by_fault typed t (spelled_answer 64 [] request.body t read) h.0 h.1 h.2

-- ---- PUT of nodes

-- the plan for the parsed body at the edit target of the address
pub data NodePut (c : Content) (id : DocId) (usage : Usage) (selector : Selector) (t : Tree) (request : Request) (a : Answer) : Type 0 where
  of_element : (spot : Spot) → selector.end ≡ ends.Element → IsSpotOf t selector spot → (e : Tree) → IsTextResult (max_height_at spot) (edit_target_scope t spot) request.body (Ok e)
      → (change : Change) → IsPutPlan (record { usage = usage; document = t; steps = selector.steps }) spot e (Ok change) → a ≡ change_answer c id change request.closes (put_reply (node_exists t selector) request.closes)
      → NodePut c id usage selector t request a
  of_value : (p uri local value : List ℕ) → selector.end ≡ ends.Attribute uri local → IsSpotOf t selector (Value p) → IsBodyResult request.body (Ok value)
      → (change : Change) → IsAttrPlan (record { usage = usage; document = t; steps = selector.steps }) selector.end p value (Ok change) → a ≡ change_answer c id change request.closes (put_reply (node_exists t selector) request.closes)
      → NodePut c id usage selector t request a

-- namespace bindings are never put
pub no_bindings : (c : Content) (id : DocId) (usage : Usage) (selector : Selector) (t : Tree) (request : Request) (a : Answer) → NodePut c id usage selector t request a → selector.end ≡ ends.Namespaces → ⊥
no_bindings c id usage selector t request a (of_element spot ends_in place e spelled change plan answers) is = let z : ends.Element ≡ ends.Namespaces = sym ends_in ∙ is in cc
no_bindings c id usage selector t request a (of_value p uri local value ends_in place spelled change plan answers) is = let z : ends.Attribute uri local ≡ ends.Namespaces = sym ends_in ∙ is in cc

pub record TypedPut (c : Content) (id : DocId) (usage : Usage) (selector : Selector) (t : Tree) (request : Request) (a : Answer) : Type 0 where
  pub typed : has_media_type (node_media_type selector.end) request.fields ≡ true
  pub put : NodePut c id usage selector t request a

module _ (c : Content) (id : DocId) (usage : Usage) (selector : Selector) (t : Tree) (request : Request) (a : Answer) (made : MadeChange) (is : a.made ≡ Some made) where
  abbrev Planned : Result Change EditRefusal → Type 0
  Planned plan = a ≡ planned_put_answer c (node_write id usage selector request) t plan

  element_planned : (spot : Spot) → selector.end ≡ ends.Element → IsSpotOf t selector spot → (e : Tree) → IsTextResult (max_height_at spot) (edit_target_scope t spot) request.body (Ok e)
      → (plan : Result Change EditRefusal) → IsPutPlan (record { usage = usage; document = t; steps = selector.steps }) spot e plan → Planned plan → NodePut c id usage selector t request a
  element_planned spot ends_so place e read (Err why) plan answer = absurd (stopped_never a _ made is answer)
  element_planned spot ends_so place e read (Ok change) plan answer = of_element spot ends_so place e read change plan answer

  element_put : (spot : Spot) → selector.end ≡ ends.Element → IsSpotOf t selector spot → PutsElement c (node_write id usage selector request) t spot a → NodePut c id usage selector t request a
  element_put spot ends_so place (Err fault, read, answer) = absurd (stopped_never a _ made is answer)
  element_put spot ends_so place (Ok e, read, answer) = element_planned spot ends_so place e (spelled_answer (max_height_at spot) (edit_target_scope t spot) request.body e read) answer.0 answer.1 answer.2

  value_planned : (p uri local value : List ℕ) → selector.end ≡ ends.Attribute uri local → IsSpotOf t selector (Value p) → IsBodyResult request.body (Ok value)
      → (plan : Result Change EditRefusal) → IsAttrPlan (record { usage = usage; document = t; steps = selector.steps }) selector.end p value plan → Planned plan → NodePut c id usage selector t request a
  value_planned p uri local value ends_so place read (Err why) plan answer = absurd (stopped_never a _ made is answer)
  value_planned p uri local value ends_so place read (Ok change) plan answer = of_value p uri local value ends_so place read change plan answer

  value_put : (p : List ℕ) → IsSpotOf t selector (Value p) → PutsValue c (node_write id usage selector request) t p a → NodePut c id usage selector t request a
  value_put p place (Err fault, read, answer) = absurd (stopped_never a _ made is answer)
  value_put p place (Ok value, read, answer) = value_planned p place.0.0 place.0.1.0 value place.0.1.1 place (spelled_body request.body value read) answer.0 answer.1 answer.2

  put_at : (spot : Spot) → IsSpotOf t selector spot → PutsAtEditTarget c (node_write id usage selector request) t spot a → NodePut c id usage selector t request a
  put_at (Over p) place h = element_put (Over p) place.0 place h
  put_at (Under q) place h = element_put (Under q) place.0 place h
  put_at Beside place h = element_put Beside place.0 place h
  put_at (Value p) place h = value_put p place h

  fragment_put : (spot : Spot) → IsSpotOf t selector spot → PutsFragment c (node_write id usage selector request) t spot a → TypedPut c id usage selector t request a
  fragment_put spot place h =
      let typed = either_made (has_media_type (node_media_type selector.end) request.fields) (PutsAtEditTarget c (node_write id usage selector request) t spot a) a (plain_reply 415 request.closes) made is h in
      record { typed = typed.0; put = put_at spot place typed.1 }

  put_from : (root : List ℕ) (tag : ℕ) (spot : Result Spot NoParent) → IsSpot t selector spot → PutsByEditTarget (server_state root c) (node_write id usage selector request) (t, tag) spot a → TypedPut c id usage selector t request a
  put_from root tag (Err none) place h = absurd (stopped_never a _ made is h)
  put_from root tag (Ok spot) place h = fragment_put spot place (behind_made request (Some tag) (node_exists t selector) (PutsFragment c (node_write id usage selector request) t spot a) a made is h)

-- for a document that is stored
pub record HeldPut (c : Content) (id : DocId) (usage : Usage) (selector : Selector) (version : Option (Tree × ℕ)) (request : Request) (a : Answer) : Type 0 where
  pub tree : Tree
  pub tag : ℕ
  pub held : version ≡ Some (tree, tag)
  pub put : TypedPut c id usage selector tree request a

pub node_put : (root : List ℕ) (c : Content) (id : DocId) (usage : Usage) (selector : Selector) (version : Option (Tree × ℕ)) (request : Request) (a : Answer) (made : MadeChange) → a.made ≡ Some made
    → PutsNodeIfStored (server_state root c) (node_write id usage selector request) version a → HeldPut c id usage selector version request a
node_put root c id usage selector None request a made is h = absurd (stopped_never a _ made is h)
node_put root c id usage selector (Some (t, tag)) request a made is h = record { tree = t; tag = tag; held = refl; put = put_from c id usage selector t request a made is root tag h.0 h.1 h.2 }

-- ---- DELETE

pub record DocumentDeleted (c : Content) (id : DocId) (version : Option (Tree × ℕ)) (request : Request) (a : Answer) : Type 0 where
  pub tree : Tree
  pub tag : ℕ
  pub held : version ≡ Some (tree, tag)
  pub answers : a ≡ change_answer c id RemoveDocument request.closes (delete_reply request.closes)

pub document_deleted : (c : Content) (id : DocId) (version : Option (Tree × ℕ)) (request : Request) (a : Answer) (made : MadeChange) → a.made ≡ Some made → DeletesDocumentIfStored c id version request a
    → DocumentDeleted c id version request a
document_deleted c id None request a made is h = absurd (stopped_never a _ made is h)
document_deleted c id (Some (t, tag)) request a made is h = record {
  tree = t;
  tag = tag;
  held = refl;
  answers = behind_made request (Some tag) true (a ≡ change_answer c id RemoveDocument request.closes (delete_reply request.closes)) a made is h;
}

pub record NodeDeleted (c : Content) (id : DocId) (usage : Usage) (selector : Selector) (version : Option (Tree × ℕ)) (request : Request) (a : Answer) : Type 0 where
  pub tree : Tree
  pub tag : ℕ
  pub held : version ≡ Some (tree, tag)
  pub change : Change
  pub plan : IsDeletePlan usage tree selector (Ok change)
  pub answers : a ≡ change_answer c id change request.closes (node_delete_reply request.closes)

pub node_deleted : (c : Content) (id : DocId) (usage : Usage) (selector : Selector) (version : Option (Tree × ℕ)) (request : Request) (a : Answer) (made : MadeChange) → a.made ≡ Some made
    → DeletesNodeIfStored c (node_write id usage selector request) version a → NodeDeleted c id usage selector version request a
node_deleted c id usage selector None request a made is h = absurd (stopped_never a _ made is h)
node_deleted c id usage selector (Some (t, tag)) request a made is h =
    let Last : Type 0 = RemovesNode c (node_write id usage selector request) t a in
    let there = either_made (node_exists t selector) (AppliesConditions request (representation (Some tag) true) false a Last) a (plain_reply 404 request.closes) made is h in
    let cut = behind_made request (Some tag) true Last a made is there.1 in
    by cut.0 cut.1 cut.2
  where
    by : (plan : Result Change EditRefusal) → IsDeletePlan usage t selector plan → a ≡ plan_answer c id request.closes (node_delete_reply request.closes) plan → NodeDeleted c id usage selector (Some (t, tag)) request a
    by (Err why) plan answer = absurd (stopped_never a _ made is answer)
    by (Ok change) plan answer = record { tree = t; tag = tag; held = refl; change = change; plan = plan; answers = answer }
