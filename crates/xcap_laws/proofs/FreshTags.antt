-- Each change gets the next number as its tag, and numbers only rise.
use Rattle.std.proofs.Common.{◌≡◌, ℕ, zero, suc, ◌+◌, ◌<◌, ◌≤◌, List, [], ◌∷◌, Option, Some, None, Ok, option_map, slice_get, refl, sym, ap, ◌∙◌, subst, arith}
use Rattle.std.specs.List.{AllByRecursion}
use Rattle.doc_names.specs.NameEquality.{same_id}
use Rattle.doc_names.specs.declared.doc_id.DocId.{DocId}
use Rattle.edit_ops.specs.declared.change.Change.{Change}
use Rattle.edit_ops.specs.declared.edit.Edit.{Edit}
use Rattle.edit_ops.specs.Notes.{Note}
use Rattle.http_wire.specs.declared.request.Request.{Request}
use Rattle.reply_text.specs.ReplyHeads.{SentReply}
use Rattle.request_checks.specs.Methods.{method_of}
use Rattle.request_checks.specs.declared.method.Method.{Method}
use Rattle.std.specs.Prelude.{Bool}
use Rattle.store_core.specs.Contents.{StoredDocument, StoreContents as Content, contents_of}
use Rattle.store_core.specs.DocumentChanges.{ChangeKind, Makes, Edits, Removes, change_kind, state_after_by_kind, refusal_of, refusal_or, contents_after, find_document, note_for, stored_id}
use Rattle.store_core.specs.State.{State, Version, versions}
use Rattle.store_core.specs.ValidStates.{IsValidHistory, IsValidState}
use Rattle.store_core.specs.declared.refusal.StoreRefusal.{StoreRefusal}
use Rattle.xcap_machine.specs.Answers.{Answer, MadeChange}
use Rattle.xcap_machine.specs.Machine.{Step, ValidStep, state_after_answer, answer_with_edit, change_from_edit}
use Rattle.xcap_machine.specs.Requests.{IsAnswer}
use Rattle.xcap_machine.specs.ReachedStates.{ReachesByValidSteps, HasVersion, goes_on, stays as stays_there}
use Rattle.xcap_machine.proofs.OneVersion.{found_all}
use Rattle.xcap_machine.proofs.Ways.{Way, changes, stays, way_of}

-- ---- the record of a change

pub answered_note : (refusal : Option StoreRefusal) (note told : Note) (c next : Content) → refusal_or refusal note c ≡ Ok (told, next) → told ≡ note
answered_note None note told c next h = let both : ◌≡◌ {A = Note × Content} (note, c) (told, next) = cc in sym (ap (λ (x : Note × Content). x.0) both)
answered_note (Some refusal) note told c next h = cc

-- the record is the one of a change of the document
pub record NoteMade (c : Content) (e : Edit) : Type 0 where
  pub change : Change
  pub is_note : e.note ≡ note_for c e.doc change (find_document stored_id c.documents e.doc)

note_by : (method : Method) (closes : Bool) (c : Content) (a : Answer) (e : Edit) → a.made ≡ Some (change_from_edit e) → Way method closes c a → NoteMade c e
note_by method closes c a e told (stays reply tells same is) = let no : None ≡ Some (change_from_edit e) = sym (ap (λ (x : Answer). x.made) is) ∙ told in absurd cc
note_by method closes c a e told (changes reply tells same id change note next asks made is) =
    let so : ◌≡◌ {A = Option MadeChange} (Some (change_from_edit e)) (Some (id, note)) = sym told ∙ ap (λ (x : Answer). x.made) is in
    let both : ◌≡◌ {A = MadeChange} (change_from_edit e) (id, note) = cc in
    let doc : e.doc ≡ id = ap (λ (x : MadeChange). x.0) both in
    let is_note : e.note ≡ note = ap (λ (x : MadeChange). x.1) both in
    let held = find_document stored_id c.documents id in
    let answer : note ≡ note_for c id change held = answered_note (refusal_of c id change held (change_kind change)) (note_for c id change held) note (contents_after c id change) next made in
    record {
      change = change;
      is_note = subst (λ (i : DocId). e.note ≡ note_for c i change (find_document stored_id c.documents i)) (sym doc) (is_note ∙ answer);
    }

pub note_made : (root : List ℕ) (c : Content) (request : Request) (reply : SentReply) (e : Edit) → IsAnswer root c request (answer_with_edit reply (Some e)) → NoteMade c e
note_made root c request reply e is = note_by (method_of request.method) request.closes c (answer_with_edit reply (Some e)) e refl (way_of root c request (answer_with_edit reply (Some e)) is)

pub note_number : (c : Content) (id : DocId) (change : Change) (held : Option StoredDocument) → (note_for c id change held).next ≡ c.next
note_number c id change None = refl
note_number c id change (Some h) = refl

pub tag_is_number : (root : List ℕ) (c : Content) (request : Request) (reply : SentReply) (e : Edit) → IsAnswer root c request (answer_with_edit reply (Some e)) → e.note.next ≡ c.next
tag_is_number root c request reply e is =
    let n = note_made root c request reply e is in
    ap (λ (x : Note). x.next) n.is_note ∙ note_number c e.doc n.change (find_document stored_id c.documents e.doc)

-- ---- numbers only rise

pub next_number : (m : State) (id : DocId) (change : Change) (act : ChangeKind) → (state_after_by_kind m id change act).next ≡ m.next + 1
next_number m id change (Makes root) = refl
next_number m id change Edits = refl
next_number m id change Removes = refl

pub number_is_tag : (root : List ℕ) (m next : State) (request : Request) (reply : SentReply) (e : Edit) → Step root m request reply next (Some e) → (e.note.next ≡ m.next) × (next.next ≡ m.next + 1)
number_is_tag root m next request reply e s = (
  tag_is_number root (contents_of m) request reply e s.answers,
  ap (λ (x : State). x.next) s.goes_on ∙ next_number m e.doc e.note.change (change_kind e.note.change),
)

step_up : (m : State) (edit : Option Edit) → m.next ≤ (state_after_answer m (option_map change_from_edit edit)).next
step_up m None = omega arith
step_up m (Some e) = omega (arith, next_number m e.doc e.note.change (change_kind e.note.change))

pub never_less : (root : List ℕ) (m n : State) → ReachesByValidSteps root m n → m.next ≤ n.next
never_less root _ _ (stays_there m) = omega arith
never_less root _ _ (goes_on m n last request reply edit step rest) =
    let up : m.next ≤ n.next = subst (λ (x : State). m.next ≤ x.next) (sym step.1.goes_on) (step_up m edit) in
    omega (arith, up, never_less root n last rest)

pub valid_start : (root : List ℕ) (m n : State) → ReachesByValidSteps root m n → IsValidState n → IsValidState m
valid_start root _ _ (stays_there m) kept = kept
valid_start root _ _ (goes_on m n last request reply edit step rest) kept = step.0

-- ---- versions have numbers that were given

tag_at : (next : ℕ) (vs : List Version) (k : ℕ) (v : Version) → AllByRecursion (λ x. (1 ≤ x.tag) × (x.tag < next)) vs → slice_get vs k ≡ Some v → v.tag < next
tag_at next [] k v h is = absurd cc
tag_at next (x ∷ vs) zero v h is = let same : x ≡ v = cc in subst (λ (y : Version). y.tag < next) same h.0.1
tag_at next (x ∷ vs) (suc k) v h is = tag_at next vs k v h.1 is

pub low_tag : (m : State) (id : DocId) (v : Version) → IsValidState m → HasVersion m id v → v.tag < m.next
low_tag m id v kept h =
    let d : IsValidHistory m.next h.document = found_all (IsValidHistory m.next) (λ x. same_id id x.id) m.documents h.document kept.documents h.there in
    tag_at m.next (versions h.document) h.number v d.tags h.is_version

pub above_versions : (root : List ℕ) (m n next : State) (id : DocId) (v : Version) (request : Request) (reply : SentReply) (e : Edit) → HasVersion m id v → ReachesByValidSteps root m n → ValidStep root n request reply next (Some e) → v.tag < e.note.next
above_versions root m n next id v request reply e has reaches step =
    omega (arith, low_tag m id v (valid_start root m n reaches step.0) has, never_less root m n reaches, (number_is_tag root n next request reply e step.1).0)

pub above_changes : (root : List ℕ) (m n later last : State) (first second : Request) (reply answer : SentReply) (earlier e : Edit) → ValidStep root m first reply n (Some earlier) → ReachesByValidSteps root n later
    → ValidStep root later second answer last (Some e) → earlier.note.next < e.note.next
above_changes root m n later last first second reply answer earlier e s reaches z =
    let a = number_is_tag root m n first reply earlier s.1 in
    omega (arith, a.0, a.1, never_less root n later reaches, (number_is_tag root later last second answer e z.1).0)
