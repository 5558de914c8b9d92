-- The results of a step: one state and one edit, the same state where nothing is changed, and a
-- valid state; and contents that represent the state before represent the state after.
use Rattle.std.proofs.Common.{◌≡◌, ℕ, ◌+◌, ◌<◌, ◌≤◌, Bool, true, false, ◌==◌, List, Option, None, Some, IsSome, Ok, option_map, refl, sym, ap, subst, ◌∙◌, arith}
use Rattle.std.proofs.lemmas.Bool.{ne_eqb, true≢false}
use Rattle.doc_names.specs.declared.doc_id.DocId.{DocId}
use Rattle.edit_ops.specs.declared.change.Change.{Change}
use Rattle.edit_ops.specs.Notes.{Note}
use Rattle.edit_ops.specs.declared.edit.Edit.{Edit}
use Rattle.reply_text.specs.ReplyHeads.{SentReply}
use Rattle.http_wire.specs.declared.request.Request.{Request}
use Rattle.request_checks.specs.Methods.{method_of}
use Rattle.request_checks.specs.declared.method.Method.{Method}
use Rattle.store_core.specs.DocumentChanges.{ChangeKind, Makes, Edits, Removes, change_kind, state_after, state_after_by_kind, refusal_of, refusal_or, change_result, contents_after, find_document, stored_id, note_for}
use Rattle.store_core.specs.Contents.{StoredDocument, Represents, StoreContents as Content, contents_of as content_of}
use Rattle.store_core.specs.ValidStates.{IsValidState}
use Rattle.store_core.specs.State.{State}
use Rattle.store_core.specs.declared.refusal.StoreRefusal.{StoreRefusal}
use Rattle.store_core.proofs.Keeps.{keeps}
use Rattle.xcap_machine.specs.Answers.{Answer, MadeChange}
use Rattle.xcap_machine.specs.Machine.{ContentStep, ValidStep, Step, state_after_answer, answer_with_edit, content_after_answer, change_from_edit}
use Rattle.xcap_machine.specs.Requests.{IsAnswer}
use Rattle.xcap_machine.specs.StepOutcomes.{IsDeterministic, ChangesNothing, HasStep, reports_change}
use Rattle.store_core.proofs.SoundHeld.{all_sound}
use Rattle.xcap_machine.proofs.OneAnswer.{one_answer, some_answer}
use Rattle.xcap_machine.proofs.Ways.{Way, changes, stays, tells_none, way_of}

-- ---- one step

-- the edit of a change
abbrev edit_as : MadeChange → Edit
edit_as made = record { doc = made.0; note = record { previous = made.1.previous; next = made.1.next; bindings = made.1.bindings; change = made.1.change; fresh = made.1.fresh } }

same_edit : (edit : Option Edit) → option_map edit_as (option_map change_from_edit edit) ≡ edit
same_edit None = refl
same_edit (Some e) = refl

one_edit : (edit told : Option Edit) → option_map change_from_edit edit ≡ option_map change_from_edit told → edit ≡ told
one_edit edit told same = sym (same_edit edit) ∙ ap (λ (o : Option MadeChange). option_map edit_as o) same ∙ same_edit told

pub one_held : (root : List ℕ) (c : Content) (request : Request) → IsDeterministic (ContentStep root c request)
one_held root c request reply other next state_after edit told d e =
    let same = one_answer root c request (answer_with_edit reply edit) (answer_with_edit other told) d.answers e.answers in
    let made = ap (λ (a : Answer). a.made) same in (
      ap (λ (a : Answer). a.reply) same,
      d.goes_on ∙ ap (λ (o : Option MadeChange). content_after_answer c o) made ∙ sym e.goes_on,
      one_edit edit told made,
    )

pub one_step : (root : List ℕ) (m : State) (request : Request) → IsDeterministic (Step root m request)
one_step root m request reply other next state_after edit told s z =
    let same = one_answer root (content_of m) request (answer_with_edit reply edit) (answer_with_edit other told) s.answers z.answers in
    let made = ap (λ (a : Answer). a.made) same in (
      ap (λ (a : Answer). a.reply) same,
      s.goes_on ∙ ap (λ (o : Option MadeChange). state_after_answer m o) made ∙ sym z.goes_on,
      one_edit edit told made,
    )

-- each change that is made is the change of an edit
told_edit : (made : Option MadeChange) → made ≡ option_map change_from_edit (option_map edit_as made)
told_edit None = refl
told_edit (Some made) = refl

pub some_step : (root : List ℕ) (m : State) (request : Request) → HasStep root m request
some_step root m request =
    let answer = some_answer root (content_of m) request in
    let with_made : Option MadeChange → Answer = λ made. record { reply = answer.0.reply; made = made } in
    record {
      reply = answer.0.reply;
      next = state_after_answer m answer.0.made;
      edit = option_map edit_as answer.0.made;
      step = record {
        answers = subst (λ (o : Option MadeChange). IsAnswer root (content_of m) request (with_made o)) (told_edit answer.0.made) answer.1;
        goes_on = ap (λ (o : Option MadeChange). state_after_answer m o) (told_edit answer.0.made);
      };
    }

-- ---- a change that is made

some_told : (edit : Option Edit) (made : MadeChange) → option_map change_from_edit edit ≡ Some made → IsSome edit
some_told None made h = cc
some_told (Some e) made h = refl

next_number : (m : State) (id : DocId) (change : Change) (act : ChangeKind) → (state_after_by_kind m id change act).next ≡ m.next + 1
next_number m id change (Makes root) = refl
next_number m id change Edits = refl
next_number m id change Removes = refl

-- the record has the change, and the contents afterwards are what the change makes
note_change : (c : Content) (id : DocId) (change : Change) (held : Option StoredDocument) → (note_for c id change held).change ≡ change
note_change c id change None = refl
note_change c id change (Some h) = refl

answered_note : (refusal : Option StoreRefusal) (note told : Note) (c next : Content) → refusal_or refusal note c ≡ Ok (told, next) → told ≡ note
answered_note None note told c next h = let both : ◌≡◌ {A = Note × Content} (note, c) (told, next) = cc in sym (ap (λ (x : Note × Content). x.0) both)
answered_note (Some refusal) note told c next h = cc

answered_content : (refusal : Option StoreRefusal) (note told : Note) (c next : Content) → refusal_or refusal note c ≡ Ok (told, next) → c ≡ next
answered_content None note told c next h = let both : ◌≡◌ {A = Note × Content} (note, c) (told, next) = cc in ap (λ (x : Note × Content). x.1) both
answered_content (Some refusal) note told c next h = cc

pub made_change : (c : Content) (id : DocId) (change : Change) (note : Note) (next : Content) → change_result c id change ≡ Ok (note, next) → note.change ≡ change
made_change c id change note next h =
    let held = find_document stored_id c.documents id in
    ap (λ (n : Note). n.change) (answered_note (refusal_of c id change held (change_kind change)) (note_for c id change held) note (contents_after c id change) next h) ∙ note_change c id change held

pub made_content : (c : Content) (id : DocId) (change : Change) (note : Note) (next : Content) → change_result c id change ≡ Ok (note, next) → next ≡ contents_after c id note.change
made_content c id change note next h =
    let held = find_document stored_id c.documents id in
    sym (answered_content (refusal_of c id change held (change_kind change)) (note_for c id change held) note (contents_after c id change) next h)
    ∙ ap (λ (x : Change). contents_after c id x) (sym (made_change c id change note next h))

-- contents that represent a valid state represent the state after an answer, which is valid
stands_by : (method : Method) (closes : Bool) (c : Content) (m : State) (a : Answer) → Way method closes c a → Represents c m → IsValidState m → Represents (content_after_answer c a.made) (state_after_answer m a.made) × IsValidState (state_after_answer m a.made)
stands_by method closes c m a (stays reply tells same is) stands kept =
    subst (λ (x : Answer). Represents (content_after_answer c x.made) (state_after_answer m x.made) × IsValidState (state_after_answer m x.made)) (sym is) (stands, kept)
stands_by method closes c m a (changes reply tells same id change note next asks made is) stands kept =
    let by_change = sym (made_change c id change note next made) in
    let both : Represents next (state_after m id note.change) × IsValidState (state_after m id note.change) =
    subst (λ (x : Change). Represents next (state_after m id x) × IsValidState (state_after m id x)) by_change (keeps c m id change note next stands kept (asks (all_sound c m stands kept)) made) in
    subst (λ (x : Answer). Represents (content_after_answer c x.made) (state_after_answer m x.made) × IsValidState (state_after_answer m x.made)) (sym is)
    (subst (λ (d : Content). Represents d (state_after m id note.change)) (made_content c id change note next made) both.0, both.1)

-- what is done on contents is a step of the machine, from a valid state to a valid one
pub step_of : (root : List ℕ) (c next : Content) (m : State) (request : Request) (reply : SentReply) (edit : Option Edit) → ContentStep root c request reply next edit → IsValidState m → Represents c m
    → (m' : State) × ValidStep root m request reply m' edit × Represents next m'
step_of root c next m request reply edit d kept stands =
    let made = option_map change_from_edit edit in
    let state_after = stands_by (method_of request.method) request.closes c m (answer_with_edit reply edit) (way_of root c request (answer_with_edit reply edit) d.answers) stands kept in (
      state_after_answer m made,
      (kept, record { answers = subst (λ (x : Content). IsAnswer root x request (answer_with_edit reply edit)) stands d.answers; goes_on = refl }, state_after.1),
      subst (λ (x : Content). Represents x (state_after_answer m made)) (sym d.goes_on) state_after.0,
    )

-- a reply closes where the request does
way_closes : (method : Method) (closes : Bool) (c : Content) (a : Answer) → Way method closes c a → a.reply.closes ≡ closes
way_closes method closes c a (stays reply tells same is) = ap (λ (x : Answer). x.reply.closes) is ∙ same
way_closes method closes c a (changes reply tells same id change note next asks made is) = ap (λ (x : Answer). x.reply.closes) is ∙ same

pub answer_closes : (root : List ℕ) (c : Content) (request : Request) (a : Answer) → IsAnswer root c request a → a.reply.closes ≡ request.closes
answer_closes root c request a is = way_closes (method_of request.method) request.closes c a (way_of root c request a is)

-- a smaller status is another one
is_not : (status other : ℕ) → other < status → (status == other) ≡ false
is_not status other more = ne_eqb status other (λ e. absurd (omega (arith, more, e)))

-- ---- refused requests

module _ (root : List ℕ) (m : State) (request : Request) (reply : SentReply) (next : State) (edit : Option Edit) (s : Step root m request reply next edit) where
  nothing_made : option_map change_from_edit edit ≡ None → ChangesNothing m next edit
  nothing_made none = (s.goes_on ∙ ap (λ (o : Option MadeChange). state_after_answer m o) none, one_edit edit None none)

  untold_by : Way (method_of request.method) request.closes (content_of m) (answer_with_edit reply edit) → reports_change (method_of request.method) reply.status ≡ false → ChangesNothing m next edit
  untold_by (stays same_reply tells closes is) untold = nothing_made (ap (λ (a : Answer). a.made) is)
  untold_by (changes same_reply tells closes id change note held asks made is) untold =
      absurd (true≢false (sym (ap (λ (a : Answer). reports_change (method_of request.method) a.reply.status) is ∙ tells) ∙ untold))

  told_by : Way (method_of request.method) request.closes (content_of m) (answer_with_edit reply edit) → reports_change (method_of request.method) reply.status ≡ true → IsSome edit × (next.next ≡ m.next + 1)
  told_by (stays same_reply tells closes is) told =
      absurd (true≢false (sym told ∙ ap (λ (a : Answer). reports_change (method_of request.method) a.reply.status) is ∙ tells))
  told_by (changes same_reply tells closes id change note held asks made is) told =
      let so = ap (λ (a : Answer). a.made) is in (
        some_told edit (id, note) so,
        ap (λ (x : State). x.next) (s.goes_on ∙ ap (λ (o : Option MadeChange). state_after_answer m o) so) ∙ next_number m id note.change (change_kind note.change),
      )

  abbrev way : Way (method_of request.method) request.closes (content_of m) (answer_with_edit reply edit)
  way = way_of root (content_of m) request (answer_with_edit reply edit) s.answers

  pub untold : reports_change (method_of request.method) reply.status ≡ false → ChangesNothing m next edit
  untold = untold_by way

  pub refusal_reply : 300 ≤ reply.status → ChangesNothing m next edit
  refusal_reply high = untold (tells_none (method_of request.method) reply.status (is_not reply.status 200 (omega (arith, high))) (is_not reply.status 201 (omega (arith, high))))

  pub told : reports_change (method_of request.method) reply.status ≡ true → IsSome edit × (next.next ≡ m.next + 1)
  told = told_by way

  pub kept_after : IsValidState m → IsValidState next
  kept_after kept =
      subst IsValidState (sym s.goes_on) (stands_by (method_of request.method) request.closes (content_of m) m (answer_with_edit reply edit) way refl kept).1
