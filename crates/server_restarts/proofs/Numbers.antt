-- The numbers of changes: each gets the state's next one, and later ones are greater.
use Rattle.std.proofs.Common.{◌≡◌, ◌⊎◌, inl, inr, ℕ, ◌+◌, ◌<◌, ◌≤◌, List, [], ◌∷◌, Option, None, Some, IfSome, Result, Ok, Err, refl, sym, ap, subst, ◌∙◌, arith}
use Rattle.std.specs.Prelude.{Bool}
use Rattle.std.specs.List.{AllByRecursion}
use Rattle.change_log.specs.LogContents.{Contents}
use Rattle.doc_names.specs.declared.doc_id.DocId.{DocId}
use Rattle.edit_ops.specs.Notes.{Note}
use Rattle.edit_ops.specs.declared.change.Change.{Change}
use Rattle.edit_ops.specs.declared.edit.Edit.{Edit}
use Rattle.http_wire.specs.declared.request.Request.{Request}
use Rattle.logged_state.specs.DurableAnswers.{Answers, AnswersAll, Call, DurableState, appended, not_appended, stays}
use Rattle.reply_text.specs.ReplyHeads.{SentReply}
use Rattle.request_checks.specs.Methods.{method_of}
use Rattle.request_checks.specs.declared.method.Method.{Method}
use Rattle.store_core.specs.Contents.{StoreContents, StoredDocument, contents_of}
use Rattle.store_core.specs.DocumentChanges.{change_kind, contents_after, find_document, note_for, refusal_of, refusal_or, stored_id}
use Rattle.store_core.specs.State.{State}
use Rattle.store_core.specs.declared.refusal.StoreRefusal.{StoreRefusal}
use Rattle.xcap_machine.specs.Answers.{Answer, MadeChange}
use Rattle.xcap_machine.specs.Machine.{ValidStep, answer_with_edit, change_from_edit}
use Rattle.xcap_machine.proofs.Ways.{Way, changes, stays as changes_nothing, way_of}
use Rattle.server_restarts.specs.StatesOfLogs.{AreToldBetween, LeadsToState, LeadsToStateOrNext}
use Rattle.server_restarts.proofs.OneState.{next_led, raised}

-- ---- the number of a change

note_next : (c : StoreContents) (id : DocId) (change : Change) (held : Option StoredDocument) → (note_for c id change held).next ≡ c.next
note_next c id change None = refl
note_next c id change (Some h) = refl

made_note : (refusal : Option StoreRefusal) (note made : Note) (c next : StoreContents) → refusal_or refusal note c ≡ Ok (made, next) → made ≡ note
made_note None note made c next h = let both : ◌≡◌ {A = Note × StoreContents} (note, c) (made, next) = cc in sym (ap (λ (x : Note × StoreContents). x.0) both)
made_note (Some refusal) note made c next h = cc

number_by : (method : Method) (closes : Bool) (c : StoreContents) (a : Answer) (e : Edit) → a.made ≡ Some (change_from_edit e) → Way method closes c a → e.note.next ≡ c.next
number_by method closes c a e told (changes_nothing reply tells same is) = let no : ◌≡◌ {A = Option MadeChange} None (Some (change_from_edit e)) = sym (ap (λ (x : Answer). x.made) is) ∙ told in absurd (let f : ⊥ = cc in f)
number_by method closes c a e told (changes reply tells same id change note next asks made is) =
    let so : ◌≡◌ {A = Option MadeChange} (Some (change_from_edit e)) (Some (id, note)) = sym told ∙ ap (λ (x : Answer). x.made) is in
    let both : ◌≡◌ {A = MadeChange} (change_from_edit e) (id, note) = cc in
    let held = find_document stored_id c.documents id in
    let own : note ≡ note_for c id change held = made_note (refusal_of c id change held (change_kind change)) (note_for c id change held) note (contents_after c id change) next made in
    ap (λ (x : MadeChange). x.1.next) both ∙ ap (λ (n : Note). n.next) own ∙ note_next c id change held

module _ (root : List ℕ) where
  pub number_of_step : (m next : State) (request : Request) (reply : SentReply) (e : Edit) → ValidStep root m request reply next (Some e) → (e.note.next ≡ m.next) × (next.next ≡ m.next + 1)
  number_of_step m next request reply e step =
      let a = answer_with_edit reply (Some e) in
      let made = change_from_edit e in (
        number_by (method_of request.method) request.closes (contents_of m) a e refl (way_of root (contents_of m) request a step.1.answers),
        ap (λ (s : State). s.next) step.1.goes_on ∙ raised root m made.0 made.1.change (change_kind made.1.change),
      )

  -- ---- of calls

  abbrev IsToldBetween : ℕ → ℕ → Option Edit → Type 0
  IsToldBetween low high edit = IfSome edit (λ e. (low ≤ e.note.next) × (e.note.next < high))

  one_call : (old new : DurableState State) (call : Call Edit) → Answers (ValidStep root) old call new → (old.machine.next ≤ new.machine.next) × IsToldBetween old.machine.next new.machine.next call.edit
  one_call old new call (stays none step same same_log) =
      let e : new.machine.next ≡ old.machine.next = ap (λ (s : State). s.next) same in
      (omega (arith, e), subst (IsToldBetween old.machine.next new.machine.next) (sym none) tt)
  one_call old new call (appended edit some step recordable now) =
      let n = number_of_step old.machine new.machine call.request call.reply edit step in
      let given : edit.note.next ≡ old.machine.next = n.0 in
      let next : new.machine.next ≡ old.machine.next + 1 = n.1 in
      (omega (arith, next), subst (IsToldBetween old.machine.next new.machine.next) (sym some) (omega (arith, given), omega (arith, given, next)))
  one_call old new call (not_appended none accepts reply same recordable not cause) =
      let e : new.machine.next ≡ old.machine.next = ap (λ (s : State). s.next) same in
      (omega (arith, e), subst (IsToldBetween old.machine.next new.machine.next) (sym none) tt)

  wider : (low low' high high' : ℕ) (edit : Option Edit) → low' ≤ low → high ≤ high' → IsToldBetween low high edit → IsToldBetween low' high' edit
  wider low low' high high' None down up told = tt
  wider low low' high high' (Some e) down up told =
      let least : low ≤ e.note.next = told.0 in
      let most : e.note.next < high = told.1 in
      (omega (arith, down, least), omega (arith, up, most))

  all_wider : (low low' high : ℕ) (calls : List (Call Edit)) → low' ≤ low → AreToldBetween low calls high → AreToldBetween low' calls high
  all_wider low low' high [] down told = tt
  all_wider low low' high (call ∷ calls) down told = (wider low low' high high call.edit down (omega arith) told.0, all_wider low low' high calls down told.1)

  pub told_by_calls : (calls : List (Call Edit)) (old new : DurableState State) → AnswersAll (ValidStep root) old calls new → (old.machine.next ≤ new.machine.next) × AreToldBetween old.machine.next calls new.machine.next
  told_by_calls [] old new same = (let e : new.machine.next ≡ old.machine.next = ap (λ (s : DurableState State). s.machine.next) same in omega (arith, e), tt)
  told_by_calls (call ∷ calls) old new (mid, answers, finds, others) =
      let first = one_call old mid call answers in
      let rest = told_by_calls calls mid new others in
      let up : old.machine.next ≤ mid.machine.next = first.0 in
      let on : mid.machine.next ≤ new.machine.next = rest.0 in (
        omega (arith, up, on),
        (wider old.machine.next old.machine.next mid.machine.next new.machine.next call.edit (omega arith) on first.1, all_wider mid.machine.next old.machine.next new.machine.next calls up rest.1),
      )

  -- ---- after a restart

  pub not_lower : (m : State) (pending : Option Request) (found : Contents) → LeadsToStateOrNext root m pending found → (n : State) → LeadsToState root found n → m.next ≤ n.next
  not_lower m None found leads n leads' = let e : m.next ≡ n.next = next_led root found m leads ∙ sym (next_led root found n leads') in omega (arith, e)
  not_lower m (Some request) found (inl leads) n leads' = let e : m.next ≡ n.next = next_led root found m leads ∙ sym (next_led root found n leads') in omega (arith, e)
  not_lower m (Some request) found (inr (reply, next, edit, step, leads)) n leads' =
      let e : next.next ≡ n.next = next_led root found next leads ∙ sym (next_led root found n leads') in
      let up : next.next ≡ m.next + 1 = (number_of_step m next request reply edit step).1 in
      omega (arith, e, up)
