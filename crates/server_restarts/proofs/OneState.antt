-- The contents of a log lead to one state under given limits, whose next number is the log's.
use Rattle.std.proofs.Common.{◌≡◌, ℕ, ◌+◌, List, [], ◌∷◌, map, length, Option, Some, refl, sym, ap, subst, ◌∙◌, arith}
use Rattle.std.specs.List.{AllByRecursion}
use Rattle.std.proofs.lemmas.List.{length-map}
use Rattle.std.proofs.lemmas.Option.{same_Some}
use Rattle.change_log.specs.LogContents.{Contents, next_number}
use Rattle.change_records.specs.Readings.{request_of}
use Rattle.change_records.specs.Records.{change_record, kept_request}
use Rattle.change_records.proofs.ReadBack.{request_back}
use Rattle.doc_names.specs.declared.doc_id.DocId.{DocId}
use Rattle.edit_ops.specs.declared.change.Change.{Change}
use Rattle.edit_ops.specs.declared.edit.Edit.{Edit}
use Rattle.http_wire.specs.declared.request.Request.{Request}
use Rattle.logged_state.specs.Restarts.{ComesTo, IsRecorded, MakesChanges}
use Rattle.reply_text.specs.ReplyHeads.{SentReply}
use Rattle.server_restarts.specs.StatesOfLogs.{BeginsAt, LeadsToState}
use Rattle.state_snapshots.proofs.States.{one_state}
use Rattle.store_core.specs.DocumentChanges.{ChangeKind, Edits, Makes, Removes, change_kind, state_after, state_after_by_kind}
use Rattle.store_core.specs.State.{State}
use Rattle.unread_parts.proofs.RecordedRequests.{recorded_changes}
use Rattle.xcap_machine.proofs.Steps.{one_step}
use Rattle.xcap_machine.specs.Machine.{ValidStep, change_from_edit}
use Rattle.store_core.specs.Contents.{contents_of}

-- ---- a request as its record gives it makes the same change

pub same_change : (root : List ℕ) (m : State) (request : Request) (reply : SentReply) (next : State) (edit : Edit) → ValidStep root m request reply next (Some edit) → (again : SentReply) × ValidStep root m (kept_request request) again next (Some edit)
same_change root m request reply next edit step =
    let again = recorded_changes root (contents_of m) request reply (change_from_edit edit) step.1.answers in
    (again.0, (step.0, record { answers = again.1; goes_on = step.1.goes_on }, step.2))

-- ---- requests by their records

same_request : (a b : Request) → IsRecorded a → IsRecorded b → change_record a ≡ change_record b → a ≡ b
same_request a b first second same =
    let read : ◌≡◌ {A = Option Request} (Some (kept_request a)) (Some (kept_request b)) = sym (request_back a first.0) ∙ ap request_of same ∙ request_back b second.0 in
    sym first.1 ∙ same_Some (kept_request a) (kept_request b) read ∙ second.1

first_same : (x y : List ℕ) (xs ys : List (List ℕ)) → x ∷ xs ≡ y ∷ ys → x ≡ y
first_same x y xs ys e = cc

others_same : (x y : List ℕ) (xs ys : List (List ℕ)) → x ∷ xs ≡ y ∷ ys → xs ≡ ys
others_same x y xs ys e = cc

pub same_requests : (rs qs : List Request) → AllByRecursion IsRecorded rs → AllByRecursion IsRecorded qs → map change_record rs ≡ map change_record qs → rs ≡ qs
same_requests [] [] first second same = refl
same_requests [] (q ∷ qs) first second same = cc
same_requests (r ∷ rs) [] first second same = cc
same_requests (r ∷ rs) (q ∷ qs) first second same =
    ap (λ (x : Request). x ∷ rs) (same_request r q first.0 second.0 (first_same (change_record r) (change_record q) (map change_record rs) (map change_record qs) same))
    ∙ ap (λ (xs : List Request). q ∷ xs) (same_requests rs qs first.1 second.1 (others_same (change_record r) (change_record q) (map change_record rs) (map change_record qs) same))

-- ---- the state

module _ (root : List ℕ) where
  abbrev Makes_all : State → List Request → State → Type 0
  Makes_all m requests n = MakesChanges (ValidStep root) (BeginsAt root) m requests n

  one_way : (requests : List Request) (m n n' : State) → Makes_all m requests n → Makes_all m requests n' → n ≡ n'
  one_way [] m n n' is is' = is ∙ sym is'
  one_way (request ∷ requests) m n n' (reply, mid, edit, step, more) (reply', mid', edit', step', more') =
      let same = (one_step root m request reply reply' mid mid' (Some edit) (Some edit') step.1 step'.1).1 in
      one_way requests mid n n' more (subst (λ (s : State). Makes_all s requests n') (sym same) more')

  -- no change changes the limits
  same_limits : (m : State) (id : DocId) (change : Change) (act : ChangeKind) → (state_after_by_kind m id change act).limits ≡ m.limits
  same_limits m id change (Makes tree) = refl
  same_limits m id change Edits = refl
  same_limits m id change Removes = refl

  limits_stay : (requests : List Request) (m n : State) → Makes_all m requests n → n.limits ≡ m.limits
  limits_stay [] m n is = ap (λ (s : State). s.limits) is
  limits_stay (request ∷ requests) m n (reply, mid, edit, step, more) =
      let made = change_from_edit edit in
      let first : mid.limits ≡ m.limits = ap (λ (s : State). s.limits) step.1.goes_on ∙ same_limits m made.0 made.1.change (change_kind made.1.change) in
      limits_stay requests mid n more ∙ first

  origins_alike : (found : Contents) (m n : State) (first : LeadsToState root found m) (second : LeadsToState root found n) → m.limits ≡ n.limits → first.origin.limits ≡ second.origin.limits
  origins_alike found m n first second limits = sym (limits_stay first.requests first.origin m first.made) ∙ limits ∙ limits_stay second.requests second.origin n second.made

  pub one_state_led : (found : Contents) (m n : State) → m.limits ≡ n.limits → LeadsToState root found m → LeadsToState root found n → m ≡ n
  one_state_led found m n limits first second =
      let origins = one_state root found.parts first.origin second.origin (origins_alike found m n first second limits) first.begins.parts_of_state second.begins.parts_of_state in
      let requests = same_requests first.requests second.requests first.told second.told (sym first.changes ∙ second.changes) in
      one_way second.requests second.origin m n
      (subst (λ (s : State). Makes_all s second.requests m) origins (subst (λ (rs : List Request). Makes_all first.origin rs m) requests first.made)) second.made

  -- ---- its next number

  pub raised : (m : State) (id : DocId) (change : Change) (act : ChangeKind) → (state_after_by_kind m id change act).next ≡ m.next + 1
  raised m id change (Makes tree) = refl
  raised m id change Edits = refl
  raised m id change Removes = refl

  numbered : (requests : List Request) (m n : State) → Makes_all m requests n → n.next ≡ m.next + length requests
  numbered [] m n is = let e : n.next ≡ m.next = ap (λ (s : State). s.next) is in omega (arith, e)
  numbered (request ∷ requests) m n (reply, mid, edit, step, more) =
      let made = change_from_edit edit in
      let next : mid.next ≡ m.next + 1 = ap (λ (s : State). s.next) step.1.goes_on ∙ raised m made.0 made.1.change (change_kind made.1.change) in
      omega (arith, next, numbered requests mid n more)

  pub next_led : (found : Contents) (m : State) → LeadsToState root found m → m.next ≡ next_number found
  next_led found m leads =
      let all = numbered leads.requests leads.origin m leads.made in
      let changes : length found.changes ≡ length leads.requests = ap (λ (l : List (List ℕ)). length l) leads.changes ∙ length-map leads.requests change_record in
      omega (arith, all, changes, leads.begins.next)
