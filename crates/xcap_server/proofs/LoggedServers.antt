-- A server whose accepted requests are logged does what the machine of its root does, except for
-- requests that couldn't be added.
use Rattle.std.proofs.Common.{◌≡◌, ℕ, ◌+◌, ◌<◌, Bool, true, false, List, [], ◌∷◌, ◌++◌, Option, None, Some, is_some, Result, Ok, Err, IfOk, OnErr, option_map, if◌then◌else◌, codes, refl, sym, ap, subst, ◌∙◌, arith, append-nil}
use Rattle.std.specs.Str.{bytes_eq, chars}
use Rattle.http_wire.specs.declared.request.Request.{Request}
use Rattle.edit_ops.specs.declared.edit.Edit.{Edit}
use Rattle.reply_text.specs.ReplyHeads.{SentReply, plain_reply}
use Rattle.request_checks.specs.Methods.{is_reading, method_of}
use Rattle.request_checks.specs.declared.method.Method.{Method}
use Rattle.request_checks.specs.declared.method.Method.TheVariants.{Get, Head, Put, Delete, Other}
use Rattle.xcap_io.specs.StreamStates.{StreamState, CountRisesBy}
use Rattle.edit_journal.specs.Journals.{JournalState}
use Rattle.edit_journal.specs.JournalLogs.{AddsRecord, LogState}
use Rattle.edit_journal.specs.Records.{IsRecordable, method_number, record_of, recorded_request}
use Rattle.edit_journal.specs.declared.journal_log.AppendFault.{AppendFault}
use Rattle.edit_journal.specs.declared.journal_log.AppendFault.TheVariants.{Failed, NoMemory}
use Rattle.store_core.specs.Contents.{Represents, StoreContents, contents_of}
use Rattle.store_core.specs.ValidStates.{IsValidState}
use Rattle.store_core.specs.State.{State, first_state}
use Rattle.store_core.specs.StoreViews.{StoreView}
use Rattle.xcap_machine.specs.Answers.{Answer, MadeChange}
use Rattle.xcap_machine.specs.StepOutcomes.{reports_change}
use Rattle.xcap_machine.specs.Machine.{ValidStep, Step, answer_with_edit, content_after_answer, change_from_edit}
use Rattle.xcap_machine.specs.Requests.{IsAnswer}
use Rattle.xcap_machine.proofs.Steps.{answer_closes}
use Rattle.xcap_machine.proofs.Ways.{Way, changes, stays as changes_nothing, way_of}
use Rattle.xcap_put.specs.Decisions.{DecidesAnswer, answer_of}
use Rattle.xcap_put.specs.declared.decision.Decision.{Decision}
use Rattle.http_serve.specs.declared.machine.MachineReply.{MachineReply}
use Rattle.http_serve.specs.declared.accept_loop.ServeSummary.{ServeSummary}
use Rattle.http_serve.specs.ReplyBytes.{StepsInBytes}
use Rattle.http_serve.proofs.Simulations.{port_by}
use Rattle.edit_journal.specs.LoggedMachines.{LoggedMachineState, HoldsLog, LoggedStep, accepted_requests, answered, not_logged}
use Rattle.edit_journal.specs.LoggedRequests.{AcceptsRequest, AnswersWithJournal, IsLoggable, entered, not_entered, stays}
use Rattle.edit_journal.specs.LoggedPorts.{ServesLogged}
use Rattle.edit_journal.proofs.LogAccounts.{holds_after, holds_so}
use Rattle.xcap_server.specs.LoggedServers.{AnswersLogged, LogsRequests, ServesPortLogged, with_accepted_request}
use Rattle.xcap_server.specs.ReplayedRequests.{AcceptsRequests}
use Rattle.xcap_machine.specs.ServerStates.{ServerState}
use Rattle.xcap_server.specs.inner.ServerSteps.{AnswersRequest, CarriesOutDecision}
use Rattle.xcap_server.proofs.DecisionAnswers.{answered_so}
use Rattle.unread_parts.proofs.SameChanges.{makes_too, same_fields}
use Rattle.xcap_server.proofs.ServerStates.{StandsAt, follows_at}

-- ---- only PUT and DELETE make changes

abbrev pub is_writing : Method → Bool
is_writing Get = false
is_writing Head = false
is_writing Put = true
is_writing Delete = true
is_writing Other = false

numbered_by : (get head put delete : Bool) → is_writing (if get then Get else (if head then Head else (if put then Put else (if delete then Delete else Other)))) ≡ true
    → 0 < (if put then 1 else if delete then 2 else 0)
numbered_by true head put delete h = let no : ⊥ = cc in absurd no
numbered_by false true put delete h = let no : ⊥ = cc in absurd no
numbered_by false false true delete h = omega arith
numbered_by false false false true h = omega arith
numbered_by false false false false h = let no : ⊥ = cc in absurd no

-- a method that writes is one that is recorded
numbered : (name : List ℕ) → is_writing (method_of name) ≡ true → 0 < method_number name
unfolding method_of method_number
numbered name h = numbered_by (bytes_eq name (chars (codes "GET"))) (bytes_eq name (chars (codes "HEAD"))) (bytes_eq name (chars (codes "PUT"))) (bytes_eq name (chars (codes "DELETE"))) h

told_writes : (method : Method) (status : ℕ) → reports_change method status ≡ true → (is_writing method ≡ true) × (is_reading method ≡ false)
told_writes Get status h = let no : ⊥ = cc in absurd no
told_writes Head status h = let no : ⊥ = cc in absurd no
told_writes Put status h = (refl, refl)
told_writes Delete status h = (refl, refl)
told_writes Other status h = let no : ⊥ = cc in absurd no

writes_by : (method : Method) (closes : Bool) (c : StoreContents) (a : Answer) (made : MadeChange) → a.made ≡ Some made → Way method closes c a → (is_writing method ≡ true) × (is_reading method ≡ false)
writes_by method closes c a made makes (changes_nothing reply tells same is) = let no : ◌≡◌ {A = Option MadeChange} None (Some made) = sym (ap (λ (x : Answer). x.made) is) ∙ makes in absurd (let f : ⊥ = cc in f)
writes_by method closes c a made makes (changes reply tells same id change note next asks did is) = told_writes method reply.status tells

-- a request that makes a change writes
pub writes : (root : List ℕ) (c : StoreContents) (request : Request) (a : Answer) (made : MadeChange) → a.made ≡ Some made → IsAnswer root c request a → (is_writing (method_of request.method) ≡ true) × (is_reading (method_of request.method) ≡ false)
writes root c request a made makes is = writes_by (method_of request.method) request.closes c a made makes (way_of root c request a is)

-- ---- decided, added to the log, and made

pub no_edit : (edit : Option Edit) → option_map change_from_edit edit ≡ None → edit ≡ None
no_edit None h = refl
no_edit (Some e) h = let no : ⊥ = cc in absurd no

pub some_edit : (edit : Option Edit) (made : MadeChange) → option_map change_from_edit edit ≡ Some made → (e : Edit) × (edit ≡ Some e)
some_edit None made h = let no : ⊥ = cc in absurd no
some_edit (Some e) made h = (e, refl)

pub no_made : (made : Option MadeChange) → is_some made ≡ false → made ≡ None
no_made None h = refl
no_made (Some m) h = let no : ⊥ = cc in absurd no

pub some_made : (made : Option MadeChange) → is_some made ≡ true → (m : MadeChange) × (made ≡ Some m)
some_made None h = let no : ⊥ = cc in absurd no
some_made (Some m) h = (m, refl)

pub same_server : (old new : ServerState) → new.root ≡ old.root → new.content ≡ old.content → new ≡ old
same_server old new root content = λ i. record { root = root i; content = content i }

-- the edit of a change that is made
abbrev edit_as : MadeChange → Edit
edit_as made = record { doc = made.0; note = record { previous = made.1.previous; next = made.1.next; bindings = made.1.bindings; change = made.1.change; fresh = made.1.fresh } }

-- the machine accepts a request that would make a change
pub accepts_so : (old : ServerState) (request : Request) (a : Answer) (made : MadeChange) → a.made ≡ Some made → IsAnswer old.root old.content request a → AcceptsRequest AnswersRequest old request
accepts_so old request a made makes is = (
  a.reply,
  record { root = old.root; content = content_after_answer old.content (Some made) },
  edit_as made,
  record {
    does = record { answers = subst (λ (o : Option MadeChange). IsAnswer old.root old.content request (record { reply = a.reply; made = o })) makes is; goes_on = refl };
    same_root = refl;
  },
)

module _ (old new : ServerState) (request : Request) (s : StoreView) (d : Decision) (same : s.content ≡ old.content) (decides : DecidesAnswer (IsAnswer old.root old.content request) s d) (root : new.root ≡ old.root) where
  -- a reply closes where its request does
  pub decided_closes : (a : MachineReply Edit) → answer_with_edit a.reply a.edit ≡ answer_of d → a.reply.closes ≡ request.closes
  decided_closes a gives = ap (λ (x : Answer). x.reply.closes) gives ∙ answer_closes old.root old.content request (answer_of d) decides.answers

  -- a request that makes no change
  pub answered_unchanged : (a : MachineReply Edit) (log : LogState) (journal : JournalState) → is_some (answer_of d).made ≡ false → answer_with_edit a.reply a.edit ≡ answer_of d → new.content ≡ content_after_answer s.content (answer_of d).made
      → AnswersWithJournal AnswersRequest (record { machine = old; log = log; journal = journal }) request a.reply (record { machine = new; log = log; journal = journal }) a.edit
  answered_unchanged a log journal none gives makes =
      let is_none : (answer_of d).made ≡ None = no_made (answer_of d).made none in
      let no : a.edit ≡ None = no_edit a.edit (ap (λ (x : Answer). x.made) gives ∙ is_none) in
      let step : AnswersRequest old request a.reply new a.edit = answered_so old new request s d a same decides gives makes root in
      stays no (subst (λ (e : Option Edit). AnswersRequest old request a.reply new e) no step)
      (same_server old new root (makes ∙ ap (λ (o : Option MadeChange). content_after_answer s.content o) is_none ∙ same)) refl refl

  -- a request that makes a change is within the bounds of a record
  pub is_recordable : is_some (answer_of d).made ≡ true → IsLoggable request → IsRecordable request
  is_recordable some loggable =
      let made = some_made (answer_of d).made some in
      loggable (numbered request.method (writes old.root old.content request (answer_of d) made.0 made.1 decides.answers).0)

  -- its record was added
  pub answered_entered : (a : MachineReply Edit) (log log' : LogState) (journal journal' : JournalState) → is_some (answer_of d).made ≡ true → answer_with_edit a.reply a.edit ≡ answer_of d → new.content ≡ content_after_answer s.content (answer_of d).made
      → IsLoggable request → AddsRecord (record { log = log; journal = journal }) (record_of request) (Ok tt) (record { log = log'; journal = journal' }) → AnswersWithJournal AnswersRequest (record { machine = old; log = log; journal = journal }) request a.reply (record { machine = new; log = log'; journal = journal' }) a.edit
  answered_entered a log log' journal journal' some gives makes loggable adds =
      let made = some_made (answer_of d).made some in
      let told = some_edit a.edit made.0 (ap (λ (x : Answer). x.made) gives ∙ made.1) in
      let step : AnswersRequest old request a.reply new a.edit = answered_so old new request s d a same decides gives makes root in
      entered told.0 told.1 (subst (λ (e : Option Edit). AnswersRequest old request a.reply new e) told.1 step) (is_recordable some loggable) adds

  -- its record couldn't be added
  pub answered_failed : (a : MachineReply Edit) (log log' : LogState) (journal journal' : JournalState) → is_some (answer_of d).made ≡ true → a.reply ≡ plain_reply 500 request.closes → a.edit ≡ None → new.content ≡ s.content
      → IsLoggable request → AddsRecord (record { log = log; journal = journal }) (record_of request) (Err Failed) (record { log = log'; journal = journal' }) → AnswersWithJournal AnswersRequest (record { machine = old; log = log; journal = journal }) request a.reply (record { machine = new; log = log'; journal = journal' }) a.edit
  answered_failed a log log' journal journal' some reply none holds loggable adds =
      let made = some_made (answer_of d).made some in
      not_entered none (accepts_so old request (answer_of d) made.0 made.1 decides.answers) reply (same_server old new root (holds ∙ same)) (is_recordable some loggable) adds

  module _ {E : Type 0} (r : Result (MachineReply Edit) E) (s' : StoreView) (holds : new.content ≡ s'.content) where
    -- its record was added, or it couldn't be
    pub carried_out : (fault : Result (Unit {0}) AppendFault) (log log' : LogState) (journal journal' : JournalState) → is_some (answer_of d).made ≡ true → CarriesOutDecision s (record { request = request; decision = d }) fault r s'
        → IsLoggable request → AddsRecord (record { log = log; journal = journal }) (record_of request) fault (record { log = log'; journal = journal' }) → IfOk r (λ a. AnswersWithJournal AnswersRequest (record { machine = old; log = log; journal = journal }) request a.reply (record { machine = new; log = log'; journal = journal' }) a.edit)
    carried_out fault log log' journal journal' some does loggable adds = by r fault does adds
      where
        by : (r : Result (MachineReply Edit) E) (fault : Result (Unit {0}) AppendFault) → CarriesOutDecision s (record { request = request; decision = d }) fault r s' → AddsRecord (record { log = log; journal = journal }) (record_of request) fault (record { log = log'; journal = journal' }) → IfOk r (λ a. AnswersWithJournal AnswersRequest (record { machine = old; log = log; journal = journal }) request a.reply (record { machine = new; log = log'; journal = journal' }) a.edit)
        by (Ok a) (Ok x) does adds = answered_entered a log log' journal journal' some does.0 (holds ∙ does.1) loggable adds
        by (Ok a) (Err Failed) does adds = answered_failed a log log' journal journal' some does.0 does.1 (holds ∙ does.2) loggable adds
        by (Ok a) (Err NoMemory) does adds = absurd does
        by (Err e) fault does adds = tt

    pub carried_closes : (fault : Result (Unit {0}) AppendFault) → CarriesOutDecision s (record { request = request; decision = d }) fault r s' → IfOk r (λ a. a.reply.closes ≡ request.closes)
    carried_closes fault does = by r fault does
      where
        by : (r : Result (MachineReply Edit) E) (fault : Result (Unit {0}) AppendFault) → CarriesOutDecision s (record { request = request; decision = d }) fault r s' → IfOk r (λ a. a.reply.closes ≡ request.closes)
        by (Ok a) (Ok x) does = decided_closes a does.0
        by (Ok a) (Err Failed) does = ap (λ (x : SentReply). x.closes) does.0
        by (Ok a) (Err NoMemory) does = absurd does
        by (Err e) fault does = tt

    -- memory ran out before anything was done
    pub carried_nothing : {J : Type 0} (fault : Result (Unit {0}) AppendFault) (log log' : LogState) (journal journal' : JournalState) (j j' : J) → CarriesOutDecision s (record { request = request; decision = d }) fault r s' → (fault ≡ Err NoMemory → j' ≡ j)
        → AddsRecord (record { log = log; journal = journal }) (record_of request) fault (record { log = log'; journal = journal' }) → OnErr r ((new ≡ old) × (log' ≡ log) × (j' ≡ j))
    carried_nothing {J} fault log log' journal journal' j j' does quiet adds = by r fault does quiet adds
      where
        by : (r : Result (MachineReply Edit) E) (fault : Result (Unit {0}) AppendFault) → CarriesOutDecision s (record { request = request; decision = d }) fault r s' → (fault ≡ Err NoMemory → j' ≡ j) → AddsRecord (record { log = log; journal = journal }) (record_of request) fault (record { log = log'; journal = journal' }) → OnErr r ((new ≡ old) × (log' ≡ log) × (j' ≡ j))
        by (Ok a) fault does quiet adds = tt
        by (Err e) (Ok x) does quiet adds = absurd does
        by (Err e) (Err Failed) does quiet adds = absurd does
        by (Err e) (Err NoMemory) does quiet adds = (same_server old new root (holds ∙ does ∙ same), adds.0, quiet refl)

-- one more request
pub redoing_more : (root : List ℕ) (requests : List Request) (m n n' : State) (request : Request) (reply : SentReply) (e : Edit) → AcceptsRequests root m requests n → ValidStep root n request reply n' (Some e) → AcceptsRequests root m (requests ++ request ∷ []) n'
redoing_more root [] m n n' request reply e is step = (reply, n', e, subst (λ (x : State). ValidStep root x request reply n' (Some e)) is step, refl)
redoing_more root (r ∷ requests) m n n' request reply e (reply', mid, e', first, more) step = (reply', mid, e', first, redoing_more root requests mid n n' request reply e more step)

-- ---- the machine of the root

module _ (root : List ℕ) where
  -- a request that either machine would accept
  forth : (s : ServerState) (m : State) → StandsAt root s m → (request : Request) → AcceptsRequest AnswersRequest s request → AcceptsRequest (ValidStep root) m request
  forth s m here request a = let f = follows_at root s a.1 m request a.0 (Some a.2) here a.3 in (a.0, f.0, a.2, f.2)

  back : (s : ServerState) (m : State) → StandsAt root s m → (request : Request) → AcceptsRequest (ValidStep root) m request → AcceptsRequest AnswersRequest s request
  back s m here request a =
      let made = change_from_edit a.2 in (
        a.0,
        record { root = s.root; content = content_after_answer s.content (Some made) },
        a.2,
        record {
          does = record {
            answers = subst (λ (c : StoreContents). IsAnswer s.root c request (answer_with_edit a.0 (Some a.2))) (sym here.stands)
                (subst (λ (r : List ℕ). IsAnswer r (contents_of m) request (answer_with_edit a.0 (Some a.2))) (sym here.same_root) a.3.1.answers);
            goes_on = refl;
          };
          same_root = refl;
        },
      )

  -- the answer to a request
  pub answers_at : (s s' : ServerState) (m : State) (log log' : LogState) (journal journal' : JournalState) (request : Request) (reply : SentReply) (edit : Option Edit) → StandsAt root s m
      → AnswersWithJournal AnswersRequest (record { machine = s; log = log; journal = journal }) request reply (record { machine = s'; log = log'; journal = journal' }) edit → (m' : State) × StandsAt root s' m' × AnswersWithJournal (ValidStep root) (record { machine = m; log = log; journal = journal }) request reply (record { machine = m'; log = log'; journal = journal' }) edit
  answers_at s s' m log log' journal journal' request reply edit here (stays none step same log_same journal_same) =
      let f = follows_at root s s' m request reply None here step in (f.0, f.1, stays none f.2 f.2.1.goes_on log_same journal_same)
  answers_at s s' m log log' journal journal' request reply edit here (entered made is step can adds) =
      let f = follows_at root s s' m request reply (Some made) here step in (f.0, f.1, entered made is f.2 can adds)
  answers_at s s' m log log' journal journal' request reply edit here (not_entered none accepts is same can adds) =
      (m, subst (λ (x : ServerState). StandsAt root x m) (sym same) here, not_entered none (forth s m here request accepts) is refl can adds)

  -- ---- requests as their records have them

  -- the same change is made
  recorded_step : (m m' : State) (request : Request) (reply : SentReply) (e : Edit) → ValidStep root m request reply m' (Some e) → (reply' : SentReply) × ValidStep root m (recorded_request request) reply' m' (Some e)
  recorded_step m m' request reply e f =
      let kept = f.0 in
      let step : Step root m request reply m' (Some e) = f.1 in
      let reads = (writes root (contents_of m) request (answer_with_edit reply (Some e)) (change_from_edit e) refl step.answers).1 in
      let other = makes_too (change_from_edit e) request false request.fields (same_fields request.fields) (answer_with_edit reply (Some e)) refl root (contents_of m) reads step.answers in (
        other.0.reply,
        (
          kept,
          record { answers = subst (λ (o : Option MadeChange). IsAnswer root (contents_of m) (recorded_request request) (record { reply = other.0.reply; made = o })) other.2 other.1; goes_on = step.goes_on },
          f.2,
        ),
      )

  redoing_answer : (start m m' : State) (requests : List Request) (request : Request) (reply : SentReply) (edit : Option Edit) → AcceptsRequests root start requests m → ValidStep root m request reply m' edit → AcceptsRequests root start (requests ++ accepted_requests request edit) m'
  redoing_answer start m m' requests request reply None redone f = subst (λ (rs : List Request). AcceptsRequests root start rs m') (sym (append-nil requests)) (subst (λ (x : State). AcceptsRequests root start requests x) (sym f.1.goes_on) redone)
  redoing_answer start m m' requests request reply (Some e) redone f =
      let other = recorded_step m m' request reply e f in
      redoing_more root requests start m m' (recorded_request request) other.0 e redone other.1

  redoing_answers : (start m m' : State) (log log' : LogState) (journal journal' : JournalState) (requests : List Request) (request : Request) (reply : SentReply) (edit : Option Edit) → AcceptsRequests root start requests m
      → AnswersWithJournal (ValidStep root) (record { machine = m; log = log; journal = journal }) request reply (record { machine = m'; log = log'; journal = journal' }) edit → AcceptsRequests root start (requests ++ accepted_requests request edit) m'
  redoing_answers start m m' log log' journal journal' requests request reply edit redone (stays none step same log_same journal_same) =
      redoing_answer start m m' requests request reply edit redone (subst (λ (e : Option Edit). ValidStep root m request reply m' e) (sym none) step)
  redoing_answers start m m' log log' journal journal' requests request reply edit redone (entered made is step can adds) =
      redoing_answer start m m' requests request reply edit redone (subst (λ (e : Option Edit). ValidStep root m request reply m' e) (sym is) step)
  redoing_answers start m m' log log' journal journal' requests request reply edit redone (not_entered none accepts is same can adds) =
      subst (λ (rs : List Request). AcceptsRequests root start rs m') (sym (append-nil requests) ∙ ap (λ (e : Option Edit). requests ++ accepted_requests request e) (sym none))
      (subst (λ (x : State). AcceptsRequests root start requests x) (sym same) redone)

-- ---- the server's own calls

module _ (s now s' : ServerState) (is : s ≡ now) (log log' : LogState) (journal journal' : JournalState) (request : Request) where
  here_at : (m : State) → IsValidState m → Represents now.content m → StandsAt now.root s m
  here_at m kept stands = record { same_root = ap (λ (x : ServerState). x.root) is; kept = kept; stands = subst (λ (x : ServerState). Represents x.content m) (sym is) stands }

  abbrev IsAnswered : MachineReply Edit → Type 0
  IsAnswered a = AnswersWithJournal AnswersRequest (record { machine = s; log = log; journal = journal }) request a.reply (record { machine = s'; log = log'; journal = journal' }) a.edit

  logged_at : (m : State) → IsValidState m → Represents now.content m → (a : MachineReply Edit) → IsAnswered a
      → (m' : State) × StandsAt now.root s' m' × AnswersWithJournal (ValidStep now.root) (record { machine = m; log = log; journal = journal }) request a.reply (record { machine = m'; log = log'; journal = journal' }) a.edit
  logged_at m kept stands a answers = answers_at now.root s s' m log log' journal journal' request a.reply a.edit (here_at m kept stands) answers

  pub answered_logged : {E : Type 0} (r : Result (MachineReply Edit) E) → IfOk r IsAnswered
      → IfOk r (λ a. (m : State) → IsValidState m → Represents now.content m → AnswersLogged m (record { machine = now; log = log; journal = journal }) (record { machine = s'; log = log'; journal = journal' }) request a)
  answered_logged (Err e) h = tt
  answered_logged (Ok a) h = λ m kept stands.
      let o = logged_at m kept stands a h in
      record { next = o.0; kept = o.1.kept; stands = o.1.stands; answers = o.2 }

  same_root_after : (a : MachineReply Edit) → IsAnswered a → s'.root ≡ now.root
  same_root_after a (stays none step same log_same journal_same) = ap (λ (x : ServerState). x.root) (same ∙ is)
  same_root_after a (entered made told step can adds) = step.same_root ∙ ap (λ (x : ServerState). x.root) is
  same_root_after a (not_entered none accepts reply same can adds) = ap (λ (x : ServerState). x.root) (same ∙ is)

  -- out of memory, the journal's state is unchanged too
  pub states_too : {E J : Type 0} (P Q : Type 0) (state : J → JournalState) (j j' : J) (r : Result (MachineReply Edit) E) → OnErr r (P × Q × (j' ≡ j)) → OnErr r (P × Q × (state j' ≡ state j))
  states_too P Q state j j' (Ok a) h = tt
  states_too P Q state j j' (Err e) h = (h.0, h.1, ap state h.2)

  pub records_logged : {E : Type 0} (r : Result (MachineReply Edit) E) → IfOk r IsAnswered → OnErr r ((s' ≡ s) × (log' ≡ log) × (journal' ≡ journal))
      → (requests : List Request) → LogsRequests now log journal requests → LogsRequests s' log' journal' (with_accepted_request r requests request)
  records_logged (Err e) h same requests logs =
      subst (λ (x : ServerState). LogsRequests x log' journal' requests) (sym (same.0 ∙ is))
      (subst (λ (l : LogState). LogsRequests now l journal' requests) (sym same.1) (subst (λ (j : JournalState). LogsRequests now log j requests) (sym same.2) logs))
  records_logged (Ok a) h same requests logs =
      let m = logs.stands.state in
      let o = logged_at m logs.stands.kept logs.stands.stands a h in
      let holds : HoldsLog (AcceptsRequest (ValidStep now.root) o.0) log' (requests ++ accepted_requests request a.edit) journal'.held =
      holds_after (ValidStep now.root) m o.0 log log' journal journal' request a.reply a.edit requests o.2 logs.holds in
      let redone : AcceptsRequests now.root (first_state 1) (requests ++ accepted_requests request a.edit) o.0 =
      redoing_answers now.root (first_state 1) m o.0 log log' journal journal' requests request a.reply a.edit logs.stands.redone o.2 in
      let root : s'.root ≡ now.root = same_root_after a h in
      by_root root o.0 o.1.kept o.1.stands redone holds
    where
      by_root : s'.root ≡ now.root → (m' : State) → IsValidState m' → Represents s'.content m' → AcceptsRequests now.root (first_state 1) (requests ++ accepted_requests request a.edit) m'
          → HoldsLog (AcceptsRequest (ValidStep now.root) m') log' (requests ++ accepted_requests request a.edit) journal'.held → LogsRequests s' log' journal' (requests ++ accepted_requests request a.edit)
      by_root root m' kept stands redone holds = record {
        stands = record { state = m'; kept = kept; redone = subst (λ (r : List ℕ). AcceptsRequests r (first_state 1) (requests ++ accepted_requests request a.edit) m') (sym root) redone; stands = stands };
        holds = subst (λ (r : List ℕ). HoldsLog (AcceptsRequest (ValidStep r) m') log' (requests ++ accepted_requests request a.edit) journal'.held) (sym root) holds;
      }

-- ---- connections

module _ (root : List ℕ) (start : State) (first : List Request) where
  -- the bookkeeping of a server, and that of the machine
  record Beside (s : LoggedMachineState ServerState) (b : LoggedMachineState State) : Type 0 where
    here : StandsAt root s.machine b.machine
    same_requests : s.requests ≡ b.requests
    same_failures : s.failures ≡ b.failures
    redone : (origin : State) → AcceptsRequests root origin first start → AcceptsRequests root origin b.requests b.machine

  beside_on : (s s' : LoggedMachineState ServerState) (b : LoggedMachineState State) (request : Request) (reply : SentReply) (edit : Option Edit) → Beside s b → LoggedStep AnswersRequest s request reply s' edit
      → (b' : LoggedMachineState State) × Beside s' b' × LoggedStep (ValidStep root) b request reply b' edit
  beside_on s s' b request reply edit so (answered step requests failures) =
      let f = follows_at root s.machine s'.machine b.machine request reply edit so.here step in (
        record { machine = f.0; requests = b.requests ++ accepted_requests request edit; failures = b.failures },
        record {
          here = f.1;
          same_requests = requests ∙ ap (λ (rs : List Request). rs ++ accepted_requests request edit) so.same_requests;
          same_failures = failures ∙ so.same_failures;
          redone = λ origin redone. redoing_answer root origin b.machine f.0 b.requests request reply edit (so.redone origin redone) f.2;
        },
        answered f.2 refl refl,
      )
  beside_on s s' b request reply edit so (not_logged accepts is same none) = (
    record b { failures = b.failures + 1 },
    record {
      here = subst (λ (x : LoggedMachineState ServerState). StandsAt root x.machine b.machine) (sym same) so.here;
      same_requests = ap (λ (x : LoggedMachineState ServerState). x.requests) same ∙ so.same_requests;
      same_failures = ap (λ (x : LoggedMachineState ServerState). x.failures) same ∙ ap (λ (n : ℕ). n + 1) so.same_failures;
      redone = so.redone;
    },
    not_logged (forth root s.machine b.machine so.here request accepts) is refl none,
  )

  beside_step : (s s' : LoggedMachineState ServerState) (b : LoggedMachineState State) (request : Request) (bytes : List ℕ) (edit : Option Edit) → Beside s b → StepsInBytes (LoggedStep AnswersRequest) s request bytes s' edit
      → (b' : LoggedMachineState State) × Beside s' b' × StepsInBytes (LoggedStep (ValidStep root)) b request bytes b' edit
  beside_step s s' b request bytes edit so a =
      let o = beside_on s s' b request a.reply edit so a.step in (o.0, o.1, record { reply = a.reply; written = a.written; step = o.2 })

module _ {W : Type 0} (Keeps : List Edit → W → W → Type 0) (s now s' : ServerState) (is : s ≡ now) (most : ℕ) (served : ServeSummary) (log log' : LogState) (journal journal' : JournalState)
    (port port' : StreamState) (watchers watchers' : W) where
  -- what was served
  pub port_logged : ((requests : List Request) → HoldsLog (AcceptsRequest AnswersRequest s) log requests journal.held
      → ServesLogged AnswersRequest Keeps (record { most = most; served = served }) requests (record { machine = record { machine = s; log = log; journal = journal }; stream = port; watchers = watchers }) (record { machine = record { machine = s'; log = log'; journal = journal' }; stream = port'; watchers = watchers' }))
      → (m : State) (requests : List Request) → IsValidState m → Represents now.content m → HoldsLog (AcceptsRequest (ValidStep now.root) m) log requests journal.held
      → ServesPortLogged Keeps (record { most = most; served = served }) (record { machine = m; requests = requests; failures = 0 }) (record { machine = record { machine = now; log = log; journal = journal }; stream = port; watchers = watchers }) (record { machine = record { machine = s'; log = log'; journal = journal' }; stream = port'; watchers = watchers' })
  port_logged all m requests kept stands holds =
      let here : StandsAt now.root s m = record { same_root = ap (λ (x : ServerState). x.root) is; kept = kept; stands = subst (λ (x : ServerState). Represents x.content m) (sym is) stands } in
      let v = all requests (holds_so (AcceptsRequest (ValidStep now.root) m) (AcceptsRequest AnswersRequest s) log requests journal.held (back now.root s m here) holds) in
      let o = port_by (StepsInBytes (LoggedStep AnswersRequest)) (StepsInBytes (LoggedStep (ValidStep now.root))) (Beside now.root m requests) (beside_step now.root m requests) Keeps most served
      (record { machine = s; requests = requests; failures = 0 }) (record { machine = s'; requests = v.accepted; failures = v.failures }) (record { machine = m; requests = requests; failures = 0 }) port port' watchers watchers'
      (record { here = here; same_requests = refl; same_failures = refl; redone = λ origin redone. redone }) v.serves in
      record {
        next = o.0.machine;
        kept = o.1.here.kept;
        stands = o.1.here.stands;
        same_root = o.1.here.same_root;
        serves = record {
          accepted = o.0.requests;
          failures = o.0.failures;
          serves = o.2;
          holds = subst (λ (rs : List Request). HoldsLog (AcceptsRequest (ValidStep now.root) o.0.machine) log' rs journal'.held) o.1.same_requests
              (holds_so (AcceptsRequest AnswersRequest s') (AcceptsRequest (ValidStep now.root) o.0.machine) log' v.accepted journal'.held (forth now.root s' o.0.machine o.1.here) v.holds);
          bound = subst (λ (n : ℕ). CountRisesBy n journal.faults journal'.faults) o.1.same_failures v.bound;
        };
        redone = o.1.redone;
      }
