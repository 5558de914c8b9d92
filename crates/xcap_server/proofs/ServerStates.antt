-- A server whose contents represent a valid state does what the machine of its root does, and its
-- contents then represent a valid state.
use Rattle.std.proofs.Common.{◌≡◌, ℕ, List, Option, Result, Ok, Err, IfOk, refl, ap, subst, ◌∙◌}
use Rattle.http_wire.specs.declared.request.Request.{Request}
use Rattle.reply_text.specs.ReplyHeads.{SentReply}
use Rattle.edit_ops.specs.declared.edit.Edit.{Edit}
use Rattle.xcap_io.specs.StreamStates.{StreamState}
use Rattle.store_core.specs.State.{State}
use Rattle.store_core.specs.Contents.{HasDocumentsOf, Represents}
use Rattle.store_core.specs.ValidStates.{IsValidState}
use Rattle.xcap_machine.specs.Machine.{ContentStep, StandardStep, StandardStepWith, ValidStep, answer_with_edit}
use Rattle.xcap_machine.specs.WriteEffects.{DeleteTargetIsGone, EditKeepsKeyAddresses, PutTargetExists, RepeatedPutPreservesTrees}
use Rattle.xcap_machine.specs.SubscriberVersions.{UpdatesAllSubscribers}
use Rattle.xcap_machine.proofs.FeedAnswers.{holds}
use Rattle.xcap_machine.proofs.Addresses.{addresses_stay}
use Rattle.xcap_machine.proofs.Effects.{deleted_is_gone, put_is_there, second_put_leaves}
use Rattle.xcap_machine.proofs.StandardAnswers.{is_standard_step, standard_step}
use Rattle.xcap_machine.proofs.Steps.{answer_closes, step_of}
use Rattle.http_wire.specs.declared.close_reason.CloseReason.{CloseReason}
use Rattle.http_serve.specs.declared.machine.MachineReply.{MachineReply}
use Rattle.http_serve.specs.declared.accept_loop.ServeSummary.{ServeSummary}
use Rattle.http_serve.specs.ServedStreams.{ServesStream}
use Rattle.http_serve.specs.ServedPorts.{ServesPort}
use Rattle.http_serve.specs.ReplyBytes.{StepsInBytes}
use Rattle.http_serve.proofs.Simulations.{line_by, port_by}
use Rattle.xcap_uri.specs.Roots.{IsRoot, authority_of, path_of}
use Rattle.xcap_machine.specs.ServerStates.{ServerState}
use Rattle.xcap_server.specs.inner.ServerSteps.{AnswersRequest}

-- a server of this root, whose contents represent a valid state
pub record StandsAt (root : List ℕ) (s : ServerState) (m : State) : Type 0 where
  pub same_root : s.root ≡ root
  pub kept : IsValidState m
  pub stands : Represents s.content m

-- the root of a server is spelled by the grammar
abbrev pub IsRooted : ServerState → Type 0
IsRooted s = IsRoot s.root (authority_of s.root) (path_of s.root)

-- an answer is a step of the machine
pub follows_at : (root : List ℕ) (s s' : ServerState) (m : State) (request : Request) (reply : SentReply) (edit : Option Edit) → StandsAt root s m → AnswersRequest s request reply s' edit
    → (m' : State) × StandsAt root s' m' × ValidStep root m request reply m' edit
follows_at root s s' m request reply edit here a =
    let does : ContentStep root s.content request reply s'.content edit = subst (λ (r : List ℕ). ContentStep r s.content request reply s'.content edit) here.same_root a.does in
    let t = step_of root s.content s'.content m request reply edit does here.kept here.stands in (
      t.0,
      record { same_root = a.same_root ∙ here.same_root; kept = t.1.2; stands = t.2 },
      t.1,
    )

pub step_at : (root : List ℕ) (s s' : ServerState) (m : State) (request : Request) (bytes : List ℕ) (edit : Option Edit) → StandsAt root s m → StepsInBytes AnswersRequest s request bytes s' edit
    → (m' : State) × StandsAt root s' m' × StepsInBytes (ValidStep root) m request bytes m' edit
step_at root s s' m request bytes edit here a =
    let t = follows_at root s s' m request a.reply edit here a.step in (t.0, t.1, record { reply = a.reply; written = a.written; step = t.2 })

-- and one of the standards' machine
both_at : (root : List ℕ) (s s' : ServerState) (m : State) (request : Request) (bytes : List ℕ) (edit : Option Edit) → StandsAt root s m → StepsInBytes AnswersRequest s request bytes s' edit
    → (m' : State) × StandsAt root s' m' × StepsInBytes (StandardStepWith ValidStep root) m request bytes m' edit
both_at root s s' m request bytes edit here a =
    let t = follows_at root s s' m request a.reply edit here a.step in
    (t.0, t.1, record { reply = a.reply; written = a.written; step = (is_standard_step root m request a.reply t.0 edit t.2.1, t.2) })

-- a server of this root, which has the documents of a state
pub record HasDocumentsAt (root : List ℕ) (s : ServerState) (m : State) : Type 0 where
  pub same_root : s.root ≡ root
  pub has : HasDocumentsOf s.content m

-- an answer is a step of the standards' machine
standard_at : (root : List ℕ) (s s' : ServerState) (m : State) (request : Request) (bytes : List ℕ) (edit : Option Edit) → HasDocumentsAt root s m → StepsInBytes AnswersRequest s request bytes s' edit
    → (m' : State) × HasDocumentsAt root s' m' × StepsInBytes (StandardStep root) m request bytes m' edit
standard_at root s s' m request bytes edit here a =
    let does : ContentStep root s.content request a.reply s'.content edit = subst (λ (r : List ℕ). ContentStep r s.content request a.reply s'.content edit) here.same_root a.step.does in
    let t = standard_step root s.content s'.content m request a.reply edit does here.has in (
      t.0,
      record { same_root = a.step.same_root ∙ here.same_root; has = t.2 },
      record { reply = a.reply; written = a.written; step = t.1 },
    )

-- any step of a machine with one state
abbrev any_step : Unit {0} → Request → List ℕ → Unit {0} → Option Edit → Type 0
any_step m request bytes next edit = Unit {0}

-- a server keeps its root
root_at : (root : List ℕ) (s s' : ServerState) (m : Unit {0}) (request : Request) (bytes : List ℕ) (edit : Option Edit) → s.root ≡ root → StepsInBytes AnswersRequest s request bytes s' edit
    → (m' : Unit {0}) × (s'.root ≡ root) × any_step m request bytes m' edit
root_at root s s' m request bytes edit same a = (tt, a.step.same_root ∙ same, tt)

module _ {W : Type 0} (Keeps : List Edit → W → W → Type 0) (s now s' : ServerState) (is : s ≡ now) (old new : StreamState) (watchers watchers' : W) where
  -- what was served is what the machine of its root does
  pub line_stands : (ended : CloseReason) → ServesStream (StepsInBytes AnswersRequest) Keeps ended (record { machine = s; stream = old; watchers = watchers }) (record { machine = s'; stream = new; watchers = watchers' }) → (m : State) → IsValidState m → Represents now.content m
      → (m' : State) × IsValidState m' × Represents s'.content m' × ServesStream (StepsInBytes (ValidStep now.root)) Keeps ended (record { machine = m; stream = old; watchers = watchers }) (record { machine = m'; stream = new; watchers = watchers' })
  line_stands ended v m kept stands =
      let served : ServesStream (StepsInBytes AnswersRequest) Keeps ended (record { machine = now; stream = old; watchers = watchers }) (record { machine = s'; stream = new; watchers = watchers' }) = subst (λ (x : ServerState). ServesStream (StepsInBytes AnswersRequest) Keeps ended (record { machine = x; stream = old; watchers = watchers }) (record { machine = s'; stream = new; watchers = watchers' })) is v in
      let t = line_by (StepsInBytes AnswersRequest) (StepsInBytes (ValidStep now.root)) (StandsAt now.root) (step_at now.root) Keeps ended now s' m old new watchers watchers' (record { same_root = refl; kept = kept; stands = stands }) served in
      (t.0, t.1.kept, t.1.stands, t.2)

  pub port_valid : (most : ℕ) (served : ServeSummary) → ServesPort (StepsInBytes AnswersRequest) Keeps (record { most = most; served = served }) (record { machine = s; stream = old; watchers = watchers }) (record { machine = s'; stream = new; watchers = watchers' }) → (m : State) → IsValidState m → Represents now.content m
      → (m' : State) × IsValidState m' × Represents s'.content m' × ServesPort (StepsInBytes (ValidStep now.root)) Keeps (record { most = most; served = served }) (record { machine = m; stream = old; watchers = watchers }) (record { machine = m'; stream = new; watchers = watchers' })
  port_valid most served v m kept stands =
      let all : ServesPort (StepsInBytes AnswersRequest) Keeps (record { most = most; served = served }) (record { machine = now; stream = old; watchers = watchers }) (record { machine = s'; stream = new; watchers = watchers' }) = subst (λ (x : ServerState). ServesPort (StepsInBytes AnswersRequest) Keeps (record { most = most; served = served }) (record { machine = x; stream = old; watchers = watchers }) (record { machine = s'; stream = new; watchers = watchers' })) is v in
      let t = port_by (StepsInBytes AnswersRequest) (StepsInBytes (ValidStep now.root)) (StandsAt now.root) (step_at now.root) Keeps most served now s' m old new watchers watchers' (record { same_root = refl; kept = kept; stands = stands }) all in
      (t.0, t.1.kept, t.1.stands, t.2)

  pub port_stands : (most : ℕ) (served : ServeSummary) → ServesPort (StepsInBytes AnswersRequest) Keeps (record { most = most; served = served }) (record { machine = s; stream = old; watchers = watchers }) (record { machine = s'; stream = new; watchers = watchers' }) → (m : State) → IsValidState m → Represents now.content m
      → (m' : State) × (IsValidState m' × Represents s'.content m') × ServesPort (StepsInBytes (StandardStepWith ValidStep now.root)) Keeps (record { most = most; served = served }) (record { machine = m; stream = old; watchers = watchers }) (record { machine = m'; stream = new; watchers = watchers' })
  port_stands most served v m kept stands =
      let all : ServesPort (StepsInBytes AnswersRequest) Keeps (record { most = most; served = served }) (record { machine = now; stream = old; watchers = watchers }) (record { machine = s'; stream = new; watchers = watchers' }) = subst (λ (x : ServerState). ServesPort (StepsInBytes AnswersRequest) Keeps (record { most = most; served = served }) (record { machine = x; stream = old; watchers = watchers }) (record { machine = s'; stream = new; watchers = watchers' })) is v in
      let t = port_by (StepsInBytes AnswersRequest) (StepsInBytes (StandardStepWith ValidStep now.root)) (StandsAt now.root) (both_at now.root) Keeps most served now s' m old new watchers watchers' (record { same_root = refl; kept = kept; stands = stands }) all in
      (t.0, (t.1.kept, t.1.stands), t.2)

  -- and what the machine of the standards does
  pub line_standard : (ended : CloseReason) → ServesStream (StepsInBytes AnswersRequest) Keeps ended (record { machine = s; stream = old; watchers = watchers }) (record { machine = s'; stream = new; watchers = watchers' }) → (m : State) → HasDocumentsOf now.content m
      → (m' : State) × HasDocumentsOf s'.content m' × ServesStream (StepsInBytes (StandardStep now.root)) Keeps ended (record { machine = m; stream = old; watchers = watchers }) (record { machine = m'; stream = new; watchers = watchers' })
  line_standard ended v m has =
      let served : ServesStream (StepsInBytes AnswersRequest) Keeps ended (record { machine = now; stream = old; watchers = watchers }) (record { machine = s'; stream = new; watchers = watchers' }) = subst (λ (x : ServerState). ServesStream (StepsInBytes AnswersRequest) Keeps ended (record { machine = x; stream = old; watchers = watchers }) (record { machine = s'; stream = new; watchers = watchers' })) is v in
      let t = line_by (StepsInBytes AnswersRequest) (StepsInBytes (StandardStep now.root)) (HasDocumentsAt now.root) (standard_at now.root) Keeps ended now s' m old new watchers watchers' (record { same_root = refl; has = has }) served in
      (t.0, t.1.has, t.2)

  -- and its root is as before
  pub line_root : (ended : CloseReason) → ServesStream (StepsInBytes AnswersRequest) Keeps ended (record { machine = s; stream = old; watchers = watchers }) (record { machine = s'; stream = new; watchers = watchers' }) → s'.root ≡ now.root
  line_root ended v =
      let t = line_by (StepsInBytes AnswersRequest) any_step (λ (x : ServerState) (y : Unit {0}). x.root ≡ s.root) (root_at s.root) Keeps ended s s' tt old new watchers watchers' refl v in
      t.1 ∙ ap (λ (x : ServerState). x.root) is

  pub port_root : (most : ℕ) (served : ServeSummary) → ServesPort (StepsInBytes AnswersRequest) Keeps (record { most = most; served = served }) (record { machine = s; stream = old; watchers = watchers }) (record { machine = s'; stream = new; watchers = watchers' }) → s'.root ≡ now.root
  port_root most served v =
      let t = port_by (StepsInBytes AnswersRequest) any_step (λ (x : ServerState) (y : Unit {0}). x.root ≡ s.root) (root_at s.root) Keeps most served s s' tt old new watchers watchers' refl v in
      t.1 ∙ ap (λ (x : ServerState). x.root) is

-- the answer to a request
module _ (s now s' : ServerState) (is : s ≡ now) (request : Request) where
  abbrev DoesNow : MachineReply Edit → Type 0
  DoesNow a = ContentStep now.root now.content request a.reply s'.content a.edit

  -- it satisfies whatever holds of all that the machine does
  of_all : {E : Type 0} (P : MachineReply Edit → Type 0) → ((a : MachineReply Edit) → DoesNow a → P a) → (r : Result (MachineReply Edit) E) → IfOk r (λ a. AnswersRequest s request a.reply s' a.edit) → IfOk r P
  of_all P so (Err e) h = tt
  of_all P so (Ok a) h = so a (subst (λ (x : ServerState). ContentStep x.root x.content request a.reply s'.content a.edit) is h.does)

  pub answered_step : {E : Type 0} (r : Result (MachineReply Edit) E) → IfOk r (λ a. AnswersRequest s request a.reply s' a.edit)
      → IfOk r (λ a. (m : State) → IsValidState m → Represents now.content m → (m' : State) × ValidStep now.root m request a.reply m' a.edit × Represents s'.content m')
  answered_step r = of_all (λ a. (m : State) → IsValidState m → Represents now.content m → (m' : State) × ValidStep now.root m request a.reply m' a.edit × Represents s'.content m')
      (λ a does m kept stands. step_of now.root now.content s'.content m request a.reply a.edit does kept stands) r

  pub answered_standard : {E : Type 0} (r : Result (MachineReply Edit) E) → IfOk r (λ a. AnswersRequest s request a.reply s' a.edit)
      → IfOk r (λ a. (m : State) → HasDocumentsOf now.content m → (m' : State) × StandardStep now.root m request a.reply m' a.edit × HasDocumentsOf s'.content m')
  answered_standard r = of_all (λ a. (m : State) → HasDocumentsOf now.content m → (m' : State) × StandardStep now.root m request a.reply m' a.edit × HasDocumentsOf s'.content m')
      (λ a does m has. standard_step now.root now.content s'.content m request a.reply a.edit does has) r

  pub answered_closes : {E : Type 0} (r : Result (MachineReply Edit) E) → IfOk r (λ a. AnswersRequest s request a.reply s' a.edit) → IfOk r (λ a. a.reply.closes ≡ request.closes)
  answered_closes r = of_all (λ a. a.reply.closes ≡ request.closes) (λ a does. answer_closes now.root now.content request (answer_with_edit a.reply a.edit) does.answers) r

  pub answered_put : {E : Type 0} (r : Result (MachineReply Edit) E) → IfOk r (λ a. AnswersRequest s request a.reply s' a.edit) → IfOk r (λ a. PutTargetExists now.root now.content request a.edit s'.content)
  answered_put r = of_all (λ a. PutTargetExists now.root now.content request a.edit s'.content) (λ a does. put_is_there now.root now.content s'.content request a.reply a.edit does) r

  pub answered_delete : {E : Type 0} (r : Result (MachineReply Edit) E) → IfOk r (λ a. AnswersRequest s request a.reply s' a.edit) → IfOk r (λ a. DeleteTargetIsGone now.root request a.edit s'.content)
  answered_delete r = of_all (λ a. DeleteTargetIsGone now.root request a.edit s'.content) (λ a does. deleted_is_gone now.root now.content s'.content request a.reply a.edit does) r

  pub answered_second : {E : Type 0} → (m : State) × Represents s.content m × IsValidState m → (r : Result (MachineReply Edit) E) → IfOk r (λ a. AnswersRequest s request a.reply s' a.edit) → IfOk r (λ a. RepeatedPutPreservesTrees now.root request a.edit s'.content)
  answered_second (m, stands, kept) r = of_all (λ a. RepeatedPutPreservesTrees now.root request a.edit s'.content)
      (λ a does. second_put_leaves now.root now.content s'.content request a.reply a.edit m kept (subst (λ (x : ServerState). Represents x.content m) is stands) does) r

  pub answered_addresses : {E : Type 0} → (m : State) × Represents s.content m × IsValidState m → (r : Result (MachineReply Edit) E) → IfOk r (λ a. AnswersRequest s request a.reply s' a.edit) → IfOk r (λ a. EditKeepsKeyAddresses now.content a.edit s'.content)
  answered_addresses (m, stands, kept) r = of_all (λ a. EditKeepsKeyAddresses now.content a.edit s'.content)
      (λ a does. addresses_stay now.root now.content s'.content request a.reply a.edit m kept (subst (λ (x : ServerState). Represents x.content m) is stands) does) r

  pub answered_feed : {E : Type 0} → IsRooted s → (r : Result (MachineReply Edit) E) → IfOk r (λ a. AnswersRequest s request a.reply s' a.edit)
      → IfOk r (λ a. (m : State) → IsValidState m → Represents now.content m → UpdatesAllSubscribers now.root m request a.reply)
  answered_feed rooted r = of_all (λ a. (m : State) → IsValidState m → Represents now.content m → UpdatesAllSubscribers now.root m request a.reply)
      (λ a does m kept stands. holds now.root (subst IsRooted is rooted) now.content m request (answer_with_edit a.reply a.edit) kept stands does.answers) r
