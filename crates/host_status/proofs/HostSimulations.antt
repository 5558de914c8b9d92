-- What the server of `host` does on the connections of a hall, as steps on the states that its
-- contents represent.
use Rattle.std.proofs.Common.{◌≡◌, ℕ, List, Option, refl, subst, ◌∙◌}
use Rattle.edit_ops.specs.declared.edit.Edit.{Edit}
use Rattle.halls.specs.HallState.{HallState}
use Rattle.hall_serve.specs.Exchanges.{Exchange}
use Rattle.hall_serve.specs.Seats.{SeatState}
use Rattle.hall_serve.specs.ServedHalls.{HasServed, ServesOn}
use Rattle.http_serve.specs.ReplyBytes.{StepsInBytes}
use Rattle.http_wire.specs.declared.request.Request.{Request}
use Rattle.store_core.specs.Contents.{Represents}
use Rattle.store_core.specs.State.{State}
use Rattle.store_core.specs.ValidStates.{IsValidState}
use Rattle.xcap_machine.specs.ServerStates.{ServerState}
use Rattle.xcap_server.proofs.HallSimulations.{hall_by}
use Rattle.xcap_server.proofs.ServerStates.{StandsAt}
use Rattle.host_status.specs.HostSteps.{HostStep}
use Rattle.host_status.specs.inner.StatusServers.{AnswersAsHost}
use Rattle.host_status.proofs.StatusAnswers.{next_valid}

host_step_at : (root : List ℕ) (s s' : ServerState) (m : State) (request : Request) (bytes : List ℕ) (edit : Option Edit) → StandsAt root s m → StepsInBytes AnswersAsHost s request bytes s' edit
    → (m' : State) × StandsAt root s' m' × StepsInBytes (HostStep root) m request bytes m' edit
host_step_at root s s' m request bytes edit here a =
    let t = a.step.steps m here.kept here.stands in
    let step : HostStep root m request a.reply t.0 edit = subst (λ (r : List ℕ). HostStep r m request a.reply t.0 edit) here.same_root t.1 in (
      t.0,
      record { same_root = a.step.same_root ∙ here.same_root; kept = next_valid step; stands = t.2 },
      record { reply = a.reply; written = a.written; step = step },
    )

pub hall_hosted : {W : Type 0} (Keeps : List Edit → W → W → Type 0) (s s' : ServerState) (failures : ℕ) (hall hall' : HallState) (seats seats' : List (Option SeatState)) (w w' : W)
    → ((all : List (Exchange Edit)) → HasServed hall seats all
    → ServesOn (StepsInBytes AnswersAsHost) Keeps all failures (record { machine = s; hall = hall; seats = seats; watchers = w }) (record { machine = s'; hall = hall'; seats = seats'; watchers = w' }))
    → (m : State) (all : List (Exchange Edit)) → IsValidState m → Represents s.content m → HasServed hall seats all
    → (next : State) × IsValidState next × Represents s'.content next × (s'.root ≡ s.root)
    × ServesOn (StepsInBytes (HostStep s.root)) Keeps all failures (record { machine = m; hall = hall; seats = seats; watchers = w }) (record { machine = next; hall = hall'; seats = seats'; watchers = w' })
hall_hosted Keeps s s' failures hall hall' seats seats' w w' serves m all kept stands before =
    let t = hall_by (StepsInBytes AnswersAsHost) (StepsInBytes (HostStep s.root)) (StandsAt s.root) (host_step_at s.root) Keeps all failures s s' m hall hall' seats seats' w w' (record { same_root = refl; kept = kept; stands = stands }) (serves all before) in
    (t.0, t.1.kept, t.1.stands, t.1.same_root, t.2)
