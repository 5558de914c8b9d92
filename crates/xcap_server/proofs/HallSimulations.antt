-- Simulation over the connections of a hall: where each step of one machine is a step of the other
-- on related states, so are all exchanges.
use Rattle.std.proofs.Common.{◌≡◌, ℕ, List, [], ◌∷◌, Option, refl, sym, subst}
use Rattle.edit_ops.specs.declared.edit.Edit.{Edit}
use Rattle.halls.specs.HallState.{HallState}
use Rattle.hall_serve.specs.Exchanges.{AreExchanges, Exchange, IsExchange, answered, no_memory}
use Rattle.hall_serve.specs.Seats.{SeatState}
use Rattle.hall_serve.specs.ServedHalls.{HallServer, HasServed, ServesOn}
use Rattle.http_serve.specs.FixedReplies.{fixed_reply}
use Rattle.http_serve.specs.ReplyBytes.{StepsInBytes}
use Rattle.http_wire.specs.ConnectionItems.{Item, asks, bad, too_long, coded}
use Rattle.http_wire.specs.ServedConnections.{AnswersItem}
use Rattle.http_wire.specs.declared.request.Request.{Request}
use Rattle.store_core.specs.Contents.{Represents}
use Rattle.store_core.specs.State.{State}
use Rattle.store_core.specs.ValidStates.{IsValidState}
use Rattle.xcap_machine.specs.Machine.{ValidStep}
use Rattle.xcap_machine.specs.ServerStates.{ServerState}
use Rattle.xcap_server.specs.inner.ServerSteps.{AnswersRequest}
use Rattle.xcap_server.proofs.ServerStates.{StandsAt, step_at}

module _ {S M E : Type 0} (Steps : S → Request → List ℕ → S → Option E → Type 0) (Step : M → Request → List ℕ → M → Option E → Type 0) (Stands : S → M → Type 0)
    (step : (s s' : S) (m : M) (request : Request) (reply : List ℕ) (edit : Option E) → Stands s m → Steps s request reply s' edit → (m' : M) × Stands s' m' × Step m request reply m' edit) where
  stays : (s s' : S) (m : M) → Stands s m → s' ≡ s → Stands s' m
  stays s s' m stands same = subst (λ (t : S). Stands t m) (sym same) stands

  item_answers : (item : Item) (s s' : S) (m : M) (reply : List ℕ) (edit : Option E) → Stands s m → AnswersItem Steps fixed_reply s item reply s' edit
      → (m' : M) × Stands s' m' × AnswersItem Step fixed_reply m item reply m' edit
  item_answers (asks request) s s' m reply edit stands a = step s s' m request reply edit stands a
  item_answers bad s s' m reply edit stands a = (m, stays s s' m stands a.1, (a.0, refl, a.2))
  item_answers too_long s s' m reply edit stands a = (m, stays s s' m stands a.1, (a.0, refl, a.2))
  item_answers coded s s' m reply edit stands a = (m, stays s s' m stands a.1, (a.0, refl, a.2))

  one_exchange : (exchange : Exchange E) (s s' : S) (m : M) → Stands s m → IsExchange Steps s exchange s'
      → (m' : M) × Stands s' m' × IsExchange Step m exchange m'
  one_exchange exchange s s' m stands (answered closes answer) =
      let a = item_answers exchange.item s s' m exchange.reply exchange.edit stands answer in (a.0, a.1, answered closes a.2)
  one_exchange exchange s s' m stands (no_memory request item closes reply edit same) =
      (m, stays s s' m stands same, no_memory request item closes reply edit refl)

  all_exchanges : (all : List (Exchange E)) (s s' : S) (m : M) → Stands s m → AreExchanges Steps s all s'
      → (m' : M) × Stands s' m' × AreExchanges Step m all m'
  all_exchanges [] s s' m stands same = (m, stays s s' m stands same, refl)
  all_exchanges (exchange ∷ all) s s' m stands (mid, one, others) =
      let first = one_exchange exchange s mid m stands one in
      let rest = all_exchanges all mid s' first.0 first.1 others in
      (rest.0, rest.1, (first.0, first.2, rest.2))

  pub hall_by : {W : Type 0} (Keeps : List E → W → W → Type 0) (before : List (Exchange E)) (failures : ℕ) (s s' : S) (m : M) (hall hall' : HallState) (seats seats' : List (Option SeatState)) (w w' : W) → Stands s m
      → ServesOn Steps Keeps before failures (record { machine = s; hall = hall; seats = seats; watchers = w }) (record { machine = s'; hall = hall'; seats = seats'; watchers = w' })
      → (m' : M) × Stands s' m' × ServesOn Step Keeps before failures (record { machine = m; hall = hall; seats = seats; watchers = w }) (record { machine = m'; hall = hall'; seats = seats'; watchers = w' })
  hall_by Keeps before failures s s' m hall hall' seats seats' w w' stands v =
      let e = all_exchanges v.more s s' m stands v.steps in (
        e.0,
        e.1,
        record { more = v.more; steps = e.2; served = v.served; kept = v.kept; goes_on = v.goes_on },
      )

-- what a server did in a hall is what the machine of its root does
pub hall_stands : {W : Type 0} (Keeps : List Edit → W → W → Type 0) (s now s' : ServerState) → s ≡ now → (failures : ℕ) (hall hall' : HallState) (seats seats' : List (Option SeatState)) (w w' : W)
    → ((all : List (Exchange Edit)) → HasServed hall seats all
    → ServesOn (StepsInBytes AnswersRequest) Keeps all failures (record { machine = s; hall = hall; seats = seats; watchers = w }) (record { machine = s'; hall = hall'; seats = seats'; watchers = w' }))
    → (m : State) (all : List (Exchange Edit)) → IsValidState m → Represents now.content m → HasServed hall seats all
    → (next : State) × IsValidState next × Represents s'.content next × (s'.root ≡ now.root)
    × ServesOn (StepsInBytes (ValidStep now.root)) Keeps all failures (record { machine = m; hall = hall; seats = seats; watchers = w }) (record { machine = next; hall = hall'; seats = seats'; watchers = w' })
hall_stands Keeps s now s' is failures hall hall' seats seats' w w' serves m all kept stands before =
    let served : ServesOn (StepsInBytes AnswersRequest) Keeps all failures (record { machine = now; hall = hall; seats = seats; watchers = w }) (record { machine = s'; hall = hall'; seats = seats'; watchers = w' }) =
    subst (λ (x : ServerState). ServesOn (StepsInBytes AnswersRequest) Keeps all failures (record { machine = x; hall = hall; seats = seats; watchers = w }) (record { machine = s'; hall = hall'; seats = seats'; watchers = w' })) is (serves all before) in
    let t = hall_by (StepsInBytes AnswersRequest) (StepsInBytes (ValidStep now.root)) (StandsAt now.root) (step_at now.root) Keeps all failures now s' m hall hall' seats seats' w w' (record { same_root = refl; kept = kept; stands = stands }) served in
    (t.0, t.1.kept, t.1.stands, t.1.same_root, t.2)
