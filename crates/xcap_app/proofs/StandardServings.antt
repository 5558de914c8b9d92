-- What `serve` does by the whole machine, it does by the standards alone.
use Rattle.std.proofs.Common.{◌≡◌, ℕ, List, inl, inr, Option, refl, ap, subst}
use Rattle.store_core.specs.State.{State, first_state}
use Rattle.xcap_machine.specs.Machine.{StandardStep, ValidStep}
use Rattle.xcap_machine.proofs.StandardAnswers.{is_standard_step}
use Rattle.edit_ops.specs.declared.edit.Edit.{Edit}
use Rattle.http_wire.specs.declared.request.Request.{Request}
use Rattle.xcap_io.specs.StreamStates.{StreamState}
use Rattle.xcap_io.specs.Connections.{with_listening_address}
use Rattle.http_serve.specs.ReplyBytes.{StepsInBytes}
use Rattle.http_serve.specs.declared.accept_loop.ServeSummary.{ServeSummary}
use Rattle.http_serve.proofs.Simulations.{port_by}
use Rattle.xcap_app.specs.CommandRuns.{RunsCommand, service_arguments}
use Rattle.xcap_app.specs.RunStates.{RunState, ServeState, ServiceState, serve_part, serve_service_state}
use Rattle.xcap_app.specs.ServeCommand.{ServesAddress, ServesCommand, ServiceArguments}
use Rattle.xcap_app.proofs.Ends.{ran_told}
use Rattle.xcap_app.specs.ErrorMessages.{IsReportedAs}
use Rattle.halls.specs.HallState.{HallState}
use Rattle.xcap_app.specs.declared.command_line.CommandLine.{CommandLine}
use Rattle.xcap_app.specs.declared.command_line.CommandLine.TheVariants.{Runs}
use Rattle.xcap_app.specs.declared.command.Command.TheVariants.{Serve}
use Rattle.xcap_app.specs.StandardServing.{ServesByStandards, has_no_memory, has_no_port, serves_port}
use Rattle.xcap_app.specs.declared.exit.Exit.{Exit}
use Rattle.xcap_app.specs.declared.exit.Exit.TheVariants.{Done, Usage, BadHostWords, InputFailed, OutputFailed, NetworkFailed, Refused, Client, BadJournal, OutOfMemory}

-- a step of the machine, from the same state
same_step : (root : List ℕ) (s s' m : State) (request : Request) (bytes : List ℕ) (edit : Option Edit) → s ≡ m → StepsInBytes (ValidStep root) s request bytes s' edit
    → (m' : State) × (s' ≡ m') × StepsInBytes (StandardStep root) m request bytes m' edit
same_step root s s' m request bytes edit same a = (
  s',
  refl,
  record { reply = a.reply; written = a.written; step = subst (λ (x : State). StandardStep root x request a.reply s' edit) same (is_standard_step root s request a.reply s' edit a.step.1) },
)

module _ {W : Type 0} (Keeps : List Edit → W → W → Type 0) where
  address_standard : (arguments : ServiceArguments) (exit : Exit) (served : ServeSummary) (old new : ServiceState W) → ServesAddress Keeps arguments served old new → ServesByStandards Keeps arguments exit old new
  address_standard arguments exit served old new s =
      let t = port_by (StepsInBytes (ValidStep arguments.root)) (StepsInBytes (StandardStep arguments.root)) (λ (x y : State). x ≡ y) (same_step arguments.root) Keeps arguments.count served (first_state 1) s.state (first_state 1) (with_listening_address old.port arguments.address) new.port old.watchers new.watchers refl s.serves in
      serves_port served t.0 t.2

  pub standard_serving : (arguments : ServiceArguments) (exit : Exit) (old new : ServeState W) → ServesCommand Keeps arguments exit old new → ServesByStandards Keeps arguments exit (serve_service_state old) (serve_service_state new)
  standard_serving arguments Done old new (served, s, stop, prints) = address_standard arguments Done served (serve_service_state old) (serve_service_state new) s
  standard_serving arguments OutputFailed old new (served, s, stop, prints) = address_standard arguments OutputFailed served (serve_service_state old) (serve_service_state new) s
  standard_serving arguments NetworkFailed old new (inl none, same) = has_no_port refl none.0 none.1
  standard_serving arguments NetworkFailed old new (inr (served, s, stop), same) = address_standard arguments NetworkFailed served (serve_service_state old) (serve_service_state new) s
  standard_serving arguments OutOfMemory old new same = has_no_memory refl (ap serve_service_state same)
  standard_serving arguments Usage old new never = absurd never
  standard_serving arguments (BadHostWords fault) old new never = absurd never
  standard_serving arguments InputFailed old new never = absurd never
  standard_serving arguments (Refused refusal) old new never = absurd never
  standard_serving arguments (Client fault) old new never = absurd never
  standard_serving arguments (BadJournal refusal) old new never = absurd never

  abbrev state_of : StreamState → HallState → StreamState → StreamState → StreamState → StreamState → W → RunState W
  state_of port hall peer input output errors w = record { port = port; hall = hall; peer = peer; input = input; output = output; errors = errors; watchers = w }

  -- and what is reported of a run of the command `serve`
  pub standard_run : (first : ℕ) (command : CommandLine) (address root : List ℕ) (count : ℕ) (exit told : Exit) (port port' : StreamState) (hall hall' : HallState) (peer peer' input input' output output' errors errors' : StreamState) (w w' : W) → IsReportedAs exit told
      → RunsCommand Keeps first command exit (state_of port hall peer input output errors w) (state_of port' hall' peer' input' output' errors' w') → command ≡ Runs (Serve address root count)
      → ServesByStandards Keeps (service_arguments address root count) told (record { port = port; watchers = w }) (record { port = port'; watchers = w' })
  standard_run first command address root count exit told port port' hall hall' peer peer' input input' output output' errors errors' w w' is ran spelled =
      let old : RunState W = state_of port hall peer input output errors w in
      let new : RunState W = state_of port' hall' peer' input' output' errors' w' in
      let serves : RunsCommand Keeps first (Runs (Serve address root count)) told old new =
      subst (λ (c : CommandLine). RunsCommand Keeps first c told old new) spelled (ran_told Keeps first command exit told port port' hall hall' peer peer' input input' output output' errors errors' w w' is ran) in
      standard_serving (service_arguments address root count) told (serve_part old) (serve_part new) serves.0
