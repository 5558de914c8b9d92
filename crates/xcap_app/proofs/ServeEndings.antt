-- How `serve` and `replay` end, by what the port, the input and the output did.
use Rattle.std.proofs.Common.{◌≡◌, ℕ, List, Option, inl, inr, refl, sym, subst, arith}
use Rattle.store_core.specs.Contents.{Represents, StoreContents as Content, first_contents}
use Rattle.store_core.specs.ValidStates.{IsValidState}
use Rattle.store_core.specs.State.{State, first_state}
use Rattle.store_core.proofs.KeptAfter.{kept-first}
use Rattle.xcap_machine.specs.Machine.{StandardStepWith, ValidStep}
use Rattle.reply_text.specs.ReplyHeads.{SentReply}
use Rattle.http_wire.specs.declared.request.Request.{Request}
use Rattle.edit_ops.specs.declared.edit.Edit.{Edit}
use Rattle.xcap_io.specs.StreamStates.{StreamState}
use Rattle.xcap_io.specs.Connections.{with_listening_address}
use Rattle.http_serve.specs.ServedPorts.{ServesPort}
use Rattle.http_serve.specs.ReplyBytes.{StepsInBytes}
use Rattle.http_serve.proofs.Simulations.{port_by}
use Rattle.http_wire.specs.declared.close_reason.CloseReason.{CloseReason}
use Rattle.http_wire.specs.declared.close_reason.CloseReason.TheVariants.{Closed, ReadFailed, WriteFailed}
use Rattle.http_serve.specs.declared.accept_loop.ServeSummary.{ServeSummary}
use Rattle.http_serve.specs.declared.accept_loop.StopReason.TheVariants.{PortFailed}
use Rattle.xcap_app.specs.ReplayCommand.{ReplaysCommand, ServesInput}
use Rattle.xcap_app.specs.inner.ConnectionExits.{exit_of_connection}
use Rattle.xcap_app.specs.RunStates.{ReplayState, ServeState, ServiceState, serve_service_state}
use Rattle.xcap_app.specs.ServeCommand.{IsCompleteStop, ServesAddress, ServiceArguments, served_line, ServesCommand as Serves}
use Rattle.xcap_app.specs.inner.StandardAddresses.{ServesStandardAddress}
use Rattle.xcap_app.specs.inner.CommandOutputs.{PrintsOutput}
use Rattle.xcap_app.specs.inner.ServingEnds.{EndsServing}
use Rattle.xcap_app.specs.declared.exit.Exit.{Exit}
use Rattle.xcap_app.specs.declared.exit.Exit.TheVariants.{Done, Usage, InputFailed, OutputFailed, NetworkFailed, Refused, Client, BadJournal, BadHostWords, OutOfMemory}

-- the contents of a new server represent the state without documents
begun : (c : Content) → c ≡ first_contents 1 → Represents c (first_state 1)
begun c e = subst (λ d. Represents d (first_state 1)) (sym e) refl

-- and that state is valid
pub stands_first : (c : Content) → c ≡ first_contents 1 → IsValidState (first_state 1) × Represents c (first_state 1)
stands_first c is_new = (kept-first 1 (omega arith), begun c is_new)

-- a step of both machines is one of the whole
whole_step : (root : List ℕ) (s s' m : State) (request : Request) (bytes : List ℕ) (edit : Option Edit) → s ≡ m → StepsInBytes (StandardStepWith ValidStep root) s request bytes s' edit
    → (m' : State) × (s' ≡ m') × StepsInBytes (ValidStep root) m request bytes m' edit
whole_step root s s' m request bytes edit same a = (
  s',
  refl,
  record { reply = a.reply; written = a.written; step = subst (λ (x : State). ValidStep root x request a.reply s' edit) same a.step.1 },
)

module _ {W : Type 0} (Keeps : List Edit → W → W → Type 0) where
  -- what a server did on a port that listens
  pub served_standards : (OwnStep : List ℕ → State → Request → SentReply → State → Option Edit → Type 0) (arguments : ServiceArguments) (served : ServeSummary) (Has : State → Type 0) (old new : ServiceState W) (listening : StreamState) → listening ≡ with_listening_address old.port arguments.address
      → (next : State) × Has next × ServesPort (StepsInBytes (StandardStepWith OwnStep arguments.root)) Keeps (record { most = arguments.count; served = served }) (record { machine = first_state 1; stream = listening; watchers = old.watchers }) (record { machine = next; stream = new.port; watchers = new.watchers })
      → ServesStandardAddress OwnStep Keeps arguments served Has old new
  served_standards OwnStep arguments served Has old new listening listens s = record {
    state = s.0;
    has = s.1;
    serves = subst (λ (l : StreamState). ServesPort (StepsInBytes (StandardStepWith OwnStep arguments.root)) Keeps (record { most = arguments.count; served = served }) (record { machine = first_state 1; stream = l; watchers = old.watchers }) (record { machine = s.0; stream = new.port; watchers = new.watchers })) listens s.2;
  }

  -- and by the whole machine
  pub served_address : (arguments : ServiceArguments) (served : ServeSummary) (content : Content) (old new : ServiceState W) → ServesStandardAddress ValidStep Keeps arguments served (λ (m : State). IsValidState m × Represents content m) old new → ServesAddress Keeps arguments served old new
  served_address arguments served content old new s =
      let t = port_by (StepsInBytes (StandardStepWith ValidStep arguments.root)) (StepsInBytes (ValidStep arguments.root)) (λ (x y : State). x ≡ y) (whole_step arguments.root) Keeps arguments.count served (first_state 1) s.state (first_state 1) (with_listening_address old.port arguments.address) new.port old.watchers new.watchers refl s.serves in
      record { state = t.0; kept = subst IsValidState t.1 s.has.0; serves = t.2 }

  -- and where their number was printed
  ended_so : (arguments : ServiceArguments) (served : ServeSummary) (exit : Exit) (old new : ServeState W) → ServesAddress Keeps arguments served (serve_service_state old) (serve_service_state new) → IsCompleteStop served.stop
      → PrintsOutput (served_line served.connections) exit old.output new.output → Serves Keeps arguments exit old new
  ended_so arguments served Done old new s stop prints = (served, s, stop, prints)
  ended_so arguments served Usage old new s stop prints = prints
  ended_so arguments served InputFailed old new s stop prints = prints
  ended_so arguments served OutputFailed old new s stop prints = (served, s, stop, prints)
  ended_so arguments served NetworkFailed old new s stop prints = absurd prints
  ended_so arguments served (Refused refusal) old new s stop prints = prints
  ended_so arguments served (Client fault) old new s stop prints = absurd prints
  ended_so arguments served (BadJournal refusal) old new s stop prints = prints
  ended_so arguments served (BadHostWords fault) old new s stop prints = prints
  ended_so arguments served OutOfMemory old new s stop prints = absurd prints

  -- and where the port failed to begin a connection
  failed_so : (arguments : ServiceArguments) (served : ServeSummary) (old new : ServeState W) → ServesAddress Keeps arguments served (serve_service_state old) (serve_service_state new) → served.stop ≡ PortFailed → new.output ≡ old.output
      → Serves Keeps arguments NetworkFailed old new
  failed_so arguments served old new s stop same = (inr (served, s, stop), same)

  -- and in either case
  pub command_ended : (arguments : ServiceArguments) (served : ServeSummary) (exit : Exit) (old new : ServeState W) → ServesAddress Keeps arguments served (serve_service_state old) (serve_service_state new) → EndsServing served exit old.output new.output → Serves Keeps arguments exit old new
  command_ended arguments served exit old new s (inl (complete, prints)) = ended_so arguments served exit old new s complete prints
  command_ended arguments served exit old new s (inr (failed, ends, same)) = subst (λ (x : Exit). Serves Keeps arguments x old new) (sym ends) (failed_so arguments served old new s failed same)

  -- an input that was served from the first state on
  by_ending : (root : List ℕ) (ended : CloseReason) (old new : ReplayState W) → ServesInput Keeps root (first_state 1) ended old new
      → ReplaysCommand Keeps root (exit_of_connection ended) old new
  by_ending root Closed old new s = s
  by_ending root ReadFailed old new s = s
  by_ending root WriteFailed old new s = s

  -- what a new server did with an input
  pub replayed : (root : List ℕ) (ended : CloseReason) (exit : Exit) (before : Content) (old new : ReplayState W) → before ≡ first_contents 1
      → ((m : State) → IsValidState m → Represents before m → ServesInput Keeps root m ended old new) → exit ≡ exit_of_connection ended
      → ReplaysCommand Keeps root exit old new
  replayed root ended exit before old new is_new serves ends =
      subst (λ (x : Exit). ReplaysCommand Keeps root x old new) (sym ends)
      (by_ending root ended old new (serves (first_state 1) (kept-first 1 (omega arith)) (begun before is_new)))
