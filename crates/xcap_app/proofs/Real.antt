-- What a run that ended with 0 did, without any traffic before.
use Rattle.std.proofs.Common.{◌≡◌, ℕ, List, [], ◌++◌, inl, inr, ⊎_elim, None, refl, sym, ap, subst, ◌∙◌, arith, append-nil}
use Rattle.std.specs.Prelude.{codes, length}
use Rattle.edit_ops.specs.declared.edit.Edit.{Edit}
use Rattle.store_core.specs.State.{first_state}
use Rattle.http_wire.specs.ServedConnections.{ServesConnection as ServesOne, ServesAll, machine_on_stream}
use Rattle.http_wire.specs.declared.close_reason.CloseReason.TheVariants.{Closed}
use Rattle.http_serve.specs.FixedReplies.{fixed_reply}
use Rattle.xcap_machine.specs.Machine.{ValidStep}
use Rattle.http_serve.specs.ReplyBytes.{StepsInBytes}
use Rattle.http_serve.specs.ServedPorts.{HasStopReason}
use Rattle.http_serve.specs.declared.accept_loop.StopReason.{StopReason}
use Rattle.http_serve.specs.declared.accept_loop.StopReason.TheVariants.{Count, NoMore, PortFailed}
use Rattle.xcap_io.specs.StreamStates.{BegunConnections, StreamState, no_connections}
use Rattle.xcap_io.specs.Connections.{port_traffic, with_listening_address, traffic}
use Rattle.xcap_io.specs.ConnectionHistories.{Traffic, all_traffic}
use Rattle.xcap_io.specs.StreamTraffic.{TakesBytes}
use Rattle.xcap_client.specs.declared.client_fault.ClientFault.TheVariants as clients
use Rattle.client_follower.specs.declared.follower_fault.FollowerFault.{FollowerFault}
use Rattle.client_follower.specs.declared.follower_fault.FollowerFault.TheVariants as faults
use Rattle.client_commands.specs.CommandEnds.{CallStreams, CommandCall, MakesOneCall, delete_call, fetch_call}
use Rattle.client_commands.specs.FollowCommand.{FollowsDocument}
use Rattle.client_commands.specs.PutCommand.{AsksNothing, PutOptions, PutStreams, PutsFromInput, call_streams}
use Rattle.client_commands.specs.FaultMessages.{status_of_fault}
use Rattle.client_commands.specs.declared.command_end.CommandEnd.{CommandEnd}
use Rattle.client_commands.specs.declared.command_end.CommandEnd.TheVariants as ends
use Rattle.xcap_app.specs.ClientCommands.{FollowArguments, ExitsAs, RunsCall, RunsFollow, RunsPut, ended_so, exit_of_client, follow_options, follows, knows_nothing, lacks_memory, means_none}
use Rattle.xcap_app.specs.Exits.{status_of}
use Rattle.xcap_app.specs.KeepCommand.{KeepsCommand, exit_of_restart, keeps_on, no_journal, no_server}
use Rattle.xcap_app.specs.ReplayCommand.{ReplaysCommand}
use Rattle.xcap_app.specs.ErrorMessages.{IsReportedAs}
use Rattle.edit_journal.specs.JournalTexts.{HasCompleteRecords, journal_text}
use Rattle.edit_journal.specs.declared.journal_restart.RestartFault.{RestartFault}
use Rattle.edit_journal.specs.declared.journal_restart.RestartFault.TheVariants as restart_faults
use Rattle.edit_journal.specs.LoggedMachines.{LoggedStep}
use Rattle.xcap_app.specs.CommandRuns.{RunsCommand, host_arguments, service_arguments}
use Rattle.xcap_app.specs.HostCommand.{HostArguments, HostsCommand}
use Rattle.halls.specs.HallState.{HallState}
use Rattle.xcap_app.specs.RunStates.{RunState, call_part, host_part, keep_part, put_part, replay_part, serve_part}
use Rattle.xcap_app.specs.ServeCommand.{IsCompleteStop, ServiceArguments, served_line, ServesCommand as Serves}
use Rattle.xcap_app.specs.SystemRuns.{AnswersAllConnections, AnswersHall, AnswersInput, AnswersAfterJournal, FollowsNamedDocument, DoesCommand}
use Rattle.xcap_app.specs.TextVerdicts.{IsTextVerdict}
use Rattle.xcap_app.specs.SampleCommand.{summary_text}
use Rattle.xcap_app.specs.declared.command.Command.TheVariants.{Replay, Serve, Keep, Host, Check, Sample, Fetch, Put, Delete, Follow}
use Rattle.xcap_app.specs.declared.command_line.CommandLine.{CommandLine}
use Rattle.xcap_app.specs.declared.command_line.CommandLine.TheVariants.{Runs, BadHost, NoCommand}
use Rattle.xcap_app.specs.declared.host_options.HostFault.{HostFault}
use Rattle.xcap_app.specs.declared.exit.Exit.{Exit}
use Rattle.xcap_app.specs.declared.exit.Exit.TheVariants.{Done, Usage, InputFailed, OutputFailed, NetworkFailed, Refused, Client, BadJournal, BadHostWords, OutOfMemory}

-- no fault of a call has the status 0
never_zero : (fault : FollowerFault) → status_of_fault fault ≡ 0 → ⊥
never_zero (faults.Client clients.PeerFault) zero = omega arith
never_zero (faults.Client (clients.Refused status name)) zero = omega arith
never_zero (faults.Client clients.NoMemory) zero = omega arith
never_zero (faults.Client (clients.BadResponse fault)) zero = omega arith
never_zero faults.BadTag zero = omega arith
never_zero (faults.BadText fault) zero = omega arith
never_zero (faults.BadNotice fault) zero = omega arith
never_zero (faults.Apply fault) zero = omega arith
never_zero faults.NoMemory zero = omega arith

is_done : (exit : Exit) → status_of exit ≡ 0 → exit ≡ Done
is_done Done zero = refl
is_done Usage zero = absurd (omega arith)
is_done InputFailed zero = absurd (omega arith)
is_done OutputFailed zero = absurd (omega arith)
is_done NetworkFailed zero = absurd (omega arith)
is_done (Refused refusal) zero = absurd (omega arith)
is_done (Client fault) zero = absurd (never_zero fault zero)
is_done (BadJournal refusal) zero = absurd (omega arith)
is_done (BadHostWords fault) zero = absurd (omega arith)
is_done OutOfMemory zero = absurd (omega arith)

-- the bytes taken by an output that had taken nothing
took_all : (old new bytes : List ℕ) → old ≡ [] → TakesBytes old new bytes → new ≡ bytes
took_all old new bytes none took = took ∙ ap (λ (l : List ℕ). l ++ bytes) none

-- a port whose connections to come are unknown didn't end, so as many connections were served as
-- were wanted
carried_all : (stop : StopReason) (most connections : ℕ) (all served : List Traffic) (old new : StreamState) → new.port.to_come ≡ None → HasStopReason stop most connections old new → IsCompleteStop stop
    → all ≡ served → length served ≡ connections → length all ≡ most
carried_all Count most connections all served old new untold stops complete same many = ap (λ (l : List Traffic). length l) same ∙ many ∙ stops.0
carried_all NoMore most connections all served old new untold stops complete same many = let no : ⊥ = cc (sym untold ∙ stops.1) in absurd no
carried_all PortFailed most connections all served old new untold stops complete same many = absurd complete

-- a command of the client that succeeded
ended_well : (ended : CommandEnd) → Done ≡ exit_of_client ended → ended ≡ ends.Done
ended_well ends.Done is = refl
ended_well ends.InputFailed is = absurd cc
ended_well ends.OutputFailed is = absurd cc
ended_well ends.TooLarge is = absurd cc
ended_well (ends.Failed fault) is = absurd cc
ended_well ends.OutOfMemory is = absurd cc

never_out : Done ≡ OutOfMemory → ⊥
never_out is = cc

command_done : (Did : CommandEnd → Type 0) (Nothing : Type 0) (exit : Exit) → exit ≡ Done → ExitsAs Did Nothing exit → Did ends.Done
command_done Did Nothing exit done (ended_so ended did (inl is)) = subst Did (ended_well ended (sym done ∙ is)) did
command_done Did Nothing exit done (ended_so ended did (inr out)) = absurd (never_out (sym done ∙ out.1))
command_done Did Nothing exit done (lacks_memory nothing is) = absurd (never_out (sym done ∙ is))

never_usage : Done ≡ Usage → ⊥
never_usage is = cc

never_bad_host : (fault : HostFault) → Done ≡ BadHostWords fault → ⊥
never_bad_host fault is = cc

call_done : (call : CommandCall) (old new : CallStreams) → RunsCall call Done old new → MakesOneCall call ends.Done old new
call_done call old new runs = command_done (λ ended. MakesOneCall call ended old new) (AsksNothing old new) Done refl runs

put_done : (options : PutOptions) (old new : PutStreams) → RunsPut options Done old new → PutsFromInput options ends.Done old new
put_done options old new runs = command_done (λ ended. PutsFromInput options ended old new) ((new.input ≡ old.input) × AsksNothing (call_streams old) (call_streams new)) Done refl runs

follow_done : (arguments : FollowArguments) (exit : Exit) (old new : CallStreams) → exit ≡ Done → RunsFollow arguments exit old new → FollowsNamedDocument arguments old new
follow_done arguments exit old new done (follows doc means runs) = record {
  doc = doc;
  meant = means;
  follows = command_done (λ ended. FollowsDocument (follow_options arguments doc) ended old new) (AsksNothing old new) exit done runs;
}
follow_done arguments exit old new done (means_none none usage nothing) = absurd (never_usage (sym done ∙ usage))
follow_done arguments exit old new done (knows_nothing is nothing) = absurd (never_out (sym done ∙ is))

module _ {W : Type 0} (Keeps : List Edit → W → W → Type 0) where
  input_done : (root : List ℕ) (old new : RunState W) → old.input.inward.given ≡ [] → old.output.taken ≡ []
      → ReplaysCommand Keeps root Done (replay_part old) (replay_part new) → AnswersInput Keeps root old new
  input_done root old new none_given none_taken r =
      let input = old.input in
      let input' = new.input in
      let output = old.output in
      let output' = new.output in
      let given : r.passed.given ≡ input'.inward.given = sym (took_all input.inward.given input'.inward.given r.passed.given none_given r.gave.behind) in
      let taken : r.passed.taken ≡ output'.taken = sym (took_all output.taken output'.taken r.passed.taken none_taken r.took) in
      let is : r.passed ≡ record { given = input'.inward.given; ended = input'.inward.ended; taken = output'.taken } =
      λ i. record { given = given i; ended = r.found_end i; taken = taken i } in
      record {
        state = r.state;
        edits = r.edits;
        serves = subst (λ (t : Traffic). ServesOne (StepsInBytes (ValidStep root)) fixed_reply Closed (first_state 1) t r.state r.edits) is r.serves;
        notified = r.notified;
      }

  port_done : (arguments : ServiceArguments) (old new : RunState W) → old.port.port.begun ≡ no_connections → old.output.taken ≡ [] → new.port.port.to_come ≡ None
      → Serves Keeps arguments Done (serve_part old) (serve_part new) → AnswersAllConnections Keeps arguments.root old new × (length (port_traffic new.port) ≡ arguments.count) × (new.output.taken ≡ served_line arguments.count)
  port_done arguments old new none_yet none_taken untold (served, s, complete, takes) =
      let address = arguments.address in
      let root = arguments.root in
      let count = arguments.count in
      let port = old.port in
      let port' = new.port in
      let output = old.output in
      let output' = new.output in
      let v = s.serves in
      let all : port_traffic port' ≡ v.connections = v.all_carried ∙ ap (λ (b : BegunConnections). all_traffic b.earlier b.is_present (traffic port) ++ v.connections) none_yet in
      let counted = carried_all served.stop count served.connections (port_traffic port') v.connections (with_listening_address port address) port' untold v.stop complete all v.count in (
        record {
          state = s.state;
          edits = v.edits;
          serves = subst (λ (l : List Traffic). ServesAll (StepsInBytes (ValidStep root)) fixed_reply (machine_on_stream (first_state 1) port) (machine_on_stream s.state port') l v.edits) (sym all) v.serves;
          notified = v.kept;
        },
        counted,
        took_all output.taken output'.taken (served_line served.connections) none_taken takes.taken
            ∙ ap served_line (sym v.count)
            ∙ ap (λ (l : List Traffic). served_line (length l)) (sym all)
            ∙ ap served_line counted,
      )

  -- the run with another stream for errors
  abbrev with_errors : RunState W → StreamState → RunState W
  with_errors state errors = record state { errors = errors }

  hall_done : (arguments : HostArguments) (old new : RunState W) → HostsCommand Keeps arguments Done (host_part old) (host_part new) → AnswersHall Keeps arguments old new
  hall_done arguments old new (served, hosts, complete) =
      let v = hosts.serves in
      record { state = hosts.state; kept = hosts.kept; exchanges = v.more; steps = v.steps; each = v.served.each; notified = v.kept; free = hosts.free; as_many = hosts.as_many; all_free = hosts.all_free; seats = hosts.seats; same_number = hosts.same_number; in_turns = hosts.in_turns }

  never_done : (fault : RestartFault) {X : Type 0} → IsReportedAs (exit_of_restart fault) Done → X
  never_done fault (inl same) = not_done fault (sym same)
    where
      not_done : (fault : RestartFault) {X : Type 0} → exit_of_restart fault ≡ Done → X
      not_done restart_faults.ReadFailed is = let no : ⊥ = cc in absurd no
      not_done restart_faults.AppendFailed is = let no : ⊥ = cc in absurd no
      not_done (restart_faults.Damaged place) is = let no : ⊥ = cc in absurd no
      not_done (restart_faults.Refused number) is = let no : ⊥ = cc in absurd no
      not_done restart_faults.TooLong is = let no : ⊥ = cc in absurd no
      not_done restart_faults.NoMemory is = let no : ⊥ = cc in absurd no
  never_done fault (inr out) = let no : ⊥ = cc (out.1) in absurd no

  kept_done : (arguments : ServiceArguments) (old new : RunState W) → old.port.port.begun ≡ no_connections → old.input.inward.given ≡ [] → old.output.taken ≡ [] → new.port.port.to_come ≡ None
      → KeepsCommand Keeps arguments Done (keep_part old) (keep_part new) → AnswersAfterJournal Keeps arguments.root arguments.count old new
  kept_done arguments old new none_yet none_given none_taken untold (no_server out same) = absurd (never_out out)
  kept_done arguments old new none_yet none_given none_taken untold (no_journal fault told breaks p same) = never_done fault told
  kept_done arguments old new none_yet none_given none_taken untold (keeps_on journal reads just (served, kept, complete)) =
      let address = arguments.address in
      let root = arguments.root in
      let count = arguments.count in
      let port = old.port in
      let port' = new.port in
      let input = old.input in
      let input' = new.input in
      let output = old.output in
      let output' = new.output in
      let v = kept.serves in
      let all : port_traffic port' ≡ v.connections = v.all_carried ∙ ap (λ (b : BegunConnections). all_traffic b.earlier b.is_present (traffic port) ++ v.connections) none_yet in
      let given : input'.inward.given ≡ journal.bytes = took_all input.inward.given input'.inward.given journal.bytes none_given reads.records.given.behind in
      record {
        requests = journal.requests;
        rest = journal.rest;
        state = journal.state;
        accepted = kept.accepted;
        next = kept.next;
        edits = v.edits;
        read = subst (λ (bytes : List ℕ). HasCompleteRecords bytes journal.requests journal.rest) (sym given) reads.whole;
        torn = reads.torn;
        redone = reads.records.redone;
        serves = subst (λ (l : List Traffic). ServesAll (StepsInBytes (LoggedStep (ValidStep root))) fixed_reply (machine_on_stream (record { machine = journal.state; requests = journal.requests; failures = 0 }) port)
            (machine_on_stream (record { machine = kept.next; requests = kept.accepted; failures = 0 }) port') l v.edits) (sym all) v.serves;
        counted = carried_all served.stop count served.connections (port_traffic port') v.connections (with_listening_address port address) port' untold v.stop complete all v.count;
        all_redone = kept.redone;
        took = took_all output.taken output'.taken (journal_text kept.accepted ++ []) none_taken kept.written ∙ append-nil (journal_text kept.accepted);
        notified = v.kept;
      }

  by_command : (first : ℕ) (command : CommandLine) (old new : RunState W) (errors' : StreamState) → old.port.port.begun ≡ no_connections → old.input.inward.given ≡ [] → old.output.taken ≡ [] → new.port.port.to_come ≡ None
      → RunsCommand Keeps first command Done old new → DoesCommand Keeps first command old (with_errors new errors')
  by_command first NoCommand old new errors' none_yet none_given none_taken untold r = ⊎_elim never_usage never_out r.0
  by_command first (BadHost fault) old new errors' none_yet none_given none_taken untold r = ⊎_elim (never_bad_host fault) never_out r.0
  by_command first (Runs (Host address root options)) old new errors' none_yet none_given none_taken untold r =
      let a = hall_done (host_arguments address root options first) old new r.0 in
      record { state = a.state; kept = a.kept; exchanges = a.exchanges; steps = a.steps; each = a.each; notified = a.notified; free = a.free; as_many = a.as_many; all_free = a.all_free; seats = a.seats; same_number = a.same_number; in_turns = a.in_turns }
  by_command first (Runs (Replay root)) old new errors' none_yet none_given none_taken untold r = input_done root old (with_errors new errors') none_given none_taken r.0
  by_command first (Runs (Serve address root count)) old new errors' none_yet none_given none_taken untold r = port_done (service_arguments address root count) old (with_errors new errors') none_yet none_taken untold r.0
  by_command first (Runs (Keep address root count)) old new errors' none_yet none_given none_taken untold r = kept_done (service_arguments address root count) old (with_errors new errors') none_yet none_given none_taken untold r.0
  by_command first (Runs (Check usage)) old new errors' none_yet none_given none_taken untold r =
      let judged = r.0.0 in (
        subst (λ (journal_text : List ℕ). IsTextVerdict usage journal_text Done) (sym (took_all old.input.inward.given new.input.inward.given judged.0 none_given judged.1.gave.consumed.behind)) judged.2,
        took_all old.output.taken new.output.taken (codes "valid\n") none_taken r.0.1.taken,
        r.3,
      )
  by_command first (Runs (Sample requests)) old new errors' none_yet none_given none_taken untold r =
      (r.0.0, r.0.1, took_all old.output.taken new.output.taken (summary_text r.0.0) none_taken r.0.2.taken, r.4)
  by_command first (Runs (Fetch requester path)) old new errors' none_yet none_given none_taken untold r = (call_done (fetch_call requester path) (call_part old) (call_part new) r.0, r.3)
  by_command first (Runs (Put requester path media)) old new errors' none_yet none_given none_taken untold r =
      (put_done (record { requester = requester; path = path; media = media }) (put_part old) (put_part new) r.0, r.2)
  by_command first (Runs (Delete requester path)) old new errors' none_yet none_given none_taken untold r = (call_done (delete_call requester path) (call_part old) (call_part new) r.0, r.3)
  by_command first (Runs (Follow requester document rounds)) old new errors' none_yet none_given none_taken untold r =
      (follow_done (record { requester = requester; document = document; rounds = rounds }) Done (call_part old) (call_part new) refl r.0, r.3)

  abbrev state_of : StreamState → HallState → StreamState → StreamState → StreamState → StreamState → W → RunState W
  state_of port hall peer input output errors w = record { port = port; hall = hall; peer = peer; input = input; output = output; errors = errors; watchers = w }

  -- a run that returned 0
  pub done_by : (first : ℕ) (command : CommandLine) (exit : Exit) (port port' : StreamState) (hall hall' : HallState) (peer peer' input input' output output' errors told errors' : StreamState) (w w' : W) → port.port.begun ≡ no_connections → input.inward.given ≡ [] → output.taken ≡ [] → port'.port.to_come ≡ None
      → status_of exit ≡ 0 → RunsCommand Keeps first command exit (state_of port hall peer input output errors w) (state_of port' hall' peer' input' output' told w') → DoesCommand Keeps first command (state_of port hall peer input output errors w) (state_of port' hall' peer' input' output' errors' w')
  done_by first command exit port port' hall hall' peer peer' input input' output output' errors told errors' w w' none_yet none_given none_taken untold zero r =
      by_command first command (state_of port hall peer input output errors w) (state_of port' hall' peer' input' output' told w') errors' none_yet none_given none_taken untold
      (subst (λ (x : Exit). RunsCommand Keeps first command x (state_of port hall peer input output errors w) (state_of port' hall' peer' input' output' told w')) (is_done exit zero) r)
