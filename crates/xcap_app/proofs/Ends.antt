-- How a command ends, by what it did.
use Rattle.std.proofs.Common.{◌≡◌, ℕ, List, [], Option, None, Result, Ok, Err, ◌⊎◌, inl, inr, refl, sym, subst, arith, ⊎_elim}
use Rattle.xcap_io.proofs.TrafficSums.{gave_none}
use Rattle.tree_text.specs.Faults.{IsTextResult}
use Rattle.xml_names.specs.ReadErrors.{ResultSatisfies}
use Rattle.xml_names.specs.declared.read_error.ReadError.{ReadError}
use Rattle.xml_names.specs.declared.read_error.ReadError.TheVariants as errors
use Rattle.tree_text.specs.declared.fault.TextFault.{TextFault}
use Rattle.doc_names.specs.declared.usages.Usage.{Usage as TheUsage}
use Rattle.edit_ops.specs.declared.edit.Edit.{Edit}
use Rattle.std.specs.Option.{option_map_or}
use Rattle.xml_tree.specs.Tree.{Tree}
use Rattle.xcap_io.specs.StreamStates.{StreamState, CountRises}
use Rattle.xcap_io.specs.StreamTraffic.{TakesBytes}
use Rattle.xcap_io.proofs.Lines.{reads_none}
use Rattle.client_commands.specs.CommandEnds.{CallStreams, CommandCall, MakesOneCall, delete_call, fetch_call}
use Rattle.client_commands.specs.FollowCommand.{FollowsDocument}
use Rattle.client_commands.specs.PutCommand.{AsksNothing, PutOptions, PutStreams, PutsFromInput, call_streams}
use Rattle.client_commands.specs.declared.command_end.CommandEnd.{CommandEnd}
use Rattle.xcap_app.specs.ClientCommands.{FollowArguments, ExitsAs, RunsCall, RunsFollow, RunsPut, ended_so, exit_of_client, follow_options, follows, knows_nothing, lacks_memory, means_none}
use Rattle.xcap_app.specs.CheckCommand.{ChecksCommand, ExaminesInput}
use Rattle.xcap_app.specs.ReplayCommand.{ReplaysCommand}
use Rattle.xcap_app.specs.ServeCommand.{ServesCommand, ServiceArguments}
use Rattle.xcap_app.specs.Exits.{HasAllocatedMessage}
use Rattle.xcap_app.specs.KeepCommand.{KeepsCommand, EndsKeep, OldJournal, exit_of_restart, keeps_on, no_journal, no_server}
use Rattle.xcap_app.specs.CommandRuns.{RunsCommand, host_arguments, service_arguments}
use Rattle.xcap_app.specs.HostCommand.{HostArguments, HostsCommand}
use Rattle.halls.specs.HallState.{HallState}
use Rattle.xcap_app.specs.RunStates.{HostState, IoStreams, KeepState, ReplayState, RunState, ServeState, ServiceState, call_part, host_part, io_part, keep_part, keep_service_state, put_part, replay_part, serve_part}
use Rattle.xcap_app.specs.SampleCommand.{RunsSample}
use Rattle.xcap_app.specs.ErrorMessages.{IsReportedAs}
use Rattle.xcap_app.specs.TextVerdicts.{IsTreeVerdict, IsTextVerdict, refusal_of_text}
use Rattle.xcap_app.specs.declared.command.Command.{Command}
use Rattle.xcap_app.specs.declared.command.Command.TheVariants.{Replay, Serve, Keep, Host, Check, Sample, Fetch, Put, Delete, Follow}
use Rattle.xcap_app.specs.declared.command_line.CommandLine.{CommandLine}
use Rattle.xcap_app.specs.declared.command_line.CommandLine.TheVariants.{Runs, BadHost, NoCommand}
use Rattle.xcap_app.specs.declared.exit.Exit.{Exit}
use Rattle.xcap_app.specs.declared.exit.Exit.TheVariants.{Done, Usage, InputFailed, OutputFailed, NetworkFailed, Refused, Client, BadJournal, BadHostWords, OutOfMemory}
use Rattle.xcap_app.specs.declared.refusal.Refusal.{Refusal}
use Rattle.xcap_app.specs.declared.refusal.Refusal.TheVariants.{TooLarge, NotUtf8, NotWellFormed, Faulty}

-- ---- texts

-- the verdict on a fault of a text is the verdict on the text
pub fault_judged : (usage : TheUsage) (text : List ℕ) (read : Result Tree (ReadError TextFault)) (error : ReadError TextFault) (fault : TextFault) (exit : Exit) → read ≡ Err error → error ≡ errors.Fault fault → ResultSatisfies (IsTextResult 64 [] text) read
    → exit ≡ Refused (refusal_of_text fault) → IsTextVerdict usage text exit ⊎ (exit ≡ OutOfMemory)
fault_judged usage text read error fault exit is told_so answers verdict =
    let of_error : ResultSatisfies (IsTextResult 64 [] text) (Err error) = subst (λ (r : Result Tree (ReadError TextFault)). ResultSatisfies (IsTextResult 64 [] text) r) is answers in
    let of_fault : IsTextResult 64 [] text (Err fault) = subst (λ (e : ReadError TextFault). ResultSatisfies (IsTextResult 64 [] text) (Err e)) told_so of_error in
    inl (record { answer = Err fault; by_grammar = of_fault; verdict = verdict })

-- and the verdict on its tree is the verdict on the text
pub tree_judged : (usage : TheUsage) (text : List ℕ) (t : Tree) (exit : Exit) → IsTextResult 64 [] text (Ok t) → IsTreeVerdict usage (Ok t) exit → IsTextVerdict usage text exit ⊎ (exit ≡ OutOfMemory)
tree_judged usage text t exit read verdict = inl (record { answer = Ok t; by_grammar = read; verdict = verdict })

-- ---- commands of the client

-- the reported exit, where memory ran out for its message
told_out : (exit told : Exit) → HasAllocatedMessage told → IsReportedAs exit told → IsReportedAs exit OutOfMemory
told_out exit told is (inl same) = inr (subst HasAllocatedMessage same is, refl)
told_out exit told is (inr out) = absurd (subst HasAllocatedMessage out.1 is)

-- a command for whose message memory ran out
words_lacking : (Did : CommandEnd → Type 0) (Nothing : Type 0) (exit : Exit) → HasAllocatedMessage exit → ExitsAs Did Nothing exit → ExitsAs Did Nothing OutOfMemory
words_lacking Did Nothing exit is (ended_so ended did told) = ended_so ended did (told_out (exit_of_client ended) exit is told)
words_lacking Did Nothing exit is (lacks_memory nothing ends) = lacks_memory nothing refl

call_lacking : (call : CommandCall) (exit : Exit) (old new : CallStreams) → HasAllocatedMessage exit → RunsCall call exit old new → RunsCall call OutOfMemory old new
call_lacking call exit old new is runs = words_lacking (λ ended. MakesOneCall call ended old new) (AsksNothing old new) exit is runs

put_lacking : (options : PutOptions) (exit : Exit) (old new : PutStreams) → HasAllocatedMessage exit → RunsPut options exit old new → RunsPut options OutOfMemory old new
put_lacking options exit old new is runs =
    words_lacking (λ ended. PutsFromInput options ended old new) ((new.input ≡ old.input) × AsksNothing (call_streams old) (call_streams new)) exit is runs

follow_lacking : (arguments : FollowArguments) (exit : Exit) (old new : CallStreams) → HasAllocatedMessage exit → RunsFollow arguments exit old new → RunsFollow arguments OutOfMemory old new
follow_lacking arguments exit old new is (follows doc means runs) =
    follows doc means (words_lacking (λ ended. FollowsDocument (follow_options arguments doc) ended old new) (AsksNothing old new) exit is runs)
follow_lacking arguments exit old new is (means_none none usage nothing) = absurd (subst HasAllocatedMessage usage is)
follow_lacking arguments exit old new is (knows_nothing ends nothing) = knows_nothing refl nothing

module _ {W : Type 0} (Keeps : List Edit → W → W → Type 0) (first : ℕ) where
  abbrev state_of : StreamState → HallState → StreamState → StreamState → StreamState → StreamState → W → RunState W
  state_of port hall peer input output errors w = record { port = port; hall = hall; peer = peer; input = input; output = output; errors = errors; watchers = w }

  -- memory ran out before anything was done
  pub ran_out : (command : CommandLine) (port : StreamState) (hall : HallState) (peer input output errors : StreamState) (w : W) → RunsCommand Keeps first command OutOfMemory (state_of port hall peer input output errors w) (state_of port hall peer input output errors w)
  ran_out NoCommand port hall peer input output errors w = (inr refl, refl)
  ran_out (BadHost fault) port hall peer input output errors w = (inr refl, refl)
  ran_out (Runs (Host address root options)) port hall peer input output errors w = (refl, refl, refl, refl, refl)
  ran_out (Runs (Replay root)) port hall peer input output errors w = (refl, refl, refl, refl, refl)
  ran_out (Runs (Serve address root count)) port hall peer input output errors w = (refl, refl, refl, refl, refl)
  ran_out (Runs (Keep address root count)) port hall peer input output errors w = (no_server refl refl, refl, refl, refl)
  ran_out (Runs (Check usage)) port hall peer input output errors w =
      ((([], record { consumed = gave_none input.inward; counts = refl; reads = reads_none input }, omega arith), refl), refl, refl, refl, refl, refl)
  ran_out (Runs (Sample requests)) port hall peer input output errors w = (refl, refl, refl, refl, refl, refl, refl)
  ran_out (Runs (Fetch requester path)) port hall peer input output errors w = (lacks_memory (refl, refl) refl, refl, refl, refl, refl, refl)
  ran_out (Runs (Put requester path media)) port hall peer input output errors w = (lacks_memory (refl, (refl, refl)) refl, refl, refl, refl, refl)
  ran_out (Runs (Delete requester path)) port hall peer input output errors w = (lacks_memory (refl, refl) refl, refl, refl, refl, refl, refl)
  ran_out (Runs (Follow requester document rounds)) port hall peer input output errors w = (knows_nothing refl (refl, refl), refl, refl, refl, refl, refl)

  -- there are no words, since memory ran out for them
  pub ran_none : {A : Type 0} (parse : A → CommandLine) (words : Option A) (told : Exit) (s : RunState W) → words ≡ None → IsReportedAs OutOfMemory told
      → RunsCommand Keeps first (option_map_or parse words NoCommand) told s s
  ran_none {A} parse words told s none (inl out) =
      subst (λ (w : Option A). RunsCommand Keeps first (option_map_or parse w NoCommand) told s s) (sym none) (inr out, refl)
  ran_none parse words told s none (inr lacking) = absurd lacking.0

  -- an input that was refused, where memory ran out for the message
  refused_out : (usage : TheUsage) (refusal : Refusal) (input input' : StreamState) → ExaminesInput usage (Refused refusal) input input' → ExaminesInput usage OutOfMemory input input'
  refused_out usage TooLarge input input' e = (e.0, e.1, omega (arith, e.2))
  refused_out usage NotUtf8 input input' e = (e.0, e.1.gave, omega (arith, e.1.fits))
  refused_out usage (NotWellFormed place) input input' e = (e.0, e.1.gave, omega (arith, e.1.fits))
  refused_out usage (Faulty fault) input input' e = (e.0, e.1.gave, omega (arith, e.1.fits))

  never_on : (IsWritten : List ℕ → Type 0) (HasFailed : Type 0) (arguments : ServiceArguments) (exit : Exit) (journal : OldJournal) (old new : ServiceState W) {X : Type 0} → HasAllocatedMessage exit
      → EndsKeep Keeps IsWritten HasFailed arguments exit journal old new → X
  never_on IsWritten HasFailed arguments Done journal old new is k = absurd is
  never_on IsWritten HasFailed arguments Usage journal old new is k = absurd is
  never_on IsWritten HasFailed arguments InputFailed journal old new is k = absurd is
  never_on IsWritten HasFailed arguments OutputFailed journal old new is k = absurd is
  never_on IsWritten HasFailed arguments NetworkFailed journal old new is k = absurd is
  never_on IsWritten HasFailed arguments (Refused refusal) journal old new is k = absurd k
  never_on IsWritten HasFailed arguments (Client fault) journal old new is k = absurd k
  never_on IsWritten HasFailed arguments (BadJournal refusal) journal old new is k = absurd k
  never_on IsWritten HasFailed arguments (BadHostWords fault) journal old new is k = absurd k
  never_on IsWritten HasFailed arguments OutOfMemory journal old new is k = absurd is

  unkept : (arguments : ServiceArguments) (exit : Exit) (old new : KeepState W) → HasAllocatedMessage exit → KeepsCommand Keeps arguments exit old new → KeepsCommand Keeps arguments OutOfMemory old new
  unkept arguments exit old new is (no_server out same) = no_server refl same
  unkept arguments exit old new is (no_journal fault told breaks p same) = no_journal fault (told_out (exit_of_restart fault) exit is told) breaks p same
  unkept arguments exit old new is (keeps_on journal reads just k) =
      never_on (TakesBytes old.output.taken new.output.taken) (CountRises old.output.write_faults new.output.write_faults) arguments exit journal (keep_service_state old) (keep_service_state new) is k

  check_refused : (usage : TheUsage) (exit : Exit) (old new : IoStreams) → HasAllocatedMessage exit → ChecksCommand usage exit old new → ChecksCommand usage OutOfMemory old new
  check_refused usage Done old new is r = absurd is
  check_refused usage Usage old new is r = absurd is
  check_refused usage InputFailed old new is r = absurd is
  check_refused usage OutputFailed old new is r = absurd is
  check_refused usage NetworkFailed old new is r = absurd is
  check_refused usage (Refused refusal) old new is r = (refused_out usage refusal old.input new.input r.0, r.1)
  check_refused usage (Client fault) old new is r = absurd r
  check_refused usage (BadJournal refusal) old new is r = absurd r
  check_refused usage (BadHostWords fault) old new is r = absurd r
  check_refused usage OutOfMemory old new is r = r

  sample_refused : (requests : ℕ) (exit : Exit) (output output' : StreamState) → HasAllocatedMessage exit → RunsSample requests exit output output' → ⊥
  sample_refused requests Done output output' is r = is
  sample_refused requests Usage output output' is r = is
  sample_refused requests InputFailed output output' is r = is
  sample_refused requests OutputFailed output output' is r = is
  sample_refused requests NetworkFailed output output' is r = is
  sample_refused requests (Refused refusal) output output' is r = r
  sample_refused requests (Client fault) output output' is r = r
  sample_refused requests (BadJournal refusal) output output' is r = r
  sample_refused requests (BadHostWords fault) output output' is r = r
  sample_refused requests OutOfMemory output output' is r = is

  replay_refused : (root : List ℕ) (exit : Exit) (old new : ReplayState W) → HasAllocatedMessage exit → ReplaysCommand Keeps root exit old new → ⊥
  replay_refused root Done old new is r = is
  replay_refused root Usage old new is r = is
  replay_refused root InputFailed old new is r = is
  replay_refused root OutputFailed old new is r = is
  replay_refused root NetworkFailed old new is r = is
  replay_refused root (Refused refusal) old new is r = r
  replay_refused root (Client fault) old new is r = r
  replay_refused root (BadJournal refusal) old new is r = r
  replay_refused root (BadHostWords fault) old new is r = r
  replay_refused root OutOfMemory old new is r = is

  serve_refused : (arguments : ServiceArguments) (exit : Exit) (old new : ServeState W) → HasAllocatedMessage exit → ServesCommand Keeps arguments exit old new → ⊥
  serve_refused arguments Done old new is r = is
  serve_refused arguments Usage old new is r = is
  serve_refused arguments InputFailed old new is r = is
  serve_refused arguments OutputFailed old new is r = is
  serve_refused arguments NetworkFailed old new is r = is
  serve_refused arguments (Refused refusal) old new is r = r
  serve_refused arguments (Client fault) old new is r = r
  serve_refused arguments (BadJournal refusal) old new is r = r
  serve_refused arguments (BadHostWords fault) old new is r = r
  serve_refused arguments OutOfMemory old new is r = is

  host_refused : (arguments : HostArguments) (exit : Exit) (old new : HostState W) → HasAllocatedMessage exit → HostsCommand Keeps arguments exit old new → ⊥
  host_refused arguments Done old new is r = is
  host_refused arguments Usage old new is r = is
  host_refused arguments InputFailed old new is r = is
  host_refused arguments OutputFailed old new is r = is
  host_refused arguments NetworkFailed old new is r = is
  host_refused arguments (Refused refusal) old new is r = r
  host_refused arguments (Client fault) old new is r = r
  host_refused arguments (BadJournal refusal) old new is r = r
  host_refused arguments (BadHostWords fault) old new is r = r
  host_refused arguments OutOfMemory old new is r = is

  unspelled_refused : (exit : Exit) → HasAllocatedMessage exit → (exit ≡ Usage) ⊎ (exit ≡ OutOfMemory) → ⊥
  unspelled_refused exit is (inl usage) = subst HasAllocatedMessage usage is
  unspelled_refused exit is (inr out) = subst HasAllocatedMessage out is

  ran_refused : (command : CommandLine) (exit : Exit) (old new : RunState W) → HasAllocatedMessage exit → RunsCommand Keeps first command exit old new → RunsCommand Keeps first command OutOfMemory old new
  ran_refused NoCommand exit old new is r = absurd (unspelled_refused exit is r.0)
  ran_refused (BadHost fault) exit old new is r = (inr refl, r.1)
  ran_refused (Runs (Host address root options)) exit old new is r = absurd (host_refused (host_arguments address root options first) exit (host_part old) (host_part new) is r.0)
  ran_refused (Runs (Replay root)) exit old new is r = absurd (replay_refused root exit (replay_part old) (replay_part new) is r.0)
  ran_refused (Runs (Serve address root count)) exit old new is r =
      absurd (serve_refused (service_arguments address root count) exit (serve_part old) (serve_part new) is r.0)
  ran_refused (Runs (Keep address root count)) exit old new is r =
      (unkept (service_arguments address root count) exit (keep_part old) (keep_part new) is r.0, r.1, r.2, r.3)
  ran_refused (Runs (Check usage)) exit old new is r = (check_refused usage exit (io_part old) (io_part new) is r.0, r.1, r.2, r.3, r.4, r.5)
  ran_refused (Runs (Sample requests)) exit old new is r = absurd (sample_refused requests exit old.output new.output is r.0)
  ran_refused (Runs (Fetch requester path)) exit old new is r = (call_lacking (fetch_call requester path) exit (call_part old) (call_part new) is r.0, r.1, r.2, r.3, r.4, r.5)
  ran_refused (Runs (Put requester path media)) exit old new is r =
      (put_lacking (record { requester = requester; path = path; media = media }) exit (put_part old) (put_part new) is r.0, r.1, r.2, r.3, r.4)
  ran_refused (Runs (Delete requester path)) exit old new is r = (call_lacking (delete_call requester path) exit (call_part old) (call_part new) is r.0, r.1, r.2, r.3, r.4, r.5)
  ran_refused (Runs (Follow requester document rounds)) exit old new is r =
      (follow_lacking (record { requester = requester; document = document; rounds = rounds }) exit (call_part old) (call_part new) is r.0, r.1, r.2, r.3, r.4, r.5)

  told_of : (command : CommandLine) (exit told : Exit) (old new : RunState W) → IsReportedAs exit told → RunsCommand Keeps first command exit old new → RunsCommand Keeps first command told old new
  told_of command exit told old new is r = ⊎_elim
      (λ (e : told ≡ exit). subst (λ x. RunsCommand Keeps first command x old new) (sym e) r)
      (λ (k : HasAllocatedMessage exit × (told ≡ OutOfMemory)). subst (λ x. RunsCommand Keeps first command x old new) (sym k.1) (ran_refused command exit old new k.0 r))
      is

  pub ran_told : (command : CommandLine) (exit told : Exit) (port port' : StreamState) (hall hall' : HallState) (peer peer' input input' output output' errors errors' : StreamState) (w w' : W) → IsReportedAs exit told
      → RunsCommand Keeps first command exit (state_of port hall peer input output errors w) (state_of port' hall' peer' input' output' errors' w') → RunsCommand Keeps first command told (state_of port hall peer input output errors w) (state_of port' hall' peer' input' output' errors' w')
  ran_told command exit told port port' hall hall' peer peer' input input' output output' errors errors' w w' is r = told_of command exit told (state_of port hall peer input output errors w) (state_of port' hall' peer' input' output' errors' w') is r

  -- a command equal to this one
  pub ran_as : (command same : Command) (exit : Exit) (port port' : StreamState) (hall hall' : HallState) (peer peer' input input' output output' errors errors' : StreamState) (w w' : W) → command ≡ same
      → RunsCommand Keeps first (Runs same) exit (state_of port hall peer input output errors w) (state_of port' hall' peer' input' output' errors' w') → RunsCommand Keeps first (Runs command) exit (state_of port hall peer input output errors w) (state_of port' hall' peer' input' output' errors' w')
  ran_as command same exit port port' hall hall' peer peer' input input' output output' errors errors' w w' is r =
      subst (λ (k : Command). RunsCommand Keeps first (Runs k) exit (state_of port hall peer input output errors w) (state_of port' hall' peer' input' output' errors' w')) (sym is) r
