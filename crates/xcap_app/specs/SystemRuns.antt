-- What a run of the program that ends with 0 did, over sockets and streams without any traffic
-- before. The machine follows RFC 4825; the program is the project's own.
use Rattle.std.specs.Prelude.{◌≡◌, ℕ, ◌<◌, List, codes, length, Option, None, Some}
use Rattle.edit_ops.specs.declared.edit.Edit.{Edit}
use Rattle.halls.specs.HallState.{connection_at}
use Rattle.hall_serve.specs.Exchanges.{AreExchanges, Exchange, edits, exchanges_on}
use Rattle.hall_serve.specs.Seats.{SeatState, seat_at}
use Rattle.hall_serve.specs.ServedConnections.{IsServed}
use Rattle.host_status.specs.HostSteps.{HostStep}
use Rattle.store_core.specs.State.{State, first_state, first_state_within}
use Rattle.store_core.specs.ValidStates.{IsValidState}
use Rattle.http_wire.specs.declared.request.Request.{Request}
use Rattle.edit_journal.specs.JournalTexts.{IsTorn, HasCompleteRecords, journal_text}
use Rattle.edit_journal.specs.LoggedMachines.{LoggedStep}
use Rattle.xcap_server.specs.ReplayedRequests.{AcceptsRequests}
use Rattle.http_wire.specs.ServedConnections.{ServesConnection, ServesAll, machine_on_stream}
use Rattle.http_wire.specs.declared.close_reason.CloseReason.TheVariants.{Closed}
use Rattle.http_serve.specs.FixedReplies.{fixed_reply}
use Rattle.xcap_machine.specs.Machine.{ValidStep}
use Rattle.http_serve.specs.ReplyBytes.{StepsInBytes}
use Rattle.xcap_io.specs.Connections.{port_traffic}
use Rattle.doc_names.specs.declared.doc_id.DocId.{DocId}
use Rattle.client_commands.specs.CommandEnds.{CallStreams, MakesOneCall, delete_call, fetch_call}
use Rattle.client_commands.specs.FollowCommand.{FollowsDocument}
use Rattle.client_commands.specs.PutCommand.{PutsFromInput}
use Rattle.client_commands.specs.declared.command_end.CommandEnd.TheVariants as ends
use Rattle.xcap_app.specs.ClientCommands.{FollowArguments, NamesDocument, follow_options}
use Rattle.xcap_app.specs.CommandRuns.{host_arguments}
use Rattle.xcap_app.specs.HostCommand.{HostArguments, HostsInTurns}
use Rattle.xcap_app.specs.RunStates.{RunState, call_part, host_part, put_part}
use Rattle.xcap_app.specs.ServeCommand.{served_line}
use Rattle.xcap_app.specs.TextVerdicts.{IsTextVerdict}
use Rattle.xcap_app.specs.SampleCommand.{MakesSample, summary_text}
use Rattle.xcap_app.specs.declared.sample_summary.Summary.{Summary}
use Rattle.xcap_app.specs.declared.command.Command.TheVariants.{Replay, Serve, Keep, Check, Sample}
use Rattle.xcap_app.specs.declared.command.Command.TheVariants.{Fetch, Put, Delete, Follow}
use Rattle.xcap_app.specs.declared.command.Command.TheVariants.{Host}
use Rattle.xcap_app.specs.declared.command_line.CommandLine.{CommandLine}
use Rattle.xcap_app.specs.declared.command_line.CommandLine.TheVariants.{Runs, BadHost, NoCommand}
use Rattle.xcap_app.specs.declared.exit.Exit.TheVariants.{Done}

-- the text means a document, which was followed to the end
pub record FollowsNamedDocument (arguments : FollowArguments) (old new : CallStreams) : Type 0 where
  pub doc : DocId
  pub meant : NamesDocument arguments (Some doc)
  pub follows : FollowsDocument (follow_options arguments doc) ends.Done old new

-- W is the type of the watchers, and `Keeps` relates them before and after such changes.
module _ {W : Type 0} (Keeps : List Edit → W → W → Type 0) where
  -- On all connections of the port the machine of this root answered, from the state without
  -- documents whose next number is 1 on, through valid states, and kept subscribers up to date:
  -- the bytes taken on each connection are its replies to the items of the bytes given on it. The
  -- watchers were notified of exactly the changes that it made, in order.
  pub record AnswersAllConnections (root : List ℕ) (old new : RunState W) : Type 0 where
    pub state : State
    pub edits : List Edit
    pub serves : ServesAll (StepsInBytes (ValidStep root)) fixed_reply
        (machine_on_stream (first_state 1) old.port) (machine_on_stream state new.port)
        (port_traffic new.port)
        edits
    pub notified : Keeps edits old.watchers new.watchers

  -- The machine answered likewise on the one connection of the input and the output, which was
  -- closed.
  pub record AnswersInput (root : List ℕ) (old new : RunState W) : Type 0 where
    pub state : State
    pub edits : List Edit
    pub serves : ServesConnection (StepsInBytes (ValidStep root)) fixed_reply Closed (first_state 1)
        (record {
          given = new.input.inward.given;
          ended = new.input.inward.ended;
          taken = new.output.taken;
        })
        state edits
    pub notified : Keeps edits old.watchers new.watchers

  -- The bytes that came in over the input are the records of some requests, and a torn rest, in
  -- which no record is whole; from the state that the requests lead to, the machine answered on
  -- all `count` connections of the port, and accepted further requests. The output took the
  -- records of all.
  pub record AnswersAfterJournal (root : List ℕ) (count : ℕ) (old new : RunState W) : Type 0 where
    pub requests : List Request
    pub rest : List ℕ
    pub state : State
    pub accepted : List Request
    pub next : State
    pub edits : List Edit
    pub read : HasCompleteRecords new.input.inward.given requests rest
    pub torn : IsTorn rest
    pub redone : AcceptsRequests root (first_state 1) requests state
    pub serves : ServesAll (StepsInBytes (LoggedStep (ValidStep root))) fixed_reply
        (machine_on_stream (record { machine = state; requests = requests; failures = 0 }) old.port)
        (machine_on_stream (record { machine = next; requests = accepted; failures = 0 }) new.port)
        (port_traffic new.port) edits
    pub counted : length (port_traffic new.port) ≡ count
    pub all_redone : AcceptsRequests root (first_state 1) accepted next
    pub took : new.output.taken ≡ journal_text accepted
    pub notified : Keeps edits old.watchers new.watchers

  -- On all connections of the hall the machine of this root answered, in one order of all
  -- exchanges, from the state without documents, with the limits of the options and this first
  -- number, on, through valid states; but requests for the status were answered from the state
  -- (`HostStep`). The bytes given on each connection begin with the items of its exchanges, and the
  -- bytes taken are its replies, as far as they were written. The watchers were notified of exactly
  -- the changes that it made, in order. The connections were served in turns, at as many seats as
  -- the options say, all of them free before.
  pub record AnswersHall (arguments : HostArguments) (old new : RunState W) : Type 0 where
    pub state : State
    pub kept : IsValidState state
    pub exchanges : List (Exchange Edit)
    pub steps : AreExchanges (StepsInBytes (HostStep arguments.root))
        (first_state_within arguments.options.limits arguments.first) exchanges state
    pub each : (n : ℕ) → n < length new.hall.connections
        → IsServed (connection_at new.hall n) (exchanges_on n exchanges)
    pub notified : Keeps (edits exchanges) old.watchers new.watchers
    pub free : List (Option SeatState)
    pub as_many : length free ≡ arguments.options.connections
    pub all_free : (k : ℕ) → seat_at free k ≡ None
    pub seats : List (Option SeatState)
    pub same_number : length seats ≡ length free
    pub in_turns : HostsInTurns Keeps arguments free seats state (host_part old) (host_part new)

  -- what was done, by the command that the words spell; `first` is the number of the first change
  -- of `host`, which the clock gave
  abbrev pub DoesCommand : ℕ → CommandLine → RunState W → RunState W → Type 0
  DoesCommand first NoCommand old new = ⊥
  DoesCommand first (BadHost fault) old new = ⊥
  DoesCommand first (Runs (Replay root)) old new = AnswersInput root old new
  DoesCommand first (Runs (Serve address root count)) old new =
      AnswersAllConnections root old new × (length (port_traffic new.port) ≡ count)
      × (new.output.taken ≡ served_line count)
  DoesCommand first (Runs (Keep address root count)) old new =
      AnswersAfterJournal root count old new
  DoesCommand first (Runs (Host address root options)) old new =
      AnswersHall (host_arguments address root options first) old new
  DoesCommand first (Runs (Check usage)) old new =
      IsTextVerdict usage new.input.inward.given Done × (new.output.taken ≡ codes "valid\n")
      × (new.watchers ≡ old.watchers)
  DoesCommand first (Runs (Sample requests)) old new =
      (summary : Summary) × MakesSample requests summary × (new.output.taken ≡ summary_text summary)
      × (new.watchers ≡ old.watchers)
  DoesCommand first (Runs (Fetch requester path)) old new =
      MakesOneCall (fetch_call requester path) ends.Done (call_part old) (call_part new)
      × (new.watchers ≡ old.watchers)
  DoesCommand first (Runs (Put requester path media)) old new =
      PutsFromInput (record { requester = requester; path = path; media = media }) ends.Done
      (put_part old) (put_part new)
      × (new.watchers ≡ old.watchers)
  DoesCommand first (Runs (Delete requester path)) old new =
      MakesOneCall (delete_call requester path) ends.Done (call_part old) (call_part new)
      × (new.watchers ≡ old.watchers)
  DoesCommand first (Runs (Follow requester document rounds)) old new =
      FollowsNamedDocument (record { requester = requester; document = document; rounds = rounds })
      (call_part old) (call_part new)
      × (new.watchers ≡ old.watchers)
