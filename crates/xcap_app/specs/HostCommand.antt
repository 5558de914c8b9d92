-- What `host` does, by how it ends. The machine follows RFC 4825; the command is the project's own.
use Rattle.std.specs.Prelude.{◌≡◌, ℕ, ◌⊎◌, List, [], ◌++◌, codes, length, Option, None, Some}
use Rattle.edit_ops.specs.declared.edit.Edit.{Edit}
use Rattle.halls.specs.HallState.{HallState, with_fault}
use Rattle.hall_serve.specs.Seats.{MatchesSeats, SeatState, seat_at}
use Rattle.hall_serve.specs.ServedHalls.{AnswersKnocks, HasHallStop, MakesTurns, ServesOn}
use Rattle.hall_serve.specs.declared.serve.HallStop.{HallStop}
use Rattle.hall_serve.specs.declared.serve.HallStop.TheVariants.{HallFailed}
use Rattle.hall_serve.specs.declared.serve.HallSummary.{HallSummary}
use Rattle.host_status.specs.HostSteps.{HostStep}
use Rattle.http_serve.specs.ReplyBytes.{StepsInBytes}
use Rattle.store_core.specs.Contents.{contents_of}
use Rattle.store_core.specs.ValidStates.{IsValidState}
use Rattle.store_core.specs.State.{State, first_state_within}
use Rattle.xcap_machine.specs.ServerStates.{ServerState}
use Rattle.xml_names.specs.Limits.{u64_max}
use Rattle.xcap_app.specs.ErrorMessages.{WritesMessage}
use Rattle.xcap_app.specs.RunStates.{HostState}
use Rattle.xcap_app.specs.declared.exit.Exit.{Exit}
use Rattle.xcap_app.specs.declared.exit.Exit.TheVariants.{Done, NetworkFailed, OutOfMemory}
use Rattle.xcap_app.specs.declared.host_options.HostOptions.{HostOptions}

-- The arguments of `host`: the address, the root, the options, and the number of the first change,
-- which the clock gave.
pub record HostArguments : Type 0 where
  pub address : List ℕ
  pub root : List ℕ
  pub options : HostOptions
  pub first : ℕ

-- the line that is written once the hall listens
abbrev pub listening_line : List ℕ → List ℕ
listening_line address = codes "listening " ++ (address ++ codes "\n")

-- the hall listens at this address
abbrev pub with_hall_address : HallState → List ℕ → HallState
with_hall_address hall address = record hall { listening = Some address }

-- a server of this root, with the documents of this state
abbrev pub server_of : List ℕ → State → ServerState
server_of root state = record { root = root; content = contents_of state }

-- no wait and no accept failed
abbrev pub IsUnfailedStop : HallStop → Type 0
IsUnfailedStop HallFailed = ⊥
IsUnfailedStop _ = Unit {0}

-- W is the type of the watchers, and `Keeps` relates them before and after such changes.
module _ {W : Type 0} (Keeps : List Edit → W → W → Type 0) where
  -- The connections were served in turns (`MakesTurns`): from these free seats on, and from the
  -- state on that has no documents, this first number and these limits, to these seats and this
  -- state.
  abbrev pub HostsInTurns : HostArguments → List (Option SeatState) → List (Option SeatState)
      → State → HostState W → HostState W → Type 0
  HostsInTurns arguments free seats state old new =
      (made : ℕ) × MakesTurns Keeps u64_max made
      (record {
        machine = server_of arguments.root
            (first_state_within arguments.options.limits arguments.first);
        hall = with_hall_address old.hall arguments.address;
        seats = free;
        watchers = old.watchers;
      })
      (record {
        machine = server_of arguments.root state;
        hall = new.hall;
        seats = seats;
        watchers = new.watchers;
      })

  -- The hall listens at the address, which was told on the stream for errors, and the connections
  -- that came were served, as many at once as there are seats, by the machine of this root from the
  -- state on that has no documents, this first number and the limits of the options, through valid
  -- states, but for requests for the status, which are answered from the state (`HostStep`); the
  -- watchers were notified of the changes.
  pub record HostsAddress (arguments : HostArguments) (served : HallSummary)
      (old new : HostState W) : Type 0 where
    pub state : State
    pub kept : IsValidState state
    -- the seats before, all of them free, and after
    pub free : List (Option SeatState)
    pub as_many : length free ≡ arguments.options.connections
    pub all_free : (k : ℕ) → seat_at free k ≡ None
    pub seats : List (Option SeatState)
    pub same_number : length seats ≡ length free
    pub in_turns : HostsInTurns arguments free seats state old new
    pub seats_match : MatchesSeats new.hall seats
    pub serves : ServesOn (StepsInBytes (HostStep arguments.root)) Keeps [] served.memory_failures
        (record {
          machine = first_state_within arguments.options.limits arguments.first;
          hall = with_hall_address old.hall arguments.address;
          seats = free;
          watchers = old.watchers;
        })
        (record { machine = state; hall = new.hall; seats = seats; watchers = new.watchers })
    pub knocks : AnswersKnocks (with_hall_address old.hall arguments.address) new.hall
    pub connections : length new.hall.connections ≡ served.connections
    pub stop : HasHallStop served.stop u64_max served.connections u64_max
        (with_hall_address old.hall arguments.address) new.hall
    pub listening : new.hall.listening ≡ Some arguments.address
    pub told : WritesMessage (listening_line arguments.address) old.errors new.errors

  -- No further connection is to come, or as many came as can be counted; or the hall doesn't
  -- listen, and nothing else was done; or it failed later; or memory ran out before it listens, and
  -- nothing was done.
  abbrev pub HostsCommand : HostArguments → Exit → HostState W → HostState W → Type 0
  HostsCommand arguments Done old new =
      (served : HallSummary) × HostsAddress arguments served old new × IsUnfailedStop served.stop
  HostsCommand arguments NetworkFailed old new =
      ((new.hall ≡ with_fault old.hall) × (new.errors ≡ old.errors)
      × (new.watchers ≡ old.watchers))
      ⊎ ((served : HallSummary) × HostsAddress arguments served old new
      × (served.stop ≡ HallFailed))
  HostsCommand arguments OutOfMemory old new = new ≡ old
  HostsCommand arguments _ old new = ⊥
