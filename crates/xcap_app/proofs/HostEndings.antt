-- How `host` ends, by what the hall did.
use Rattle.std.proofs.Common.{◌≡◌, ℕ, ◌+◌, ◌≤◌, List, [], length, Option, None, refl, sym, ap, subst, ◌∙◌, arith}
use Rattle.edit_ops.specs.declared.edit.Edit.{Edit}
use Rattle.xcap_io.specs.StreamStates.{StreamState}
use Rattle.halls.specs.HallState.{ConnectionState, HallState}
use Rattle.hall_serve.specs.Exchanges.{Exchange}
use Rattle.hall_serve.specs.Seats.{MatchesSeats, SeatState, seat_at}
use Rattle.hall_serve.specs.ServedHalls.{AnswersKnocks, HasHallStop, HasServed, MakesTurns, ServesOn}
use Rattle.hall_serve.specs.declared.serve.HallSummary.{HallSummary}
use Rattle.hall_serve.proofs.ServedInOrder.{matches_at_first, served_at_first}
use Rattle.host_status.specs.HostSteps.{HostStep}
use Rattle.http_serve.specs.ReplyBytes.{StepsInBytes}
use Rattle.store_core.specs.Contents.{Represents, StoreContents, first_contents_within}
use Rattle.store_core.specs.State.{State, first_state_within}
use Rattle.store_core.specs.ValidStates.{AreCountable, IsValidState}
use Rattle.store_core.proofs.KeptAfter.{kept-first-within}
use Rattle.xcap_machine.specs.ServerStates.{ServerState}
use Rattle.xml_names.specs.Limits.{u64_max}
use Rattle.xcap_app.specs.ErrorMessages.{WritesMessage}
use Rattle.xcap_app.specs.HostCommand.{HostArguments, HostsAddress, HostsInTurns, listening_line, server_of, with_hall_address}
use Rattle.xcap_app.specs.RunStates.{HostState}

-- a hall that has just begun to listen has no connections
still_none : (hall listening : HallState) (address : List ℕ) → listening ≡ with_hall_address hall address → hall.connections ≡ [] → listening.connections ≡ []
still_none hall listening address listens none = ap (λ (l : HallState). l.connections) listens ∙ none

-- so its seats match
pub free_seats_match : (hall listening : HallState) (address : List ℕ) (seats : List (Option SeatState)) → listening ≡ with_hall_address hall address → hall.connections ≡ []
    → ((k : ℕ) → seat_at seats k ≡ None) → MatchesSeats listening seats
free_seats_match hall listening address seats listens none free = matches_at_first listening seats (still_none hall listening address listens none) free

-- what passed in a hall that listens, after a call of `serve_hall`
pub record PassedInHall (served : HallSummary) (listening hall : HallState) (seats : List (Option SeatState)) : Type 0 where
  pub seats_match : MatchesSeats hall seats
  pub knocks : AnswersKnocks listening hall
  pub connections : length hall.connections ≡ length listening.connections + served.connections
  pub stop : HasHallStop served.stop u64_max served.connections u64_max listening hall
  pub same_listening : hall.listening ≡ listening.listening

-- the line was written, whose bytes these are
pub line_written : {line bytes wanted : List ℕ} {old new : StreamState} → line ≡ wanted → bytes ≡ line → WritesMessage bytes old new → WritesMessage wanted old new
line_written {old = old} {new = new} is same written = subst (λ (w : List ℕ). WritesMessage w old new) (same ∙ is) written

-- a server of this root, whose contents represent the state
is_server_of : (server : ServerState) (root : List ℕ) (state : State) → server.root ≡ root → Represents server.content state → server ≡ server_of root state
is_server_of server root state same_root stands = subst (λ (r : List ℕ). server ≡ server_of r state) same_root (ap (λ (content : StoreContents). record server { content = content }) stands)

module _ {W : Type 0} (Keeps : List Edit → W → W → Type 0) where
  -- the turns of a server in a hall that listens, where no connection had begun
  in_turns : (arguments : HostArguments) (before after : ServerState) (state : State) (free seats : List (Option SeatState)) (listening : HallState) (old new : HostState W) → before ≡ server_of arguments.root (first_state_within arguments.options.limits arguments.first)
      → after ≡ server_of arguments.root state → listening ≡ with_hall_address old.hall arguments.address → length listening.connections ≡ 0
      → ((made : ℕ) × MakesTurns Keeps (length listening.connections + u64_max) made (record { machine = before; hall = listening; seats = free; watchers = old.watchers }) (record { machine = after; hall = new.hall; seats = seats; watchers = new.watchers }))
      → HostsInTurns Keeps arguments free seats state old new
  in_turns arguments before after state free seats listening old new from to listens none turns =
      let first = server_of arguments.root (first_state_within arguments.options.limits arguments.first) in
      let most : length listening.connections + u64_max ≡ u64_max = omega (arith, none) in
      subst (λ (hall : HallState). (made : ℕ) × MakesTurns Keeps u64_max made (record { machine = first; hall = hall; seats = free; watchers = old.watchers }) (record { machine = server_of arguments.root state; hall = new.hall; seats = seats; watchers = new.watchers })) listens
      (subst (λ (server : ServerState). (made : ℕ) × MakesTurns Keeps u64_max made (record { machine = first; hall = listening; seats = free; watchers = old.watchers }) (record { machine = server; hall = new.hall; seats = seats; watchers = new.watchers })) to
      (subst (λ (server : ServerState). (made : ℕ) × MakesTurns Keeps u64_max made (record { machine = server; hall = listening; seats = free; watchers = old.watchers }) (record { machine = after; hall = new.hall; seats = seats; watchers = new.watchers })) from
      (subst (λ (n : ℕ). (made : ℕ) × MakesTurns Keeps n made (record { machine = before; hall = listening; seats = free; watchers = old.watchers }) (record { machine = after; hall = new.hall; seats = seats; watchers = new.watchers })) most turns)))

  -- what a new server did in a hall that listens
  pub hosted : (arguments : HostArguments) (served : HallSummary) (before after : ServerState) (free seats : List (Option SeatState)) (listening : HallState) (old new : HostState W) → 1 ≤ arguments.first → AreCountable arguments.options.limits
      → before.root ≡ arguments.root → before.content ≡ first_contents_within arguments.options.limits arguments.first → length free ≡ arguments.options.connections → ((k : ℕ) → seat_at free k ≡ None) → length seats ≡ length free → old.hall.connections ≡ []
      → listening ≡ with_hall_address old.hall arguments.address → PassedInHall served listening new.hall seats → WritesMessage (listening_line arguments.address) old.errors new.errors
      → ((m : State) (all : List (Exchange Edit)) → IsValidState m → Represents before.content m → HasServed listening free all
      → (next : State) × IsValidState next × Represents after.content next × (after.root ≡ arguments.root)
      × ServesOn (StepsInBytes (HostStep arguments.root)) Keeps all served.memory_failures (record { machine = m; hall = listening; seats = free; watchers = old.watchers }) (record { machine = next; hall = new.hall; seats = seats; watchers = new.watchers }))
      → ((made : ℕ) × MakesTurns Keeps (length listening.connections + u64_max) made (record { machine = before; hall = listening; seats = free; watchers = old.watchers }) (record { machine = after; hall = new.hall; seats = seats; watchers = new.watchers }))
      → HostsAddress Keeps arguments served old new
  hosted arguments served before after free seats listening old new positive countable about is_new many all_free number none listens passed told serves turns =
      let begun : State = first_state_within arguments.options.limits arguments.first in
      let stands : Represents before.content begun = subst (λ (d : StoreContents). Represents d begun) (sym is_new) refl in
      let empty : length listening.connections ≡ 0 = ap (λ (c : List ConnectionState). length c) (still_none old.hall listening arguments.address listens none) in
      let s = serves begun [] (kept-first-within arguments.options.limits arguments.first positive countable) stands
      (served_at_first listening free (still_none old.hall listening arguments.address listens none) all_free) in
      record {
        state = s.0;
        kept = s.1;
        free = free;
        as_many = many;
        all_free = all_free;
        seats = seats;
        same_number = number;
        in_turns = in_turns arguments before after s.0 free seats listening old new (is_server_of before arguments.root begun about stands) (is_server_of after arguments.root s.0 s.3 s.2) listens empty turns;
        seats_match = passed.seats_match;
        serves = subst (λ (l : HallState). ServesOn (StepsInBytes (HostStep arguments.root)) Keeps [] served.memory_failures (record { machine = begun; hall = l; seats = free; watchers = old.watchers })
            (record { machine = s.0; hall = new.hall; seats = seats; watchers = new.watchers })) listens s.4;
        knocks = subst (λ (l : HallState). AnswersKnocks l new.hall) listens passed.knocks;
        connections =
            let counted : length new.hall.connections ≡ length listening.connections + served.connections = passed.connections in
            omega (arith, counted, empty);
        stop = subst (λ (l : HallState). HasHallStop served.stop u64_max served.connections u64_max l new.hall) listens passed.stop;
        listening = passed.same_listening ∙ ap (λ (l : HallState). l.listening) listens;
        told = told;
      }
