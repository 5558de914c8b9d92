-- Halls in memory, and the clients that connect to them, as their callers see them. This is the
-- project's own.
use Rattle.std.specs.Prelude.{ℕ, List, [], ◌∷◌, length, map, drop, Bool, false, Some}
use Rattle.halls.specs.HallState.{ConnectionState, HallState}

-- A client in memory.
pub record ClientState : Type 0 where
  -- the bytes that reads of its connection will give, and those that writes handed over
  pub left : List ℕ
  pub taken : List ℕ
  -- the place of its connection, and whether that was closed
  pub place : ℕ
  pub closed : Bool

-- a client that hasn't connected and sends these bytes
abbrev pub new_client : List ℕ → ClientState
new_client bytes = record { left = bytes; taken = []; place = 0; closed = false }

-- the connection of a client, with what the client shows of it
abbrev pub with_client_state : ConnectionState → ClientState → ConnectionState
with_client_state connection client =
    record connection {
      place = client.place;
      left = Some client.left;
      taken = client.taken;
      closed = client.closed;
    }

-- the same of the connections of the first clients
abbrev pub with_client_states : List ConnectionState → List ClientState → List ConnectionState
with_client_states [] clients = []
with_client_states (connection ∷ connections) [] = []
with_client_states (connection ∷ connections) (client ∷ clients) =
    with_client_state connection client ∷ with_client_states connections clients

-- what the clients will send that are still to come
abbrev pub texts_to_come : List ClientState → ℕ → List (List ℕ)
texts_to_come clients begun = map (λ client. client.left) (drop begun clients)

-- A hall in memory as a hall: its clients, in the order in which they connect, show what its log
-- doesn't.
abbrev pub memory_hall_state : List ClientState → HallState → HallState
memory_hall_state clients logged =
    record logged {
      connections = with_client_states logged.connections clients;
      to_come = Some (texts_to_come clients (length logged.connections));
    }
