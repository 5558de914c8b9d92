-- What `listen`, `next` and `connect` do. This is the project's own model of connections, one
-- after the other.
use Rattle.std.specs.Prelude.{◌≡◌, ℕ, List, [], ◌∷◌, Bool, true, false, Option, Some, IfSome}
use Rattle.std.specs.Prelude.{Result, Ok, Err, MatchResult, option_map}
use Rattle.xcap_io.specs.StreamStates.{StreamState, CountRises}
use Rattle.xcap_io.specs.ConnectionHistories.{Traffic, all_traffic, no_traffic}

-- the stream, listening at this address if it shows the address
abbrev pub with_listening_address : StreamState → List ℕ → StreamState
with_listening_address line address =
    record line {
      port = record line.port { listening = option_map (λ _. Some address) line.port.listening };
    }

-- the port's fault counter rose, and nothing else changed
abbrev pub ListenFailed : StreamState → StreamState → Type 0
ListenFailed old new =
    (new ≡ record old { port = record old.port { faults = new.port.faults } })
    × CountRises old.port.faults new.port.faults

-- On `Ok` the port listens at the address, and at a failure its fault counter rose. Nothing else
-- changes.
abbrev pub Listens : {E : Type 0} → StreamState → StreamState → Result (Unit {0}) E → List ℕ
    → Type 0
Listens old new result address = MatchResult result
    (λ _. new ≡ with_listening_address old address)
    (λ _. ListenFailed old new)

-- what has passed over the stream, or over its present connection
abbrev pub traffic : StreamState → Traffic
traffic line = record { given = line.inward.given; ended = line.inward.ended; taken = line.taken }

-- what passed over each connection that a port accepted, the present one last
abbrev pub port_traffic : StreamState → List Traffic
port_traffic line = all_traffic line.port.begun.earlier line.port.begun.is_present (traffic line)

-- what passed over each connection that a peer made, the present one last
abbrev pub peer_traffic : StreamState → List Traffic
peer_traffic line = all_traffic line.peer.begun.earlier line.peer.begun.is_present (traffic line)

-- the first of the connections still to come has begun, and its bytes are left to read
abbrev pub BringsNextConnection : Option (List (List ℕ)) → Option (List (List ℕ)) → Option (List ℕ)
    → Type 0
BringsNextConnection old new left =
    IfSome old (λ all.
    (bytes : List ℕ) × (more : List (List ℕ))
    × (all ≡ bytes ∷ more) × (new ≡ Some more) × (left ≡ Some bytes))

-- The present connection of a port ended, and the next one began.
pub record AcceptsNext (old new : StreamState) : Type 0 where
  pub comes : BringsNextConnection old.port.to_come new.port.to_come new.inward.left
  pub begins : new.port.begun ≡ record { earlier = port_traffic old; is_present = true }
  pub nothing_passed : traffic new ≡ no_traffic
  pub same_listening : new.port.listening ≡ old.port.listening
  pub same_faults : new.port.faults ≡ old.port.faults
  pub same_read_faults : new.read_faults ≡ old.read_faults
  pub same_write_faults : new.write_faults ≡ old.write_faults
  pub same_holds : new.holds ≡ old.holds
  pub same_aside : new.aside ≡ old.aside
  pub same_peer : new.peer ≡ old.peer

-- No connection began, and the port's fault counter rose. The present connection may have ended,
-- but what passed over it and the earlier ones is unchanged.
pub record NextFailed (old new : StreamState) : Type 0 where
  pub keeps : port_traffic new ≡ port_traffic old
  pub rose : CountRises old.port.faults new.port.faults
  pub same_to_come : new.port.to_come ≡ old.port.to_come
  pub same_listening : new.port.listening ≡ old.port.listening
  pub same_read_faults : new.read_faults ≡ old.read_faults
  pub same_write_faults : new.write_faults ≡ old.write_faults
  pub same_holds : new.holds ≡ old.holds
  pub same_aside : new.aside ≡ old.aside
  pub same_peer : new.peer ≡ old.peer

-- On `Ok(true)` the next connection began. `Ok(false)` changes nothing and comes only where the
-- port shows that none is left: a port that doesn't show what is to come never ends.
abbrev pub OnlyAcceptsNext : {E : Type 0} → StreamState → StreamState → Result Bool E → Type 0
OnlyAcceptsNext old new (Ok true) = AcceptsNext old new
OnlyAcceptsNext old new (Ok false) = (new ≡ old) × (old.port.to_come ≡ Some [])
OnlyAcceptsNext old new (Err e) = NextFailed old new

-- The present connection of a peer ended, and one at this address began.
pub record Connects (old new : StreamState) (address : List ℕ) : Type 0 where
  pub comes : BringsNextConnection old.peer.to_come new.peer.to_come new.inward.left
  pub begins : new.peer.begun ≡ record { earlier = peer_traffic old; is_present = true }
  pub dialled : new.peer.addresses ≡ address ∷ old.peer.addresses
  pub nothing_passed : traffic new ≡ no_traffic
  pub same_faults : new.peer.faults ≡ old.peer.faults
  pub same_read_faults : new.read_faults ≡ old.read_faults
  pub same_write_faults : new.write_faults ≡ old.write_faults
  pub same_holds : new.holds ≡ old.holds
  pub same_aside : new.aside ≡ old.aside
  pub same_port : new.port ≡ old.port

-- No connection began, and the peer's fault counter rose. The present connection may have ended,
-- but what passed over it and the earlier ones is unchanged.
pub record ConnectFailed (old new : StreamState) : Type 0 where
  pub keeps : peer_traffic new ≡ peer_traffic old
  pub same_addresses : new.peer.addresses ≡ old.peer.addresses
  pub rose : CountRises old.peer.faults new.peer.faults
  pub same_to_come : new.peer.to_come ≡ old.peer.to_come
  pub same_read_faults : new.read_faults ≡ old.read_faults
  pub same_write_faults : new.write_faults ≡ old.write_faults
  pub same_holds : new.holds ≡ old.holds
  pub same_aside : new.aside ≡ old.aside
  pub same_port : new.port ≡ old.port

-- On `Ok` a connection at the address began.
abbrev pub OnlyConnects : {E : Type 0} → StreamState → StreamState → Result (Unit {0}) E → List ℕ
    → Type 0
OnlyConnects old new result address =
    MatchResult result (λ _. Connects old new address) (λ _. ConnectFailed old new)
