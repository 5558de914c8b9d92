-- Connections that are served one after the other, as a case of many that are open at once. RFC
-- 9112, section 9.3.
use Rattle.std.specs.Prelude.{◌≡◌, ℕ, ◌≤◌, true, false, List, [], ◌∷◌, map}
use Rattle.halls.specs.HallState.{ConnectionState}
use Rattle.xcap_io.specs.ConnectionHistories.{Traffic}
use Rattle.http_wire.specs.declared.close_reason.CloseReason.{CloseReason}
use Rattle.http_wire.specs.declared.close_reason.CloseReason.TheVariants.{Closed}
use Rattle.hall_serve.specs.Exchanges.{Exchange}

-- The exchanges are of the connection of this number or later ones, and after one of a later
-- connection comes none of an earlier.
abbrev pub AreInTurn : {E : Type 0} → ℕ → List (Exchange E) → Type 0
AreInTurn n [] = Unit {0}
AreInTurn n (exchange ∷ exchanges) =
    (n ≤ exchange.connection) × AreInTurn exchange.connection exchanges

-- what passed over a connection
abbrev pub traffic_of : ConnectionState → Traffic
traffic_of connection =
    record { given = connection.given; ended = connection.ended; taken = connection.taken }

-- the connection was closed, and not because of a failure or its time
abbrev pub IsClosedUnbroken : ConnectionState → Type 0
IsClosedUnbroken connection = (connection.closed ≡ true) × (connection.broken ≡ false)

-- each of them was closed after its last reply or at its end
abbrev pub all_closed : List ConnectionState → List CloseReason
all_closed connections = map (λ _. Closed) connections
