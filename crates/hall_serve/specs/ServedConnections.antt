-- One of many connections, and the exchanges on it. RFC 9112, sections 2.2, 9.3 and 9.6.
use Rattle.std.specs.Prelude.{◌≡◌, ℕ, ◌+◌, Bool, true, List, [], ◌∷◌, ◌++◌}
use Rattle.halls.specs.HallState.{ConnectionState}
use Rattle.http_wire.specs.ConnectionItems.{Item, asks, bad, too_long, coded, AsksFor}
use Rattle.http_wire.specs.ConnectionItems.{IsKnownFirstItem}
use Rattle.hall_serve.specs.Exchanges.{Exchange, replies, last_closes}

-- The item comes first in these bytes, which were given after `before` requests, and then the rest;
-- after an item that is no request none is looked at.
abbrev pub BeginsWithItem : ℕ → List ℕ → Bool → Item → List ℕ → Type 0
BeginsWithItem before given ended (asks request) rest = AsksFor before given request rest
BeginsWithItem before given ended bad rest = IsKnownFirstItem before given ended bad
BeginsWithItem before given ended too_long rest = IsKnownFirstItem before given ended too_long
BeginsWithItem before given ended coded rest = IsKnownFirstItem before given ended coded

module _ {E : Type 0} where
  -- The bytes begin with exactly the items of these exchanges, of which only the last may end the
  -- connection, and then come the rest.
  abbrev pub BeginsWithItems : ℕ → List ℕ → Bool → List (Exchange E) → List ℕ → Type 0
  BeginsWithItems before given ended [] rest = given ≡ rest
  BeginsWithItems before given ended (exchange ∷ exchanges) rest =
      (behind : List ℕ) × BeginsWithItem before given ended exchange.item behind
      × (exchange.closes ≡ true → exchanges ≡ [])
      × BeginsWithItems (before + 1) behind ended exchanges rest

  -- How a connection ended: a read or a write failed or its time was up; or all replies were
  -- written, of which the last ends it; or all were, and a read found the end after the last item.
  pub data EndsAfter (connection : ConnectionState) (exchanges : List (Exchange E))
      (rest pending : List ℕ) : Type 0 where
    after_break : connection.broken ≡ true → EndsAfter connection exchanges rest pending
    after_reply : pending ≡ [] → last_closes exchanges ≡ true
        → EndsAfter connection exchanges rest pending
    at_end : pending ≡ [] → connection.ended ≡ true → rest ≡ []
        → EndsAfter connection exchanges rest pending

  -- What passed over a connection with these exchanges: the bytes given begin with exactly their
  -- items, and the bytes written are the replies as far as they are not pending: all of them where
  -- the connection was closed and didn't break.
  pub record IsServed (connection : ConnectionState) (exchanges : List (Exchange E)) : Type 0 where
    pub rest : List ℕ
    pub pending : List ℕ
    pub begins : BeginsWithItems 0 connection.given connection.ended exchanges rest
    pub wrote : replies exchanges ≡ connection.taken ++ pending
    pub ends : connection.closed ≡ true → EndsAfter connection exchanges rest pending
