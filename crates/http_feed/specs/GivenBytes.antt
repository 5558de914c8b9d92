-- All bytes that a feed was given on a connection, and the items that came of them.
use Rattle.std.specs.Prelude.{◌≡◌, ℕ, ◌+◌, Bool, true, false, List, [], ◌∷◌, ◌++◌, length}
use Rattle.http_wire.specs.declared.request.Request.{Request}
use Rattle.http_wire.specs.ConnectionItems.{AsksFor}
use Rattle.http_wire.specs.NextRequests.{RequestReaderState}

-- the bytes, after `before` requests, begin with these requests, of which none ends the
-- connection, and then come the rest
abbrev pub BeginsWithRequests : ℕ → List ℕ → List Request → List ℕ → Type 0
BeginsWithRequests before bytes [] rest = bytes ≡ rest
BeginsWithRequests before bytes (request ∷ requests) rest =
    (behind : List ℕ)
    × AsksFor before bytes request behind
    × (request.closes ≡ false)
    × BeginsWithRequests (before + 1) behind requests rest

-- The requests that came so far of a feed that isn't spent are those with which all bytes given
-- begin, and the bytes after them are held.
pub record HasReadRequests (given : List ℕ) (requests : List Request) (feed : RequestReaderState)
    : Type 0 where
  pub begin : BeginsWithRequests 0 given requests feed.held
  pub count : feed.requests ≡ length requests
  pub unspent : feed.spent ≡ false
