-- What the calls of a feed return, from what was decided.
use Rattle.std.proofs.Common.{◌≡◌, ℕ, ◌+◌, ◌<◌, ◌≤◌, ◌⊎◌, inl, inr, Bool, true, false, List, [], ◌∷◌, ◌++◌, length, if◌then◌else◌, Result, Ok, Err, Option, Some, None, refl, sym, ap, subst, ◌∙◌, arith}
use Rattle.http_wire.specs.declared.request.Request.{Request}
use Rattle.http_wire.specs.declared.request.Asked.{Asked}
use Rattle.http_wire.specs.declared.request.Asked.TheVariants.{Request as Requested, Bad, TooLong, Coded, End, NoMemory}
use Rattle.http_wire.specs.ConnectionItems.{Item, IsKnownFirstItem}
use Rattle.http_wire.specs.NextRequests.{RequestReaderState, IsReaderStateAfter}
use Rattle.http_feed.specs.Feeds.{IsDecided, IsWaiting, ReturnsItem, IsNextOf, IsLastOf}
use Rattle.http_feed.specs.inner.Places.{LeavesRequests, IsCounted}
use Rattle.http_feed.proofs.ReadPlaces.{ended_bad, leaves_requests}

-- The end of the bytes.

abbrev pub spent_reader : ℕ → RequestReaderState
spent_reader requests = record { held = []; requests = requests; spent = true }

pub ends : (old : RequestReaderState) → old.held ≡ [] → ReturnsItem true old End (spent_reader old.requests)
ends old none = record { rest = []; decided = (none, refl); held = refl; after = (refl, refl) }

some_given : (given : List ℕ) → (given ≡ [] → ⊥) → 0 < length given
some_given [] some = absurd (some refl)
some_given (b ∷ bytes) some = omega arith

pub ends_cut : (old : RequestReaderState) → IsWaiting old.held → (old.held ≡ [] → ⊥) → ReturnsItem true old Bad (spent_reader old.requests)
ends_cut old waits some = record { rest = []; decided = inr (refl, ([], ended_bad old.held (some_given old.held some) waits.unfinished)); held = refl; after = (refl, refl) }
