-- What replaying requests does. This is the project's own.
use Rattle.std.specs.Prelude.{◌↔◌, List, [], ◌∷◌, ◌++◌}
use Rattle.http_wire.specs.declared.request.Request.{Request}
use Rattle.edit_journal.specs.declared.replayer.ReplayStep.{ReplayStep}
use Rattle.edit_journal.specs.declared.replayer.ReplayStep.TheVariants.{Done, Refused, NoMemory}

-- S is the type of the states that requests are replayed on; a state represents the lists of
-- requests that may have led to it, and refuses some requests.
module _ {S : Type 0} (stands : S → List Request → Type 0) (refuses : S → Request → Type 0) where
  -- both states represent the same lists, and refuse the same requests
  pub record IsEquivalentState (old new : S) : Type 0 where
    pub stands_too : (requests : List Request) → stands new requests ↔ stands old requests
    pub refuses_too : (request : Request) → refuses new request ↔ refuses old request

  -- After `Done` the state represents each list that it represented before, with the request at
  -- the end. `Refused` comes where it refuses the request, and `Done` only where it doesn't. After
  -- the other results its meaning is unchanged.
  abbrev pub ReplaysRequest : S → Request → ReplayStep → S → Type 0
  ReplaysRequest old request Done new =
      ¬ (refuses old request)
      × ((requests : List Request) → stands old requests → stands new (requests ++ request ∷ []))
  ReplaysRequest old request Refused new = refuses old request × IsEquivalentState old new
  ReplaysRequest old request NoMemory new = IsEquivalentState old new

  -- the requests were replayed one after the other, and none was refused
  abbrev pub ReplaysRequests : S → List Request → S → Type 0
  ReplaysRequests old [] new = IsEquivalentState old new
  ReplaysRequests old (request ∷ requests) new =
      (next : S) × ReplaysRequest old request Done next × ReplaysRequests next requests new
