-- What a call for the next request returns, and what it leaves.
use Rattle.std.specs.Prelude.{◌≡◌, ℕ, ◌+◌, Bool, true, false, ◌⊎◌, List, [], ◌++◌, Result, Ok}
use Rattle.std.specs.Prelude.{MatchResult}
use Rattle.xcap_io.specs.StreamStates.{InputState}
use Rattle.xcap_io.specs.StreamTraffic.{GivesBytes, IsEnded}
use Rattle.http_wire.specs.declared.request.Request.{Request}
use Rattle.http_wire.specs.declared.request.Asked.{Asked}
use Rattle.http_wire.specs.declared.request.Asked.TheVariants.{Request as Requested, Bad, TooLong}
use Rattle.http_wire.specs.declared.request.Asked.TheVariants.{Coded, End, NoMemory}
use Rattle.http_wire.specs.ConnectionItems.{Item, bad, too_long, coded, AsksFor, IsFirstItem}
use Rattle.http_wire.specs.ConnectionItems.{HasNoCompleteItem}

-- A request reader at one moment: the bytes given and not used yet, how many requests it returned
-- since it was made or reset, and whether it is spent.
pub record RequestReaderState : Type 0 where
  pub held : List ℕ
  pub requests : ℕ
  pub spent : Bool

-- the reader of a new connection
abbrev pub fresh_request_reader : RequestReaderState
fresh_request_reader = record { held = []; requests = 0; spent = false }

-- The item is the first one of the connection's bytes: whatever follows the bytes given, or
-- because the source has ended.
abbrev pub IsNextItem : ℕ → List ℕ → InputState → Item → List ℕ → Type 0
IsNextItem before given source item held =
    ((more : List ℕ) → IsFirstItem before (given ++ more) item (held ++ more))
    ⊎ (IsFirstItem before given item held × IsEnded source)

-- What was returned, by the bytes given (those buffered before and those read), what the source
-- has left, and what is buffered afterwards. `NoMemory` comes only in place of a request.
abbrev pub IsNextRequestResult : ℕ → List ℕ → InputState → Asked → List ℕ → Type 0
IsNextRequestResult before given source (Requested request) held = AsksFor before given request held
IsNextRequestResult before given source Bad held = IsNextItem before given source bad held
IsNextRequestResult before given source TooLong held = IsNextItem before given source too_long held
IsNextRequestResult before given source Coded held = IsNextItem before given source coded held
IsNextRequestResult before given source End held = (given ≡ []) × IsEnded source
IsNextRequestResult before given source NoMemory held =
    (request : Request) × (rest : List ℕ) × AsksFor before given request rest

-- The bytes buffered, and the source that the next ones are read from.
pub record BufferedSource : Type 0 where
  pub held : List ℕ
  pub source : InputState

-- Bytes were read from the source, and the result is decided by the buffered bytes and those read;
-- where a read failed, no item is complete in them.
pub record ReadsNextRequest {E : Type 0} (before : ℕ) (old : BufferedSource)
    (result : Result Asked E)
    (new : BufferedSource) : Type 0 where
  pub read : List ℕ
  pub given : GivesBytes old.source new.source read
  pub answer : MatchResult result
      (λ asked. IsNextRequestResult before (old.held ++ read) new.source asked new.held)
      (λ _. HasNoCompleteItem (old.held ++ read))

-- The state of the reader after a call: it is spent, except after a request that doesn't close.
abbrev pub IsReaderStateAfter : {E : Type 0} → RequestReaderState → Result Asked E
    → RequestReaderState → Type 0
IsReaderStateAfter old (Ok (Requested request)) new =
    (new.requests ≡ old.requests + 1) × (new.spent ≡ request.closes)
IsReaderStateAfter old _ new = (new.requests ≡ old.requests) × (new.spent ≡ true)
