-- A feed: a reader of requests to which the bytes of a connection are given as they come. What it
-- holds, and what its calls return.
use Rattle.std.specs.Prelude.{◌≡◌, ℕ, ◌-◌, ◌<◌, min, Bool, true, false, if◌then◌else◌, List, []}
use Rattle.std.specs.Prelude.{◌++◌, length, Option, None, Some, Result, Ok, Err}
use Rattle.http_wire.specs.declared.limits.TheConstants.{MAX_HEAD_BYTES, MAX_HELD_BYTES}
use Rattle.http_wire.specs.declared.request.Request.{Request}
use Rattle.http_wire.specs.declared.request.Asked.{Asked}
use Rattle.http_wire.specs.declared.request.Asked.TheVariants.{Request as Requested, Bad, TooLong}
use Rattle.http_wire.specs.declared.request.Asked.TheVariants.{Coded, End, NoMemory}
use Rattle.http_wire.specs.Heads.{HasNoHead}
use Rattle.http_wire.specs.ConnectionItems.{bad, too_long, coded, AsksFor, IsKnownFirstItem}
use Rattle.http_wire.specs.ConnectionItems.{HasNoCompleteItem}
use Rattle.http_wire.specs.NextRequests.{RequestReaderState, fresh_request_reader}
use Rattle.http_wire.specs.NextRequests.{IsReaderStateAfter}

-- The memory of a feed: how many bytes are in the buffer of the bytes given, how many more may be
-- given without allocation, and how many bytes are allocated in all.
pub record BufferState : Type 0 where
  pub filled : ℕ
  pub room : ℕ
  pub capacity : ℕ

-- A feed at one moment: the bytes given and not used yet, how many requests came so far, whether it
-- is spent; and its memory.
pub record FeedState : Type 0 where
  pub reader : RequestReaderState
  pub buffer : BufferState

-- the feed of a new connection: nothing is allocated
abbrev pub fresh_feed : FeedState
fresh_feed = record {
  reader = fresh_request_reader;
  buffer = record { filled = 0; room = 0; capacity = 0 };
}

-- the reader after it was given these bytes
abbrev pub with_bytes : RequestReaderState → List ℕ → RequestReaderState
with_bytes reader bytes = record reader { held = reader.held ++ bytes }

-- how many bytes may be given next of those wanted: the buffer never holds more than the limit,
-- and a spent feed is given none
abbrev pub granted_len : FeedState → ℕ → ℕ
granted_len feed wanted =
    if feed.reader.spent then 0 else min wanted (MAX_HELD_BYTES - feed.buffer.filled)

-- there is room for this many bytes; when out of memory nothing changes
abbrev pub MakesRoom : {E : Type 0} → FeedState → ℕ → Result ℕ E → FeedState → Type 0
MakesRoom old wanted (Ok count) new =
    (count ≡ granted_len old wanted) × (new.buffer.room ≡ count) × (new.reader ≡ old.reader)
    × (new.buffer.filled ≡ old.buffer.filled)
MakesRoom old wanted (Err _) new = new ≡ old

-- What was returned is decided by the bytes given, and by whether a read found their end; the rest
-- comes after it. `NoMemory` comes only in place of a request.
abbrev pub IsDecided : ℕ → List ℕ → Bool → Asked → List ℕ → Type 0
IsDecided before given ended (Requested request) rest = AsksFor before given request rest
IsDecided before given ended Bad rest = IsKnownFirstItem before given ended bad
IsDecided before given ended TooLong rest = IsKnownFirstItem before given ended too_long
IsDecided before given ended Coded rest = IsKnownFirstItem before given ended coded
IsDecided before given ended End rest = (given ≡ []) × (ended ≡ true)
IsDecided before given ended NoMemory rest =
    (request : Request) × (behind : List ℕ) × AsksFor before given request behind

-- An item was returned, and the bytes after it are held: none by a feed that is spent then.
pub record ReturnsItem (ended : Bool) (old : RequestReaderState) (asked : Asked)
    (new : RequestReaderState) : Type 0 where
  pub rest : List ℕ
  pub decided : IsDecided old.requests old.held ended asked rest
  pub held : new.held ≡ (if new.spent then [] else rest)
  pub after : IsReaderStateAfter {E = Unit {0}} old (Ok asked) new

-- No item is complete in these bytes, and a head that isn't complete is still within its limit.
pub record IsWaiting (held : List ℕ) : Type 0 where
  pub unfinished : HasNoCompleteItem held
  pub head_within : HasNoHead held → length held < MAX_HEAD_BYTES

-- What comes of the bytes held: their first item; or none, where none is complete; or out
-- of memory, before anything was decided.
abbrev pub IsNextOf : {E : Type 0} → RequestReaderState → Result (Option Asked) E
    → RequestReaderState → Type 0
IsNextOf old (Ok (Some asked)) new = ReturnsItem false old asked new
IsNextOf old (Ok None) new = IsWaiting old.held × (new ≡ old)
IsNextOf old (Err _) new = new ≡ old

-- What comes of the bytes held, where a read found their end.
abbrev pub IsLastOf : {E : Type 0} → RequestReaderState → Result Asked E → RequestReaderState
    → Type 0
IsLastOf old (Ok asked) new = ReturnsItem true old asked new
IsLastOf old (Err _) new = new ≡ old
