-- How far the next item was read, and what is held then.
use Rattle.std.specs.Prelude.{◌≡◌, ℕ, ◌+◌, ◌<◌, ◌≤◌, Bool, true, false, List, [], ◌++◌, length}
use Rattle.std.specs.Prelude.{take, drop, Ok, if◌then◌else◌}
use Rattle.httparse.specs.declared.spans.HeaderSpan.{HeaderSpan}
use Rattle.httparse.specs.declared.spans.RequestSpans.{RequestSpans}
use Rattle.http_wire.specs.declared.framing.Framing.TheVariants.{Length, Chunked}
use Rattle.http_wire.specs.declared.limits.TheConstants.{MAX_BODY_BYTES, MAX_HELD_BYTES}
use Rattle.http_wire.specs.declared.limits.TheConstants.{MAX_REQUESTS}
use Rattle.http_wire.specs.declared.request.Asked.{Asked}
use Rattle.http_wire.specs.declared.request.Asked.TheVariants.{Request as Requested}
use Rattle.http_wire.specs.NextRequests.{RequestReaderState, IsReaderStateAfter}
use Rattle.http_wire.specs.Heads.{HasNoHead}
use Rattle.http_wire.specs.inner.ChunkDecoder.{Decoding, initial_decoding, is_settled, DecodesBytes}
use Rattle.http_wire.specs.inner.ReadBuffer.{BeginsWithBody, IsFramedHeadAt}
use Rattle.http_feed.specs.declared.item_reader.ReadPlace.{ReadPlace}
use Rattle.http_feed.specs.declared.item_reader.ReadPlace.TheVariants.{Head, Body, Chunks}
use Rattle.http_feed.specs.declared.item_reader.ReadStep.{ReadStep}
use Rattle.http_feed.specs.declared.item_reader.ReadStep.TheVariants.{Item, Open}
use Rattle.http_feed.specs.Feeds.{IsDecided, IsWaiting}
use Rattle.http_feed.specs.inner.Buffers.{ReadBufferState, ChunkDataState, no_bytes}

-- a head is at the front whose fields say that the body has this length
pub record IsInBody (head len : ℕ) (bytes given : List ℕ) : Type 0 where
  pub headers : List HeaderSpan
  pub spans : RequestSpans
  pub opens : IsFramedHeadAt bytes headers spans (Length len)
  pub size : spans.len ≡ head
  pub short : len ≤ MAX_BODY_BYTES
  pub same : given ≡ bytes

-- A head is at the front whose fields say that the body is chunked; these bytes after it were
-- decoded and freed, and the others are still there.
pub record IsInChunks (head : ℕ) (bytes : List ℕ) (decoding : Decoding) (given : List ℕ)
    : Type 0 where
  pub raw : List ℕ
  pub headers : List HeaderSpan
  pub spans : RequestSpans
  pub opens : IsFramedHeadAt (take head bytes) headers spans Chunked
  pub size : spans.len ≡ head
  pub inside : head ≤ length bytes
  pub split : given ≡ take head bytes ++ (raw ++ drop head bytes)
  pub reads : DecodesBytes initial_decoding raw decoding

-- At this place, with these bytes in the buffer, those given and not used yet are these.
abbrev pub HoldsBytes : ReadPlace → List ℕ → Decoding → List ℕ → Type 0
HoldsBytes (Head seen) bytes decoding given =
    (seen ≤ length bytes) × HasNoHead (take seen bytes) × (given ≡ bytes)
HoldsBytes (Body head len) bytes decoding given = IsInBody head len bytes given
HoldsBytes (Chunks head) bytes decoding given =
    IsInChunks head bytes decoding given × (is_settled decoding.stage ≡ false)

-- what the reading rests on, where it goes on from this place
abbrev pub IsReachablePlace : ReadPlace → List ℕ → Type 0
IsReachablePlace (Head seen) bytes = (seen ≤ length bytes) × HasNoHead (take seen bytes)
IsReachablePlace (Body head len) bytes = len ≤ MAX_BODY_BYTES
IsReachablePlace (Chunks head) bytes = head ≤ length bytes

-- a head is at the front whose fields say that the body is chunked, and the body is complete after
-- it, up to a place in the bytes that are still there
pub record HasWholeChunks (head used : ℕ) (bytes body given : List ℕ) : Type 0 where
  pub raw : List ℕ
  pub headers : List HeaderSpan
  pub spans : RequestSpans
  pub opens : IsFramedHeadAt (take head bytes) headers spans Chunked
  pub size : spans.len ≡ head
  pub inside : head + used ≤ length bytes
  pub split : given ≡ take head bytes ++ raw
  pub has : BeginsWithBody raw body (drop (head + used) bytes)

-- An item is decided by the bytes given; or none is complete, and they are held on, in less than a
-- full buffer.
abbrev pub AnswersStep : ℕ → List ℕ → ReadStep → List ℕ → Decoding → Type 0
AnswersStep before given (Item asked) bytes decoding = IsDecided before given false asked bytes
AnswersStep before given (Open place) bytes decoding =
    IsWaiting given × HoldsBytes place bytes decoding given × (length bytes < MAX_HELD_BYTES)

-- The parts of a feed agree with what its reader is: the buffers hold what was given and not used
-- yet; the last request of a connection spends it, and a spent one holds nothing.
pub record ArePartsOfFeed (place : ReadPlace) (held : ReadBufferState) (chunks : ChunkDataState)
    (reader : RequestReaderState) : Type 0 where
  pub holds : HoldsBytes place held.bytes chunks.decoding reader.held
  pub fewer : reader.spent ≡ false → reader.requests < MAX_REQUESTS
  pub none : reader.spent ≡ true
      → (reader.held ≡ []) × (held ≡ no_bytes) × (chunks.capacity ≡ 0)

-- a request that doesn't close isn't the last one that a connection may have
abbrev pub LeavesRequests : ℕ → Asked → Type 0
LeavesRequests before (Requested request) = request.closes ≡ false → before + 1 < MAX_REQUESTS
LeavesRequests before _ = Unit {0}

-- the item was counted, and a feed that is spent then holds nothing
pub record IsCounted (old : RequestReaderState) (asked : Asked) (new : RequestReaderState)
    : Type 0 where
  pub held : new.held ≡ (if new.spent then [] else old.held)
  pub after : IsReaderStateAfter {E = Unit {0}} old (Ok asked) new
