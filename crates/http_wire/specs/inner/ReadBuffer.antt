-- What reads add to the read buffer of a connection, and what is searched for in it.
use Rattle.std.specs.Prelude.{ℕ, List, ◌++◌, ◌≡◌, ◌+◌, ◌<◌, ◌≤◌, ◌⊎◌, map, length, drop, take}
use Rattle.std.specs.Prelude.{Option, None, Some, Bool, true, false, Result, Ok, Err}
use Rattle.http_wire.specs.Heads.{HasNoHead, BeginsWithHead}
use Rattle.xcap_io.specs.StreamStates.{InputState}
use Rattle.xcap_io.specs.StreamTraffic.{GivesBytes, IsEnded}
use Rattle.httparse.specs.Grammar.{RequestHead}
use Rattle.httparse.specs.Spans.{IsRequestAt, IsRequestWithin, name_and_value}
use Rattle.httparse.specs.declared.spans.HeaderSpan.{HeaderSpan}
use Rattle.httparse.specs.declared.spans.RequestSpans.{RequestSpans}
use Rattle.http_wire.specs.declared.head_scan.HeadScan.{HeadScan}
use Rattle.http_wire.specs.declared.head_scan.HeadScan.TheVariants.{Head, Open, Hopeless}
use Rattle.http_wire.specs.declared.framing.Framing.{Framing}
use Rattle.http_wire.specs.declared.framing.Framing.TheVariants.{Bad as BadFields, Coded}
use Rattle.http_wire.specs.declared.framing.Framing.TheVariants.{TooLong as LongBody, Length}
use Rattle.http_wire.specs.declared.framing.Framing.TheVariants.{Chunked}
use Rattle.http_wire.specs.declared.body_decoder.DecodeResult.{DecodeResult}
use Rattle.http_wire.specs.declared.body_decoder.DecodeResult.TheVariants.{Whole, TooLong, Bad, Cut}
use Rattle.http_wire.specs.declared.limits.TheConstants.{MAX_BODY_BYTES, MAX_HEAD_BYTES}
use Rattle.http_wire.specs.Framing.{framing}
use Rattle.http_wire.specs.inner.ChunkDecoder.{Decoding, initial_decoding, is_settled, DecodesBytes}
use Rattle.http_wire.specs.ChunkedBodies.{ChunkedBody, ReadsChunkedBody, HasNoChunkedBody}
use Rattle.http_wire.specs.ChunkedBodies.{MayBecomeChunkedBody}
use Rattle.http_wire.specs.ChunkedBodies.{ExceedsBodyLimit}
use Rattle.http_wire.specs.ChunkedBodies.{chunk_data}
use Rattle.http_wire.specs.NextRequests.{BufferedSource}
use Rattle.http_wire.specs.declared.limits.TheConstants.{MAX_HELD_BYTES}

-- no prefix of the bytes is a head, whatever follows them
abbrev pub NeverHasHead : List ℕ → Type 0
NeverHasHead bytes = (more : List ℕ) → HasNoHead (bytes ++ more)

-- the next bytes of the source were appended to the buffered ones
pub record BuffersMore (held held' : List ℕ) (source source' : InputState) : Type 0 where
  pub read : List ℕ
  pub added : held' ≡ held ++ read
  pub given : GivesBytes source source' read

-- at least one byte was added, or none because the source has ended
abbrev pub BuffersMoreOrEnds : Bool → List ℕ → List ℕ → InputState → Type 0
BuffersMoreOrEnds true held held' source' = length held < length held'
BuffersMoreOrEnds false held held' source' = (held' ≡ held) × IsEnded source'

-- n bytes are buffered, or fewer because the source has ended
abbrev pub BuffersEnoughOrEnds : Bool → ℕ → List ℕ → InputState → Type 0
BuffersEnoughOrEnds true count held source = count ≤ length held
BuffersEnoughOrEnds false count held source = (length held < count) × IsEnded source

-- the spans cover the parts of the head at the front
pub record IsHeadAt (bytes : List ℕ) (headers : List HeaderSpan) (spans : RequestSpans)
    (head : RequestHead) : Type 0 where
  pub begins : BeginsWithHead bytes head (drop spans.len bytes)
  pub within : IsRequestWithin bytes headers spans
  pub parts : IsRequestAt bytes headers spans head

-- the result of a head scan is right
abbrev pub IsHeadScanResult : List ℕ → List HeaderSpan → HeadScan → Type 0
IsHeadScanResult bytes headers (Head spans) =
    (head : RequestHead) × IsHeadAt bytes headers spans head
IsHeadScanResult bytes headers Open = HasNoHead bytes × (length bytes < MAX_HEAD_BYTES)
IsHeadScanResult bytes headers Hopeless = NeverHasHead bytes × (0 < length bytes)

-- a head is at the front, or none is possible however the bytes go on, or none because they have
-- ended
abbrev pub HasHeadOrNone : List ℕ → InputState → List HeaderSpan → Option RequestSpans → Type 0
HasHeadOrNone held source headers (Some spans) =
    (head : RequestHead) × IsHeadAt held headers spans head
HasHeadOrNone held source headers None =
    (NeverHasHead held × (0 < length held)) ⊎ (HasNoHead held × IsEnded source)

-- a head was found at the front, and its fields give this framing
pub record IsFramedHeadAt (bytes : List ℕ) (headers : List HeaderSpan) (spans : RequestSpans)
    (what : Framing) : Type 0 where
  pub head : RequestHead
  pub at : IsHeadAt bytes headers spans head
  pub framed : framing head.minor (map name_and_value head.fields) ≡ what

-- a length is within the limit
abbrev pub HasLengthWithinLimit : Framing → Type 0
HasLengthWithinLimit BadFields = Unit {0}
HasLengthWithinLimit Coded = Unit {0}
HasLengthWithinLimit LongBody = Unit {0}
HasLengthWithinLimit (Length len) = len ≤ MAX_BODY_BYTES
HasLengthWithinLimit Chunked = Unit {0}

-- the bytes begin with a complete body within the limit, and then the rest
pub record BeginsWithBody (raw body rest : List ℕ) : Type 0 where
  pub whole : ChunkedBody
  pub reads : ReadsChunkedBody raw whole rest
  pub gives : chunk_data whole.chunks ≡ body
  pub short : length body ≤ MAX_BODY_BYTES

-- no body is at the front of the bytes, and the limit isn't passed
abbrev pub HasNoBodyYet : List ℕ → Type 0
HasNoBodyYet raw = HasNoChunkedBody raw × ¬ (ExceedsBodyLimit raw)

-- the result of decoding the bytes after a head is right
abbrev pub IsDecodeResult : ℕ → List ℕ → DecodeResult → List ℕ → BufferedSource → Type 0
IsDecodeResult head raw (Whole end) body new =
    (head ≤ end) × (end ≤ length new.held) × BeginsWithBody raw body (drop end new.held)
IsDecodeResult head raw TooLong body new = ExceedsBodyLimit raw
IsDecodeResult head raw Bad body new = (more : List ℕ) → HasNoBodyYet (raw ++ more)
IsDecodeResult head raw Cut body new = HasNoBodyYet raw × IsEnded new.source

abbrev pub IsDecodeResultOrFault : {E : Type 0} → ℕ → List ℕ → Result DecodeResult E → List ℕ
    → BufferedSource → Type 0
IsDecodeResultOrFault head raw (Ok decoded) body new = IsDecodeResult head raw decoded body new
IsDecodeResultOrFault head raw (Err e) body new = MayBecomeChunkedBody raw × HasNoBodyYet raw

-- the bytes after the head were decoded as they arrived; the head itself stays buffered
pub record DecodesBody {E : Type 0} (head : ℕ) (old : BufferedSource)
    (result : Result DecodeResult E) (body : List ℕ) (new : BufferedSource) : Type 0 where
  pub read : List ℕ
  pub given : GivesBytes old.source new.source read
  pub same_head : take head new.held ≡ take head old.held
  pub inside : head ≤ length new.held
  pub outcome : IsDecodeResultOrFault head (drop head old.held ++ read) result body new

-- the loop invariant: these bytes after the head were decoded, and the bytes from an offset on are
-- still buffered
pub record DecodesBodySoFar (head : ℕ) (old : BufferedSource) (decoder : Decoding)
    (new : BufferedSource) (used : ℕ) : Type 0 where
  pub raw : List ℕ
  pub read : List ℕ
  pub given : GivesBytes old.source new.source read
  pub same_head : take head new.held ≡ take head old.held
  pub inside : head + used ≤ length new.held
  pub reads : DecodesBytes initial_decoding raw decoder
  pub split : drop head old.held ++ read ≡ raw ++ drop (head + used) new.held
  pub all : is_settled decoder.stage ≡ false → head + used ≡ length new.held
  pub room : length new.held ≤ MAX_HELD_BYTES
