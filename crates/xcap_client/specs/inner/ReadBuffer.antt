-- What is sought in the bytes that were read so far.
use Rattle.std.specs.Prelude.{ℕ, List, ◌++◌, ◌≡◌, ◌<◌, ◌⊎◌, length, drop, Option, None, Some}
use Rattle.xcap_client.specs.ResponseHeads.{HasNoHead, BeginsWithHead}
use Rattle.xcap_io.specs.StreamStates.{InputState}
use Rattle.xcap_io.specs.StreamTraffic.{IsEnded}
use Rattle.httparse.specs.Grammar.{ResponseHead}
use Rattle.httparse.specs.Spans.{IsResponseAt, IsResponseWithin}
use Rattle.httparse.specs.declared.spans.HeaderSpan.{HeaderSpan}
use Rattle.httparse.specs.declared.spans.ResponseSpans.{ResponseSpans}
use Rattle.xcap_client.specs.declared.head_scan.HeadScan.{HeadScan}
use Rattle.xcap_client.specs.declared.head_scan.HeadScan.TheVariants.{Head, Open, Hopeless}
use Rattle.http_wire.specs.declared.limits.TheConstants.{MAX_HEAD_BYTES}

-- no prefix is a head, whatever follows the bytes
abbrev pub NeverHasHead : List ℕ → Type 0
NeverHasHead bytes = (more : List ℕ) → HasNoHead (bytes ++ more)

-- the spans cover the parts of the head at the front
pub record IsHeadAt (bytes : List ℕ) (headers : List HeaderSpan) (spans : ResponseSpans)
    (head : ResponseHead) : Type 0 where
  pub begins : BeginsWithHead bytes head (drop spans.len bytes)
  pub within : IsResponseWithin bytes headers spans
  pub parts : IsResponseAt bytes headers spans head

-- the result of a search for a head at the front of some bytes
abbrev pub IsHeadScan : List ℕ → List HeaderSpan → HeadScan → Type 0
IsHeadScan bytes headers (Head spans) = (head : ResponseHead) × IsHeadAt bytes headers spans head
IsHeadScan bytes headers Open = HasNoHead bytes × (length bytes < MAX_HEAD_BYTES)
IsHeadScan bytes headers Hopeless = NeverHasHead bytes

-- there is a head at the front, or none however the bytes go on, or none as a read found their end
abbrev pub IsHeadOrNone : List ℕ → InputState → List HeaderSpan → Option ResponseSpans → Type 0
IsHeadOrNone held source headers (Some spans) =
    (head : ResponseHead) × IsHeadAt held headers spans head
IsHeadOrNone held source headers None = NeverHasHead held ⊎ (HasNoHead held × IsEnded source)

-- this is the value of `f` on the bytes given, however they go on, or as a read found their end
abbrev pub SettlesValue : {A : Type 0} → (List ℕ → A) → List ℕ → InputState → A → Type 0
SettlesValue f given source value =
    ((more : List ℕ) → f (given ++ more) ≡ value) ⊎ ((f given ≡ value) × IsEnded source)
