-- The bytes of an old journal that were read and not used yet.
use Rattle.std.specs.Prelude.{◌≡◌, ℕ, ◌+◌, Bool, true, false, ◌<◌, List, [], ◌∷◌, ◌++◌, length}
use Rattle.std.specs.Prelude.{Option, None, Some, Result, Ok, Err}
use Rattle.http_wire.specs.declared.request.Request.{Request}
use Rattle.xcap_io.specs.StreamStates.{InputState}
use Rattle.xcap_io.specs.StreamTraffic.{GivesBytes, IsEnded}
use Rattle.edit_journal.specs.declared.read_buffer.FillResult.{FillResult}
use Rattle.edit_journal.specs.declared.read_buffer.FillResult.TheVariants.{Some as Came, End}
use Rattle.edit_journal.specs.declared.read_buffer.FillResult.TheVariants.{Beyond}
use Rattle.edit_journal.specs.declared.journal_restart.RestartFault.{RestartFault}
use Rattle.edit_journal.specs.declared.journal_restart.RestartFault.TheVariants.{Damaged, NoMemory}
use Rattle.edit_journal.specs.declared.limits.TheConstants.{MAX_JOURNAL_BYTES}
use Rattle.edit_journal.specs.JournalTexts.{BeginsWithRecord, HasNoRecord, IsTorn, IsDamaged}

-- the bytes, and how many were read so far, with those that were used
pub record ReadBufferState : Type 0 where
  pub held : List ℕ
  pub taken : ℕ

-- with these bytes appended
abbrev pub with_bytes : ReadBufferState → List ℕ → ReadBufferState
with_bytes read_buffer bytes =
    record { held = read_buffer.held ++ bytes; taken = read_buffer.taken + length bytes }

-- The result of reading more: bytes; the end; or, at the limit of an old journal, one byte more;
-- or the read failed.
abbrev pub FillsReadBuffer : {E : Type 0} → ReadBufferState → ReadBufferState → InputState
    → InputState
    → Result FillResult E → Type 0
FillsReadBuffer old new source source' (Ok Came) =
    (bytes : List ℕ) × (0 < length bytes) × GivesBytes source source' bytes
    × (new ≡ with_bytes old bytes)
FillsReadBuffer old new source source' (Ok End) =
    GivesBytes source source' [] × IsEnded source' × (new ≡ old)
FillsReadBuffer old new source source' (Ok Beyond) =
    ((byte : ℕ) × GivesBytes source source' (byte ∷ [])) × (old.taken ≡ MAX_JOURNAL_BYTES)
    × (new ≡ old)
FillsReadBuffer old new source source' (Err e) = (source' ≡ source) × (new ≡ old)

-- the record at the front was taken out, or none is complete, or the bytes from this offset on
-- begin none
abbrev pub TakesRecord : ReadBufferState → ReadBufferState → ℕ
    → Result (Option Request) RestartFault → Type 0
TakesRecord old new place (Ok (Some request)) =
    BeginsWithRecord old.held request new.held × (new.taken ≡ old.taken)
TakesRecord old new place (Ok None) = HasNoRecord old.held × IsTorn old.held × (new ≡ old)
TakesRecord old new place (Err (Damaged at)) = IsDamaged old.held × (at ≡ place) × (new ≡ old)
TakesRecord old new place (Err NoMemory) = new ≡ old
TakesRecord old new place (Err other) = ⊥

-- the source has ended, or gave one byte more
abbrev pub ReportsEnd : {E : Type 0} → InputState → InputState → Result Bool E → Type 0
ReportsEnd source source' (Ok true) = GivesBytes source source' [] × IsEnded source'
ReportsEnd source source' (Ok false) = (byte : ℕ) × GivesBytes source source' (byte ∷ [])
ReportsEnd source source' (Err e) = source' ≡ source
