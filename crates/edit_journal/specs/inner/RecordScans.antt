-- What is at the front of a journal's bytes.
use Rattle.std.specs.Prelude.{◌≡◌, ℕ, List, length}
use Rattle.edit_journal.specs.declared.record_scan.RecordScan.{RecordScan}
use Rattle.edit_journal.specs.declared.record_scan.RecordScan.TheVariants.{Whole, Torn, Damaged}
use Rattle.edit_journal.specs.Records.{record_of}
use Rattle.edit_journal.specs.JournalTexts.{BeginsWithRecord, HasNoRecord, IsTorn, IsDamaged}

-- a complete record of n bytes; or a torn one, or nothing; or bytes that begin none
abbrev pub IsRecordScan : List ℕ → RecordScan → Type 0
IsRecordScan bytes (Whole request len) =
    (rest : List ℕ) × BeginsWithRecord bytes request rest × (len ≡ length (record_of request))
IsRecordScan bytes Torn = HasNoRecord bytes × IsTorn bytes
IsRecordScan bytes Damaged = IsDamaged bytes
