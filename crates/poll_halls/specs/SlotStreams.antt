-- What a hall over sockets does with the stream of a connection. This is the project's own.
use Rattle.std.specs.Prelude.{◌≡◌, ℕ, List, take, Option, None, Some, Result, Ok, Err, IsErr}
use Rattle.std.specs.Io.KnownBytes.{Appends, Consumes, IsAtEnd, Keeps}
use Rattle.halls.specs.declared.hall.Progress.{Progress}
use Rattle.halls.specs.declared.hall.Progress.TheVariants.{Moved, Blocked}
use Rattle.poll_halls.specs.declared.slot.Slot.{Slot}

module _ {S E : Type 0} where
  -- The bytes of a read come from the stream, as far as it shows its bytes.
  abbrev pub ReadsFromStream : (S → Option (List ℕ)) → S → S → Result Progress E → List ℕ → Type 0
  ReadsFromStream remaining old new (Ok (Moved count)) buf =
      Consumes (remaining old) (remaining new) (take count buf)
      × (count ≡ 0 → IsAtEnd (remaining new))
  ReadsFromStream remaining old new (Ok Blocked) buf = Keeps (remaining old) (remaining new)
  ReadsFromStream remaining old new (Err e) buf = Keeps (remaining old) (remaining new)

  -- The bytes of a write go to the stream, as far as it shows its bytes.
  abbrev pub WritesToStream : (S → Option (List ℕ)) → S → S → Result Progress E → List ℕ → Type 0
  WritesToStream contents old new (Ok (Moved count)) piece =
      Appends (contents old) (contents new) (take count piece)
  WritesToStream contents old new (Ok Blocked) piece = Keeps (contents old) (contents new)
  WritesToStream contents old new (Err e) piece = Keeps (contents old) (contents new)

  -- A read without a stream fails, and no stream comes or goes.
  abbrev pub ReadsSlot : (S → Option (List ℕ)) → Option (Slot S) → Option (Slot S)
      → Result Progress E → List ℕ → Type 0
  ReadsSlot remaining None new result buf = (new ≡ None) × IsErr result
  ReadsSlot remaining (Some old) None result buf = ⊥
  ReadsSlot remaining (Some old) (Some new) result buf =
      ReadsFromStream remaining old.stream new.stream result buf

  -- A write without a stream fails, and no stream comes or goes.
  abbrev pub WritesSlot : (S → Option (List ℕ)) → Option (Slot S) → Option (Slot S)
      → Result Progress E → List ℕ → Type 0
  WritesSlot contents None new result piece = (new ≡ None) × IsErr result
  WritesSlot contents (Some old) None result piece = ⊥
  WritesSlot contents (Some old) (Some new) result piece =
      WritesToStream contents old.stream new.stream result piece
