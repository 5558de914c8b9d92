-- A journal in memory, as its callers see it. This is the project's own.
use Rattle.std.specs.Prelude.{◌≡◌, ℕ, ◌+◌, ◌/◌, ◌<◌, ◌≤◌, ◌⊎◌, nat_le, if◌then◌else◌, List, []}
use Rattle.std.specs.Prelude.{◌++◌, length, take, Contains, Result, Ok, Err}
use Rattle.xcap_io.specs.MemoryStreams.{count_plus_one}
use Rattle.edit_journal.specs.Journals.{JournalState}

-- A journal in memory.
pub record MemoryJournal : Type 0 where
  pub held : List ℕ
  -- its capacity in bytes
  pub room : ℕ
  -- the numbers of the calls that fail, counted from 1, and how many calls there were; that number
  -- stops at the greatest `u64`
  pub fails : List ℕ
  pub calls : ℕ
  pub faults : ℕ

-- this call is to fail
abbrev pub IsFailingCall : MemoryJournal → Type 0
IsFailingCall journal = Contains journal.fails (count_plus_one journal.calls)

-- how many bytes of the piece a failing `append` keeps: half, or none where the piece would exceed
-- the capacity
abbrev pub kept_len : MemoryJournal → List ℕ → ℕ
kept_len journal piece =
    if nat_le (length journal.held + length piece) journal.room then length piece / 2 else 0

-- `append` fails exactly at the calls that are to fail, and where the capacity would be exceeded
abbrev pub AppendsInMemory : {E : Type 0} → MemoryJournal → MemoryJournal → Result (Unit {0}) E
    → List ℕ → Type 0
AppendsInMemory old new (Ok x) piece =
    ¬ (IsFailingCall old) × (length old.held + length piece ≤ old.room)
    × (new ≡ record old { held = old.held ++ piece; calls = count_plus_one old.calls })
AppendsInMemory old new (Err e) piece =
    (IsFailingCall old ⊎ (old.room < length old.held + length piece))
    × (new ≡ record old {
      held = old.held ++ take (kept_len old piece) piece;
      calls = count_plus_one old.calls;
      faults = count_plus_one old.faults;
    })

-- `cut` fails exactly at the calls that are to fail, and then changes nothing
abbrev pub TruncatesInMemory : {E : Type 0} → MemoryJournal → MemoryJournal → Result (Unit {0}) E
    → ℕ → Type 0
TruncatesInMemory old new (Ok x) len =
    ¬ (IsFailingCall old)
    × (new ≡ record old { held = take len old.held; calls = count_plus_one old.calls })
TruncatesInMemory old new (Err e) len =
    IsFailingCall old
    × (new ≡ record old {
      calls = count_plus_one old.calls;
      faults = count_plus_one
          old.faults;
    })

-- a journal in memory as a journal, without an underlying object
abbrev pub memory_journal_state : MemoryJournal → JournalState
memory_journal_state journal = record {
  held = journal.held;
  before = [];
  faults = journal.faults;
  beneath = journal.faults;
  holds = [];
  aside = [];
}
