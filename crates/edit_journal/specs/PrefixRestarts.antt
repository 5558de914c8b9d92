-- What a restart from a prefix of a journal does. This is the project's own.
use Rattle.std.specs.Prelude.{◌≡◌, ℕ, List, ◌∷◌, ◌++◌, Result, Ok, Err}
use Rattle.http_wire.specs.declared.request.Request.{Request}
use Rattle.edit_journal.specs.JournalLogs.{LogState}
use Rattle.edit_journal.specs.declared.journal_restart.RestartFault.{RestartFault}
use Rattle.edit_journal.specs.declared.journal_restart.RestartFault.TheVariants.{ReadFailed}
use Rattle.edit_journal.specs.declared.journal_restart.RestartFault.TheVariants.{AppendFailed}
use Rattle.edit_journal.specs.declared.journal_restart.RestartFault.TheVariants.{Damaged, Refused}
use Rattle.edit_journal.specs.declared.journal_restart.RestartFault.TheVariants.{TooLong, NoMemory}
use Rattle.edit_journal.specs.JournalPrefixes.{IsJournalPrefix}

-- All requests, of whose text these bytes are a prefix; those that a restart replayed, and those
-- that it left; and the rest of the bytes.
pub record ReplayedPrefix : Type 0 where
  pub all : List Request
  pub bytes : List ℕ
  pub done : List Request
  pub left : List Request
  pub rest : List ℕ

-- S is the type of the states that the requests are replayed on.
module _ {S : Type 0} (refuses : S → Request → Type 0) where
  -- the bytes break off after the requests that were replayed
  abbrev IsReplayedPrefix : ReplayedPrefix → Type 0
  IsReplayedPrefix prefix =
      IsJournalPrefix prefix.all prefix.bytes prefix.done prefix.left prefix.rest

  -- How a restart ended from these bytes. The replayed requests are exactly those complete in the
  -- bytes where it read all that it reads, or all that was given. It never finds damage, and it
  -- stops at a request only where that is refused after the ones before it.
  abbrev pub RestartEndsAfter : ReplayedPrefix → S → Result LogState RestartFault → Type 0
  RestartEndsAfter prefix replayer (Ok log) = IsReplayedPrefix prefix
  RestartEndsAfter prefix replayer (Err ReadFailed) = IsReplayedPrefix prefix
  RestartEndsAfter prefix replayer (Err TooLong) = IsReplayedPrefix prefix
  RestartEndsAfter prefix replayer (Err AppendFailed) = prefix.all ≡ prefix.done ++ prefix.left
  RestartEndsAfter prefix replayer (Err (Damaged place)) = ⊥
  RestartEndsAfter prefix replayer (Err (Refused number)) =
      (prefix.all ≡ prefix.done ++ prefix.left)
      × ((next : Request) × (others : List Request)
      × (prefix.left ≡ next ∷ others) × refuses replayer next)
  RestartEndsAfter prefix replayer (Err NoMemory) = prefix.all ≡ prefix.done ++ prefix.left
