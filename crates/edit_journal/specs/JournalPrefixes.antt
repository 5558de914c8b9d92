-- Which requests are complete in a prefix of a journal. This is the project's own.
use Rattle.std.specs.Prelude.{◌≡◌, ℕ, ◌↔◌, ◌<◌, ◌≤◌, List, [], ◌∷◌, ◌++◌, length}
use Rattle.http_wire.specs.declared.request.Request.{Request}
use Rattle.edit_journal.specs.Journals.{IsPrefixOf}
use Rattle.edit_journal.specs.Records.{record_of}
use Rattle.edit_journal.specs.JournalTexts.{journal_text}

-- nothing, where no request is left; else a proper prefix of the next request's record, perhaps
-- empty
abbrev pub IsTornNextRecord : List Request → List ℕ → Type 0
IsTornNextRecord [] rest = rest ≡ []
IsTornNextRecord (next ∷ left) rest =
    IsPrefixOf rest (record_of next) × (length rest < length (record_of next))

-- The bytes, a prefix of the text of all requests, are the records of the first of these, and a
-- torn rest; the others are left. The records of the first k requests fit the bytes exactly where
-- k is at most the number of those.
pub record IsJournalPrefix (all : List Request) (bytes : List ℕ) (first left : List Request)
    (rest : List ℕ) : Type 0 where
  pub requests : all ≡ first ++ left
  pub records : bytes ≡ journal_text first ++ rest
  pub torn : IsTornNextRecord left rest
  pub within : (some others : List Request) → all ≡ some ++ others
      → (length (journal_text some) ≤ length bytes) ↔ (length some ≤ length first)
