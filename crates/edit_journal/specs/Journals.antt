-- What contracts see of a journal, and what a call on it may change. This is the project's own.
use Rattle.std.specs.Prelude.{◌≡◌, ℕ, ◌≤◌, ◌⊎◌, List, ◌++◌, take, Result, MatchResult}
use Rattle.std.specs.Borrow.{GName}
use Rattle.xcap_io.specs.StreamStates.{HiddenState, CountRises, CountsFaults}

-- A journal at one moment.
pub record JournalState : Type 0 where
  -- the bytes in the journal
  pub held : List ℕ
  -- the bytes before them in the underlying object
  pub before : List ℕ
  -- how many calls failed
  pub faults : ℕ
  -- the number of faults of the underlying object
  pub beneath : ℕ
  -- the references inside the journal, by name, and what it hides of the underlying object
  pub holds : List GName
  pub aside : List HiddenState

-- Only calls on the journal happened between the two states, if anything did. No counter falls,
-- and the first fault has a cause in the underlying object. The bytes before the journal's, its
-- references and what it hides are unchanged.
pub record IsJournalProgress (old new : JournalState) : Type 0 where
  pub later : old.faults ≤ new.faults
  pub later_beneath : old.beneath ≤ new.beneath
  pub cause : old.faults ≡ 0 → (new.faults ≡ 0) ⊎ CountRises old.beneath new.beneath
  pub same_before : new.before ≡ old.before
  pub same_holds : new.holds ≡ old.holds
  pub same_aside : new.aside ≡ old.aside

-- the bytes are a prefix of these, or all of them
abbrev pub IsPrefixOf : List ℕ → List ℕ → Type 0
IsPrefixOf bytes all = (more : List ℕ) × (all ≡ bytes ++ more)

-- a prefix of the piece, perhaps empty or all of it, was appended
abbrev pub AppendsPrefix : List ℕ → List ℕ → List ℕ → Type 0
AppendsPrefix old new piece = (some : List ℕ) × IsPrefixOf some piece × (new ≡ old ++ some)

-- The piece was appended, or at a failure a prefix of it; it failed only where the fault counter
-- rose.
pub record AppendsPiece {E : Type 0} (old new : JournalState) (result : Result (Unit {0}) E)
    (piece : List ℕ) : Type 0 where
  pub added : MatchResult result (λ _. new.held ≡ old.held ++ piece) (λ _.
      AppendsPrefix old.held new.held piece)
  pub counts : CountsFaults old.faults new.faults result
  pub goes : IsJournalProgress old new

-- a prefix of what was there is kept, of at least n bytes
abbrev pub KeepsFirstBytes : List ℕ → List ℕ → ℕ → Type 0
KeepsFirstBytes old new len = (count : ℕ) × (len ≤ count) × (new ≡ take count old)

-- The first `len` bytes were kept, or at a failure more of them; it failed only where the fault
-- counter rose.
pub record TruncatesJournal {E : Type 0} (old new : JournalState) (result : Result (Unit {0}) E)
    (len : ℕ) : Type 0 where
  pub kept : MatchResult result (λ _. new.held ≡ take len old.held) (λ _.
      KeepsFirstBytes old.held new.held len)
  pub counts : CountsFaults old.faults new.faults result
  pub goes : IsJournalProgress old new
