-- The text that an input gave, and what the input did where it gave none. The project's own.
use Rattle.std.specs.Prelude.{◌≡◌, ℕ, ◌+◌, ◌≤◌, List, length, Result, Ok, Err}
use Rattle.xcap_io.specs.StreamStates.{StreamState, DiffersByReads, CountRises}
use Rattle.xcap_io.specs.StreamTraffic.{GivesBytes, IsEnded}
use Rattle.client_commands.specs.declared.inputs.InputFault.{InputFault}
use Rattle.client_commands.specs.declared.inputs.InputFault.TheVariants.{Failed, TooLong, NoMemory}

-- The input gave these bytes, without a fault, and nothing else changed.
pub record GaveBytes (bytes : List ℕ) (old new : StreamState) : Type 0 where
  pub consumed : GivesBytes old.inward new.inward bytes
  pub counts : new.read_faults ≡ old.read_faults
  pub reads : DiffersByReads old new

-- The input gave these bytes, and then failed, and its count of failed reads rose.
pub record GaveBytesAndFailed (bytes : List ℕ) (old new : StreamState) : Type 0 where
  pub consumed : GivesBytes old.inward new.inward bytes
  pub counts : CountRises old.read_faults new.read_faults
  pub reads : DiffersByReads old new

-- The input gave a whole text, which has at most `limit` bytes.
pub record GaveText (limit : ℕ) (text : List ℕ) (old new : StreamState) : Type 0 where
  pub gave : GaveBytes text old new
  pub ended : IsEnded new.inward
  pub fits : length text ≤ limit

-- The input gave a text, as a function of the result; or failed within `limit` bytes; or gave one
-- byte more than `limit`; or memory ran out, and nothing was read.
abbrev pub ReadsText : {T : Type 0} → (T → List ℕ) → ℕ → Result T InputFault → StreamState
    → StreamState → Type 0
ReadsText text limit (Ok x) old new = GaveText limit (text x) old new
ReadsText text limit (Err Failed) old new =
    (front : List ℕ) × GaveBytesAndFailed front old new × (length front ≤ limit)
ReadsText text limit (Err TooLong) old new =
    (front : List ℕ) × GaveBytes front old new × (length front ≡ limit + 1)
ReadsText text limit (Err NoMemory) old new = new ≡ old
