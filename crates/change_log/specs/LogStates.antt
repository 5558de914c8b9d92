-- What contracts see of a log, and what a call on it may change. This is the project's own model.
use Rattle.std.specs.Prelude.{◌≡◌, ◌⊎◌, ◌<◌, ℕ, List, Bool, false, true, Option, None, Some}
use Rattle.change_log.specs.LogContents.{Contents, with_change, next_number}
use Rattle.change_log.specs.LogHistories.{History, Moment, with_open_change, without_open_change}

-- A log at one moment.
pub record LogState : Type 0 where
  pub history : History
  -- whether a snapshot was written since it was opened: then changes can be appended
  pub is_begun : Bool
  -- whether a snapshot is being written
  pub has_draft : Bool
  -- whether a sync or a rename has failed: every later call is refused
  pub is_stopped : Bool
  -- how many calls beneath have failed
  pub faults : ℕ

-- all that was acknowledged
abbrev pub kept_contents : LogState → Contents
kept_contents s = s.history.now.kept

-- The append failed: the change is not there, or may be; so may an earlier one whose append failed.
abbrev pub FailsToAppend : List ℕ → Moment → Moment → Type 0
FailsToAppend change old new =
    (new ≡ without_open_change old) ⊎ ((new ≡ old) ⊎ (new ≡ with_open_change change old))

-- the call failed because a call beneath did, now or earlier
abbrev pub HasCause : LogState → LogState → Type 0
HasCause old new = (old.is_stopped ≡ true) ⊎ (old.faults < new.faults)
