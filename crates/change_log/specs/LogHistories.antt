-- What a restart finds in a log, if a crash comes at some moment. This is the project's own model.
use Rattle.std.specs.Prelude.{◌≡◌, ◌⊎◌, ℕ, List, [], ◌∷◌, ◌++◌, Option, None, Some, IsSomeAnd}
use Rattle.std.specs.List.{AllByRecursion}
use Rattle.change_log.specs.LogContents.{Contents, with_change, with_part, snapshot_of}

-- A moment: all that was acknowledged, the change that may be there besides, and the contents that
-- may be there instead.
pub record Moment : Type 0 where
  pub kept : Contents
  pub open_change : Option (List ℕ)
  pub instead : Option Contents

-- the contents that a restart from a crash at this moment may find
abbrev pub MayBeFound : Moment → Contents → Type 0
MayBeFound m c =
    (c ≡ m.kept)
    ⊎ (IsSomeAnd m.open_change (λ change. c ≡ with_change change m.kept)
    ⊎ IsSomeAnd m.instead (λ replaced. c ≡ replaced))

-- these contents are found, and no others
abbrev pub settled_moment : Contents → Moment
settled_moment c = record { kept = c; open_change = None; instead = None }

-- a change is being appended
abbrev pub with_open_change : List ℕ → Moment → Moment
with_open_change change m = record m { open_change = Some change }

-- the change whose append failed is taken back
abbrev pub without_open_change : Moment → Moment
without_open_change m = record m { open_change = None }

-- The log now, and at each moment before, the latest first; and the parts of the snapshot that is
-- being written.
pub record History : Type 0 where
  pub now : Moment
  pub past : List Moment
  pub draft : List (List ℕ)

-- the log is this next
abbrev pub with_next_moment : History → Moment → History
with_next_moment h m = record { now = m; past = h.now ∷ h.past; draft = h.draft }

-- this was done to the log
abbrev pub with_step : History → (Moment → Moment) → History
with_step h step = with_next_moment h (step h.now)

-- nothing was done before the log was opened; a restart found these contents
abbrev pub history_from : Contents → History
history_from c = record { now = settled_moment c; past = []; draft = [] }

-- a step of the snapshot that is being written, whose parts are these then
abbrev pub with_draft : List (List ℕ) → History → History
with_draft parts h = record { now = h.now; past = h.now ∷ h.past; draft = parts }

-- the snapshot, with this number of the first change, may be there instead
abbrev pub with_possible_snapshot : ℕ → History → History
with_possible_snapshot first h =
    with_next_moment h (record h.now { instead = Some (snapshot_of h.draft first) })

-- the snapshot is there
abbrev pub with_snapshot : ℕ → History → History
with_snapshot first h = with_next_moment h (settled_moment (snapshot_of h.draft first))

-- the change is there
abbrev pub with_appended_change : List ℕ → Moment → Moment
with_appended_change change m = settled_moment (with_change change m.kept)

-- what a restart finds has P, whenever the crash comes between the two
pub record HoldsAtEachMoment (P : Contents → Type 0) (old new : History) : Type 0 where
  pub moments : List Moment
  pub split : new.now ∷ new.past ≡ moments ++ old.now ∷ old.past
  pub each : AllByRecursion (λ m. (c : Contents) → MayBeFound m c → P c) moments

-- a restart finds what it found before, or these contents
abbrev pub IsFoundBeforeOr : History → Contents → Contents → Type 0
IsFoundBeforeOr old c found = MayBeFound old.now found ⊎ (found ≡ c)
