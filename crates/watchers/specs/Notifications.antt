-- The changes of which watchers were notified, what they wrote, and which of them left. This is
-- the project's own.
use Rattle.std.specs.Prelude.{◌≡◌, ◌≢◌, ℕ, ◌+◌, ◌≤◌, List, [], ◌∷◌, ◌++◌, Option, ◌⊎◌, option_map}
use Rattle.edit_ops.specs.declared.edit.Edit.{Edit}
use Rattle.watchers.specs.WatcherStates.{WatcherState}
use Rattle.watchers.specs.WrittenLines.{WroteLineIfSeen, with_lines}
use Rattle.watchers.specs.declared.watcher.Told.{Told}
use Rattle.watchers.specs.declared.watcher.Told.TheVariants.{Kept}

-- the changes notified of, with these appended, where contracts see them
abbrev pub with_edits : Option (List Edit) → List Edit → Option (List Edit)
with_edits notified edits = option_map (λ es. es ++ edits) notified

abbrev pub with_edit : Option (List Edit) → Edit → Option (List Edit)
with_edit notified edit = with_edits notified (edit ∷ [])

-- B is the type of a watcher, of which contracts see this state.
module _ {B : Type 0} (state : B → WatcherState) where
  -- a watcher that was notified of a change and kept it
  pub record HasKeptChange (edit : Edit) (old new : B) : Type 0 where
    pub answered : (state old).answers edit Kept
    pub notified : (state new).notified_changes ≡ with_edit (state old).notified_changes edit
    pub wrote : WroteLineIfSeen (state old).written edit Kept (state new).written
    pub counts : (state old).faults ≤ (state new).faults
    pub never : (state old).never_refuses → (state new).never_refuses

  -- a watcher that was notified of a change and returned another result, and its last state
  pub record HasLeftAt (edit : Edit) (old last : B) : Type 0 where
    pub answer : Told
    pub other : answer ≢ Kept
    pub answered : (state old).answers edit answer
    pub wrote : WroteLineIfSeen (state old).written edit answer (state last).written
    pub refuses : ¬ (state old).never_refuses

  -- Each of the watchers was notified of the change, in order; those that kept it stay, in order,
  -- and the others, of this number, left.
  abbrev pub AreNotified : Edit → List B → List B → ℕ → Type 0
  AreNotified edit [] new left = (new ≡ []) × (left ≡ 0)
  AreNotified edit (b ∷ bs) new left =
      ((b' : B) × (bs' : List B)
      × (new ≡ b' ∷ bs') × HasKeptChange edit b b' × AreNotified edit bs bs' left)
      ⊎ ((last : B) × (k : ℕ) × (left ≡ k + 1) × HasLeftAt edit b last × AreNotified edit bs new k)

  -- A watcher that was notified of these changes and kept each of them: it wrote their lines, in
  -- order, and nothing else.
  pub record HasKeptAllChanges (edits : List Edit) (old new : B) : Type 0 where
    pub notified : (state new).notified_changes ≡ with_edits (state old).notified_changes edits
    pub wrote : (state new).written ≡ with_lines (state old).written edits
    pub counts : (state old).faults ≤ (state new).faults
    pub never : (state old).never_refuses → (state new).never_refuses

  -- A watcher that was notified of the first of these changes, kept each of them, and returned
  -- another result for the next one: of this it wrote what its result says, and it was notified of
  -- no further one.
  pub record HasLeftDuring (edits : List Edit) (old : B) : Type 0 where
    pub first : List Edit
    pub edit : Edit
    pub later : List Edit
    pub in_order : edits ≡ first ++ edit ∷ later
    pub before : B
    pub last : B
    pub kept : HasKeptAllChanges first old before
    pub left : HasLeftAt edit before last

  -- After such changes some of the watchers are in the list, in order, each of which kept all of
  -- them; each of the others left at one of them.
  abbrev pub RemainOrLeave : List Edit → List B → List B → Type 0
  RemainOrLeave edits [] new = new ≡ []
  RemainOrLeave edits (b ∷ bs) new =
      ((b' : B) × (bs' : List B) × (new ≡ b' ∷ bs') × HasKeptAllChanges edits b b'
      × RemainOrLeave edits bs bs')
      ⊎ (HasLeftDuring edits b × RemainOrLeave edits bs new)
