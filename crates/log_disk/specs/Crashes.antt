-- What a crash may leave of a folder. This is the project's own model.
use Rattle.std.specs.Prelude.{◌≡◌, ◌≤◌, ◌⊎◌, ℕ, List, ◌++◌, length, IsSomeAnd}
use Rattle.log_disk.specs.FolderStates.{FolderState}

-- What a crash at this moment may leave under the file's name: the synced bytes, and after them
-- any bytes, at most as many as writes have touched since; or the draft, whole, where it was to be
-- renamed.
abbrev pub CrashMayLeave : FolderState → List ℕ → Type 0
CrashMayLeave f file =
    ((tail : List ℕ) × (length tail ≤ f.touched) × (file ≡ f.synced ++ tail))
    ⊎ IsSomeAnd f.renamed (λ bytes. file ≡ bytes)
