-- The result of resolving names: what they mean, or the place of the first one whose prefix isn't
-- bound.
use Rattle.std.specs.Prelude.{◌≡◌, ℕ, Option, None, Some, Result, Ok, Err}
use Rattle.node_select.specs.declared.name_resolution.Unresolved.{Unresolved}
use Rattle.node_select.specs.declared.name_resolution.Unresolved.TheVariants.{Prefix, Memory}

abbrev pub IsUnresolvedAt : Option ℕ → Unresolved → Type 0
IsUnresolvedAt unbound (Prefix n) = unbound ≡ Some n
IsUnresolvedAt unbound Memory = Unit {0}

abbrev pub IsResolvedAs : {A : Type 0} → Option ℕ → A → Result A Unresolved → Type 0
IsResolvedAs unbound value (Ok v) = (unbound ≡ None) × (v ≡ value)
IsResolvedAs unbound value (Err why) = IsUnresolvedAt unbound why
