use Rattle.std.proofs.Common.{◌≡◌, ℕ, ◌≤◌, List, Some, vec_len, if◌then◌else◌}
use Rattle.std.specs.Set.{is_member}
use Rattle.std.specs.Str.{bytes_eq}
use Rattle.indexmap.specs.IndexMap.{spare}
use Rattle.store_core.specs.inner.StoreMemory.{registered_number}
use Rattle.store_core.proofs.registry.register_addresses.Given as goal

abbrev pub invariant-each : goal.invariant-each
invariant-each l = record {
  room : vec_len l.uris ≤ spare l.registry;
  rest : (uri : List ℕ) → (if is_member bytes_eq l.uris.items uri then Some l.number else registered_number l.registry.entries uri) ≡ (if is_member bytes_eq l.fn.uris.items uri then Some l.number else registered_number l.fn.registry.entries uri);
}

abbrev pub decreases-each : goal.decreases-each
decreases-each l = vec_len l.uris
