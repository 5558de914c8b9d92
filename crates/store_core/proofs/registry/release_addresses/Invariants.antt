use Rattle.std.proofs.Common.{◌≡◌, ℕ, ◌≤◌, List, None, take, if◌then◌else◌}
use Rattle.std.specs.Set.{is_member}
use Rattle.std.specs.Str.{bytes_eq}
use Rattle.indexmap.specs.IndexMap.{spare}
use Rattle.store_core.specs.inner.StoreMemory.{registered_number}
use Rattle.store_core.proofs.registry.release_addresses.Given as goal

abbrev pub invariant-loop-uri : goal.invariant-loop-uri
invariant-loop-uri l = record {
  left : (uri : List ℕ) → registered_number l.registry.entries uri ≡ (if is_member bytes_eq (take l.uri-index l.uris) uri then None else registered_number l.fn.registry.entries uri);
  room : spare l.fn.registry ≤ spare l.registry;
}
