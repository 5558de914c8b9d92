use Rattle.std.proofs.Common.{◌≡◌, drop, map, []}
use Rattle.xml_names.specs.Scopes.{scope_decls}
use Rattle.xml_names.specs.inner.DeclarationMaps.{AreKeyedByPrefix, with_sorted_decls, map_decls}
use Rattle.xml_names.proofs.bindings.collect_bindings.Given as goal

abbrev pub invariant-loop-list : goal.invariant-loop-list
invariant-loop-list l =
    record {
      keyed : AreKeyedByPrefix l.found.entries;
      so_far : with_sorted_decls (map_decls l.found.entries) (scope_decls (map (λ x. x.now) (drop l.list-index l.lists))) ≡ with_sorted_decls [] (scope_decls (map (λ x. x.now) l.lists));
    }
