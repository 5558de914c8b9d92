use Rattle.std.proofs.Common.{◌≡◌, ◌++◌, map, filter}
use Rattle.xml_names.specs.Scopes.{binds_prefix}
use Rattle.xml_names.specs.inner.DeclarationMaps.{map_decls}
use Rattle.xml_names.proofs.bindings.filter_bindings.Given as goal

abbrev pub invariant-loop-decl : goal.invariant-loop-decl
invariant-loop-decl l =
    record {
      can : (goal.iterator-loop-decl).can_next l.decl-iterator;
      finite : (goal.iterator-loop-decl).is_finite l.decl-iterator;
      so_far : l.ones.items ++ filter binds_prefix (map (λ x. x.now) l.decl-iterator) ≡ filter binds_prefix (map_decls l.found.entries);
    }
