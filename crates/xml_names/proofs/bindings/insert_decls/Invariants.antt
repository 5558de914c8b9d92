use Rattle.std.proofs.Common.{◌≡◌, drop}
use Rattle.xml_names.specs.inner.DeclarationMaps.{AreKeyedByPrefix, with_sorted_decls, map_decls}
use Rattle.xml_names.proofs.bindings.insert_decls.Given as goal

abbrev pub invariant-loop-decl : goal.invariant-loop-decl
invariant-loop-decl l =
    record {
      keyed : AreKeyedByPrefix l.found.entries;
      so_far : with_sorted_decls (map_decls l.found.entries) (drop l.decl-index l.decls) ≡ with_sorted_decls (map_decls l.fn.found.entries) l.decls;
    }
