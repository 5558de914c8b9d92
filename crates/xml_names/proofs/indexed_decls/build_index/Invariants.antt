use Rattle.std.proofs.Common.{◌≡◌, ◌++◌, [], map}
use Rattle.xml_names.specs.inner.DeclarationMaps.{with_sorted_decls}
use Rattle.xml_names.proofs.indexed_decls.build_index.Given as goal

abbrev pub invariant-loop-decl : goal.invariant-loop-decl
invariant-loop-decl l =
    record {
      can : (goal.iterator-loop-decl).can_next l.decl-iterator;
      finite : (goal.iterator-loop-decl).is_finite l.decl-iterator;
      so_far : map (λ x. x.now) l.index.items ++ map (λ x. x.now) l.decl-iterator ≡ with_sorted_decls [] l.decls;
    }
