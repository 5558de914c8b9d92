use Rattle.std.proofs.Common.{List, ◌++◌}
use Rattle.xml_names.specs.declared.names.Decl.{Decl}
use Rattle.tree_text.specs.readers.Bindings.{RepresentsDecls}
use Rattle.tree_text.proofs.namespaces.Namespaces.undeclare_each.Given as goal

abbrev pub invariant-loop-decl : goal.invariant-loop-decl
invariant-loop-decl l =
    record {
      can : (goal.iterator-loop-decl).can_next l.decl-iterator;
      finite : (goal.iterator-loop-decl).is_finite l.decl-iterator;
      left : (ds : List Decl) → RepresentsDecls l.fn.self (ds ++ l.fn.decls) → RepresentsDecls l.self (ds ++ l.decl-iterator.iter.rest.now);
    }
