use Rattle.std.proofs.Common.{List, ◌++◌, take}
use Rattle.xml_names.specs.declared.names.Decl.{Decl}
use Rattle.tree_text.specs.readers.Bindings.{RepresentsDecls}
use Rattle.tree_text.proofs.namespaces.Namespaces.declare_each.Given as goal

abbrev pub invariant-loop-decl : goal.invariant-loop-decl
invariant-loop-decl l = (ds : List Decl) → RepresentsDecls l.initial.self ds → RepresentsDecls l.self (ds ++ take l.decl-index l.decls)
