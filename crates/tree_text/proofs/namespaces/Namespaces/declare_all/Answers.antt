use Rattle.std.proofs.Common.{List, ◌++◌, length, sym, ap, subst, ◌∙◌, append-nil, eqb-true}
use Rattle.std.proofs.lemmas.List.{nil_from_length}
use Rattle.xml_names.specs.declared.names.Decl.{Decl}
use Rattle.tree_text.specs.readers.Bindings.{RepresentsDecls}
use Rattle.tree_text.proofs.namespaces.Namespaces.declare_all.Goals as goal

pub returns-then-is_empty : goal.returns-then-is_empty
returns-then-is_empty c = record {
  holds_every = λ ds are.
      let decls = c.args.decls.now in
      let none = nil_from_length decls (eqb-true (length decls) 0 (sym c.is_empty.ensures ∙ c.if-is_empty.true)) in
      subst (RepresentsDecls c.args.self.now) (sym (ap (λ (z : List Decl). ds ++ z) none ∙ append-nil ds)) are;
}
