use Rattle.std.proofs.Common.{◌≡◌, ◌+◌, List, [], ◌∷◌, ◌++◌, take, ap, sym, subst, ◌∙◌, append_assoc}
use Rattle.std.proofs.lemmas.List.{take_all, take_more}
use Rattle.xml_names.specs.declared.names.Decl.{Decl}
use Rattle.tree_text.specs.readers.Bindings.{RepresentsDecls}
use Rattle.tree_text.proofs.namespaces.Namespaces.declare_each.Goals as goal

pub loop-decl-preserved : goal.loop-decl-preserved
loop-decl-preserved c = λ ds are.
    let before = take c.loop-decl.decl-index c.args.decls.now in
    let one : take (c.loop-decl.decl-index + 1) c.args.decls.now ≡ before ++ c.decl-item.result ∷ [] =
    take_more c.args.decls.now c.loop-decl.decl-index c.decl-item.result c.loop-decl-test.true ∙ ap (λ (z : Decl). before ++ z ∷ []) (sym c.decl-item.is)
    in
    subst (λ (xs : List Decl). RepresentsDecls c.declare.new.self xs) (append_assoc ds before (c.decl-item.result ∷ []) ∙ ap (λ (xs : List Decl). ds ++ xs) (sym one))
    (c.in_ok-declare.ensures.holds_one_more (ds ++ before) (c.loop-decl.invariant ds are))

pub returns : goal.returns
returns c = record {
  holds_every = λ ds are.
      subst (λ (xs : List Decl). RepresentsDecls c.loop-decl.self (ds ++ xs)) (take_all c.loop-decl.decl-index c.args.decls.now c.loop-decl-test.false) (c.loop-decl.invariant ds are);
}
