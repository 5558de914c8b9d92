use Rattle.std.proofs.Common.{List, [], ◌∷◌, ◌++◌, map, sym, ap, ◌∙◌, subst}
use Rattle.std.proofs.lemmas.List.{map-append}
use Rattle.xml_names.specs.declared.names.Decl.{Decl}
use Rattle.xml_names.specs.Scopes.{scope_decls}
use Rattle.tree_text.specs.readers.Bindings.{RepresentsDecls, lists}
use Rattle.tree_text.proofs.StackLemmas.{scope_decls-more}
use Rattle.tree_text.proofs.bindings.Bindings.enter.Goals as goal

pub returns-clause-lists_in_step : goal.returns-clause-lists_in_step
returns-clause-lists_in_step c =
    let around = lists c.args.self.now in
    let whole = ap (map (λ ds. ds.items)) c.in_ok-push.ensures.items ∙ map-append _ c.args.self.now.open.items (c.args.decls ∷ []) in
    subst (RepresentsDecls c.declare_all.new.self)
    (ap (λ (ds : List Decl). scope_decls around ++ ds) c.deref.ensures.value ∙ sym (scope_decls-more around c.args.decls.items) ∙ ap scope_decls (sym whole))
    (c.in_ok-declare_all.ensures.holds_every (scope_decls around) c.requires)
