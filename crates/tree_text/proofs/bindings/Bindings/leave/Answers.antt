use Rattle.std.proofs.Common.{◌≡◌, List, [], ◌∷◌, ◌++◌, map, sym, ap, ◌∙◌, subst}
use Rattle.std.specs.Option.{option_to_list}
use Rattle.std.proofs.lemmas.List.{map-append}
use Rattle.xml_names.specs.declared.names.Decl.{Decl}
use Rattle.xml_names.specs.Scopes.{scope_decls}
use Rattle.tree_text.specs.readers.Bindings.{RepresentsDecls, lists}
use Rattle.tree_text.proofs.StackLemmas.{scope_decls-more}
use Rattle.tree_text.proofs.bindings.Bindings.leave.Goals as goal

pub returns-clause-lists_in_step : goal.returns-clause-lists_in_step
returns-clause-lists_in_step c =
    let left : List (List Decl) = map (λ ds. ds.items) c.pop.new.self.items in
    let decls = c.unwrap-decls.result in
    let popped = c.pop.ensures.items ∙ ap (λ o. c.pop.new.self.items ++ option_to_list o) c.unwrap-decls.ensures in
    let whole : lists c.args.self.now ≡ left ++ decls.items ∷ [] = ap (map (λ ds. ds.items)) popped ∙ map-append _ c.pop.new.self.items (decls ∷ []) in
    c.undeclare_all.ensures.holds_earlier (scope_decls left)
    (subst (RepresentsDecls c.args.self.now.namespaces) (ap scope_decls whole ∙ scope_decls-more left decls.items ∙ ap (λ (ds : List Decl). scope_decls left ++ ds) (sym c.deref.ensures.value))
    c.requires.namespaces_in_step)
