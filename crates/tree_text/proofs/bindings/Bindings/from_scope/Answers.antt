use Rattle.std.proofs.Common.{List, Bor, [], ◌∷◌, ◌++◌, sym, ap, ap₂, ◌∙◌}
use Rattle.std.proofs.lemmas.List.{map_more}
use Rattle.xml_names.specs.declared.names.Decl.{Decl}
use Rattle.tree_text.proofs.bindings.Bindings.from_scope.Goals as goal

pub loop-decls-preserved : goal.loop-decls-preserved
loop-decls-preserved c =
    let all = c.lists-decls-items.result.now in
    let decls = c.decls-item.result in
    record {
      kept = c.in_ok-enter.ensures.lists_in_step;
      given = c.in_ok-enter.ensures.scope_grows
          ∙ ap₂ (λ (front : List (List Decl)) (ds : List Decl). front ++ ds ∷ []) c.loop-decls.invariant.given (c.in_ok-copy_decls.ensures.equal_copy ∙ ap (λ (x : Bor (List Decl)). x.now) c.decls-item.is)
          ∙ sym (map_more (λ (x : Bor (List Decl)). x.now) all c.loop-decls.decls-index decls c.loop-decls-test.true);
    }
