use Rattle.std.proofs.Common.{List, sym, ap, ◌∙◌}
use Rattle.xml_names.specs.declared.names.Decl.{Decl}
use Rattle.patch_rules.specs.PatchOperations.{names_agree}
use Rattle.patch_apply.proofs.Sites.{scope_above, there_above}
use Rattle.patch_apply.proofs.edits.names_agree_around.Goals as goal

pub names_agree_at-requires : goal.names_agree_at-requires
names_agree_at-requires c = record { place_exists = there_above c.args.path.now c.in-Some.parent _ c.args.tree.now (c.in-Some.ensures {u = tt}).path_parts c.requires.place_exists }

pub returns-in-Some : goal.returns-in-Some
returns-in-Some c = record {
  exact =
      c.names_agree_at.ensures.exact
      ∙ ap (λ (s : List (List Decl)). names_agree c.args.here.now s c.args.operation.now.content) (sym (scope_above c.args.path.now c.in-Some.parent _ c.args.tree.now (c.in-Some.ensures {u = tt}).path_parts));
}
