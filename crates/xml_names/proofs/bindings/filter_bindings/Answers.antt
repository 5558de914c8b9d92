use Rattle.std.proofs.Common.{◌++◌, map, filter, ap, ◌∙◌}
use Rattle.xml_names.specs.Scopes.{binds_prefix}
use Rattle.xml_names.proofs.GatheringLemmas.{map_decls-values_of}
use Rattle.xml_names.proofs.bindings.filter_bindings.Goals as goal

pub loop-decl-init : goal.loop-decl-init
loop-decl-init c =
    record {
      can = tt;
      finite = tt;
      so_far = ap (λ xs. xs ++ filter binds_prefix (map (λ x. x.now) c.into_iter-decl-iterator.result)) c.new-ones.ensures.items
          ∙ ap (λ xs. filter binds_prefix (map (λ x. x.now) xs)) (c.into_iter-decl-iterator.ensures.into_iter_gives ∙ c.values-decl-items.ensures.rest)
          ∙ ap (filter binds_prefix) (map_decls-values_of c.args.found.now.entries);
    }
