use Rattle.std.proofs.Common.{List, Bor, ◌++◌, ap, ◌∙◌}
use Rattle.xml_names.specs.declared.names.Decl.{Decl}
use Rattle.xml_names.specs.inner.DeclarationMaps.{with_sorted_decls, map_decls}
use Rattle.xml_names.proofs.GatheringLemmas.{map_decls-values_of}
use Rattle.xml_names.proofs.IndexLemmas.{seen}
use Rattle.xml_names.proofs.indexed_decls.build_index.Goals as goal

pub loop-decl-init : goal.loop-decl-init
loop-decl-init c =
    let ds = c.args.decls.now in
    record {
      can = tt;
      finite = tt;
      so_far = ap (λ (made : List (Bor Decl)). seen made ++ seen c.into_iter-decl-iterator.result) c.in_ok-index.ensures.items
          ∙ ap seen (c.into_iter-decl-iterator.ensures.into_iter_gives ∙ c.values-decl-items.ensures.rest) ∙ map_decls-values_of _
          ∙ (c.in_ok-insert_decls.ensures {u = tt}).gathers_nearest ∙ ap (λ es. with_sorted_decls (map_decls es) ds) c.new-found.ensures.empty;
    }
