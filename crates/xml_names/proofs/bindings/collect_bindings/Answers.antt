use Rattle.std.proofs.Common.{◌+◌, drop, map, sym, ap, ◌∙◌}
use Rattle.xml_names.specs.Scopes.{scope_decls}
use Rattle.xml_names.specs.inner.DeclarationMaps.{with_sorted_decls, map_decls}
use Rattle.xml_names.proofs.ScopeLemmas.{drop_item}
use Rattle.xml_names.proofs.GatheringLemmas.{with_sorted_decls-append}
use Rattle.xml_names.proofs.bindings.collect_bindings.Goals as goal

pub loop-list-preserved : goal.loop-list-preserved
loop-list-preserved c =
    let ls = c.args.lists.now in let i = c.loop-list.list-index in let es = c.loop-list.found.entries in
    let rest = scope_decls (map (λ x. x.now) (drop (i + 1) ls)) in
    record {
      keyed = (c.in_ok-insert_decls.ensures {u = tt}).keyed_entries;
      so_far = ap (λ x. with_sorted_decls x rest) (c.in_ok-insert_decls.ensures {u = tt}).gathers_nearest ∙ sym (with_sorted_decls-append (map_decls es) c.list-item.result.now rest)
          ∙ ap (λ x. with_sorted_decls (map_decls es) (scope_decls (map (λ y. y.now) x))) (sym (drop_item ls i c.list-item.result c.loop-list-test.true c.list-item.is))
          ∙ c.loop-list.invariant.so_far;
    }
