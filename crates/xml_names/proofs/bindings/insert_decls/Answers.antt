use Rattle.std.proofs.Common.{◌+◌, drop, sym, ap, ◌∙◌}
use Rattle.xml_names.specs.inner.DeclarationMaps.{with_sorted_decls, map_decls}
use Rattle.xml_names.proofs.ScopeLemmas.{drop_item}
use Rattle.xml_names.proofs.GatheringLemmas.{values-insert, AreKeyed-insert}
use Rattle.xml_names.proofs.bindings.insert_decls.Goals as goal

pub loop-decl-preserved : goal.loop-decl-preserved
loop-decl-preserved c =
    let es = c.loop-decl.found.entries in let ds = c.args.decls.now in let i = c.loop-decl.decl-index in
    let made = (c.in_ok-insert.ensures {u = tt}).entries in
    record {
      keyed = rw made (AreKeyed-insert _ _ c.as_str.ensures.utf8_bytes es c.loop-decl.invariant.keyed);
      so_far = ap (λ x. with_sorted_decls (map_decls x) (drop (i + 1) ds)) made
          ∙ ap (λ x. with_sorted_decls x (drop (i + 1) ds)) (values-insert _ _ c.as_str.ensures.utf8_bytes es c.loop-decl.invariant.keyed)
          ∙ ap (with_sorted_decls (map_decls es)) (sym (drop_item ds i c.decl-item.result c.loop-decl-test.true c.decl-item.is)) ∙ c.loop-decl.invariant.so_far;
    }
