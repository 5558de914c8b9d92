use Rattle.std.proofs.Common.{rules, sym}
use Rattle.std.proofs.lemmas.Fn.{always_returns_same}
use Rattle.xml_names.proofs.IndexLemmas.{found, not_found, to_prefix}
use Rattle.xml_names.proofs.indexed_decls.find_in_index.Goals as goal

pub returns-in-Ok : goal.returns-in-Ok
returns-in-Ok c = record {
  exact =
      let p = c.args.prefix.now in
      let is = c.in-Ok.ensures.position (to_prefix p) (always_returns_same _ _ _ (λ a r f called. search rules)) in
      sym (found p c.args.index.now c.requires c.in-Ok.place c.index-index-place.result c.in-Ok.ensures.bound (is c.index-index-place.result));
}

pub returns-in-Err : goal.returns-in-Err
returns-in-Err c = record {
  exact =
      let p = c.args.prefix.now in
      let parts = c.in-Err.ensures.position (to_prefix p) (always_returns_same _ _ _ (λ a r f called. search rules)) in
      sym (not_found p c.args.index.now c.requires c.in-Err.field-0 parts);
}
