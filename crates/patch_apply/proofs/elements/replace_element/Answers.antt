use Rattle.std.proofs.Common.{Ok, sym, ap, ◌∙◌}
use Rattle.xml_tree.specs.Edits.{put_over}
use Rattle.xml_tree.specs.Tree.{Tree}
use Rattle.patch_apply.proofs.ActionResults.{replace_none}
use Rattle.patch_apply.proofs.ActionTrees.{element_deep, element_made, element_unlike}
use Rattle.patch_apply.proofs.elements.replace_element.Goals as goal

pub returns-in_default : goal.returns-in_default
returns-in_default c = record {
  as_specified = replace_none c.args.here.now c.args.path.now c.args.operation.now.content c.args.tree.now (sym (c.in_default.ensures {u = tt}).exact);
}

pub returns-then-not-element_fits_depth : goal.returns-then-not-element_fits_depth
returns-then-not-element_fits_depth c = record {
  as_specified =
      element_deep c.args.here.now c.args.path.now c.in-Some.new.now c.args.operation.now.content c.args.tree.now c.requires.place_exists c.requires.height_bounded
      (sym (c.in-Some.ensures {u = tt}).exact) (sym c.element_fits_depth.ensures.exact ∙ c.if-not-element_fits_depth.true);
}

pub returns-then-not-names_agree_around : goal.returns-then-not-names_agree_around
returns-then-not-names_agree_around c = record {
  as_specified =
      element_unlike c.args.here.now c.args.path.now c.in-Some.new.now c.args.operation.now.content c.args.tree.now c.requires.place_exists c.requires.height_bounded
      (sym (c.in-Some.ensures {u = tt}).exact) (sym c.element_fits_depth.ensures.exact ∙ c.if-not-element_fits_depth.false)
      (sym c.names_agree_around.ensures.exact ∙ c.if-not-names_agree_around.true);
}

pub returns : goal.returns
returns c = record {
  as_specified =
      let p = c.args.path.now in let t = c.args.tree.now in
      element_made c.args.here.now p c.in-Some.new.now c.args.operation.now.content t c.requires.place_exists c.requires.height_bounded
      (sym (c.in-Some.ensures {u = tt}).exact) (sym c.element_fits_depth.ensures.exact ∙ c.if-not-element_fits_depth.false)
      (sym c.names_agree_around.ensures.exact ∙ c.if-not-names_agree_around.false)
      ∙ ap (λ (e : Tree). Ok (put_over p e t)) (sym c.in_ok-copy.ensures.equal_copy)
      ∙ ap Ok (sym c.put_over-old.ensures.element_replaced);
}
