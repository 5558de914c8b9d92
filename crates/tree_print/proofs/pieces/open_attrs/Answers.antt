use Rattle.std.proofs.Common.{◌+◌, ◌++◌, flat_map}
use Rattle.xml_names.specs.Markup.{print_attr}
use Rattle.tree_print.specs.inner.Parts.{attr_pieces, ending_pieces, ending_print, total}
use Rattle.tree_print.proofs.PieceLemmas.{next_count, next_text, none_count, none_text, opens_in_front, opens_same}
use Rattle.tree_print.proofs.pieces.open_attrs.Goals as goal

pub returns-in_default : goal.returns-in_default
returns-in_default c = record {
  opens =
      let e = c.args.element.now in
      let attrs = c.args.attrs.now in
      opens_same (ending_print e) (flat_map print_attr attrs ++ ending_print e) (ending_pieces e) (total attr_pieces attrs + ending_pieces e) c.args.parts.now c.open_ending.new.parts c.open_ending.result.now
      (none_text print_attr attr_pieces attrs (ending_print e) (ending_pieces e) c.in_default.ensures.cases) (none_count print_attr attr_pieces attrs (ending_print e) (ending_pieces e) c.in_default.ensures.cases) c.open_ending.ensures.opens;
}

pub returns : goal.returns
returns c = record {
  opens =
      let e = c.args.element.now in
      let attrs = c.args.attrs.now in
      let a = c.in-Some.attr.now in
      let others = c.in-Some.others.now in
      opens_same (print_attr a ++ (flat_map print_attr others ++ ending_print e)) (flat_map print_attr attrs ++ ending_print e) (attr_pieces a + (total attr_pieces others + ending_pieces e)) (total attr_pieces attrs + ending_pieces e)
      c.args.parts.now c.open_attr.new.parts c.open_attr.result.now
      (next_text print_attr attr_pieces attrs (ending_print e) (ending_pieces e) a others c.in-Some.ensures.cases.0) (next_count print_attr attr_pieces attrs (ending_print e) (ending_pieces e) a others c.in-Some.ensures.cases.0)
      (opens_in_front (print_attr a) (flat_map print_attr others ++ ending_print e) (attr_pieces a) (total attr_pieces others + ending_pieces e) c.args.parts.now c.push.new.self c.open_attr.new.parts c.open_attr.result.now c.push.ensures.text_before c.push.ensures.more_pieces c.open_attr.ensures.opens);
}
