use Rattle.std.proofs.Common.{◌≡◌, ◌+◌, ◌++◌, List, flat_map, ap}
use Rattle.xml_names.specs.Markup.{print_attr, print_decl}
use Rattle.xml_names.specs.declared.names.Attr.{Attr}
use Rattle.tree_print.specs.inner.Parts.{attr_pieces, decl_pieces, ending_pieces, ending_print, total, Opens}
use Rattle.tree_print.proofs.PieceLemmas.{next_count, next_text, none_count, none_text, opens_in_front, opens_same}
use Rattle.tree_print.proofs.pieces.open_decls.Goals as goal

pub returns-in_default : goal.returns-in_default
returns-in_default c = record {
  opens =
      let e = c.args.element.now in
      let decls = c.args.decls.now in
      let text = flat_map print_attr e.attrs ++ ending_print e in
      let pieces = total attr_pieces e.attrs + ending_pieces e in
      let same = c.attrs.ensures.exact in
      opens_same (flat_map print_attr c.attrs.result.now ++ ending_print e) (flat_map print_decl decls ++ text) (total attr_pieces c.attrs.result.now + ending_pieces e) (total decl_pieces decls + pieces) c.args.parts.now c.open_attrs.new.parts c.open_attrs.result.now
      (rw same (none_text print_decl decl_pieces decls text pieces c.in_default.ensures.cases)) (rw same (none_count print_decl decl_pieces decls text pieces c.in_default.ensures.cases)) c.open_attrs.ensures.opens;
}

pub returns : goal.returns
returns c = record {
  opens =
      let e = c.args.element.now in
      let decls = c.args.decls.now in
      let text = flat_map print_attr e.attrs ++ ending_print e in
      let pieces = total attr_pieces e.attrs + ending_pieces e in
      let d = c.in-Some.decl.now in
      let others = c.in-Some.others.now in
      opens_same (print_decl d ++ (flat_map print_decl others ++ text)) (flat_map print_decl decls ++ text) (decl_pieces d + (total decl_pieces others + pieces)) (total decl_pieces decls + pieces)
      c.args.parts.now c.open_decl.new.parts c.open_decl.result.now
      (next_text print_decl decl_pieces decls text pieces d others c.in-Some.ensures.cases.0) (next_count print_decl decl_pieces decls text pieces d others c.in-Some.ensures.cases.0)
      (opens_in_front (print_decl d) (flat_map print_decl others ++ text) (decl_pieces d) (total decl_pieces others + pieces) c.args.parts.now c.push.new.self c.open_decl.new.parts c.open_decl.result.now c.push.ensures.text_before c.push.ensures.more_pieces c.open_decl.ensures.opens);
}
