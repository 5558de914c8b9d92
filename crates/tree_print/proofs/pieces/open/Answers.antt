use Rattle.std.proofs.Common.{chars, refl, arith}
use Rattle.tree_print.proofs.PieceLemmas.{opens_part, opens_whole}
use Rattle.tree_print.proofs.pieces.open.Goals as goal

pub returns-in-Plain : goal.returns-in-Plain
returns-in-Plain c = record {
  opens = opens_part c.args.part _ c.args.parts.now c.args.parts.now c.in-Plain.text.now c.in-Plain.is (opens_whole (chars c.in-Plain.text.now) 1 c.args.parts.now c.in-Plain.text.now refl (omega arith));
}

pub open_text-requires : goal.open_text-requires
open_text-requires c = let fits = rw c.in-Escaped.is at c.requires in omega (arith, fits)

pub returns-in-Escaped : goal.returns-in-Escaped
returns-in-Escaped c = record { opens = opens_part c.args.part _ c.args.parts.now c.open_text.new.parts c.open_text.result.now c.in-Escaped.is c.open_text.ensures.opens }

pub open_broken-requires : goal.open_broken-requires
open_broken-requires c = let fits = rw c.in-Broken.is at c.requires in omega (arith, fits)

pub returns-in-Broken : goal.returns-in-Broken
returns-in-Broken c = record { opens = opens_part c.args.part _ c.args.parts.now c.open_broken.new.parts c.open_broken.result.now c.in-Broken.is c.open_broken.ensures.opens }

pub open_name-requires : goal.open_name-requires
open_name-requires c = let fits = rw c.in-Named.is at c.requires in omega (arith, fits)

pub returns-in-Named : goal.returns-in-Named
returns-in-Named c = record { opens = opens_part c.args.part _ c.args.parts.now c.open_name.new.parts c.open_name.result.now c.in-Named.is c.open_name.ensures.opens }

pub open_decls-requires : goal.open_decls-requires
open_decls-requires c = let fits = rw c.in-Decls.is at c.requires in omega (arith, fits)

pub returns-in-Decls : goal.returns-in-Decls
returns-in-Decls c = record { opens = opens_part c.args.part _ c.args.parts.now c.open_decls.new.parts c.open_decls.result.now c.in-Decls.is c.open_decls.ensures.opens }

pub open_attrs-requires : goal.open_attrs-requires
open_attrs-requires c = let fits = rw c.in-Attrs.is at c.requires in omega (arith, fits)

pub returns-in-Attrs : goal.returns-in-Attrs
returns-in-Attrs c = record { opens = opens_part c.args.part _ c.args.parts.now c.open_attrs.new.parts c.open_attrs.result.now c.in-Attrs.is c.open_attrs.ensures.opens }

pub open_nodes-requires : goal.open_nodes-requires
open_nodes-requires c = let fits = rw c.in-Nodes.is at c.requires in omega (arith, fits)

pub returns-in-Nodes : goal.returns-in-Nodes
returns-in-Nodes c = record { opens = opens_part c.args.part _ c.args.parts.now c.open_nodes.new.parts c.open_nodes.result.now c.in-Nodes.is c.open_nodes.ensures.opens }

pub open_end_tag-requires : goal.open_end_tag-requires
open_end_tag-requires c = let fits = rw c.in-EndTag.is at c.requires in omega (arith, fits)

pub returns-in-EndTag : goal.returns-in-EndTag
returns-in-EndTag c = record { opens = opens_part c.args.part _ c.args.parts.now c.open_end_tag.new.parts c.open_end_tag.result.now c.in-EndTag.is c.open_end_tag.ensures.opens }

pub open_element-requires : goal.open_element-requires
open_element-requires c = let fits = rw c.in-Whole.is at c.requires in omega (arith, fits)

pub returns-in-Whole : goal.returns-in-Whole
returns-in-Whole c = record { opens = opens_part c.args.part _ c.args.parts.now c.open_element.new.parts c.open_element.result.now c.in-Whole.is c.open_element.ensures.opens }
