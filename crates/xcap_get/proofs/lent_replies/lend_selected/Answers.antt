use Rattle.std.proofs.Common.{sym, ◌∙◌, arith}
use Rattle.xml_names.specs.Markup.{byte_len}
use Rattle.xml_tree.specs.Print.{print}
use Rattle.xml_tree.proofs.PlaceLaws.{height-at}
use Rattle.patch_rules.proofs.Lengths.{place_shorter}
use Rattle.reply_bodies.specs.Nodes.{encode_optional, found_text}
use Rattle.reply_text.specs.declared.media_types.MediaType.TheVariants as media
use Rattle.xcap_get.proofs.LentReplyLemmas.{element_text, lends_nothing, lends_print, no_element, no_path, short_len}
use Rattle.xcap_get.proofs.lent_replies.lend_selected.Goals as goal

pub returns-in_default : goal.returns-in_default
returns-in_default c = record {
  lends_found =
      lends_nothing (encode_optional (found_text c.args.root.now c.args.selector.now)) c.args.tag media.Element c.args.request.now
      (no_path c.args.root.now c.args.selector.now (sym c.select.ensures.computed_path ∙ c.in_default.is));
}

pub returns-in_default-element_at : goal.returns-in_default-element_at
returns-in_default-element_at c = record {
  lends_found =
      lends_nothing (encode_optional (found_text c.args.root.now c.args.selector.now)) c.args.tag media.Element c.args.request.now
      (no_element c.args.root.now c.args.selector.now c.in-Some.path (sym c.select.ensures.computed_path ∙ c.in-Some.is) (sym c.in_default-element_at.ensures.exact));
}

pub element-body-requires-clause-known_length : goal.element-body-requires-clause-known_length
element-body-requires-clause-known_length c =
    let there = c.in-Some-element_at.ensures.exact in
    let short = place_shorter c.in-Some.path c.args.root.now c.in-Some-element_at.element.now (sym there) in
    short_len c.printed_len.result (byte_len (print c.in-Some-element_at.element.now)) c.printed_len.ensures.exact (omega (arith, short, c.requires.length_bounded))

pub element-body-requires-clause-within_levels : goal.element-body-requires-clause-within_levels
element-body-requires-clause-within_levels c =
    let low = height-at c.in-Some.path c.in-Some-element_at.element.now c.args.root.now (sym c.in-Some-element_at.ensures.exact) in
    omega (arith, low, c.requires.height_bounded)

pub returns : goal.returns
returns c = record {
  lends_found =
      lends_print (encode_optional (found_text c.args.root.now c.args.selector.now)) c.element-body.result _ c.args.tag media.Element c.args.request.now c.lend_found.result
      (element_text c.args.root.now c.in-Some-element_at.element.now c.args.selector.now c.in-Some.path c.requires.of_element (sym c.select.ensures.computed_path ∙ c.in-Some.is) (sym c.in-Some-element_at.ensures.exact))
      c.element-body.ensures.prints_element c.lend_found.ensures.lends_found;
}
