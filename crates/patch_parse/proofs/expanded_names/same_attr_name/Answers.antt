use Rattle.std.proofs.Common.{◌∙◌, sym}
use Rattle.patch_parse.proofs.SameNames.{plain_same, prefixed_same}
use Rattle.patch_parse.proofs.expanded_names.same_attr_name.Goals as goal

pub returns-then-has_no_prefix : goal.returns-then-has_no_prefix
returns-then-has_no_prefix c = record {
  exact = sym (plain_same c.args.c.now c.args.d.now c.args.name.now (sym c.has_no_prefix.ensures.exact ∙ c.if-has_no_prefix.true));
}

pub returns : goal.returns
returns c = record {
  exact =
      c.same_element_name.ensures.exact ∙ sym (prefixed_same c.args.c.now c.args.d.now c.args.name.now (sym c.has_no_prefix.ensures.exact ∙ c.if-has_no_prefix.false));
}
