use Rattle.std.proofs.Common.{◌∙◌, sym}
use Rattle.xml_names.specs.ExpandedNames.{same_uri}
use Rattle.patch_parse.proofs.SameNames.{same_attrs}
use Rattle.patch_parse.proofs.expanded_names.attr_names_agree.Goals as goal

pub returns : goal.returns
returns c = record {
  exact =
      c.same_uri.ensures.exact ∙ (λ i. same_uri (c.attr_uri.ensures.exact i) (c.attr_uri-2.ensures.exact i)) ∙ sym (same_attrs c.args.here.now c.args.there.now c.args.name.now);
}
