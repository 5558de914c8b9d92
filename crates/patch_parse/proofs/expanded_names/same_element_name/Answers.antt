use Rattle.std.proofs.Common.{◌∙◌, sym}
use Rattle.xml_names.specs.ExpandedNames.{same_uri}
use Rattle.patch_parse.proofs.SameNames.{same_elements}
use Rattle.patch_parse.proofs.expanded_names.same_element_name.Goals as goal

pub returns : goal.returns
returns c = record {
  exact =
      c.same_uri.ensures.exact ∙ (λ i. same_uri (c.resolve.ensures.resolves_as_bound i) (c.resolve-2.ensures.resolves_as_bound i)) ∙ sym (same_elements c.args.c.now c.args.d.now c.args.name.now);
}
