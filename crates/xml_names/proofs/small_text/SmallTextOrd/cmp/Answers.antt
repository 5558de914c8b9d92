use Rattle.std.proofs.Common.{nat_cmp, ◌∙◌}
use Rattle.std.specs.Cmp.Lexicographic.{slice_cmp}
use Rattle.xml_names.proofs.ByteOrder.{order-encodes}
use Rattle.xml_names.proofs.small_text.SmallTextOrd.cmp.Goals as goal

pub returns : goal.returns
returns g c = c.cmp.ensures ∙ (λ i. slice_cmp nat_cmp (c.as_str.ensures.utf8_bytes i) (c.as_str-2.ensures.utf8_bytes i)) ∙ order-encodes c.args.self.now c.args.other.now
