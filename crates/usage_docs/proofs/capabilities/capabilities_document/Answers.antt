use Rattle.std.proofs.Common.{ap, ◌∙◌}
use Rattle.xml_tree.specs.Print.{print}
use Rattle.usage_docs.proofs.CapabilitiesText.{capabilities_print}
use Rattle.usage_docs.proofs.capabilities.capabilities_document.Goals as goal

pub returns-clause-prints_text : goal.returns-clause-prints_text
returns-clause-prints_text c = ap print c.in_ok-root.ensures.ok ∙ capabilities_print
