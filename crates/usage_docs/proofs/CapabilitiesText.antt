-- The print of the capabilities document.
use Rattle.std.proofs.Common.{◌≡◌, refl}
use Rattle.xml_tree.specs.Print.{print}
use Rattle.usage_docs.specs.Capabilities.{capabilities, capabilities_text}

pub capabilities_print : print capabilities ≡ capabilities_text
capabilities_print = refl
