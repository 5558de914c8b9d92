use Rattle.std.proofs.Common.{Option, subst}
use Rattle.usage_docs.specs.Validation.{HasFirstFault}
use Rattle.usage_docs.specs.declared.validation.Fault.{Fault}
use Rattle.xcap_put.proofs.BodyReading.{tree_comes}
use Rattle.xcap_put.proofs.request_bodies.check_document.Goals as goal

pub returns-in-None : goal.returns-in-None
returns-in-None c = record {
  comes_of_tree =
      tree_comes c.args.usage c.args.closes c.args.root c.requires.proper c.requires.height_bounded
      (subst (λ (fault : Option Fault). HasFirstFault c.args.usage c.args.root fault) c.in-None.is c.first_fault.ensures.has_first_fault);
}
