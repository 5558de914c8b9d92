use Rattle.element_watch.proofs.SinceTag.{find_unreported}
use Rattle.element_watch.proofs.laws.unreported_elements_are_the_same.Goals as goal

pub returns : goal.returns
returns c = record { finds_same = λ root w c m tag ns held u p. find_unreported root c m w.doc tag ns held u w.selector w.raw p }
