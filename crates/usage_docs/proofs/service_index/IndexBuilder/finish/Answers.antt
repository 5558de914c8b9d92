use Rattle.std.proofs.Common.{ap, ◌∙◌}
use Rattle.xml_tree.specs.Print.{print}
use Rattle.usage_docs.specs.Services.{index_of}
use Rattle.usage_docs.proofs.ListingLemmas.{index_prints}
use Rattle.usage_docs.proofs.service_index.IndexBuilder.finish.Goals as goal

pub returns-clause-prints_text : goal.returns-clause-prints_text
returns-clause-prints_text c = ap print (c.self.invariant.whole ∙ ap index_of c.self.view_is) ∙ index_prints c.args.self
