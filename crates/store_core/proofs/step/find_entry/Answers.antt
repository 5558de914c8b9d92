use Rattle.std.proofs.Common.{◌∙◌}
use Rattle.store_core.proofs.DocumentMaps.{looked-up}
use Rattle.store_core.proofs.step.find_entry.Goals as goal

pub returns : goal.returns
returns c = record { exact = c.get.ensures.value ∙ looked-up c.args.doc.now c.args.documents.now.entries }
