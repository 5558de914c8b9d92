use Rattle.std.proofs.Common.{◌∙◌}
use Rattle.store_core.proofs.DocumentMaps.{taken-out}
use Rattle.store_core.proofs.step.remove_document.Goals as goal

pub returns : goal.returns
returns c = record { tree_changed = c.shift_remove.ensures.entries ∙ taken-out c.args.doc.now c.args.documents.now.entries c.len-count.ensures.unique }
