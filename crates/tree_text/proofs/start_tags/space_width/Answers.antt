use Rattle.std.proofs.Common.{length, sym, ap}
use Rattle.tree_text.proofs.SpaceLemmas.{space_bytes}
use Rattle.tree_text.proofs.start_tags.space_width.Goals as goal

pub returns : goal.returns
returns c = record { exact = sym (ap length (space_bytes c.args.white.now c.utf8.white c.requires)) }
