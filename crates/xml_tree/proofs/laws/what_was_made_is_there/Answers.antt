use Rattle.xml_tree.proofs.PlaceLaws.{at-changed, at-put_over}
use Rattle.xml_tree.proofs.laws.what_was_made_is_there.Goals as goal

pub returns : goal.returns
returns c = record { holds_changed = at-changed; holds_put = at-put_over }
