use Rattle.xml_tree.proofs.HeightLaws.{height-put_in, height-put_over, height-take_in}
use Rattle.xml_tree.proofs.laws.heights_after_edits.Goals as goal

pub returns : goal.returns
returns c = record { put_in = height-put_in; put_over = height-put_over; take_in = height-take_in }
