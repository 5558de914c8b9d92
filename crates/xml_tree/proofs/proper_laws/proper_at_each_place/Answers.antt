use Rattle.xml_tree.specs.Proper.{IsProperPart}
use Rattle.xml_tree.proofs.EverywhereLaws.{inside, Throughout-change_at}
use Rattle.xml_tree.proofs.proper_laws.proper_at_each_place.Goals as goal

pub returns : goal.returns
returns c = record { proper_at_place = inside IsProperPart; proper_after_change = Throughout-change_at IsProperPart }
