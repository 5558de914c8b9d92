use Rattle.xml_tree.proofs.ScopesAlike.{ProperIn-alike}
use Rattle.xml_tree.proofs.proper_laws.proper_in_scopes_that_bind_alike.Goals as goal

pub returns : goal.returns
returns c = record { stays_proper = ProperIn-alike }
