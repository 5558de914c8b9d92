use Rattle.std.proofs.Common.{refl}
use Rattle.std.specs.Str.{chars}
use Rattle.xml_names.specs.Scopes.{xml_uri}
use Rattle.xml_names.proofs.prefixes.xml_uri.Goals as goal

pub returns : goal.returns
unfolding chars xml_uri
returns c = record { namespace_of_xml = refl }
