use Rattle.std.proofs.Common.{[], chars, ap, ◌∙◌}
use Rattle.xml_names.specs.declared.names.Name.{Name}
use Rattle.xml_tokens.specs.readers.Tokens.{read_end_tag}
use Rattle.xml_tokens.proofs.NameFronts.{end_read}
use Rattle.xml_tokens.proofs.raw_name.local_end_tag.Goals as goal

pub returns-in-Some : goal.returns-in-Some
returns-in-Some c =
    let name : Name = record { prefix = []; local = chars c.args.local.now } in
    record { reads_rule = ap (read_end_tag name) c.in-Some.ensures.end_tag_rest ∙ (end_read name (chars c.in-Some.rest.now)).read }
