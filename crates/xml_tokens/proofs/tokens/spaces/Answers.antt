use Rattle.std.proofs.Common.{chars, sym}
use Rattle.xml_names.specs.Characters.{is_space}
use Rattle.xml_tokens.proofs.ReadFronts.{reads_none}
use Rattle.xml_tokens.proofs.TextBytes.{run_stays}
use Rattle.xml_tokens.proofs.tokens.spaces.Goals as goal

pub returns-then-not-is_space_next : goal.returns-then-not-is_space_next
returns-then-not-is_space_next c =
    let text = chars c.args.text.now in
    let none = sym c.if-not-is_space_next.ensures.exact in
    record { reads_rule = rw c.empty_str.ensures.has_no_characters (reads_none is_space text none).read; rest_after_run = sym (run_stays is_space text none) }
