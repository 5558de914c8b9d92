use Rattle.std.proofs.Common.{◌≤◌, arith, ◌∙◌}
use Rattle.xml_tokens.proofs.FirstRuns.{ascii_in_name}
use Rattle.xml_tokens.proofs.tokens.is_char_of_name.Goals as goal

pub returns-then-c-le127 : goal.returns-then-c-le127
returns-then-c-le127 c =
    let low : c.args.c ≤ 127 = omega arith in
    record { exact = c.is_plain_in_name.ensures.exact ∙ ascii_in_name c.args.c low }
