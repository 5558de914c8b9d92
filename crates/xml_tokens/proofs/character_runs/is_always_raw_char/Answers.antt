use Rattle.std.proofs.Common.{sym, ◌∙◌}
use Rattle.xml_tokens.proofs.RawLetters.{usual_is_raw, usual_no_bracket}
use Rattle.xml_tokens.proofs.character_runs.is_always_raw_char.Goals as goal

pub returns-clause-inner_is_raw : goal.returns-clause-inner_is_raw
returns-clause-inner_is_raw c = λ yes. usual_is_raw c.args.c (sym c.is_usual_content_char.ensures.exact ∙ yes)

pub returns-clause-no_end : goal.returns-clause-no_end
returns-clause-no_end c = λ yes. usual_no_bracket c.args.c (sym c.is_usual_content_char.ensures.exact ∙ yes)
