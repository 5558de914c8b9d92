use Rattle.std.proofs.Common.{ap, ◌∙◌, take, drop, arith}
use Rattle.xml_tokens.proofs.RunLemmas.{take_run, drop_run, run_len_le}
use Rattle.xml_tokens.specs.Tokens.{is_different_char}
use Rattle.xcap_uri.proofs.delimiters.cut_before.Goals as goal

pub split_at-requires : goal.split_at-requires
split_at-requires c = omega (arith, run_len_le (is_different_char c.args.stop) c.args.text.now, c.len_before.ensures.exact)

pub returns-clause-front_before_stop : goal.returns-clause-front_before_stop
returns-clause-front_before_stop c = c.split_at.ensures.front ∙ ap (λ n. take n c.args.text.now) c.len_before.ensures.exact ∙ take_run (is_different_char c.args.stop) c.args.text.now

pub returns-clause-rest_after_stop : goal.returns-clause-rest_after_stop
returns-clause-rest_after_stop c = c.split_at.ensures.back ∙ ap (λ n. drop n c.args.text.now) c.len_before.ensures.exact ∙ drop_run (is_different_char c.args.stop) c.args.text.now
