use Rattle.std.proofs.Common.{ap, ◌∙◌, drop, arith}
use Rattle.xml_tokens.proofs.RunLemmas.{drop_run, run_len_le}
use Rattle.xcap_uri.specs.Queries.{is_blank}
use Rattle.xcap_uri.proofs.query.skip_blanks.Goals as goal

pub split_at-requires : goal.split_at-requires
split_at-requires c = omega (arith, run_len_le is_blank c.args.text.now, c.blank_len.ensures.exact)

pub returns : goal.returns
returns c = record { exact = c.split_at.ensures.back ∙ ap (λ n. drop n c.args.text.now) c.blank_len.ensures.exact ∙ drop_run is_blank c.args.text.now }
