use Rattle.std.proofs.Common.{ap, ◌∙◌, drop, arith}
use Rattle.xml_tokens.proofs.RunLemmas.{drop_run, run_len_le}
use Rattle.xml_names.specs.Characters.{is_space}
use Rattle.xcap_uri.proofs.query.skip_space.Goals as goal

pub split_at-requires : goal.split_at-requires
split_at-requires c = omega (arith, run_len_le is_space c.args.text.now, c.space_len.ensures.exact)

pub returns : goal.returns
returns c = record { exact = c.split_at.ensures.back ∙ ap (λ n. drop n c.args.text.now) c.space_len.ensures.exact ∙ drop_run is_space c.args.text.now }
