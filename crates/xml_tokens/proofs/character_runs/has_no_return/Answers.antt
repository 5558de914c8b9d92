use Rattle.std.proofs.Common.{◌≡◌, ℕ, ◌≤◌, true, ap, ◌∙◌, refl, arith}
use Rattle.std.specs.List.{list_all}
use Rattle.std.proofs.lemmas.Bool.{ne_eqb}
use Rattle.xml_tokens.specs.readers.CharacterRuns.{is_not_return}
use Rattle.xml_tokens.proofs.TextBytes.{all_by_bytes}
use Rattle.xml_tokens.proofs.character_runs.has_no_return.Goals as goal

high : (c : ℕ) → 128 ≤ c → is_not_return c ≡ true
high c wide = rw (ne_eqb c 13 (λ e. omega (arith, e, wide))) refl

pub returns : goal.returns
returns c = record { exact = c.is_free_of_returns.ensures.exact ∙ ap (list_all is_not_return) c.as_bytes.ensures.value ∙ all_by_bytes is_not_return high c.args.run.now c.utf8.run }
