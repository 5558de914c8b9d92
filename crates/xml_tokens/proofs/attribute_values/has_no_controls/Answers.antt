use Rattle.std.proofs.Common.{◌≡◌, ℕ, ◌≤◌, true, ap, ◌∙◌, arith}
use Rattle.std.specs.List.{list_all}
use Rattle.std.proofs.lemmas.Bool.{le-leb}
use Rattle.xml_tokens.specs.readers.CharacterRuns.{is_not_control}
use Rattle.xml_tokens.proofs.TextBytes.{all_by_bytes}
use Rattle.xml_tokens.proofs.attribute_values.has_no_controls.Goals as goal

high : (c : ℕ) → 128 ≤ c → is_not_control c ≡ true
high c wide = le-leb 32 c (omega (arith, wide))

pub returns : goal.returns
returns c = record { exact = c.is_free_of_controls.ensures.exact ∙ ap (list_all is_not_control) c.as_bytes.ensures.value ∙ all_by_bytes is_not_control high c.args.run.now c.utf8.run }
