use Rattle.std.proofs.Common.{◌≡◌, ◌+◌, drop}
use Rattle.xml_tokens.specs.readers.CharacterRuns.{run_len}
use Rattle.xml_names.specs.Characters.{is_space}
use Rattle.xcap_uri.proofs.query.space_len.Given as goal

abbrev pub invariant-loop-c : goal.invariant-loop-c
invariant-loop-c l = record { counted : l.len ≡ l.c-index; left : l.len + run_len is_space (drop l.c-index l.text) ≡ run_len is_space l.text }
