use Rattle.std.proofs.Common.{◌≡◌, ◌+◌, drop}
use Rattle.xml_tokens.specs.readers.CharacterRuns.{run_len}
use Rattle.xcap_uri.specs.Queries.{is_blank}
use Rattle.xcap_uri.proofs.query.blank_len.Given as goal

abbrev pub invariant-loop-c : goal.invariant-loop-c
invariant-loop-c l = record { counted : l.len ≡ l.c-index; left : l.len + run_len is_blank (drop l.c-index l.text) ≡ run_len is_blank l.text }
