use Rattle.std.proofs.Common.{◌≡◌, ◌+◌, drop}
use Rattle.xml_tokens.specs.readers.CharacterRuns.{run_len}
use Rattle.xml_tokens.specs.Tokens.{is_different_char}
use Rattle.xcap_uri.proofs.delimiters.len_before.Given as goal

abbrev pub invariant-loop-b : goal.invariant-loop-b
invariant-loop-b l = record { counted : l.len ≡ l.b-index; left : l.len + run_len (is_different_char l.stop) (drop l.b-index l.text) ≡ run_len (is_different_char l.stop) l.text }
