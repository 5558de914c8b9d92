use Rattle.std.proofs.Common.{◌≡◌, ◌+◌, drop}
use Rattle.xml_tokens.specs.readers.Classes.{class_contains, is_ascii_passing}
use Rattle.xml_tokens.specs.readers.CharacterRuns.{run_len}
use Rattle.xml_tokens.proofs.character_classes.ascii_len_by_each.Given as goal

abbrev pub invariant-loop-i : goal.invariant-loop-i
invariant-loop-i l = l.i + run_len (is_ascii_passing (class_contains l.class)) (drop l.i l.bytes) ≡ run_len (is_ascii_passing (class_contains l.class)) l.bytes
