use Rattle.std.proofs.Common.{◌≡◌, ◌+◌, ◌-◌, ◌≤◌, drop, length}
use Rattle.xml_tokens.specs.readers.Classes.{class_contains, is_ascii_passing}
use Rattle.xml_tokens.specs.readers.CharacterRuns.{run_len}
use Rattle.xml_tokens.proofs.character_classes.ascii_len.Given as goal

abbrev pub invariant-fours : goal.invariant-fours
invariant-fours l = record { within : l.len ≤ length l.bytes; left : l.len + run_len (is_ascii_passing (class_contains l.class)) (drop l.len l.bytes) ≡ run_len (is_ascii_passing (class_contains l.class)) l.bytes }

abbrev pub decreases-fours : goal.decreases-fours
decreases-fours l = length l.bytes - l.len
