use Rattle.std.proofs.Common.{◌≡◌, true, take}
use Rattle.std.specs.List.{list_all}
use Rattle.xml_tokens.specs.readers.CharacterRuns.{is_ascii}
use Rattle.xml_tokens.proofs.text_buffers.write_ascii.Given as goal

abbrev pub invariant-loop-i : goal.invariant-loop-i
invariant-loop-i l = record { same : take l.i l.bytes ≡ take l.i l.run; low : list_all is_ascii (take l.i l.run) ≡ true }
