use Rattle.std.proofs.Common.{◌≡◌, take, flat_map}
use Rattle.xml_names.specs.Markup.{text_escape}
use Rattle.xml_names.proofs.escaped_lengths.is_plain_text.Given as goal

abbrev pub invariant-loop-byte : goal.invariant-loop-byte
invariant-loop-byte l = flat_map text_escape (take l.byte-index l.text) ≡ take l.byte-index l.text
