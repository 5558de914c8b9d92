use Rattle.std.proofs.Common.{◌≡◌, ◌++◌, take}
use Rattle.xml_tokens.proofs.text_buffers.push_each_char.Given as goal

abbrev pub invariant-loop-c : goal.invariant-loop-c
invariant-loop-c l = l.text ≡ l.initial.text ++ take l.c-index l.chars
