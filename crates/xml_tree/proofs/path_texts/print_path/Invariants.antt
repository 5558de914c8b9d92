use Rattle.std.proofs.Common.{◌≡◌, ◌++◌, drop, string_bytes}
use Rattle.xml_tree.specs.PathTexts.{path_text, steps_text}
use Rattle.xml_tree.proofs.path_texts.print_path.Given as goal

abbrev pub invariant-loop-number : goal.invariant-loop-number
invariant-loop-number l = string_bytes l.text ++ steps_text (drop l.number-index l.number-items) ≡ path_text l.path
