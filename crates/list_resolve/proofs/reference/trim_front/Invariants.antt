use Rattle.std.proofs.Common.{◌≡◌, length}
use Rattle.xml_names.specs.Characters.{is_space}
use Rattle.usage_docs.specs.ReferenceForms.{trim_front}
use Rattle.list_resolve.proofs.reference.trim_front.Given as goal

abbrev pub invariant-blanks : goal.invariant-blanks
invariant-blanks l = trim_front is_space l.letters ≡ trim_front is_space l.fn.letters

abbrev pub decreases-blanks : goal.decreases-blanks
decreases-blanks l = length l.letters
