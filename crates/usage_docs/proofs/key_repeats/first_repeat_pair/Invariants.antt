use Rattle.usage_docs.specs.readers.KeyRepeats.{IsLeastPair}
use Rattle.usage_docs.proofs.key_repeats.first_repeat_pair.Given as goal

abbrev pub invariant-loop-at : goal.invariant-loop-at
invariant-loop-at l = IsLeastPair l.keys l.at l.found
