use Rattle.std.proofs.Common.{◌≡◌, ◌+◌, ◌≤◌, drop, min}
use Rattle.xml_tree.specs.PathTexts.{path_text, steps_text}
use Rattle.edit_ops.specs.inner.OperationLengths.{value_text_len}
use Rattle.edit_ops.proofs.record_lengths.path_len.Given as goal

abbrev pub invariant-loop-number : goal.invariant-loop-number
invariant-loop-number l =
    record {
      fits : l.total ≤ 18446744073709551615;
      counted : min (l.total + value_text_len (steps_text (drop l.number-index l.number-items))) 18446744073709551615 ≡ min (value_text_len (path_text l.path)) 18446744073709551615;
    }
