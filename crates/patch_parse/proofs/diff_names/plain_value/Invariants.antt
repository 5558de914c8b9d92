use Rattle.std.proofs.Common.{◌≡◌, [], chars, drop, find}
use Rattle.xml_names.specs.Attributes.{has_qname as is_named}
use Rattle.patch_parse.proofs.diff_names.plain_value.Given as goal

abbrev pub invariant-loop-attr : goal.invariant-loop-attr
invariant-loop-attr l = find (is_named (record { prefix = []; local = chars l.word })) (drop l.attr-index l.attrs) ≡ find (is_named (record { prefix = []; local = chars l.word })) l.attrs
