use Rattle.std.proofs.Common.{◌≡◌, ◌+◌, drop}
use Rattle.xml_names.specs.Attributes.{has_qname as is_named}
use Rattle.xml_tree.specs.inner.Attributes.{first_index}
use Rattle.xml_tree.proofs.attrs.attr_index.Given as goal

abbrev pub invariant-loop-i : goal.invariant-loop-i
invariant-loop-i l = l.i + first_index (is_named l.name) (drop l.i l.attrs) ≡ first_index (is_named l.name) l.attrs
