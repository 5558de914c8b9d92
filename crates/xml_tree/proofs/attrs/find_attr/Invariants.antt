use Rattle.std.proofs.Common.{◌≡◌, drop, find}
use Rattle.xml_names.specs.Attributes.{has_qname as is_named}
use Rattle.xml_tree.proofs.attrs.find_attr.Given as goal

abbrev pub invariant-loop-attr : goal.invariant-loop-attr
invariant-loop-attr l = find (is_named l.name) (drop l.attr-index l.attrs) ≡ find (is_named l.name) l.attrs
