use Rattle.std.proofs.Common.{◌≡◌, ◌++◌, drop}
use Rattle.xml_names.specs.Attributes.{without_attr}
use Rattle.edit_ops.proofs.rebuild_tree.push_other_attrs.Given as goal

abbrev pub invariant-loop-i : goal.invariant-loop-i
invariant-loop-i l = record {
  same : l.made ≡ record l.fn.made { attrs = l.made.attrs };
  attrs : l.made.attrs ++ without_attr l.name (drop l.i l.attrs) ≡ l.fn.made.attrs ++ without_attr l.name l.attrs;
}
