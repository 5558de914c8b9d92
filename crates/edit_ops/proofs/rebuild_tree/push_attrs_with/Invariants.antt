use Rattle.std.proofs.Common.{◌≡◌, ◌++◌, drop}
use Rattle.xml_names.specs.Attributes.{with_attr}
use Rattle.edit_ops.proofs.rebuild_tree.push_attrs_with.Given as goal

abbrev pub invariant-loop-i : goal.invariant-loop-i
invariant-loop-i l = record {
  same : l.made ≡ record l.fn.made { attrs = l.made.attrs };
  attrs : l.made.attrs ++ with_attr l.name l.value (drop l.i l.attrs) ≡ l.fn.made.attrs ++ with_attr l.name l.value l.attrs;
}
