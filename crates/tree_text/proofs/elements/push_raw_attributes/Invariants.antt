use Rattle.std.proofs.Common.{◌≡◌, ◌++◌}
use Rattle.tree_text.specs.Names.{attrs_of}
use Rattle.tree_text.proofs.elements.push_raw_attributes.Given as goal

abbrev pub invariant-loop-one : goal.invariant-loop-one
invariant-loop-one l = l.element ≡ record l.initial.element { attrs = l.initial.element.attrs ++ attrs_of l.yielded }
