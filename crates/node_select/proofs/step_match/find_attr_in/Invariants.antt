use Rattle.std.proofs.Common.{◌≡◌, chars, drop, find}
use Rattle.node_select.specs.Selection.{is_attr_named}
use Rattle.node_select.proofs.step_match.find_attr_in.Given as goal

abbrev pub invariant-loop-attr : goal.invariant-loop-attr
invariant-loop-attr l = find (is_attr_named l.scope (chars l.uri) (chars l.local)) (drop l.attr-index l.attrs) ≡ find (is_attr_named l.scope (chars l.uri) (chars l.local)) l.attrs
