use Rattle.std.proofs.Common.{◌≡◌, ◌++◌, flat_map}
use Rattle.xcap_uri.specs.Ancestors.{bracket_escape}
use Rattle.xcap_uri.proofs.ancestors.push_selector.Given as goal

abbrev pub invariant-loop-c : goal.invariant-loop-c
invariant-loop-c l = l.uri ≡ l.initial.uri ++ flat_map bracket_escape l.yielded
