use Rattle.std.proofs.Common.{◌≡◌, ◌+◌, ◌++◌, map, drop, chars}
use Rattle.node_select.specs.readers.RawSelectors.{HaveFrontsWithin, resolved_steps, unbound_in_steps, no_unbound_end, steps_size}
use Rattle.node_select.specs.readers.Views.{step_view}
use Rattle.node_select.proofs.name_resolution.steps.Given as goal

abbrev pub invariant-loop-raw : goal.invariant-loop-raw
invariant-loop-raw l = record {
  made : resolved_steps l.bindings (chars l.default) (map step_view l.steps) ≡ l.made ++ resolved_steps l.bindings (chars l.default) (map step_view (drop l.raw-index l.steps));
  unbound : unbound_in_steps l.bindings l.at (map step_view l.steps) no_unbound_end ≡ unbound_in_steps l.bindings l.here (map step_view (drop l.raw-index l.steps)) no_unbound_end;
  place : l.here + steps_size (map step_view (drop l.raw-index l.steps)) ≡ l.at + steps_size (map step_view l.steps);
  whole : HaveFrontsWithin (map step_view (drop l.raw-index l.steps));
}
