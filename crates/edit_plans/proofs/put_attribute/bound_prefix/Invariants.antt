use Rattle.std.proofs.Common.{◌≡◌, drop, find}
use Rattle.edit_rules.specs.AttributePuts.{is_binding}
use Rattle.edit_plans.proofs.put_attribute.bound_prefix.Given as goal

abbrev pub invariant-loop-decl : goal.invariant-loop-decl
invariant-loop-decl l = find (is_binding l.uri) (drop l.decl-index l.bindings) ≡ find (is_binding l.uri) l.bindings
