use Rattle.std.proofs.Common.{◌∙◌}
use Rattle.list_resolve.specs.inner.Views.{context_view}
use Rattle.list_resolve.proofs.ReferenceTargets.{fault_led, found_there, target_led}
use Rattle.list_resolve.proofs.resolution.resolve_reference.Goals as goal

pub returns-in-Ok-clause-exact : goal.returns-in-Ok-clause-exact
returns-in-Ok-clause-exact c =
    c.resolve_target.ensures.exact
    ∙ target_led (context_view c.args.ground.now) c.args.reference.now c.as_bytes-target.result.now c.in-Ok.target (c.as_bytes-target.ensures.value ∙ c.as_str.ensures.utf8_bytes) c.in-Ok.ensures.rules_answer

pub returns-in-Err-Fault-clause-exact : goal.returns-in-Err-Fault-clause-exact
returns-in-Err-Fault-clause-exact c =
    fault_led (context_view c.args.ground.now) c.args.reference.now c.as_bytes-target.result.now c.in-Err-Fault.field-0 c.in-Err-Fault.field-0-0 (c.as_bytes-target.ensures.value ∙ c.as_str.ensures.utf8_bytes) c.in-Err-Fault.field-0-is
    c.in-Err-Fault.ensures.rules_answer

pub returns-in-Ok-clause-reference_exists : goal.returns-in-Ok-clause-reference_exists
returns-in-Ok-clause-reference_exists c =
    found_there (context_view c.args.ground.now) c.args.reference.now c.resolve_target.result
    (
    c.resolve_target.ensures.exact
    ∙ target_led (context_view c.args.ground.now) c.args.reference.now c.as_bytes-target.result.now c.in-Ok.target (c.as_bytes-target.ensures.value ∙ c.as_str.ensures.utf8_bytes) c.in-Ok.ensures.rules_answer
    )
