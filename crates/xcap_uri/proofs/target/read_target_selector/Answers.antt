use Rattle.xcap_uri.proofs.TargetAnswers.{part_ok, part_err}
use Rattle.xcap_uri.proofs.target.read_target_selector.Goals as goal

pub returns-in-Ok : goal.returns-in-Ok
returns-in-Ok c = record { exact = part_ok c.args.bindings.now c.args.auid c.args.text.now c.namespace.result.now c.as_str.result.now c.in-Ok.selector c.namespace.ensures.exact c.as_str.ensures.utf8_bytes c.in-Ok.ensures.grammar_answer }

pub returns-in-Err : goal.returns-in-Err
returns-in-Err c = record {
  exact =
      part_err c.args.bindings.now c.args.auid c.args.text.now c.namespace.result.now c.as_str.result.now c.in-Err.error c.uri_error.result c.namespace.ensures.exact c.as_str.ensures.utf8_bytes c.in-Err.ensures.grammar_answer c.uri_error.ensures.exact;
}
