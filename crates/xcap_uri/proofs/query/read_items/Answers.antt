use Rattle.std.proofs.Common.{length, arith}
use Rattle.std.proofs.lemmas.Result.{err_from_is_err_and}
use Rattle.xcap_uri.specs.readers.Queries.{parsed_bindings}
use Rattle.xcap_uri.proofs.Bindings.{fails, goes_on}
use Rattle.xcap_uri.proofs.query.read_items.Goals as goal

pub returns-in_err-item : goal.returns-in_err-item
returns-in_err-item c = record {
  exact =
      let p = err_from_is_err_and c.from_residual.result c.from_residual.ensures.1 in
      rw (p.1, p.2) (fails (parsed_bindings c.args.text.now) c.items.bindings _ c.items.counter c.items.rest.now c.items-test.true (grind arith) c.items.invariant c.in_err-item.field-0.0 c.in_err-item.ensures.reads_rule);
}

pub items-preserved : goal.items-preserved
items-preserved c =
    rw (c.in_ok-bind.ensures.appended, c.as_str.ensures.same_chars, c.as_str-in-items.ensures.same_chars, c.skip_blanks-rest-in-items.ensures.exact)
    (goes_on (parsed_bindings c.args.text.now) c.items.bindings (length c.args.text.now) c.items.counter c.items.rest.now c.items-test.true (grind arith) c.items.invariant (record { prefix = c.in_ok-item.item.prefix; uri = c.in_ok-item.item.uri }) c.in_ok-item.item.rest.now c.in_ok-item.ensures.reads_rule)
