use Rattle.std.proofs.Common.{arith}
use Rattle.std.proofs.lemmas.Result.{on_ok_weaker}
use Rattle.change_records.proofs.AddedFields.{more_fields}
use Rattle.change_records.proofs.record_reading.+read_fields.Goals as goal

pub returns-clause-exact : goal.returns-clause-exact
returns-clause-exact t c =
    let e = c.in_ok-rest.ensures.exact in
    on_ok_weaker c.read_fields.result (more_fields c.args.count c.args.bytes.now c.in_ok-rest.rest.now c.args.fields.now c.push_field.new.fields c.read_fields.new.fields e.0 (omega (arith, c.if-count-eq0.false)) e.1 e.2) c.read_fields.ensures.exact
