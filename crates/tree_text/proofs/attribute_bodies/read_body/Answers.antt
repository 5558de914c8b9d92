use Rattle.std.proofs.Common.{chars, refl, sym}
use Rattle.tree_text.proofs.ByteResults.{body_not_read, body_ok_told, body_fault_told}
use Rattle.tree_text.proofs.attribute_bodies.read_body.Goals as goal

pub returns-in_default : goal.returns-in_default
returns-in_default c = record { grammar_answer = sym (body_not_read c.args.bytes.now c.in_default.ensures.cases.0) }

pub returns-in-Ok-whole_unquoted_value : goal.returns-in-Ok-whole_unquoted_value
returns-in-Ok-whole_unquoted_value c = record { grammar_answer = body_ok_told c.args.bytes.now c.in-Ok.text.now (chars c.in-Ok.text.now) (chars c.unquoted_body-tail.result.0.now) c.unquoted_body-tail.result.1 c.in-Ok.ensures.cases.0 c.in-Ok.ensures.cases.1 refl c.unquoted_body-tail.ensures.spelled_part c.unquoted_body-tail.ensures.closing_length c.in-Ok-whole_unquoted_value.value c.in-Ok-whole_unquoted_value.ensures.grammar_answer }

pub returns-in-Err : goal.returns-in-Err
returns-in-Err c = record { grammar_answer = body_fault_told c.args.bytes.now c.in-Ok.text.now (chars c.in-Ok.text.now) (chars c.unquoted_body-tail.result.0.now) c.unquoted_body-tail.result.1 c.in-Ok.ensures.cases.0 c.in-Ok.ensures.cases.1 refl c.unquoted_body-tail.ensures.spelled_part c.unquoted_body-tail.ensures.closing_length c.in-Err.stop c.error.result c.in-Err.ensures.grammar_answer c.error.ensures.body_fault }
