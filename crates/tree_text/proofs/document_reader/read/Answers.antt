use Rattle.std.proofs.Common.{chars, refl, sym}
use Rattle.tree_text.proofs.ByteResults.{not_read, ok_told, fault_told}
use Rattle.tree_text.proofs.document_reader.read.Goals as goal

pub returns-in_default : goal.returns-in_default
returns-in_default c = record { grammar_answer = sym (not_read c.args.depth c.args.scope.now c.args.bytes.now c.in_default.ensures.cases.0) }

pub returns-in-Ok-root : goal.returns-in-Ok-root
returns-in-Ok-root c = record { grammar_answer = ok_told c.args.depth c.args.scope.now c.args.bytes.now c.in-Ok.text.now (chars c.in-Ok.text.now) c.in-Ok.ensures.cases.0 c.in-Ok.ensures.cases.1 refl c.in-Ok-root.root c.in-Ok-root.ensures.grammar_answer }

pub returns-in-Err : goal.returns-in-Err
returns-in-Err c = record { grammar_answer = fault_told c.args.depth c.args.scope.now c.args.bytes.now c.in-Ok.text.now (chars c.in-Ok.text.now) c.in-Ok.ensures.cases.0 c.in-Ok.ensures.cases.1 refl c.in-Err.stop c.error.result c.in-Err.ensures.grammar_answer c.error.ensures.text_fault }
