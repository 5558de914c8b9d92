use Rattle.std.proofs.Common.{◌≡◌, ◌+◌, ◌-◌, ◌<◌, List, ℕ, length, drop, ap, sym, ◌∙◌, subst, arith, length-append}
use Rattle.http_wire.specs.declared.request.Field.{Field}
use Rattle.edit_journal.specs.inner.RecordParts.{ReadsPart, IsFieldsAndBody, HasRoomForFields}
use Rattle.edit_journal.proofs.Blocks.{behind}
use Rattle.edit_journal.proofs.Fields.{body_stops, body_whole, field_stops, fields_go_on, fields_grow, stops_with}
use Rattle.edit_journal.proofs.Lengths.{field_length}
use Rattle.edit_journal.proofs.record_fields.+read_fields_and_body.Goals as goal

pub returns-in_err-read_block-clause-reads_rule : goal.returns-in_err-read_block-clause-reads_rule
returns-in_err-read_block-clause-reads_rule t c =
    let seen : List ℕ → List Field × List ℕ = λ body. (drop (length c.args.fields.now) c.args.fields.now, body) in
    stops_with seen (IsFieldsAndBody c.args.count c.args.left) c.args.bytes.now c.from_residual.result c.in_err-read_block.field-0.0 c.from_residual.ensures.1
    (body_stops seen c.args.bytes.now c.args.count c.args.left c.in_err-read_block.field-0.0 c.if-count-eq0.true c.requires.room_left c.in_err-read_block.ensures.reads_rule)

pub returns-then-count-eq0-clause-reads_rule : goal.returns-then-count-eq0-clause-reads_rule
returns-then-count-eq0-clause-reads_rule t c =
    let e = c.in_ok-read_block.ensures.reads_rule in
    (e.0, e.1, e.2, body_whole c.args.fields.now c.args.count c.args.left e.0 c.in_ok-read_block.field-0.now c.in_ok-from.field-0 c.if-count-eq0.true c.requires.room_left e.3 c.in_ok-from.ensures.same_bytes)

pub returns-in_err-field-clause-reads_rule : goal.returns-in_err-field-clause-reads_rule
returns-in_err-field-clause-reads_rule t c =
    let some : 0 < c.args.count = omega (arith, c.if-count-eq0.false) in
    let seen : List ℕ → List Field × List ℕ = λ body. (drop (length c.args.fields.now) c.args.fields.now, body) in
    stops_with seen (IsFieldsAndBody c.args.count c.args.left) c.args.bytes.now c.from_residual-in_err-field.result c.in_err-field.field-0.0 c.from_residual-in_err-field.ensures.1
    (field_stops seen c.args.bytes.now c.args.count c.args.left c.in_err-field.field-0.0 some c.in_err-field.ensures.reads_rule)

pub overflow_add-used : goal.overflow_add-used
overflow_add-used t c =
    let e = c.in_ok-field.ensures.reads_rule in
    omega (arith, ap length e.3.0, field_length c.in_ok-field.field, e.3.2, c.requires.left_bounded, c.count.ensures.exact)

pub overflow_add-used-2 : goal.overflow_add-used-2
overflow_add-used-2 t c =
    let e = c.in_ok-field.ensures.reads_rule in
    omega (arith, ap length e.3.0, field_length c.in_ok-field.field, e.3.2, c.requires.left_bounded, c.count.ensures.exact, c.len.ensures.exact)

pub bytes_after-requires : goal.bytes_after-requires
bytes_after-requires t c =
    let e = c.in_ok-field.ensures.reads_rule in
    omega (arith, ap length e.3.0, field_length c.in_ok-field.field, ap length e.2, length-append e.0 e.1, c.count.ensures.exact, c.len.ensures.exact)

pub overflow_sub-left-2 : goal.overflow_sub-left-2
overflow_sub-left-2 t c =
    let e = c.in_ok-field.ensures.reads_rule in
    omega (arith, ap length e.3.0, field_length c.in_ok-field.field, e.3.2, c.count.ensures.exact, c.len.ensures.exact)

pub read_fields_and_body-requires : goal.read_fields_and_body-requires
read_fields_and_body-requires t c =
    let e = c.in_ok-field.ensures.reads_rule in
    let used : 8 + c.count.result + c.len.result ≡ length e.0 = omega (arith, ap length e.3.0, field_length c.in_ok-field.field, c.count.ensures.exact, c.len.ensures.exact) in
    let some : 0 < c.args.count = omega (arith, c.if-count-eq0.false) in
    (omega (arith, c.decreases), (omega (arith, c.requires.count_bounded), (subst (λ (n : ℕ). HasRoomForFields (c.args.count - 1) (c.args.left - n)) (sym used) e.3.3, omega (arith, c.requires.left_bounded))))

pub returns-clause-reads_rule : goal.returns-clause-reads_rule
returns-clause-reads_rule t c =
    let e = c.in_ok-field.ensures.reads_rule in
    let used : 8 + c.count.result + c.len.result ≡ length e.0 = omega (arith, ap length e.3.0, field_length c.in_ok-field.field, c.count.ensures.exact, c.len.ensures.exact) in
    let some : 0 < c.args.count = omega (arith, c.if-count-eq0.false) in
    let rest : c.bytes_after.result.now ≡ e.1 = c.bytes_after.ensures.exact ∙ behind c.args.bytes.now e.0 e.1 (8 + c.count.result + c.len.result) e.2 (sym used) in
    fields_go_on c.args.fields.now c.push.new.self c.read_fields_and_body.new.fields c.args.bytes.now e.0 e.1 c.in_ok-field.field c.args.count c.args.left (8 + c.count.result + c.len.result) c.read_fields_and_body.result some
    c.requires.left_bounded e.2 e.3 used c.in_ok-push.ensures.appended c.read_fields_and_body.ensures.keeps_prefix
    (subst (λ (l : List ℕ). ReadsPart (λ (body : List ℕ). (drop (length c.push.new.self) c.read_fields_and_body.new.fields, body)) (IsFieldsAndBody (c.args.count - 1) (c.args.left - (8 + c.count.result + c.len.result))) l c.read_fields_and_body.result) rest c.read_fields_and_body.ensures.reads_rule)

pub returns-clause-keeps_prefix : goal.returns-clause-keeps_prefix
returns-clause-keeps_prefix t c = fields_grow c.args.fields.now c.push.new.self c.read_fields_and_body.new.fields c.in_ok-field.field c.read_fields_and_body.result c.in_ok-push.ensures.appended c.read_fields_and_body.ensures.keeps_prefix
