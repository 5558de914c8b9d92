use Rattle.std.proofs.Common.{◌≡◌, List, [], ℕ, Ok, Err, ap, sym, ◌∙◌, subst, arith}
use Rattle.edit_journal.specs.inner.RecordParts.{ReadsPart, IsMethodByte}
use Rattle.edit_journal.specs.declared.field_parsers.FieldError.TheVariants.{Open, Wrong}
use Rattle.edit_journal.specs.Records.{method_number}
use Rattle.edit_journal.proofs.Contents.{first_none, first_some, method_open, method_whole, method_wrong, put_number, delete_number}
use Rattle.edit_journal.proofs.record_parser.read_method.Goals as goal

pub returns-in-None : goal.returns-in-None
returns-in-None c = record {
  reads_rule =
      let empty : c.args.bytes.now ≡ [] = first_none c.args.bytes.now c.in-None.ensures.value in
      subst (λ (l : List ℕ). ReadsPart (λ (m : List ℕ). m) IsMethodByte l (Err Open)) (sym empty) (method_open (λ (m : List ℕ). m));
}

pub returns-in_ok-from-in-Some-eq1 : goal.returns-in_ok-from-in-Some-eq1
returns-in_ok-from-in-Some-eq1 c = record {
  reads_rule =
      let b = c.in-Some-eq1.field-0.now in
      let text = c.in_ok-from-in-Some-eq1.field-0 in
      let first = first_some c.args.bytes.now b c.in-Some-eq1.ensures.value in
      let read_u32 : b ≡ method_number text = c.in-Some-eq1.field-0-test ∙ sym (ap method_number c.in_ok-from-in-Some-eq1.ensures.same_chars ∙ put_number) in
      subst (λ (l : List ℕ). ReadsPart (λ (m : List ℕ). m) IsMethodByte l (Ok text)) (sym first.1) (method_whole b first.0 text read_u32 (omega (arith, c.in-Some-eq1.field-0-test)));
}

pub returns-in_ok-from-in-Some-eq2 : goal.returns-in_ok-from-in-Some-eq2
returns-in_ok-from-in-Some-eq2 c = record {
  reads_rule =
      let b = c.in-Some-eq2.field-0.now in
      let text = c.in_ok-from-in-Some-eq2.field-0 in
      let first = first_some c.args.bytes.now b c.in-Some-eq2.ensures.value in
      let read_u32 : b ≡ method_number text = c.in-Some-eq2.field-0-test ∙ sym (ap method_number c.in_ok-from-in-Some-eq2.ensures.same_chars ∙ delete_number) in
      subst (λ (l : List ℕ). ReadsPart (λ (m : List ℕ). m) IsMethodByte l (Ok text)) (sym first.1) (method_whole b first.0 text read_u32 (omega (arith, c.in-Some-eq2.field-0-test)));
}

pub returns-in-Some : goal.returns-in-Some
returns-in-Some c = record {
  reads_rule =
      let b = c.in-Some.field-0.now in
      let first = first_some c.args.bytes.now b c.in-Some.ensures.value in
      subst (λ (l : List ℕ). ReadsPart (λ (m : List ℕ). m) IsMethodByte l (Err Wrong)) (sym first.1) (method_wrong (λ (m : List ℕ). m) b first.0 c.in-Some.field-0-test.0.1 c.in-Some.field-0-test.1);
}
