use Rattle.std.proofs.Common.{◌≡◌, ℕ, List, [], length, chars, encode_utf8_all, Result, Ok, sym, ap, subst, ◌∙◌}
use Rattle.std.proofs.lemmas.List.{append-nil}
use Rattle.std.proofs.lemmas.Result.{err_from_is_err_and}
use Rattle.xml_grammar.specs.TextReading.{Stop}
use Rattle.xml_grammar.specs.readers.RuleReaders.{read_many}
use Rattle.xml_tokens.specs.declared.fault_kind.FaultKind.{FaultKind}
use Rattle.xml_tokens.specs.Values.{normalized_raw, normalized_value as value_of}
use Rattle.xml_tokens.specs.readers.ReadResults.{IsSameStop}
use Rattle.xml_tokens.specs.readers.ValueParts.{read_normalized_raw, read_reference_piece, value_with}
use Rattle.xml_tokens.specs.readers.Tokens.{read_reference, read_raw_value, reference_follows, read_value}
use Rattle.xml_tokens.proofs.Loops.{finish, none_read, start, valued_ok}
use Rattle.xml_tokens.proofs.attribute_values.value.Goals as goal

-- after the first raw characters
begun : (quote : ℕ) (text front left : List ℕ) → read_normalized_raw quote text ≡ Ok (front, left) → read_value quote text ≡ finish value_with front (read_many reference_follows (read_reference_piece quote) left)
begun quote text front left h =
    let first = valued_ok normalized_raw (read_raw_value quote text) front left h in
    start reference_follows (read_raw_value quote) read_reference value_of text left first.value first.read
    ∙ ap (λ (z : List ℕ). finish value_with z (read_many reference_follows (read_reference_piece quote) left)) first.made

-- where no reference follows
no_more : (front left : List ℕ) (out : Result (List (ℕ × List ℕ) × List ℕ) (Stop FaultKind)) → out ≡ Ok ([], left) → finish value_with front out ≡ Ok (front, left)
no_more front left out h = ap (finish value_with front) h ∙ ap (λ (z : List ℕ). let w : List ℕ × List ℕ = (z, left) in Ok w) (append-nil front)

pub returns-then-not-reference_follows : goal.returns-then-not-reference_follows
returns-then-not-reference_follows c = record {
  reads_rule =
      let value = c.in_ok-value.value in
      let left = chars c.in_ok-value.rest.now in
      begun c.args.quote (chars c.args.text.now) value left c.in_ok-value.ensures.reads_rule
      ∙ no_more value left (read_many reference_follows (read_reference_piece c.args.quote) left)
      (none_read reference_follows (read_reference_piece c.args.quote) (length (encode_utf8_all left)) left (sym c.if-not-reference_follows.ensures.exact));
}

pub returns-in_err-rest : goal.returns-in_err-rest
returns-in_err-rest c = record {
  reads_rule =
      let p = err_from_is_err_and c.from_residual-in_err-rest.result c.from_residual-in_err-rest.ensures.1 in
      let stop = c.in_err-rest.field-0.0 in
      let first = begun c.args.quote (chars c.args.text.now) c.in_ok-value.value (chars c.in_ok-value.rest.now) c.in_ok-value.ensures.reads_rule in
      rw (p.1, p.2) (subst (λ (z : Result (List ℕ × List ℕ) (Stop FaultKind)). IsSameStop stop z) (sym first) c.in_err-rest.ensures.reads_onto);
}

pub returns : goal.returns
returns c = record {
  reads_rule = begun c.args.quote (chars c.args.text.now) c.in_ok-value.value (chars c.in_ok-value.rest.now) c.in_ok-value.ensures.reads_rule ∙ c.in_ok-rest.ensures.reads_onto;
}
