use Rattle.std.proofs.Common.{rules, ◌≡◌, ℕ, ◌-◌, List, [], ◌∷◌, ◌++◌, length, refl, sym, ap, ◌∙◌, append_assoc, arith, chars, encode_utf8_all}
use Rattle.std.proofs.lemmas.Str.{encodes-chars}
use Rattle.std.proofs.lemmas.List.{append-nil}
use Rattle.std.proofs.lemmas.Result.{err_from_is_err_and}
use Rattle.xml_grammar.specs.TextReading.{read_mapped}
use Rattle.xml_grammar.specs.readers.RuleReaders.{read_many}
use Rattle.xml_tokens.specs.Values.{normalized_raw, pieces_value}
use Rattle.xml_tokens.specs.readers.ValueParts.{read_reference_piece, value_with}
use Rattle.xml_tokens.specs.readers.Tokens.{read_reference, read_raw_value, reference_follows}
use Rattle.xml_tokens.proofs.Loops.{both_ok, first_stops, goes_on, ends, is_done, is_stopped}
use Rattle.xml_tokens.proofs.attribute_values.push_references.Goals as goal
use Rattle.xml_tokens.proofs.attribute_values.push_references.Goals.{else-loop-test, then-loop-test+then-not-reference_follows}

pub loop-init : goal.loop-init
loop-init c =
    let text = c.args.text.now in
    let all : length text - 0 ≡ length (encode_utf8_all (chars text)) = omega (arith, ap length (encodes-chars text c.utf8.text)) in
    record { utf8 = c.utf8.text; left = rw all refl }

pub returns-in_err-c : goal.returns-in_err-c
returns-in_err-c c = record {
  reads_onto =
      let p = err_from_is_err_and c.from_residual.result c.from_residual.ensures.1 in
      let total = read_mapped (value_with c.args.value.now) (read_many reference_follows (read_reference_piece c.args.quote)) (chars c.args.text.now) in
      rw (p.1, p.2) (ends reference_follows (read_reference_piece c.args.quote) value_with c.in_err-c.field-0.0 c.loop.value _ c.loop.counter (chars c.loop.rest.now) total c.loop-test.true (sym c.reference_follows.ensures.exact ∙ c.if-not-reference_follows.false)
      (first_stops read_reference (λ _. read_raw_value c.args.quote) (chars c.loop.rest.now) c.in_err-c.field-0.0 c.in_err-c.ensures.reads_rule) c.loop.invariant.left);
}

join : (front : List ℕ) (x : ℕ) (cs : List ℕ) (pieces : List (ℕ × List ℕ)) → front ++ (x ∷ (normalized_raw cs ++ pieces_value pieces)) ≡ (front ++ (x ∷ normalized_raw cs)) ++ pieces_value pieces
join front x cs pieces = sym (append_assoc front (x ∷ normalized_raw cs) (pieces_value pieces))

pub loop-preserved : goal.loop-preserved
loop-preserved c = record {
  utf8 = search rules;
  left =
      let total = read_mapped (value_with c.args.value.now) (read_many reference_follows (read_reference_piece c.args.quote)) (chars c.args.text.now) in
      rw c.in_ok-push_reference_piece.ensures.appended (goes_on reference_follows (read_reference_piece c.args.quote) value_with c.loop.value (c.loop.value ++ (c.in_ok-c.c ∷ normalized_raw (chars c.raw_run.result.0.now))) _ c.loop.counter (chars c.loop.rest.now) (chars c.raw_run.result.1.now) (c.in_ok-c.c, (chars c.raw_run.result.0.now)) total c.loop-test.true (sym c.reference_follows.ensures.exact ∙ c.if-not-reference_follows.false)
      (both_ok read_reference (λ _. read_raw_value c.args.quote) (chars c.loop.rest.now) (chars c.in_ok-c.after.now) (chars c.raw_run.result.1.now) c.in_ok-c.c (chars c.raw_run.result.0.now) c.in_ok-c.ensures.reads_rule c.raw_run.ensures.reads_rule)
      (λ xs. join c.loop.value c.in_ok-c.c (chars c.raw_run.result.0.now) xs) c.loop.invariant.left);
}

none_more : (front : List ℕ) → front ++ [] ≡ front
none_more front = append-nil front

pub returns : goal.returns
returns c = record {
  reads_onto =
      let total = read_mapped (value_with c.args.value.now) (read_many reference_follows (read_reference_piece c.args.quote)) (chars c.args.text.now) in
      elim c.loop-test.branch [
        | else-loop-test w ↦ rw (none_more c.loop.value) at (is_done reference_follows (read_reference_piece c.args.quote) value_with c.loop.value _ c.loop.counter (chars c.loop.rest.now) total w.loop-test.false c.loop.invariant.left)
        | then-loop-test+then-not-reference_follows w ↦ rw (none_more c.loop.value) at (is_stopped reference_follows (read_reference_piece c.args.quote) value_with c.loop.value _ c.loop.counter (chars c.loop.rest.now) total (sym w.reference_follows.ensures.exact ∙ w.if-not-reference_follows.true) c.loop.invariant.left)
      ];
}
