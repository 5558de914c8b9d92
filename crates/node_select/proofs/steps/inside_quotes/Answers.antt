use Rattle.std.proofs.Common.{◌≡◌, ℕ, ◌-◌, List, [], ◌∷◌, ◌++◌, length, sym, ap, ◌∙◌, append_assoc, arith, rules, chars, encode_utf8_all}
use denote.Text.{Utf8}
use denote.Shadow.{shadow}
use Rattle.std.proofs.lemmas.Str.{encodes-chars}
use Rattle.std.proofs.lemmas.List.{append-nil}
use Rattle.std.proofs.lemmas.Result.{err_from_is_err_and}
use Rattle.xml_tokens.specs.readers.Tokens.{read_reference, read_raw_value, reference_follows}
use Rattle.xml_tokens.proofs.Loops.{start, both_ok, first_stops, goes_on, ends, is_done, is_stopped}
use Rattle.node_select.specs.Grammar.{literal_value, pieces_text}
use Rattle.xml_tokens.specs.readers.ValueParts.{read_reference_piece}
use Rattle.node_select.specs.readers.PartialReads.{value_with}
use Rattle.node_select.specs.readers.Selectors.{read_inside_quotes}
use Rattle.node_select.proofs.steps.inside_quotes.Goals as goal
use Rattle.node_select.proofs.steps.inside_quotes.Goals.{else-loop-test, then-loop-test+then-not-reference_follows}

pub loop-init : goal.loop-init
loop-init c = record {
  utf8 = search rules;
  left =
      let first : c.push_str.new.self ≡ (chars c.raw_run.result.0.now) = c.in_ok-push_str.ensures.appends_chars ∙ ap (λ (z : List ℕ). z ++ (chars c.raw_run.result.0.now)) c.empty_text-value.ensures.holds_no_characters in
      let left = c.raw_run.result.1.now in
      let text : shadow (Utf8 left) = search rules in
      let all : length left - 0 ≡ length (encode_utf8_all (chars left)) = omega (arith, ap length (encodes-chars left text)) in
      rw (first, all) (start reference_follows (read_raw_value c.args.quote) read_reference literal_value (chars c.args.text.now) (chars c.raw_run.result.1.now) (chars c.raw_run.result.0.now) c.raw_run.ensures.reads_rule);
}

pub returns-in_err-c : goal.returns-in_err-c
returns-in_err-c c = record {
  reads_rule =
      let p = err_from_is_err_and c.from_residual-in_err-c.result c.from_residual-in_err-c.ensures.1 in
      rw (p.1, p.2) (ends reference_follows (read_reference_piece c.args.quote) value_with c.in_err-c.field-0.0 c.loop.value _ c.loop.counter (chars c.loop.rest.now) (read_inside_quotes c.args.quote (chars c.args.text.now)) c.loop-test.true (sym c.reference_follows.ensures.exact ∙ c.if-not-reference_follows.false)
      (first_stops read_reference (λ _. read_raw_value c.args.quote) (chars c.loop.rest.now) c.in_err-c.field-0.0 c.in_err-c.ensures.reads_rule) c.loop.invariant.left);
}

join : (front : List ℕ) (x : ℕ) (cs : List ℕ) (pieces : List (ℕ × List ℕ)) → front ++ (x ∷ (cs ++ pieces_text pieces)) ≡ (front ++ (x ∷ cs)) ++ pieces_text pieces
join front x cs pieces = sym (append_assoc front (x ∷ cs) (pieces_text pieces))

pub loop-preserved : goal.loop-preserved
loop-preserved c = record {
  utf8 = search rules;
  left =
      rw c.in_ok-push_piece.ensures.appended (goes_on reference_follows (read_reference_piece c.args.quote) value_with c.loop.value (c.loop.value ++ (c.in_ok-c.c ∷ (chars c.raw_run-in-loop.result.0.now))) _ c.loop.counter (chars c.loop.rest.now) (chars c.raw_run-in-loop.result.1.now) (c.in_ok-c.c, (chars c.raw_run-in-loop.result.0.now)) (read_inside_quotes c.args.quote (chars c.args.text.now)) c.loop-test.true (sym c.reference_follows.ensures.exact ∙ c.if-not-reference_follows.false)
      (both_ok read_reference (λ _. read_raw_value c.args.quote) (chars c.loop.rest.now) (chars c.in_ok-c.after.now) (chars c.raw_run-in-loop.result.1.now) c.in_ok-c.c (chars c.raw_run-in-loop.result.0.now) c.in_ok-c.ensures.reads_rule c.raw_run-in-loop.ensures.reads_rule)
      (λ xs. join c.loop.value c.in_ok-c.c (chars c.raw_run-in-loop.result.0.now) xs) c.loop.invariant.left);
}

none_more : (front : List ℕ) → front ++ [] ≡ front
none_more front = append-nil front

pub returns : goal.returns
returns c = record {
  reads_rule = elim c.loop-test.branch [
    | else-loop-test w ↦ rw (none_more c.loop.value) at (is_done reference_follows (read_reference_piece c.args.quote) value_with c.loop.value _ c.loop.counter (chars c.loop.rest.now) (read_inside_quotes c.args.quote (chars c.args.text.now)) w.loop-test.false c.loop.invariant.left)
    | then-loop-test+then-not-reference_follows w ↦ rw (none_more c.loop.value) at (is_stopped reference_follows (read_reference_piece c.args.quote) value_with c.loop.value _ c.loop.counter (chars c.loop.rest.now) (read_inside_quotes c.args.quote (chars c.args.text.now)) (sym w.reference_follows.ensures.exact ∙ w.if-not-reference_follows.true) c.loop.invariant.left)
  ];
}
