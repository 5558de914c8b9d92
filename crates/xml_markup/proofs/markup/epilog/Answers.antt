use Rattle.std.proofs.Common.{rules, ◌≡◌, ◌-◌, length, refl, sym, ◌∙◌, arith, chars, ap, encode_utf8_all}
use denote.Text.{Utf8}
use denote.Shadow.{shadow}
use Rattle.std.proofs.lemmas.Str.{encodes-chars}
use Rattle.std.proofs.lemmas.Result.{err_from_is_err_and}
use Rattle.xml_grammar.specs.TextReading.{read_sequence}
use Rattle.xml_markup.specs.readers.Markup.{unit_with, read_without_value, less_follows, read_misc, read_epilog}
use Rattle.xml_tokens.specs.readers.Tokens.{read_spaces}
use Rattle.xml_tokens.proofs.Loops.{start, both_ok, first_stops, goes_on, ends, is_done, is_stopped}
use Rattle.xml_markup.proofs.DroppedParts.{dropped_ok}
use Rattle.xml_markup.proofs.markup.epilog.Goals as goal
use Rattle.xml_markup.proofs.markup.epilog.Goals.{else-loop-test, then-loop-test+then-not-less_follows}

pub loop-init : goal.loop-init
loop-init c = record {
  utf8 = search rules;
  left =
      let left = c.spaces.result.1.now in
      let text : shadow (Utf8 left) = search rules in
      let all : length left - 0 ≡ length (encode_utf8_all (chars left)) = omega (arith, ap length (encodes-chars left text)) in
      rw all (start less_follows (read_without_value read_spaces) read_misc (λ _. tt) (chars c.args.text.now) (chars c.spaces.result.1.now) tt (dropped_ok read_spaces (chars c.args.text.now) (chars c.spaces.result.1.now) (chars c.spaces.result.0.now) c.spaces.ensures.reads_rule));
}

pub returns-in_err-after : goal.returns-in_err-after
returns-in_err-after c = record {
  reads_rule =
      let p = err_from_is_err_and c.from_residual.result c.from_residual.ensures.1 in
      rw (p.1, p.2) (ends less_follows (read_sequence read_misc (λ _. read_without_value read_spaces)) unit_with c.in_err-after.field-0.0 tt _ c.loop.counter (chars c.loop.rest.now) (read_epilog (chars c.args.text.now)) c.loop-test.true (sym c.less_follows.ensures.exact ∙ c.if-not-less_follows.false)
      (first_stops read_misc (λ _. read_without_value read_spaces) (chars c.loop.rest.now) c.in_err-after.field-0.0 c.in_err-after.ensures.reads_rule) c.loop.invariant.left);
}

pub loop-preserved : goal.loop-preserved
loop-preserved c = record {
  utf8 = search rules;
  left =
      goes_on less_follows (read_sequence read_misc (λ _. read_without_value read_spaces)) unit_with tt tt _ c.loop.counter (chars c.loop.rest.now) (chars c.spaces-in-loop.result.1.now) (tt, tt) (read_epilog (chars c.args.text.now)) c.loop-test.true (sym c.less_follows.ensures.exact ∙ c.if-not-less_follows.false)
      (both_ok read_misc (λ _. read_without_value read_spaces) (chars c.loop.rest.now) (chars c.in_ok-after.after.now) (chars c.spaces-in-loop.result.1.now) tt tt c.in_ok-after.ensures.reads_rule (dropped_ok read_spaces (chars c.in_ok-after.after.now) (chars c.spaces-in-loop.result.1.now) (chars c.spaces-in-loop.result.0.now) c.spaces-in-loop.ensures.reads_rule))
      (λ xs. refl) c.loop.invariant.left;
}

pub returns : goal.returns
returns c = record {
  reads_rule = elim c.loop-test.branch [
    | else-loop-test w ↦ is_done less_follows (read_sequence read_misc (λ _. read_without_value read_spaces)) unit_with tt _ c.loop.counter (chars c.loop.rest.now) (read_epilog (chars c.args.text.now)) w.loop-test.false c.loop.invariant.left
    | then-loop-test+then-not-less_follows w ↦ is_stopped less_follows (read_sequence read_misc (λ _. read_without_value read_spaces)) unit_with tt _ c.loop.counter (chars c.loop.rest.now) (read_epilog (chars c.args.text.now)) (sym w.less_follows.ensures.exact ∙ w.if-not-less_follows.true) c.loop.invariant.left
  ];
}
