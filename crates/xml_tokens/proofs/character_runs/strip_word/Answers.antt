use Rattle.std.proofs.Common.{rules, chars, sym}
use Rattle.std.proofs.lemmas.Bool.{ne_eqb}
use Rattle.xml_grammar.specs.TextReading.{starts_with_word}
use Rattle.xml_tokens.proofs.WordLoops.{starts_more, starts_stops, starts_cut, passed_more, passed_over}
use Rattle.xml_tokens.proofs.character_runs.strip_word.Goals as goal

pub loop-expected-preserved : goal.loop-expected-preserved
loop-expected-preserved c =
    let l = c.loop-expected in
    let word = c.args.word.now in
    let one = c.expected-item.result in
    let same = sym c.if-found-expected.false in
    let first = c.in-Some.ensures.first_and_rest in
    record {
      utf8 = search rules;
      left = starts_more word l.expected-index one c.loop-expected-test.true c.expected-item.is (chars l.rest.now) (chars c.in-Some.after.now) c.in-Some.found first (starts_with_word word (chars c.args.text.now)) same l.invariant.left;
      passed = passed_more word (chars c.args.text.now) (chars l.rest.now) (chars c.in-Some.after.now) l.expected-index one c.in-Some.found c.loop-expected-test.true c.expected-item.is first same l.invariant.passed;
    }

pub returns-then-found-expected : goal.returns-then-found-expected
returns-then-found-expected c =
    let l = c.loop-expected in
    let word = c.args.word.now in
    let one = c.expected-item.result in
    record {
      word_and_rest = tt;
      none_no_word = starts_stops word l.expected-index one c.loop-expected-test.true c.expected-item.is (chars l.rest.now) (chars c.in-Some.after.now) c.in-Some.found c.in-Some.ensures.first_and_rest (starts_with_word word (chars c.args.text.now)) (ne_eqb one c.in-Some.found (λ e. c.if-found-expected.true (sym e))) l.invariant.left;
    }

pub returns-in-None : goal.returns-in-None
returns-in-None c =
    let l = c.loop-expected in
    let word = c.args.word.now in
    record {
      word_and_rest = tt;
      none_no_word = starts_cut word l.expected-index c.expected-item.result c.loop-expected-test.true c.expected-item.is (chars l.rest.now) c.in-None.ensures.none_is_empty (starts_with_word word (chars c.args.text.now)) l.invariant.left;
    }

pub returns : goal.returns
returns c =
    let l = c.loop-expected in
    record {
      word_and_rest = passed_over c.args.word.now (chars c.args.text.now) (chars l.rest.now) l.expected-index c.loop-expected-test.false l.invariant.passed;
      none_no_word = tt;
    }
