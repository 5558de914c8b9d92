use Rattle.std.proofs.Common.{rules, chars, sym}
use Rattle.std.proofs.lemmas.Bool.{ne_eqb}
use Rattle.xml_grammar.specs.TextReading.{read_word}
use Rattle.xml_tokens.proofs.WordLoops.{word_more, word_stops, word_cut, word_over}
use Rattle.xml_tokens.proofs.tokens.word_letters.Goals as goal

pub loop-expected-preserved : goal.loop-expected-preserved
loop-expected-preserved c =
    let l = c.loop-expected in
    record {
      utf8 = search rules;
      left = word_more c.args.word.now l.expected-index c.expected-item.result c.loop-expected-test.true c.expected-item.is (chars l.rest.now) (chars c.in-Some.after.now) c.in-Some.found c.in-Some.ensures.first_and_rest (read_word c.args.word.now (chars c.args.text.now)) (sym c.if-found-expected.false) l.invariant.left;
    }

pub returns-then-found-expected : goal.returns-then-found-expected
returns-then-found-expected c =
    let l = c.loop-expected in
    record {
      reads_rule = word_stops c.args.word.now l.expected-index c.expected-item.result c.loop-expected-test.true c.expected-item.is (chars l.rest.now) (chars c.in-Some.after.now) c.in-Some.found c.in-Some.ensures.first_and_rest (read_word c.args.word.now (chars c.args.text.now)) (ne_eqb c.expected-item.result c.in-Some.found (λ e. c.if-found-expected.true (sym e))) l.invariant.left;
    }

pub returns-in-None : goal.returns-in-None
returns-in-None c =
    let l = c.loop-expected in
    record {
      reads_rule = word_cut c.args.word.now l.expected-index c.expected-item.result c.loop-expected-test.true c.expected-item.is (chars l.rest.now) c.in-None.ensures.none_is_empty (read_word c.args.word.now (chars c.args.text.now)) l.invariant.left;
    }

pub returns : goal.returns
returns c = record { reads_rule = word_over c.args.word.now c.loop-expected.expected-index c.loop-expected-test.false (chars c.loop-expected.rest.now) (read_word c.args.word.now (chars c.args.text.now)) c.loop-expected.invariant.left }
