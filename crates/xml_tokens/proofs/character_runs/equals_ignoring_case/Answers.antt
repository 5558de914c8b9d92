use Rattle.std.proofs.Common.{rules, chars, sym, ◌∙◌, eq-eqb}
use Rattle.std.specs.Char.{to_ascii_lowercase}
use Rattle.std.proofs.lemmas.Bool.{ne_eqb}
use Rattle.xml_tokens.specs.Values.{equals_ignoring_case}
use Rattle.xml_tokens.proofs.WordLoops.{letters_more, letters_stop, letters_cut}
use Rattle.xml_tokens.proofs.character_runs.equals_ignoring_case.Goals as goal

pub loop-expected-preserved : goal.loop-expected-preserved
loop-expected-preserved c =
    let l = c.loop-expected in
    let word = c.args.word.now in
    let one = c.expected-item.result in
    let same = eq-eqb (to_ascii_lowercase c.in-Some.found) one (sym c.to_ascii_lowercase-lower.ensures.value ∙ c.if-lower-expected.false) in
    record {
      utf8 = search rules;
      left = letters_more word l.expected-index one c.loop-expected-test.true c.expected-item.is (chars l.rest.now) (chars c.in-Some.after.now) c.in-Some.found c.in-Some.ensures.first_and_rest (equals_ignoring_case (chars c.args.text.now) word) same l.invariant.left;
    }

pub returns-then-lower-expected : goal.returns-then-lower-expected
returns-then-lower-expected c =
    let l = c.loop-expected in
    let word = c.args.word.now in
    let one = c.expected-item.result in
    let other = ne_eqb (to_ascii_lowercase c.in-Some.found) one (λ e. c.if-lower-expected.true (c.to_ascii_lowercase-lower.ensures.value ∙ e)) in
    record {
      exact = sym (letters_stop word l.expected-index one c.loop-expected-test.true c.expected-item.is (chars l.rest.now) (chars c.in-Some.after.now) c.in-Some.found c.in-Some.ensures.first_and_rest (equals_ignoring_case (chars c.args.text.now) word) other l.invariant.left);
    }

pub returns-in-None : goal.returns-in-None
returns-in-None c =
    let l = c.loop-expected in
    let word = c.args.word.now in
    record {
      exact = sym (letters_cut word l.expected-index c.expected-item.result c.loop-expected-test.true c.expected-item.is (chars l.rest.now) c.in-None.ensures.none_is_empty (equals_ignoring_case (chars c.args.text.now) word) l.invariant.left);
    }
