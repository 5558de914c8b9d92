use Rattle.std.proofs.Common.{◌≡◌, rules, chars, ◌∙◌, arith}
use Rattle.xml_grammar.proofs.CursorLemmas.{skip_more, skip_none}
use Rattle.xml_grammar.proofs.cursor.skip_chars.Goals as goal

pub each-preserved : goal.each-preserved
each-preserved c = record {
  utf8 = search rules;
  behind = skip_more (chars c.each.rest.now) (chars c.in-Some.after.now) _ c.each.left c.in-Some.ensures.first_and_rest c.each-test.true ∙ c.each.invariant.behind;
}

pub returns-in-None : goal.returns-in-None
returns-in-None c = record { exact = skip_none (chars c.each.rest.now) c.each.left c.in-None.ensures.none_is_empty ∙ c.each.invariant.behind }

pub returns : goal.returns
returns c = record { exact = let none : c.each.left ≡ 0 = omega (arith, c.each-test.false) in rw none at c.each.invariant.behind }
