use Rattle.std.proofs.Common.{chars, sym, ◌∙◌}
use Rattle.std.specs.Prelude.{[], ◌∷◌}
use Rattle.xml_grammar.proofs.AheadLemmas.{starts_after_first, starts_not}
use Rattle.xml_grammar.proofs.lookahead.are_both_next.Goals as goal

pub returns-in-Some : goal.returns-in-Some
returns-in-Some c = record {
  exact = c.is_next.ensures.exact ∙ sym (starts_after_first c.args.first c.args.second (chars c.args.text.now) (chars c.in-Some.rest.now) c.in-Some.ensures.letter_and_rest);
}

pub returns-in-None : goal.returns-in-None
returns-in-None c = record { exact = sym (starts_not c.args.first (c.args.second ∷ []) (chars c.args.text.now) c.in-None.ensures.none_not_next) }
