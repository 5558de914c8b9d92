use Rattle.std.proofs.Common.{◌≡◌, ℕ, Bool, true, false, List, [], ◌∷◌, chars, drop, refl, sym, ap, ◌∙◌}
use Rattle.xml_grammar.specs.TextReading.{starts_with_word}
use Rattle.xml_tokens.specs.readers.Literals.{cdata_end}
use Rattle.xml_tokens.proofs.RunLemmas.{starts_then}
use Rattle.xml_tokens.proofs.character_runs.strip_cdata_end.Goals as goal

-- `]]` and `>`
both : (text rest : List ℕ) (b : Bool) → text ≡ 93 ∷ 93 ∷ rest → starts_with_word (62 ∷ []) rest ≡ b → starts_with_word cdata_end text ≡ b
both text rest b is last = ap (starts_with_word cdata_end) is ∙ last

neither : (text : List ℕ) → starts_with_word (93 ∷ 93 ∷ []) text ≡ false → starts_with_word cdata_end text ≡ false
neither text h = starts_then (93 ∷ 93 ∷ []) (62 ∷ []) text ∙ rw h refl

pub returns-then-not-starts_with_word : goal.returns-then-not-starts_with_word
returns-then-not-starts_with_word c = record {
  section_ends_here = tt;
  rest_after_end = tt;
  none_no_end = both (chars c.args.text.now) (chars c.in-Some.rest.now) false c.in-Some.ensures.word_and_rest (sym c.if-not-starts_with_word.ensures.exact);
}

pub returns-else-not-starts_with_word : goal.returns-else-not-starts_with_word
returns-else-not-starts_with_word c = record {
  section_ends_here = both (chars c.args.text.now) (chars c.in-Some.rest.now) true c.in-Some.ensures.word_and_rest (sym c.if-not-starts_with_word.ensures.exact);
  rest_after_end = sym (ap (drop 2) c.in-Some.ensures.word_and_rest);
  none_no_end = tt;
}

pub returns-in-None : goal.returns-in-None
returns-in-None c = record { section_ends_here = tt; rest_after_end = tt; none_no_end = neither (chars c.args.text.now) c.in-None.ensures.none_no_word }
