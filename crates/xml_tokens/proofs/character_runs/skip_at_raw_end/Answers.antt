use Rattle.std.proofs.Common.{◌≡◌, ℕ, false, List, ◌∷◌, chars, refl, sym, ap, ◌∙◌}
use Rattle.std.specs.Prelude.{◌==◌}
use Rattle.xml_grammar.specs.TextReading.{starts_with_word}
use Rattle.xml_tokens.specs.Tokens.{is_raw_char}
use Rattle.xml_tokens.specs.readers.Literals.{cdata_end}
use Rattle.xml_tokens.proofs.RunLemmas.{without_more, without_found, without_stops}
use Rattle.xml_tokens.proofs.character_runs.skip_at_raw_end.Goals as goal

-- a character other than `]` begins no end of a section
no_section : (text cs : List ℕ) (c : ℕ) → text ≡ c ∷ cs → (93 == c) ≡ false → starts_with_word cdata_end text ≡ false
no_section text cs c is other = ap (starts_with_word cdata_end) is ∙ rw other refl

pub returns-then-is_always_raw_char : goal.returns-then-is_always_raw_char
returns-then-is_always_raw_char c =
    let text = chars c.args.text.now in
    let after = chars c.args.after.now in
    let is = c.requires in
    record {
      some_raw_ends = tt;
      none_raw_continues = without_more is_raw_char cdata_end text after c.args.first is (no_section text after c.args.first is (c.if-is_always_raw_char.ensures.no_end refl)) (c.if-is_always_raw_char.ensures.inner_is_raw refl);
    }

pub returns-in-Some : goal.returns-in-Some
returns-in-Some c =
    let text = chars c.args.text.now in
    record {
      some_raw_ends = c.in-Some.ensures.rest_after_end ∙ sym (without_found is_raw_char cdata_end text (chars c.args.after.now) c.args.first c.requires c.in-Some.ensures.section_ends_here);
      none_raw_continues = tt;
    }

pub returns-then-not-is_raw_char : goal.returns-then-not-is_raw_char
returns-then-not-is_raw_char c =
    let text = chars c.args.text.now in
    record {
      some_raw_ends = sym (without_stops is_raw_char cdata_end text (chars c.args.after.now) c.args.first c.requires c.in_default.ensures.none_no_end (sym c.if-not-is_raw_char.ensures.exact));
      none_raw_continues = tt;
    }

pub returns : goal.returns
returns c =
    let text = chars c.args.text.now in
    record {
      some_raw_ends = tt;
      none_raw_continues = without_more is_raw_char cdata_end text (chars c.args.after.now) c.args.first c.requires c.in_default.ensures.none_no_end (sym c.if-not-is_raw_char.ensures.exact);
    }
