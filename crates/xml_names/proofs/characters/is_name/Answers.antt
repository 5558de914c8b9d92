use Rattle.std.proofs.Common.{◌≡◌, ◌∷◌, true, chars, refl, sym, ◌∙◌}
use Rattle.std.proofs.lemmas.Str.{chars_past_char}
use Rattle.xml_names.specs.Characters.{is_name_start}
use Rattle.xml_names.proofs.characters.is_name.Goals as goal

pub returns-then-is_name_start : goal.returns-then-is_name_start
returns-then-is_name_start c = record {
  exact =
      let rest = c.next.new.self.rest.now in
      let whole : chars c.args.text.now ≡ c.in-Some.first ∷ chars rest = chars_past_char c.args.text.now rest c.in-Some.first c.utf8.text (sym c.chars.ensures.rest ∙ c.in-Some.ensures.steps.0) in
      let starts : is_name_start c.in-Some.first ≡ true = sym c.is_name_start.ensures.exact ∙ c.if-is_name_start.true in
      c.has_name_chars.ensures.exact ∙ rw (whole, starts) refl;
}

pub returns-else-is_name_start : goal.returns-else-is_name_start
returns-else-is_name_start c = record {
  exact =
      let rest = c.next.new.self.rest.now in
      let whole : chars c.args.text.now ≡ c.in-Some.first ∷ chars rest = chars_past_char c.args.text.now rest c.in-Some.first c.utf8.text (sym c.chars.ensures.rest ∙ c.in-Some.ensures.steps.0) in
      let starts = sym c.is_name_start.ensures.exact ∙ c.if-is_name_start.false in
      c.if-is_name_start.false ∙ rw (whole, starts) refl;
}
