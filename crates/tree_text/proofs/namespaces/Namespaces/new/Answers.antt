use Rattle.std.proofs.Common.{◌≡◌, [], Some, map, refl, sym, ap, ◌∙◌}
use Rattle.std.specs.Str.{chars}
use Rattle.xml_names.specs.Scopes.{xml_uri}
use Rattle.tree_text.specs.readers.Bindings.{value_at_text}
use Rattle.tree_text.proofs.NumberLemmas.{AreNumbers-empty, prefix_numbers-empty}
use Rattle.tree_text.proofs.namespaces.Namespaces.new.Goals as goal

no_letters : chars [] ≡ []
unfolding chars
no_letters = refl

letters : chars xml_uri ≡ xml_uri
unfolding chars xml_uri
letters = refl

pub returns : goal.returns
unfolding xml_uri
returns c = record {
  holds_none = record {
    numbers = c.in_ok-xml.ensures.numbers_stay_numbers (c.in_ok-none.ensures.numbers_stay_numbers (AreNumbers-empty c.new-numbers.result c.new-numbers.ensures.empty));
    none = c.in_ok-xml.ensures.numbers_stay [] c.in_ok-none.none (ap (value_at_text c.assign_number-2.new.numbers) (sym (c.in_ok-from.ensures.same_chars ∙ no_letters)) ∙ c.in_ok-none.ensures.number_of_text);
    xml = ap (value_at_text c.assign_number-4.new.numbers) (sym (c.in_ok-from-2.ensures.same_chars ∙ letters)) ∙ c.in_ok-xml.ensures.number_of_text;
    declared = λ p. ap (map Some) (sym (prefix_numbers-empty c.new.result c.new.ensures.empty p));
  };
}
