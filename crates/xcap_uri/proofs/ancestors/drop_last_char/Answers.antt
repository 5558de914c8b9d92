use Rattle.std.proofs.Common.{sym, ap, ◌∙◌, subst}
use Rattle.std.specs.Str.{IsUtf8, chars}
use Rattle.std.specs.Str.Iter.{chars_rest}
use Rattle.xcap_uri.proofs.Lasts.{left_over}
use Rattle.xcap_uri.proofs.ancestors.drop_last_char.Goals as goal

pub returns : goal.returns
returns c = record {
  drops_last = λ front last e.
      let text = chars_rest c.chars-letters.result in let rest = chars_rest c.next_back.new.self in
      ap chars c.as_str.ensures
      ∙ left_over c.next_back.result text rest front last (λ same. ap chars_rest same) (subst IsUtf8 (sym c.chars-letters.ensures.rest) c.utf8.text) (subst IsUtf8 c.as_str.ensures c.as_str.utf8)
      c.next_back.ensures.steps (ap chars c.chars-letters.ensures.rest ∙ e);
}
