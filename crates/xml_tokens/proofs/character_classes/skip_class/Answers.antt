use Rattle.std.proofs.Common.{◌≡◌, false, sym, ap, ◌∙◌}
use Rattle.xml_grammar.specs.TextReading.{first_char_is}
use Rattle.xml_tokens.specs.readers.Classes.{class_contains, is_ascii_passing, is_non_ascii}
use Rattle.xml_tokens.specs.readers.CharacterRuns.{run_len}
use Rattle.xml_tokens.proofs.TextBytes.{ascii_cut, behind_ascii, behind_run}
use Rattle.xml_tokens.proofs.character_classes.skip_class.Goals as goal

pub range_from-rest-requires : goal.range_from-rest-requires
range_from-rest-requires c = λ _.
    let p = class_contains c.args.class in
    ascii_cut p c.args.text.now c.ascii_len-len.result (c.ascii_len-len.ensures.exact ∙ ap (run_len (is_ascii_passing p)) c.as_bytes.ensures.value) c.utf8.text

pub returns-then-is_non_ascii_first : goal.returns-then-is_non_ascii_first
returns-then-is_non_ascii_first c = record {
  exact =
      let p = class_contains c.args.class in
      let is = c.ascii_len-len.ensures.exact ∙ ap (run_len (is_ascii_passing p)) c.as_bytes.ensures.value in
      c.skip_class_by_character.ensures.exact ∙ sym (behind_ascii p c.args.text.now c.ascii_len-len.result is c.range_from-rest.result.now c.range_from-rest.ensures.value);
}

pub returns : goal.returns
returns c = record {
  exact =
      let p = class_contains c.args.class in
      let is = c.ascii_len-len.ensures.exact ∙ ap (run_len (is_ascii_passing p)) c.as_bytes.ensures.value in
      let narrow : first_char_is is_non_ascii c.range_from-rest.result.now ≡ false = ap (first_char_is is_non_ascii) (sym c.as_bytes-2.ensures.value) ∙ sym c.is_non_ascii_first.ensures.exact ∙ c.if-is_non_ascii_first.false in
      behind_run p c.args.text.now c.ascii_len-len.result is c.range_from-rest.result.now c.range_from-rest.ensures.value narrow;
}
