use Rattle.std.proofs.Common.{rules, ℕ, List, [], ◌∷◌, ◌++◌, chars, refl, sym, ap, ◌∙◌, append_assoc}
use Rattle.xml_names.specs.Characters.{is_char}
use Rattle.xml_tokens.proofs.RunLemmas.{inside_starts, inside_more, inside_found, inside_stops, inside_over}
use Rattle.xml_tokens.proofs.TextBytes.{front_by_rest}
use Rattle.xml_tokens.proofs.character_runs.up_to.Goals as goal

pub each-init : goal.each-init
each-init c = record { utf8 = c.utf8.text; front = []; whole = refl; left = inside_starts is_char c.args.end.now (chars c.args.text.now) }

pub text_before-requires : goal.text_before-requires
text_before-requires c = (c.each.invariant.front, c.each.invariant.whole)

pub returns-in-Some-strip_word : goal.returns-in-Some-strip_word
returns-in-Some-strip_word c = record {
  reads_rule =
      let text = chars c.args.text.now in
      let rest = chars c.each.rest.now in
      let front = chars c.text_before.result.now in
      let same = front_by_rest text front c.each.invariant.front rest c.text_before.ensures.parts_of_text c.each.invariant.whole in
      let found = inside_found is_char c.args.end.now c.each.invariant.front rest (chars c.in-Some.after.now) c.in-Some.c c.in-Some.ensures.first_and_rest (chars c.in-Some-strip_word.rest_after.now) c.in-Some-strip_word.ensures.word_and_rest in
      c.each.invariant.left ∙ found ∙ rw same refl;
}

pub returns-then-not-is_char : goal.returns-then-not-is_char
returns-then-not-is_char c = record {
  reads_rule =
      c.each.invariant.left ∙ inside_stops is_char c.args.end.now c.each.invariant.front (chars c.each.rest.now) (chars c.in-Some.after.now) c.in-Some.c c.in-Some.ensures.first_and_rest c.in_default-strip_word.ensures.none_no_word (sym c.if-not-is_char.ensures.exact);
}

pub each-preserved : goal.each-preserved
each-preserved c =
    let so_far = c.each.invariant in
    let after = chars c.in-Some.after.now in
    record {
      utf8 = search rules;
      front = so_far.front ++ c.in-Some.c ∷ [];
      whole = so_far.whole ∙ ap (λ (z : List ℕ). so_far.front ++ z) c.in-Some.ensures.first_and_rest ∙ sym (append_assoc so_far.front (c.in-Some.c ∷ []) after);
      left = so_far.left ∙ inside_more is_char c.args.end.now so_far.front (chars c.each.rest.now) after c.in-Some.c c.in-Some.ensures.first_and_rest c.in_default-strip_word.ensures.none_no_word (sym c.if-not-is_char.ensures.exact);
    }

pub returns : goal.returns
returns c = record { reads_rule = c.each.invariant.left ∙ inside_over is_char c.args.end.now c.each.invariant.front (chars c.each.rest.now) c.in_default.ensures.none_is_empty }
