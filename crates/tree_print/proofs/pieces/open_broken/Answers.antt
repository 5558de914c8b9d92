use Rattle.std.proofs.Common.{◌≡◌, ◌+◌, ◌<◌, ◌++◌, ℕ, List, chars, take, drop, flat_map, length, length-drop, rules, sym, ap, ◌∙◌, arith, subst}
use Rattle.std.proofs.lemmas.Str.{IsCharBoundary-after_ascii}
use Rattle.std.specs.Str.{IsCharBoundary}
use Rattle.tree_print.specs.inner.Escapes.{escaped_char}
use Rattle.tree_print.specs.inner.Parts.{text_pieces}
use Rattle.tree_print.proofs.PieceLemmas.{opens_by, opens_whole, two_pushed}
use Rattle.tree_print.proofs.EscapeLemmas.{plain_chars, escaped_next}
use Rattle.tree_print.proofs.pieces.open_broken.Goals as goal

pub returns-in_default : goal.returns-in_default
returns-in_default c = record {
  opens =
      let text = c.args.text.now in
      let same = c.as_bytes.ensures.value in
      let f = flat_map (escaped_char c.args.place) in
      let plain : f text ≡ text = ap f (sym same) ∙ c.in_default.ensures.none_all_plain ∙ same in
      opens_whole (f (chars text)) (text_pieces (length text)) c.args.parts.now text (plain_chars c.args.place text c.utf8.text plain) (omega arith);
}

pub range_from-rest-requires : goal.range_from-rest-requires
range_from-rest-requires c = λ _.
    let first = c.in-Some.ensures in
    subst (λ bs. IsCharBoundary bs (c.in-Some.at + 1)) c.as_bytes.ensures.value (IsCharBoundary-after_ascii c.as_bytes.result.now c.in-Some.at c.as_bytes.ensures.utf8 first.is_there first.is_ascii)

pub returns : goal.returns
returns c = record {
  opens =
      let text = c.args.text.now in
      let first = c.in-Some.ensures in
      let reference = chars c.in-Some.reference.now in
      let rest = c.range_from-rest.result.now in
      let f = flat_map (escaped_char c.args.place) in
      let within : c.in-Some.at < length text = subst (λ (l : List ℕ). c.in-Some.at < length l) c.as_bytes.ensures.value first.is_there in
      let split = escaped_next c.args.place c.as_bytes.result.now reference c.in-Some.at c.as_bytes.ensures.utf8 first.is_there first.is_ascii first.plain_in_front first.byte_reference in
      let here : f (chars text) ≡ chars (take c.in-Some.at text) ++ (reference ++ f (chars (drop (c.in-Some.at + 1) text))) =
      subst (λ (l : List ℕ). f (chars l) ≡ chars (take c.in-Some.at l) ++ (reference ++ f (chars (drop (c.in-Some.at + 1) l)))) c.as_bytes.ensures.value (sym split) in
      let front : c.range.result.now ≡ take c.in-Some.at text = search rules in
      let behind : rest ≡ drop (c.in-Some.at + 1) text = search rules in
      let shorter = ap length behind ∙ length-drop (c.in-Some.at + 1) text in
      opens_by (f (chars text)) (text_pieces (length text)) c.args.parts.now c.push-2.new.self c.range.result.now (reference ++ f (chars rest)) (1 + text_pieces (length rest))
      (here ∙ ap (λ (l : List ℕ). chars l ++ (reference ++ f (chars (drop (c.in-Some.at + 1) text)))) (sym front) ∙ ap (λ (l : List ℕ). chars c.range.result.now ++ (reference ++ f (chars l))) (sym behind))
      (two_pushed c.push-2.new.self.text c.push.new.self.text c.args.parts.now.text reference (f (chars rest)) c.push-2.ensures.text_before c.push.ensures.text_before)
      (omega (arith, c.push-2.ensures.more_pieces, c.push.ensures.more_pieces)) (omega (arith, shorter, within));
}
