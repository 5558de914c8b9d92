use Rattle.std.proofs.Common.{◌≡◌, ◌+◌, ◌++◌, OnOk, chars, flat_map, rules, subst}
use Rattle.std.proofs.lemmas.Str.{IsCharBoundary-after_ascii}
use Rattle.std.specs.Str.{IsCharBoundary}
use Rattle.tree_print.specs.inner.Escapes.{escaped_char}
use Rattle.tree_print.proofs.EscapeLemmas.{escaped_more, escaped_all}
use Rattle.tree_print.proofs.escapes.push_escaped_parts.Goals as goal

pub range_from-rest-requires : goal.range_from-rest-requires
range_from-rest-requires c = λ _.
    let first = c.in-Some.ensures in
    subst (λ bs. IsCharBoundary bs (c.in-Some.at + 1)) c.as_bytes.ensures.value (IsCharBoundary-after_ascii c.as_bytes.result.now c.in-Some.at c.as_bytes.ensures.utf8 first.is_there first.is_ascii)

pub references-preserved : goal.references-preserved
references-preserved c =
    let first = c.in-Some.ensures in (
      search rules,
      escaped_more c.args.place (c.args.out.now ++ flat_map (escaped_char c.args.place) (chars c.args.text.now)) c.references.out c.push_str.new.self c.push_str-in-Some.new.self c.references.rest.now c.as_bytes.result.now c.range.result.now c.in-Some.reference.now c.range_from-rest.result.now c.in-Some.at
          c.as_bytes.ensures.utf8 c.as_bytes.ensures.value first.is_there first.is_ascii first.plain_in_front first.byte_reference (search rules) (search rules) c.in_ok-push_str.ensures.appends_chars c.in_ok-push_str-2.ensures.appends_chars c.references.invariant.1,
    )

pub returns : goal.returns
returns c = record {
  appended =
      subst (λ z. OnOk c.push_str-2.result (c.push_str-2.new.self ≡ z))
      (escaped_all c.args.place (c.args.out.now ++ flat_map (escaped_char c.args.place) (chars c.args.text.now)) c.references.out c.references.rest.now c.as_bytes.result.now c.as_bytes.ensures.utf8 c.as_bytes.ensures.value c.in_default.ensures.none_all_plain c.references.invariant.1)
      c.push_str-2.ensures.appends_chars;
}
