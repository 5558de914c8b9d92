use Rattle.std.proofs.Common.{◌≡◌, ◌++◌, ℕ, List, OnOk, flat_map, refl, sym, ap, subst, ◌∙◌}
use Rattle.tree_print.specs.inner.Escapes.{escaped_char}
use Rattle.tree_print.proofs.EscapeLemmas.{plain_chars}
use Rattle.tree_print.proofs.escapes.push_escaped.Goals as goal

pub returns-then-is_plain : goal.returns-then-is_plain
returns-then-is_plain c = record {
  appended =
      let f = flat_map (escaped_char c.args.place) in
      let bytes = c.as_bytes.result.now in
      let same = c.as_bytes.ensures.value in
      let plain : f c.args.text.now ≡ c.args.text.now = ap f (sym same) ∙ c.if-is_plain.ensures.plain_unescaped refl ∙ same in
      subst (λ (cs : List ℕ). OnOk c.push_str.result (c.push_str.new.self ≡ c.args.out.now ++ cs)) (sym (plain_chars c.args.place c.args.text.now c.utf8.text plain)) c.push_str.ensures.appends_chars;
}
