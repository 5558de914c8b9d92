use Rattle.std.proofs.Common.{rules, ◌≡◌, ℕ, List, IfOk, sym, subst, ◌∙◌}
use Rattle.std.proofs.lemmas.Str.{chars-IsAscii, chars_from_encodes}
use Rattle.xml_tokens.proofs.text_buffers.chars_of_text.Goals as goal

pub returns-then-is_ascii : goal.returns-then-is_ascii
returns-then-is_ascii c = record {
  same_chars =
      subst (λ (cs : List ℕ). IfOk c.chars_of_ascii.result (λ all. all.items ≡ cs)) (c.as_bytes.ensures.value ∙ sym (chars-IsAscii c.args.text.now c.if-is_ascii.ensures.cases)) c.chars_of_ascii.ensures.ok;
}

pub returns : goal.returns
returns c = record { same_chars = search (rules, chars_from_encodes) }
