use Rattle.std.proofs.Common.{◌≡◌, List, ℕ, IfOk, subst, ◌∙◌}
use Rattle.xml_tokens.proofs.text_buffers.chunk_text.Goals as goal

pub returns : goal.returns
returns g c = record {
  ok =
      subst (λ (cs : List ℕ). IfOk c.from.result (λ part. part ≡ cs)) (c.as_str.ensures.same_chars ∙ c.in_ok-text.ensures.ok) c.from.ensures.same_chars;
}
