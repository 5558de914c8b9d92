use Rattle.std.proofs.Common.{length, sym, ◌∙◌, arith}
use Rattle.std.proofs.lemmas.List.Sums.{prefix_len_is}
use Rattle.request_checks.specs.Tags.{is_tag_byte}
use Rattle.request_checks.proofs.entity_tags.opaque_len.Goals as goal

pub returns-then-not-is_tag_byte-clause-exact : goal.returns-then-not-is_tag_byte-clause-exact
returns-then-not-is_tag_byte-clause-exact c =
    sym (prefix_len_is is_tag_byte c.args.text.now c.loop-len.len 0 (omega arith) c.loop-len.invariant (λ _. sym c.is_tag_byte.ensures.exact ∙ c.if-not-is_tag_byte.true))

pub returns-clause-exact : goal.returns-clause-exact
returns-clause-exact c =
    sym (prefix_len_is is_tag_byte c.args.text.now (length c.args.text.now) 0 (omega arith) (λ k h. c.loop-len.invariant k (omega arith)) (λ h. absurd (omega arith)))
