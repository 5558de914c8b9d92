use Rattle.std.proofs.Common.{◌≡◌, chars, string_bytes, ap, ◌∙◌}
use Rattle.std.proofs.lemmas.Result.{IfOk-weaker}
use Rattle.patch_rules.specs.Notices.{candidate_prefix}
use Rattle.patch_write.proofs.Numbers.{lettered}
use Rattle.patch_write.proofs.prefixes.candidate_prefix.Goals as goal

pub returns : goal.returns
returns c = record {
  ok =
      let text = c.deref.result.now in
      IfOk-weaker c.from-2.result (λ made. made ≡ chars text) (λ made. made ≡ candidate_prefix c.args.number)
      (λ made is. lettered c.args.number (string_bytes c.in_ok-numbered.numbered) made c.if-number-eq0.false c.ranges.number.fits c.in_ok-numbered.ensures.ok (is ∙ ap chars c.deref.ensures))
      c.from-2.ensures.same_chars;
}
