use Rattle.std.proofs.Common.{◌≡◌, false, ◌∙◌, arith, rules}
use Rattle.patch_rules.specs.Notices.{candidate_prefix}
use Rattle.patch_write.proofs.FreePrefix.{found_first}
use Rattle.patch_write.proofs.PrefixSets.{free-of}
use Rattle.patch_write.proofs.prefixes.first_free_candidate.Goals as goal

pub returns-then-not-contains : goal.returns-then-not-contains
returns-then-not-contains c = record {
  first_unused = λ ps holds.
      let off : c.contains.result ≡ false = search rules in
      let n = c.loop-number.number in
      let free = free-of ps c.args.seen.now c.in_ok-prefix.prefix (candidate_prefix n) c.contains.result holds c.contains.ensures c.in_ok-prefix.ensures.ok off in
      c.in_ok-prefix.ensures.ok ∙ found_first ps n (omega (arith, c.loop-number-test.true)) free (c.loop-number.invariant ps holds);
}
