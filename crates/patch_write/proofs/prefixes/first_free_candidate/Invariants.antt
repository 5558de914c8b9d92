use Rattle.std.proofs.Common.{◌≡◌, ◌<◌, ℕ, List, true, bytes_eq}
use Rattle.std.specs.Set.{is_member}
use Rattle.patch_rules.specs.Notices.{candidate_prefix}
use Rattle.patch_write.specs.inner.DeclaredPrefixes.{HasExactlyPrefixes}
use Rattle.patch_write.proofs.prefixes.first_free_candidate.Given as goal

abbrev pub invariant-loop-number : goal.invariant-loop-number
invariant-loop-number l = (ps : List (List ℕ)) → HasExactlyPrefixes ps l.seen → (j : ℕ) → j < l.number → is_member bytes_eq ps (candidate_prefix j) ≡ true
