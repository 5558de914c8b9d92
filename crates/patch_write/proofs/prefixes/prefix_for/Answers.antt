use Rattle.std.proofs.Common.{◌≡◌, ℕ, List, ◌++◌, flat_map, length, bytes_eq, subst, sym, ap, ◌∙◌}
use Rattle.std.proofs.lemmas.Grind.{flat_map-append}
use Rattle.std.proofs.lemmas.Result.{IfOk-weaker}
use Rattle.std.specs.Set.{is_member}
use Rattle.patch_rules.specs.Notices.{candidate_prefix, first_free_candidate, prefix_for}
use Rattle.patch_write.specs.inner.DeclaredPrefixes.{GainsPrefixes, record_prefixes}
use Rattle.patch_write.proofs.FreePrefix.{prefix-listed}
use Rattle.patch_write.proofs.PrefixSets.{gains-then, holds-gained}
use Rattle.patch_write.proofs.prefixes.prefix_for.Goals as goal

pub returns : goal.returns
returns c = record {
  records_prefix =
      let older = c.pieces.result.0.now in
      let newer = c.pieces.result.1.now in
      let ps = flat_map record_prefixes (older ++ newer) in
      let none = c.new-seen.result in
      let some = c.add_notes.new.seen in
      let all = c.add_notes-2.new.seen in
      let both = gains-then (flat_map record_prefixes older) (flat_map record_prefixes newer) none some all c.in_ok-add_notes.ensures.gains_prefixes c.in_ok-add_notes-2.ensures.gains_prefixes in
      let gains = subst (λ (l : List (List ℕ)). GainsPrefixes l none all) (sym (flat_map-append record_prefixes older newer)) both in
      IfOk-weaker c.first_free_candidate.result (λ prefix. prefix ≡ candidate_prefix (first_free_candidate (is_member bytes_eq ps) (length ps) 0)) (λ prefix. prefix ≡ prefix_for c.args.notes.now)
      (λ prefix h. h ∙ prefix-listed older newer ∙ ap prefix_for c.pieces.ensures.exact) (c.first_free_candidate.ensures.first_unused ps (holds-gained ps none all c.new-seen.ensures.empty gains));
}
