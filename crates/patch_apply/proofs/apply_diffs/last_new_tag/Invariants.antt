use Rattle.std.proofs.Common.{◌≡◌, [], drop, map, unwrap_or}
use Rattle.std.specs.Option.{option_copied}
use Rattle.patch_rules.specs.Replay.{last_new_tag}
use Rattle.patch_apply.proofs.apply_diffs.last_new_tag.Given as goal

abbrev pub invariant-loop-document : goal.invariant-loop-document
invariant-loop-document l = last_new_tag (unwrap_or (option_copied l.last) []) (map (λ x. x.now) (drop l.document-index l.documents)) ≡ last_new_tag [] (map (λ x. x.now) l.documents)
