use Rattle.std.proofs.Common.{◌≡◌, drop, map}
use Rattle.patch_rules.specs.Replay.{are_all_mine}
use Rattle.xcap_uri.specs.PrintedNames.{is_name_of}
use Rattle.patch_apply.proofs.apply_diffs.are_of_document.Given as goal

abbrev pub invariant-loop-document : goal.invariant-loop-document
invariant-loop-document l = are_all_mine (is_name_of l.doc) (map (λ x. x.now) (drop l.document-index l.documents)) ≡ are_all_mine (is_name_of l.doc) (map (λ x. x.now) l.documents)
