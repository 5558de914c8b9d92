use Rattle.std.proofs.Common.{[], List, ℕ, ◌+◌, drop, map, unwrap_or, sym, ap, ◌∙◌}
use Rattle.std.specs.Option.{option_copied}
use Rattle.xml_tree.specs.Tree.{Tree}
use Rattle.patch_rules.specs.Replay.{last_new_tag}
use Rattle.patch_apply.proofs.OperationOrder.{item_now}
use Rattle.patch_apply.proofs.apply_diffs.last_new_tag.Goals as goal

pub loop-document-preserved : goal.loop-document-preserved
loop-document-preserved c =
    let ds = c.args.documents.now in let i = c.loop-document.document-index in
    ap (λ (t : List ℕ). last_new_tag t (map (λ x. x.now) (drop (i + 1) ds))) c.later_new_tag-last.ensures.newer_tag
    ∙ ap (λ (os : List Tree). last_new_tag (unwrap_or (option_copied c.loop-document.last) []) os) (sym (item_now ds i c.document-item.result c.loop-document-test.true c.document-item.is))
    ∙ c.loop-document.invariant
