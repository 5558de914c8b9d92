use Rattle.std.proofs.Common.{◌+◌, ◌-◌, suc, ℕ, List, IsSome, Ok, sym, subst, ap, ◌∙◌, if◌then◌else◌}
use Rattle.xml_tree.specs.Edits.{parent_path}
use Rattle.xml_tree.specs.Tree.{at}
use Rattle.patch_rules.specs.PatchOperations.{cut_nodes}
use Rattle.patch_apply.specs.inner.ActionResults.{has_space_beside}
use Rattle.patch_apply.proofs.Depths.{some_if}
use Rattle.patch_apply.proofs.ActionResults.{remove_no_space, remove_not, remove_root}
use Rattle.patch_apply.proofs.ActionTrees.{remove_made}
use Rattle.patch_apply.proofs.elements.remove_element.Goals as goal

pub returns-then-not-is_below_root : goal.returns-then-not-is_below_root
returns-then-not-is_below_root c = record {
  as_specified = remove_root c.args.before c.args.after c.args.path.now c.args.operation.now.content c.args.tree.now (sym c.is_below_root.ensures.exact ∙ c.if-not-is_below_root.true);
}

pub returns-then-not-has_only_comments : goal.returns-then-not-has_only_comments
returns-then-not-has_only_comments c = record {
  as_specified =
      remove_not c.args.before c.args.after c.args.path.now c.args.operation.now.content c.args.tree.now (sym c.is_below_root.ensures.exact ∙ c.if-not-is_below_root.false)
      (sym c.has_only_comments.ensures.exact ∙ c.if-not-has_only_comments.true);
}

pub returns-then-not-has_requested_space : goal.returns-then-not-has_requested_space
returns-then-not-has_requested_space c = record {
  as_specified =
      let t = c.args.tree.now in
      remove_no_space c.args.before c.args.after c.args.path.now c.args.operation.now.content t (sym c.is_below_root.ensures.exact ∙ c.if-not-is_below_root.false)
      (sym c.has_only_comments.ensures.exact ∙ c.if-not-has_only_comments.false) ((λ i. has_space_beside c.args.before c.args.after (sym c.place_in_parent-gap.ensures.path_of_parent i) (sym c.place_in_parent-gap.ensures.place_in_nodes i) t) ∙ sym c.has_requested_space.ensures.exact ∙ c.if-not-has_requested_space.true);
}

pub returns : goal.returns
returns c = record {
  as_specified =
      let p = c.args.path.now in let t = c.args.tree.now in let before = c.args.before in let after = c.args.after in
      let same = sym c.place_in_parent-gap.ensures.path_of_parent in let here = sym c.place_in_parent-gap.ensures.place_in_nodes in
      let there : IsSome (at (parent_path p) t) = subst (λ (q : List ℕ). IsSome (at q t)) c.place_in_parent-gap.ensures.path_of_parent (some_if (at c.place_in_parent-gap.result.path t) _ c.place_in_parent-gap.ensures.within_nodes) in
      remove_made before after p c.args.operation.now.content t there c.requires.height_bounded (sym c.is_below_root.ensures.exact ∙ c.if-not-is_below_root.false)
      (sym c.has_only_comments.ensures.exact ∙ c.if-not-has_only_comments.false)
      ((λ i. has_space_beside before after (same i) (here i) t) ∙ sym c.has_requested_space.ensures.exact ∙ c.if-not-has_requested_space.false)
      ∙ (λ i. Ok (cut_nodes (same i) (here i - (if before then 1 else 0)) (suc (here i) + (if after then 1 else 0)) t)) ∙ ap Ok (sym c.in_ok-cut_with_space.ensures.ok);
}
