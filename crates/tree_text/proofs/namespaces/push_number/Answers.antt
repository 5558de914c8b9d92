use Rattle.std.proofs.Common.{None, Some, [], ◌∷◌, ◌++◌, ap, ◌∙◌, subst, rules}
use Rattle.std.specs.BTreeMap.{UpdatesBy}
use Rattle.std.specs.Cmp.Lexicographic.{slice_cmp}
use Rattle.std.specs.Ordering.{nat_cmp}
use Rattle.tree_text.proofs.StackLemmas.{pushed}
use Rattle.tree_text.proofs.namespaces.push_number.Goals as goal

pub returns-in_ok-push-in-Some : goal.returns-in_ok-push-in-Some
returns-in_ok-push-in-Some c = record {
  appends_number =
      let w = c.push.new.self in
      pushed c.args.declared.now (c.get_mut.follows.lender w) c.args.prefix.now w ((c.get_mut.follows.holds w).3 (search rules)) (Some c.in-Some.numbers.now) c.in-Some.ensures.value
      c.args.namespace_number c.in_ok-push-in-Some.ensures.items;
}

pub returns-in_ok-insert-in-None : goal.returns-in_ok-insert-in-None
returns-in_ok-insert-in-None c = record {
  appends_number =
      let m = c.args.declared.now in
      let n = c.insert.new.self in
      let w = c.push-in-None.new.self in
      let after =
      subst (λ z. UpdatesBy (slice_cmp nat_cmp) (slice_cmp nat_cmp c.args.prefix.now) z n (Some w)) c.get_mut.follows.holds-at-none
      (subst (λ k. UpdatesBy (slice_cmp nat_cmp) (slice_cmp nat_cmp k) c.get_mut.follows.lender-at-none n (Some w)) c.in_ok-copy-in-None.ensures.equal_text c.in_ok-insert-in-None.ensures.updates)
      in
      pushed m n c.args.prefix.now w after None c.in-None.ensures.value c.args.namespace_number
      (c.in_ok-push-in-None.ensures.items ∙ ap (λ xs. xs ++ c.args.namespace_number ∷ []) c.new-numbers.ensures.items);
}
