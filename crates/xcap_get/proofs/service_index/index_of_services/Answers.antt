use Rattle.std.proofs.Common.{Bor, List, refl, sym, subst}
use Rattle.std.proofs.lemmas.Result.{err_from_is_err_and}
use Rattle.xml_tree.specs.Tree.{Tree}
use Rattle.usage_docs.specs.Services.{index_of_documents}
use Rattle.xcap_get.proofs.IndexSteps.{Gathered, beyond, gathered_more, gathered_none, shown}
use Rattle.xcap_get.proofs.IndexResources.{refused_so}
use Rattle.xcap_get.proofs.service_index.index_of_services.Goals as goal

pub loop-root-init : goal.loop-root-init
loop-root-init c =
    let trees = shown c.in_ok-root-items.root-items.items in
    let left = c.into_iter-root-iterator.result.rest.items in (
      trees,
      c.in_ok-root-items.ensures.index_trees,
      subst (λ (ss : List Tree). Gathered trees (shown left) ss) (sym c.in_ok-maker.ensures.ok)
          (gathered_none trees c.in_ok-root-items.root-items.items left c.into_iter-root-iterator.ensures.into_iter_gives.0 refl c.in_ok-root-items.ensures.within_levels),
    )

pub loop-root-preserved : goal.loop-root-preserved
loop-root-preserved c =
    let trees = c.loop-root.invariant.0 in
    let before = subst (λ (rs : List (Bor Tree)). Gathered trees (shown rs) c.loop-root.maker) c.in-Some.ensures.steps.0 c.loop-root.invariant.2 in
    (trees, c.loop-root.invariant.1, gathered_more trees (shown c.next.new.self.rest.items) c.loop-root.maker c.in-Some.root.now c.add.new.self before c.in_ok-add.ensures.appended c.in_ok-add.ensures.at_most_limit)

pub returns-in_err-add-clause-refused_beyond_limit : goal.returns-in_err-add-clause-refused_beyond_limit
returns-in_err-add-clause-refused_beyond_limit c =
    let trees = c.loop-root.invariant.0 in
    let before = subst (λ (rs : List (Bor Tree)). Gathered trees (shown rs) c.loop-root.maker) c.in-Some.ensures.steps.0 c.loop-root.invariant.2 in
    let p = err_from_is_err_and c.from_residual-in_err-add.result c.from_residual-in_err-add.ensures.1 in
    rw (p.1, p.2)
    (refused_so c.args.store.now.content (index_of_documents trees) c.in_err-add.field-0.0 (trees, c.loop-root.invariant.1, refl) (beyond trees (shown c.next.new.self.rest.items) c.loop-root.maker c.in-Some.root.now c.in_err-add.field-0.0 before c.in_err-add.ensures.refused_too_long))
