use Rattle.std.proofs.Common.{IsSomeAnd, sym, subst, ◌∙◌}
use Rattle.xml_tree.specs.Tree.{at}
use Rattle.edit_ops.specs.inner.LocalChanges.{FitsLocally}
use Rattle.edit_ops.proofs.SiteLemmas.{fits_there}
use Rattle.edit_ops.proofs.rebuild_tree.rebuilt.Goals as goal

pub rebuild_below-requires : goal.rebuild_below-requires
rebuild_below-requires c =
    let root = c.args.root.now in let change = c.args.change.now in
    subst (λ p. IsSomeAnd (at p root) (FitsLocally change)) (sym (c.numbers.ensures.exact ∙ c.site_of.ensures.exact)) (fits_there root change c.requires)
