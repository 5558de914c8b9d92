use Rattle.std.proofs.Common.{IsSome, sym, ap, ◌∙◌, subst}
use Rattle.xml_tree.specs.Tree.{at}
use Rattle.xml_tree.proofs.PathLemmas.{from_there}
use Rattle.edit_ops.specs.MovedPaths.{KeepsOtherElements}
use Rattle.edit_ops.specs.ChangeSites.{change_site}
use Rattle.edit_ops.specs.inner.LocalChanges.{FitsLocally, local_result}
use Rattle.edit_ops.specs.StagedChanges.{IsStagedLocally}
use Rattle.edit_ops.proofs.MoveLaws.{others_stay}
use Rattle.edit_ops.proofs.StageLemmas.{fits_at, made_there, site_there}
use Rattle.edit_ops.proofs.staged_change.apply_staged.Goals as goal

pub edit_at-requires-clause-place_exists : goal.edit_at-requires-clause-place_exists
edit_at-requires-clause-place_exists c =
    subst (λ p. IsSome (at p c.args.root.now)) (sym c.site_of.ensures.exact) (site_there c.args.root.now c.args.change.now c.requires.fits)

pub edit_at-requires-clause-callable : goal.edit_at-requires-clause-callable
edit_at-requires-clause-callable c = λ e is p shows.
    let root = c.args.root.now in let change = c.args.change.now in let staged = c.args.staged in
    let there = ap (λ q. at q root) (sym c.site_of.ensures.exact) ∙ is in (
      subst (FitsLocally change) (sym shows) (fits_at root e change c.requires.fits there),
      subst (λ x. IsStagedLocally change x staged) (sym shows) (from_there (at (change_site change) root) (λ x. IsStagedLocally change x staged) e c.requires.change_staged there),
    )

pub returns-clause-changed_tree : goal.returns-clause-changed_tree
returns-clause-changed_tree c =
    let done = c.edit_at.ensures.edits_element in let change = c.args.change.now in
    made_there c.args.root.now done.here done.left c.edit_at.new.self change c.site_of.result c.site_of.ensures.exact done.there
    (sym done.edits.leaves ∙ done.edits.met ∙ ap (local_result change) done.edits.shows) done.put

pub returns-clause-others_unchanged : goal.returns-clause-others_unchanged
returns-clause-others_unchanged c =
    let done = c.edit_at.ensures.edits_element in let root = c.args.root.now in let change = c.args.change.now in
    let made = made_there root done.here done.left c.edit_at.new.self change c.site_of.result c.site_of.ensures.exact done.there
    (sym done.edits.leaves ∙ done.edits.met ∙ ap (local_result change) done.edits.shows) done.put in
    subst (λ t. KeepsOtherElements root change t) (sym made) (others_stay root change c.requires.fits)
