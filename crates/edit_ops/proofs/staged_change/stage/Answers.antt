use Rattle.std.proofs.Common.{sym, ap, ◌∙◌}
use Rattle.std.proofs.lemmas.Result.{IfErr-weaker, IfOk-weaker}
use Rattle.xml_tree.specs.Tree.{at}
use Rattle.xml_tree.proofs.PathLemmas.{with_there}
use Rattle.edit_ops.specs.ChangeSites.{change_site}
use Rattle.edit_ops.specs.StagedChanges.{IsStagedLocally}
use Rattle.edit_ops.proofs.StageLemmas.{fits_at, site_missing, wants_at}
use Rattle.edit_ops.proofs.staged_change.stage.Goals as goal

pub unreachable-requires : goal.unreachable-requires
unreachable-requires c =
    let root = c.args.root.now in
    site_missing root c.args.change.now c.requires (ap (λ p. at p root) (sym c.site_of.ensures.exact) ∙ sym (c.in_default.ensures {u = tt}).exact)

pub stage_here-requires : goal.stage_here-requires
stage_here-requires c =
    let root = c.args.root.now in
    fits_at root c.in-Some.here.now c.args.change.now c.requires (ap (λ p. at p root) (sym c.site_of.ensures.exact) ∙ sym c.in-Some.ensures.exact)

pub returns-clause-stages_change : goal.returns-clause-stages_change
returns-clause-stages_change c =
    let root = c.args.root.now in let change = c.args.change.now in let here = c.in-Some.here.now in
    let there = ap (λ p. at p root) (sym c.site_of.ensures.exact) ∙ sym c.in-Some.ensures.exact in
    IfOk-weaker c.stage_here.result _ _ (λ made h. with_there (at (change_site change) root) (λ e. IsStagedLocally change e made) here there h) c.stage_here.ensures.stages_change

pub returns-clause-err_wants_memory : goal.returns-clause-err_wants_memory
returns-clause-err_wants_memory c =
    let root = c.args.root.now in
    let there = ap (λ p. at p root) (sym c.site_of.ensures.exact) ∙ sym c.in-Some.ensures.exact in
    IfErr-weaker c.stage_here.result _ _ (λ fault h. wants_at root c.in-Some.here.now c.args.change.now there h) c.stage_here.ensures.err_wants_memory
