use Rattle.std.proofs.Common.{sym, ap, ◌∙◌}
use Rattle.std.proofs.lemmas.Result.{on_ok_weaker, on_err_weaker}
use Rattle.xml_tree.specs.Edits.{put_kid}
use Rattle.xml_tree.proofs.PathLemmas.{made_at, same_at}
use Rattle.xml_tree.proofs.tree.Element.put_in.Goals as goal

pub returns-clause-puts_element : goal.returns-clause-puts_element
returns-clause-puts_element c =
    let done = c.edit_at.ensures.edits_element in let f = put_kid c.args.gap c.args.element in
    on_ok_weaker c.edit_at.result (λ made. made_at c.args.path.now f done.here done.left c.args.self.now c.edit_at.new.self done.there (sym done.edits.leaves ∙ made ∙ ap f done.edits.shows) done.put) done.edits.met.0

pub returns-clause-err_unchanged : goal.returns-clause-err_unchanged
returns-clause-err_unchanged c =
    let done = c.edit_at.ensures.edits_element in
    on_err_weaker c.edit_at.result (λ same. same_at c.args.path.now done.here done.left c.args.self.now c.edit_at.new.self done.there (sym done.edits.leaves ∙ same ∙ done.edits.shows) done.put) done.edits.met.1.0
