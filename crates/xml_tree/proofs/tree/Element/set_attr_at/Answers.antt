use Rattle.std.proofs.Common.{sym, ap, ◌∙◌}
use Rattle.std.proofs.lemmas.Result.{on_ok_weaker, on_err_weaker}
use Rattle.xml_tree.specs.Edits.{set_attr_value}
use Rattle.xml_tree.proofs.PathLemmas.{made_at, same_at}
use Rattle.xml_tree.proofs.tree.Element.set_attr_at.Goals as goal

pub returns-clause-writes_attribute : goal.returns-clause-writes_attribute
returns-clause-writes_attribute c =
    let done = c.edit_at.ensures.edits_element in let f = set_attr_value c.args.name c.args.value in
    on_ok_weaker c.edit_at.result (λ made. made_at c.args.path.now f done.here done.left c.args.self.now c.edit_at.new.self done.there (sym done.edits.leaves ∙ made ∙ ap f done.edits.shows) done.put) done.edits.met.1.0

pub returns-clause-err_unchanged : goal.returns-clause-err_unchanged
returns-clause-err_unchanged c =
    let done = c.edit_at.ensures.edits_element in
    on_err_weaker c.edit_at.result (λ same. same_at c.args.path.now done.here done.left c.args.self.now c.edit_at.new.self done.there (sym done.edits.leaves ∙ same ∙ done.edits.shows) done.put) done.edits.met.1.1.0
