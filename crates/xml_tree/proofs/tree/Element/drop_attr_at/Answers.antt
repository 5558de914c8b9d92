use Rattle.std.proofs.Common.{sym, ap, ◌∙◌}
use Rattle.xml_tree.specs.Edits.{drop_attr}
use Rattle.xml_tree.proofs.PathLemmas.{made_at}
use Rattle.xml_tree.proofs.tree.Element.drop_attr_at.Goals as goal

pub returns-clause-attribute_is_gone : goal.returns-clause-attribute_is_gone
returns-clause-attribute_is_gone c =
    let done = c.edit_at.ensures.edits_element in let f = drop_attr c.args.name.now in
    made_at c.args.path.now f done.here done.left c.args.self.now c.edit_at.new.self done.there (sym done.edits.leaves ∙ done.edits.met.1 ∙ ap f done.edits.shows) done.put
