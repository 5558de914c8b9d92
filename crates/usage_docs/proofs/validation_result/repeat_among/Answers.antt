use Rattle.xml_tree.specs.Tree.{child_elements_of}
use Rattle.usage_docs.proofs.validation_result.repeat_among.Goals as goal

pub returns-then-passed : goal.returns-then-passed
returns-then-passed c = record { is_first_repeat = λ held. c.first_repeat.ensures.is_first_repeat c.args.row c.args.scope.now (child_elements_of c.args.element.now) (held c.if-passed.true) }
