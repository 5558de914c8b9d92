use Rattle.tree_print.proofs.PartLemmas.{none_left}
use Rattle.tree_print.proofs.parts.Parts.pop.Goals as goal

pub returns-then-self-eq-CAPACITY-clause-text_in_front : goal.returns-then-self-eq-CAPACITY-clause-text_in_front
returns-then-self-eq-CAPACITY-clause-text_in_front c =
    none_left c.self.inside.stack c.self.inside.next c.args.self.now c.self.invariant.1 c.if-self-eq-CAPACITY.true c.self.view_is

pub returns-then-self-eq-CAPACITY-clause-has_room : goal.returns-then-self-eq-CAPACITY-clause-has_room
returns-then-self-eq-CAPACITY-clause-has_room c =
    none_left c.self.inside.stack c.self.inside.next c.args.self.now c.self.invariant.1 c.if-self-eq-CAPACITY.true c.self.view_is
