use Rattle.tree_text.proofs.StackLemmas.{one_less}
use Rattle.tree_text.proofs.namespaces.Namespaces.pop_declaration.Goals as goal

pub returns : goal.returns
returns c = record { holds_one_fewer = λ ds are. one_less c.args.self.now c.pop_number.new.declared ds c.args.decl.now are c.pop_number.ensures.drops_last_number }
