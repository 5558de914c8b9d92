use Rattle.std.proofs.Common.{refl}
use Rattle.std.proofs.lemmas.Result.{on_ok_weaker}
use Rattle.tree_text.proofs.NumberLemmas.{AreOf-declare}
use Rattle.tree_text.specs.declared.namespaces.Namespaces.{Namespaces}
use Rattle.tree_text.proofs.namespaces.Namespaces.declare.Goals as goal

pub returns : goal.returns
returns c = record {
  holds_one_more = λ ds are.
      let then : Namespaces = record c.args.self.now { numbers = c.assign_number.new.numbers; declared = c.push_number.new.declared } in
      on_ok_weaker c.push_number.result
      (λ pushed. AreOf-declare c.args.self.now then ds c.args.decl.now c.in_ok-namespace_number.namespace_number are c.in_ok-namespace_number.ensures.number_of_text c.in_ok-namespace_number.ensures.numbers_stay pushed
      (c.in_ok-namespace_number.ensures.numbers_stay_numbers are.numbers) refl refl)
      c.push_number.ensures.appends_number;
}
