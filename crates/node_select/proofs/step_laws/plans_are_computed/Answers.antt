use Rattle.std.proofs.Common.{IsTrue}
use Rattle.node_select.proofs.GapPlans.{one_plan, plan_of_is}
use Rattle.node_select.proofs.step_laws.plans_are_computed.Goals as goal

pub returns : goal.returns
returns g c = record {
  answer_is_one = λ unlawful invalid lawful valid n r s. one_plan unlawful invalid (λ j. IsTrue (lawful j)) (λ j. IsTrue (valid j)) n r s;
  computed_path = plan_of_is;
}
