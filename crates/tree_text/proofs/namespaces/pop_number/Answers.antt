use Rattle.std.proofs.Common.{Some, take, ◌-◌, ap, ◌∙◌, rules}
use Rattle.tree_text.proofs.StackLemmas.{popped}
use Rattle.tree_text.proofs.namespaces.pop_number.Goals as goal

pub returns-in-Some : goal.returns-in-Some
returns-in-Some c = record {
  drops_last_number =
      let w = c.pop.new.self in
      popped c.args.declared.now (c.get_mut.follows.lender w) c.args.prefix.now w ((c.get_mut.follows.holds w).3 (search rules)) (Some c.in-Some.numbers.now) c.in-Some.ensures.value
      (c.pop.ensures.rest ∙ ap (λ k. take (k - 1) c.in-Some.numbers.now.items) c.in-Some.numbers.now.ok.0);
}
