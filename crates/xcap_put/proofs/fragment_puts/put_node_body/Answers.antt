use Rattle.xcap_put.proofs.BodyPlans.{at_beside, at_over, at_under, at_value}
use Rattle.xcap_put.proofs.fragment_puts.put_node_body.Goals as goal

pub returns-in-Value : goal.returns-in-Value
returns-in-Value c = record {
  plans_put = at_value c.args.usage c.args.selector.now c.args.tree.now c.args.request.now c.args.spot.now c.put_value.result c.in-Value.path c.in-Value.is c.put_value.ensures.plans_put;
}

pub returns-in-Over : goal.returns-in-Over
returns-in-Over c = record {
  plans_put = at_over c.args.usage c.args.selector.now c.args.tree.now c.args.request.now c.args.spot.now c.put_element.result c.in-Over.field-0 c.in-Over.is c.put_element.ensures.plans_put;
}

pub returns-in-Under : goal.returns-in-Under
returns-in-Under c = record {
  plans_put =
      at_under c.args.usage c.args.selector.now c.args.tree.now c.args.request.now c.args.spot.now c.put_element-in-Under.result c.in-Under.field-0 c.in-Under.is c.put_element-in-Under.ensures.plans_put;
}

pub returns-in-Beside : goal.returns-in-Beside
returns-in-Beside c = record {
  plans_put = at_beside c.args.usage c.args.selector.now c.args.tree.now c.args.request.now c.args.spot.now c.put_element-in-Beside.result c.in-Beside.is c.put_element-in-Beside.ensures.plans_put;
}
