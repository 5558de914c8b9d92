use Rattle.std.proofs.Common.{◌≡◌, None, sym, ap, ◌∙◌}
use Rattle.tree_text.specs.readers.Bindings.{value_at_text}
use Rattle.tree_text.proofs.NumberLemmas.{AreNumbers-insert, numbers-insert-grown}
use Rattle.tree_text.proofs.namespaces.assign_number.Goals as goal

is_new : (c : goal.In_ok-insert) → value_at_text c.args.numbers.now c.in_ok-copy.field-0 ≡ None
is_new c = ap (value_at_text c.args.numbers.now) c.in_ok-copy.ensures.equal_text ∙ sym c.in_default.ensures.value

pub returns-clause-numbers_stay_numbers : goal.returns-clause-numbers_stay_numbers
returns-clause-numbers_stay_numbers c =
    AreNumbers-insert c.args.numbers.now c.insert.new.self c.in_ok-copy.field-0 c.len-namespace_number.result (is_new c) c.in_ok-insert.ensures.updates
    c.in_ok-insert.field-0 c.in_ok-insert.ensures.old c.len-namespace_number.ensures.len c.in_ok-insert.ensures.len

pub returns-clause-numbers_stay : goal.returns-clause-numbers_stay
returns-clause-numbers_stay c = numbers-insert-grown c.args.numbers.now c.insert.new.self c.in_ok-copy.field-0 c.len-namespace_number.result (is_new c) c.in_ok-insert.ensures.updates
