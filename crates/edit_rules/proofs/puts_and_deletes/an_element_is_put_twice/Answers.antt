use Rattle.edit_rules.proofs.Twice.{put_is, put_twice}
use Rattle.edit_rules.proofs.puts_and_deletes.an_element_is_put_twice.Goals as goal

pub returns : goal.returns
returns c = record {
  same_plan = λ u t selector spot e change ends_so h.
      let p = put_is u t selector.steps spot e change h in
      let again = put_twice u t selector.steps e change p in
      (p.path, (ends_so, p.selects), again.0, again.1);
}
