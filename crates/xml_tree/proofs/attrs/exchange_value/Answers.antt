use Rattle.std.proofs.Common.{ap}
use Rattle.xml_names.specs.Attributes.{with_new_value}
use Rattle.xml_tree.proofs.AttrLemmas.{set-change_item}
use Rattle.xml_tree.proofs.attrs.exchange_value.Goals as goal

pub returns-clause-value_replaced : goal.returns-clause-value_replaced
returns-clause-value_replaced c =
    let attr = c.index_mut.result.now in
    set-change_item c.args.at (with_new_value c.args.value) c.args.attrs.now.items attr (with_new_value c.replace.new.dest attr) c.requires c.index_mut.ensures.value (ap (λ v. with_new_value v attr) c.replace.ensures.after)
