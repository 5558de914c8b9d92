use Rattle.std.proofs.Common.{not, sym, ap, ◌∙◌}
use Rattle.xml_names.specs.Attributes.{has_qname as is_named}
use Rattle.edit_ops.proofs.Around.{none-found}
use Rattle.edit_ops.proofs.record_bindings.lacks_attr.Goals as goal

pub returns : goal.returns
returns c = record { exact = ap not c.has_attr.ensures.exact ∙ sym (none-found (is_named c.args.name.now) c.args.element.now.attrs) }
