use Rattle.std.proofs.Common.{◌≡◌, drop}
use Rattle.std.specs.List.{list_all}
use Rattle.usage_docs.specs.KeyAttributes.{is_attr_allowed}
use Rattle.usage_docs.proofs.attributes.are_all_allowed.Given as goal

abbrev pub invariant-loop-attr : goal.invariant-loop-attr
invariant-loop-attr l = list_all (is_attr_allowed l.row l.scope) (drop l.attr-index l.attrs) ≡ list_all (is_attr_allowed l.row l.scope) l.attrs
