use Rattle.std.proofs.Common.{◌≡◌, drop, find}
use Rattle.usage_docs.specs.KeyAttributes.{is_key_attribute}
use Rattle.usage_docs.proofs.attributes.key_attribute_text.Given as goal

abbrev pub invariant-loop-attr : goal.invariant-loop-attr
invariant-loop-attr l = find (is_key_attribute l.key) (drop l.attr-index l.attrs) ≡ find (is_key_attribute l.key) l.attrs
