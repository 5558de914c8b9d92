use Rattle.std.proofs.Common.{◌≡◌, ◌+◌, [], take, drop}
use Rattle.tree_text.specs.readers.Bindings.{lists}
use Rattle.tree_text.specs.readers.Meanings.{HoldsMeaningsOf}
use Rattle.tree_text.specs.Names.{attributes_size}
use Rattle.tree_text.specs.readers.TagNameFaults.{first_attribute_fault}
use Rattle.tree_text.proofs.names.first_attribute_fault_by_index.Given as goal

abbrev pub invariant-loop-raw_attribute : goal.invariant-loop-raw_attribute
invariant-loop-raw_attribute l = record {
  left : first_attribute_fault (lists l.here) [] l.tag_front_len l.all ≡ first_attribute_fault (lists l.here) (take l.raw_attribute-index l.all) l.at (drop l.raw_attribute-index l.all);
  place : l.at + attributes_size (drop l.raw_attribute-index l.all) ≡ l.tag_front_len + attributes_size l.all;
  kept : HoldsMeaningsOf l.here (take l.raw_attribute-index l.all) l.seen;
}
