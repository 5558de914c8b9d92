-- Reading functions that resolve the names of a selector at their places, and stop at an unbound
-- prefix where that counts.
use Rattle.std.proofs.Common.{ℕ, Bool, List, length}
use Rattle.std.specs.Prelude.{◌&&◌, Option, None, Some, if◌then◌else◌}
use Rattle.xml_names.specs.declared.names.Name.{Name}
use Rattle.xml_names.specs.declared.names.Decl.{Decl}
use Rattle.xml_grammar.specs.TextReading.{Reader, read_word, read_sequence, read_mapped}
use Rattle.xml_grammar.specs.readers.RuleReaders.{read_either, read_many, read_with_value_marks, read_filtered, read_optional, read_first, read_second}
use Rattle.xml_tokens.specs.declared.fault_kind.FaultKind.{FaultKind}
use Rattle.xml_tokens.specs.declared.fault_kind.FaultKind.TheVariants.{Unbound}
use Rattle.xml_tokens.specs.Values.{qname_text}
use Rattle.xml_tokens.specs.readers.Tokens.{read_qname}
use Rattle.node_select.specs.declared.selector.NameTest.{NameTest}
use Rattle.node_select.specs.declared.selector.NameTest.TheVariants.{Any}
use Rattle.node_select.specs.declared.selector.AttrTest.{AttrTest}
use Rattle.node_select.specs.declared.selector.Step.{Step}
use Rattle.node_select.specs.declared.selector.End.{End}
use Rattle.node_select.specs.declared.selector.End.TheVariants.{Namespaces}
use Rattle.node_select.specs.declared.selector.Selector.{Selector}
use Rattle.node_select.specs.declared.selector.PatchEnd.{PatchEnd}
use Rattle.node_select.specs.declared.selector.PatchEnd.TheVariants as patch_ends
use Rattle.node_select.specs.declared.selector.PatchSelector.{PatchSelector}
use Rattle.node_select.specs.Names.{has_unbound_prefix}
use Rattle.node_select.specs.Grammar
use Rattle.node_select.specs.readers.SelectorValues
use Rattle.node_select.specs.readers.Literals
use Rattle.node_select.specs.readers.Selectors.{star_follows, position_follows, read_position, read_value, test_follows, slash_follows, attribute_follows, step_follows, patch_step_follows}

-- the mark of a name that counts
abbrev pub judge : List Decl → Bool → Name → Option (FaultKind × ℕ)
judge bindings on name = if has_unbound_prefix bindings name && on then Some (Unbound, length (qname_text name)) else None

module _ (bindings : List Decl) (default : List ℕ) (on : Bool) where
  abbrev pub judged_node_name : Reader FaultKind NameTest
  judged_node_name = read_either star_follows (read_mapped (λ _. Any) (read_word Literals.star)) (read_mapped (SelectorValues.element_test bindings default) (read_with_value_marks (judge bindings on) read_qname))

  abbrev pub judged_attribute : Reader FaultKind Name
  judged_attribute = read_second (read_word Literals.at_sign) (read_with_value_marks (judge bindings on) (read_filtered Grammar.is_attribute_name read_qname))

  abbrev pub judged_test : Reader FaultKind AttrTest
  judged_test =
      read_second (read_word Literals.open_bracket)
      (read_first (read_mapped (SelectorValues.attr_test bindings default) (read_sequence judged_attribute (λ _. read_second (read_word Literals.equals_sign) read_value))) (read_word Literals.close_bracket))

  abbrev pub judged_step : Reader FaultKind Step
  judged_step =
      read_mapped SelectorValues.step_from_parts
      (read_sequence (read_sequence judged_node_name (λ _. read_optional position_follows read_position)) (λ _. read_optional test_follows judged_test))

  abbrev pub judged_next : Reader FaultKind Step
  judged_next = read_second (read_word Literals.slash) judged_step

  abbrev pub judged_steps : (List ℕ → Bool) → Reader FaultKind (List Step)
  judged_steps follows = read_mapped SelectorValues.steps_from_parts (read_sequence judged_step (λ _. read_many follows judged_next))

  abbrev pub judged_end : Reader FaultKind End
  judged_end = read_either attribute_follows (read_mapped (SelectorValues.attribute_end bindings default) judged_attribute) (read_mapped (λ _. Namespaces) (read_word Literals.namespaces))

  abbrev pub judged_selector : Reader FaultKind Selector
  judged_selector =
      read_mapped SelectorValues.selector_from_parts
      (read_sequence (judged_steps step_follows) (λ _. read_mapped SelectorValues.end_or_element (read_optional slash_follows (read_second (read_word Literals.slash) judged_end))))

  abbrev pub judged_patch_end : Reader FaultKind PatchEnd
  judged_patch_end =
      read_either attribute_follows (read_mapped (SelectorValues.patch_attribute_end bindings default) judged_attribute)
      (read_mapped (λ n. patch_ends.Chars n) (read_second (read_word Literals.text_test) (read_optional test_follows read_position)))

  abbrev pub judged_patch_selector : Reader FaultKind PatchSelector
  judged_patch_selector =
      read_second (read_optional slash_follows (read_word Literals.slash))
      (read_mapped SelectorValues.patch_selector_from_parts
      (read_sequence (judged_steps patch_step_follows) (λ _. read_mapped SelectorValues.patch_end_or_element (read_optional slash_follows (read_second (read_word Literals.slash) judged_patch_end)))))
