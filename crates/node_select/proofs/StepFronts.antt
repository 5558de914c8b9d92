-- Each front of a beginning of a step is a beginning of it too.
use Rattle.std.proofs.Common.{ℕ, List, inl, refl}
use Rattle.xml_names.specs.Characters.{is_char}
use Rattle.xml_names.specs.declared.names.Decl.{Decl}
use Rattle.xml_grammar.specs.Digits.{decimal_digits, hexadecimal_digits}
use Rattle.xml_grammar.proofs.Laws.{Lawful, lawful_valued, lawful_sequence, lawful_optional, lawful_behind, lawful_word, lawful_name_of, lawful_either, lawful_number, lawful_between, lawful_run, lawful_some_of}
use Rattle.xml_grammar.proofs.Beginnings.{Fronted, fronted_word, fronted_run, fronted_number, fronted_sequence, fronted_either, fronted_valued, fronted_only, fronted_judged, fronted_optional, fronted_before, fronted_behind, fronted_name_of, fronted_some_of, fronted_quoted, fronted_between}
use Rattle.xml_tokens.specs.readers.Literals.{colon, ampersand, semicolon, hash, letter_x, amp, lt, gt, quot, apos}
use Rattle.xml_tokens.specs.Tokens.{qname, reference, max_char, predefined_entity, char_ref, entity}
use Rattle.xml_tokens.specs.Values.{qname_of}
use Rattle.node_select.specs.declared.selector.NameTest.TheVariants.{Any}
use Rattle.node_select.specs.Grammar.{MarksUnboundName, is_attribute_name, literal_value, node_name, position_of, position, attribute, value, test, step}
use Rattle.node_select.specs.readers.SelectorValues.{step_from_parts, element_test, attr_test}
use Rattle.node_select.specs.readers.Literals.{star, open_bracket, close_bracket, at_sign, equals_sign}
use Rattle.node_select.proofs.ExactParts.{lawful_reference, lawful_value, lawful_position, lawful_attribute, lawful_node_name}

fronted_qname : Fronted qname
fronted_qname = fronted_valued qname_of (fronted_sequence lawful_name_of fronted_name_of (λ _. fronted_optional (fronted_behind (lawful_word colon) (fronted_word colon) fronted_name_of)))

lawful_numbered : Lawful char_ref
lawful_numbered = lawful_behind (lawful_word hash) (lawful_either (lawful_behind (lawful_word letter_x) (lawful_number hexadecimal_digits max_char is_char)) (lawful_number decimal_digits max_char is_char))

fronted_numbered : Fronted char_ref
fronted_numbered = fronted_behind (lawful_word hash) (fronted_word hash) (fronted_either (fronted_behind (lawful_word letter_x) (fronted_word letter_x) (fronted_number hexadecimal_digits max_char is_char)) (fronted_number decimal_digits max_char is_char))

lawful_stands : (c : ℕ) (w : List ℕ) → Lawful (predefined_entity c w)
lawful_stands c w = lawful_valued (λ _. c) (lawful_word w)

fronted_stands : (c : ℕ) (w : List ℕ) → Fronted (predefined_entity c w)
fronted_stands c w = fronted_valued (λ _. c) (fronted_word w)

lawful_entity : Lawful entity
lawful_entity = lawful_either (lawful_stands 60 lt) (lawful_either (lawful_stands 62 gt) (lawful_either (lawful_stands 34 quot) (lawful_either (lawful_stands 39 apos) (lawful_stands 38 amp))))

fronted_entity : Fronted entity
fronted_entity = fronted_either (fronted_stands 60 lt) (fronted_either (fronted_stands 62 gt) (fronted_either (fronted_stands 34 quot) (fronted_either (fronted_stands 39 apos) (fronted_stands 38 amp))))

fronted_reference : Fronted reference
fronted_reference = fronted_behind (lawful_word ampersand) (fronted_word ampersand) (fronted_before (lawful_either lawful_numbered lawful_entity) (fronted_either fronted_numbered fronted_entity) (fronted_word semicolon))

fronted_value : Fronted value
fronted_value =
    fronted_quoted (λ q. lawful_valued literal_value (lawful_between lawful_run lawful_reference (inl (ampersand, refl))))
    (λ q. fronted_valued literal_value (fronted_between lawful_run fronted_run lawful_reference fronted_reference))

fronted_position : Fronted position
fronted_position = fronted_behind (lawful_word open_bracket) (fronted_word open_bracket) (fronted_before (lawful_valued position_of lawful_some_of) (fronted_valued position_of fronted_some_of) (fronted_word close_bracket))

-- the step
module _ (bindings : List Decl) (default : List ℕ) where
  fronted_attribute : Fronted (attribute bindings default)
  fronted_attribute = fronted_behind (lawful_word at_sign) (fronted_word at_sign) (fronted_judged (MarksUnboundName bindings) (fronted_only is_attribute_name fronted_qname))

  fronted_test : Fronted (test bindings default)
  fronted_test =
      fronted_behind (lawful_word open_bracket) (fronted_word open_bracket)
      (fronted_before (lawful_valued (attr_test bindings default) (lawful_sequence (lawful_attribute bindings default) (λ _. lawful_behind (lawful_word equals_sign) lawful_value)))
      (fronted_valued (attr_test bindings default) (fronted_sequence (lawful_attribute bindings default) fronted_attribute (λ _. fronted_behind (lawful_word equals_sign) (fronted_word equals_sign) fronted_value)))
      (fronted_word close_bracket))

  fronted_node_name : Fronted (node_name bindings default)
  fronted_node_name = fronted_either (fronted_valued (λ _. Any) (fronted_word star)) (fronted_valued (element_test bindings default) (fronted_judged (MarksUnboundName bindings) fronted_qname))

  pub fronted_step : Fronted (step bindings default)
  fronted_step =
      fronted_valued step_from_parts
      (fronted_sequence (lawful_sequence (lawful_node_name bindings default) (λ _. lawful_optional lawful_position))
      (fronted_sequence (lawful_node_name bindings default) fronted_node_name (λ _. fronted_optional fronted_position))
      (λ _. fronted_optional fronted_test))
