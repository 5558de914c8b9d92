-- Node selectors, rule by rule, as in RFC 4825, section 6.3: a part of XPath's abbreviated
-- location paths. The selectors of patches are the selectors of RFC 5261, section 4.1, as far as
-- they are supported.
--
--     selector = step *( "/" step ) [ "/" end ]
--     end      = "@" QName / "namespace::*"
--     step     = ( QName / "*" ) [ "[" 1*DIGIT "]" ] [ "[" "@" QName "=" value "]" ]
--     value    = the value of an attribute, in a pair of quotes, with its references resolved
--     patch    = [ "/" ] step *( "/" step )
--                [ "/" ( "@" QName / "text()" [ "[" 1*DIGIT "]" ] ) ]
--
-- A rule spells what its texts mean by the bindings of their prefixes. A name whose prefix isn't
-- bound is marked.
use Rattle.std.specs.Prelude.{◌≡◌, ℕ, Bool, true, not, ◌&&◌, nat_le, codes, List, [], ◌∷◌, ◌++◌}
use Rattle.std.specs.Prelude.{length, unwrap_or, if◌then◌else◌}
use Rattle.std.specs.Str.{bytes_eq}
use Rattle.std.specs.Char.{is_ascii_digit}
use Rattle.xml_names.specs.Scopes.{xmlns_prefix}
use Rattle.xml_names.specs.declared.names.Name.{Name}
use Rattle.xml_names.specs.declared.names.Decl.{Decl}
use Rattle.xml_grammar.specs.Digits.{decimal_digits}
use Rattle.xml_grammar.specs.Rules.{Rule, word, char_run, number_of_digits, sequence, either, many}
use Rattle.xml_grammar.specs.Rules.{map_rule}
use Rattle.xml_grammar.specs.Rules.{filter_rule, with_value_marks, optional, between_gaps}
use Rattle.xml_grammar.specs.Rules.{one_or_more}
use Rattle.xml_grammar.specs.Rules.{keep_first}
use Rattle.xml_grammar.specs.Rules.{keep_second, quoted}
use Rattle.xml_tokens.specs.declared.fault_kind.FaultKind.{FaultKind}
use Rattle.xml_tokens.specs.declared.fault_kind.FaultKind.TheVariants.{Unbound}
use Rattle.xml_tokens.specs.Values.{qname_text}
use Rattle.xml_tokens.specs.Tokens.{qname, reference, is_quote, is_raw_value_char}
use Rattle.node_select.specs.declared.steps.TheConstants.{MAX_POSITION}
use Rattle.node_select.specs.declared.selector.NameTest.{NameTest}
use Rattle.node_select.specs.declared.selector.NameTest.TheVariants.{Any, Named}
use Rattle.node_select.specs.declared.selector.AttrTest.{AttrTest}
use Rattle.node_select.specs.declared.selector.Step.{Step}
use Rattle.node_select.specs.declared.selector.End.{End}
use Rattle.node_select.specs.declared.selector.End.TheVariants.{Element, Attribute, Namespaces}
use Rattle.node_select.specs.declared.selector.Selector.{Selector}
use Rattle.node_select.specs.declared.selector.PatchEnd.{PatchEnd}
use Rattle.node_select.specs.declared.selector.PatchEnd.TheVariants as patch_ends
use Rattle.node_select.specs.declared.selector.PatchSelector.{PatchSelector}
use Rattle.node_select.specs.Names.{has_unbound_prefix, name_uri, attr_uri}

-- ---- values and positions

-- the value of raw characters and references, without normalization
abbrev pub pieces_text : List (ℕ × List ℕ) → List ℕ
pieces_text [] = []
pieces_text ((c, cs) ∷ pieces) = c ∷ (cs ++ pieces_text pieces)

abbrev pub literal_value : List ℕ × List (ℕ × List ℕ) → List ℕ
literal_value x = x.0 ++ pieces_text x.1

abbrev pub value : Rule FaultKind (List ℕ)
value = quoted is_quote (λ quote. map_rule literal_value
    (between_gaps (char_run (is_raw_value_char quote)) reference))

-- a position above the greatest one is read as 0, a position that no child has
abbrev pub position_of : List ℕ → ℕ
position_of digits =
    if nat_le (number_of_digits decimal_digits 0 digits) MAX_POSITION
    then number_of_digits decimal_digits 0 digits
    else 0

-- "[" 1*DIGIT "]"
abbrev pub position : Rule FaultKind ℕ
position =
    keep_second (word (codes "["))
    (keep_first (map_rule position_of (one_or_more is_ascii_digit)) (word (codes "]")))

-- `xmlns`, which declares, isn't an attribute's name
abbrev pub is_attribute_name : Name → Bool
is_attribute_name n = not (bytes_eq n.prefix [] && bytes_eq n.local xmlns_prefix)

-- A name with an unbound prefix is marked, at its first character.
abbrev pub MarksUnboundName : List Decl → Name → FaultKind → ℕ → Type 0
MarksUnboundName bindings name kind back =
    (has_unbound_prefix bindings name ≡ true) × (kind ≡ Unbound) × (back ≡ length (qname_text name))

-- prefixes have these bindings, and an element's name without prefix is in this namespace
module _ (bindings : List Decl) (default : List ℕ) where
  -- ---- steps

  -- QName / "*"
  abbrev pub node_name : Rule FaultKind NameTest
  node_name =
      either (map_rule (λ _. Any) (word (codes "*")))
      (map_rule (λ name. Named (name_uri bindings default name) name.local)
      (with_value_marks (MarksUnboundName bindings) qname))

  -- "@" QName
  abbrev pub attribute : Rule FaultKind Name
  attribute =
      keep_second (word (codes "@")) (with_value_marks (MarksUnboundName bindings)
      (filter_rule is_attribute_name qname))

  -- "[" "@" QName "=" value "]"
  abbrev pub test : Rule FaultKind AttrTest
  test =
      keep_second (word (codes "["))
      (keep_first (map_rule
      (λ x. record { uri = attr_uri bindings x.0; local = x.0.local; value = x.1 })
      (sequence attribute (λ _. keep_second (word (codes "=")) value)))
      (word (codes "]")))

  abbrev pub step : Rule FaultKind Step
  step =
      map_rule (λ x. record { name = x.0.0; position = x.0.1; test = x.1 })
      (sequence (sequence node_name (λ _. optional position)) (λ _. optional test))

  -- step *( "/" step )
  abbrev pub steps : Rule FaultKind (List Step)
  steps =
      map_rule (λ x. x.0 ∷ x.1) (sequence step (λ _. many (keep_second (word (codes "/")) step)))

  -- ---- selectors

  -- "@" QName / "namespace::*"
  abbrev pub end : Rule FaultKind End
  end =
      either (map_rule (λ name. Attribute (attr_uri bindings name) name.local) attribute)
      (map_rule (λ _. Namespaces) (word (codes "namespace::*")))

  -- without an end it selects an element
  abbrev pub selector : Rule FaultKind Selector
  selector =
      map_rule (λ x. record { steps = x.0; end = x.1 })
      (sequence steps (λ _.
      map_rule (λ o. unwrap_or o Element) (optional (keep_second (word (codes "/")) end))))

  -- ---- selectors of patches

  -- "@" QName / "text()" [ "[" 1*DIGIT "]" ]
  abbrev pub patch_end : Rule FaultKind PatchEnd
  patch_end =
      either (map_rule (λ name. patch_ends.Attribute (attr_uri bindings name) name.local) attribute)
      (map_rule (λ n. patch_ends.Chars n)
      (keep_second (word (codes "text()")) (optional position)))

  abbrev pub patch_selector : Rule FaultKind PatchSelector
  patch_selector =
      keep_second (optional (word (codes "/")))
      (map_rule (λ x. record { steps = x.0; end = x.1 })
      (sequence steps (λ _.
      map_rule (λ o. unwrap_or o patch_ends.Element)
      (optional (keep_second (word (codes "/")) patch_end)))))
