-- The result of reading a selector: the selector, or why there is none, with the byte at which
-- that shows.
use Rattle.std.specs.Prelude.{◌≡◌, ℕ, ◌-◌, Bool, true, false, List, [], length, drop, Option, None}
use Rattle.std.specs.Prelude.{Some, Result, Ok, Err, encode_utf8_all, chars}
use Rattle.xml_grammar.specs.TextReading.{Stop, Syntax, Faulty}
use Rattle.xml_grammar.specs.ParseResults as grammar
use Rattle.xml_tokens.specs.declared.fault_kind.FaultKind.{FaultKind}
use Rattle.xml_names.specs.declared.names.Decl.{Decl}
use Rattle.node_select.specs.declared.fault.SelectorFault.{SelectorFault}
use Rattle.node_select.specs.declared.fault.SelectorFault.TheVariants.{BadSelector, UnboundPrefix}
use Rattle.node_select.specs.declared.selector.Selector.{Selector}
use Rattle.node_select.specs.declared.selector.PatchEnd.{PatchEnd}
use Rattle.node_select.specs.declared.selector.PatchEnd.TheVariants.{Element, Attribute, Chars}
use Rattle.node_select.specs.declared.selector.PatchForm.{PatchForm}
use Rattle.node_select.specs.declared.selector.PatchForm.TheVariants as forms
use Rattle.node_select.specs.declared.selector.PatchSelector.{PatchSelector}
use Rattle.node_select.specs.Grammar.{selector, patch_selector}

-- whether the marks of unbound prefixes count as faults; there are no other marks
abbrev pub fault_ranking : Bool → grammar.FaultRanking FaultKind
fault_ranking count = record { is_fault = λ _. count; rank = λ _. 0 }

-- the byte after this many characters of the text
abbrev pub byte_offset : List ℕ → ℕ → ℕ
byte_offset text n = length text - length (encode_utf8_all (drop n (chars text)))

-- the byte at which this rest of the text begins: the length of the beginning before it
abbrev pub stop_offset : List ℕ → Stop FaultKind → ℕ
stop_offset text (Syntax left) = byte_offset text (length (chars text) - length left)
stop_offset text (Faulty kind left) = byte_offset text (length (chars text) - length left)

-- the result for a text, by its form and its names: first that it isn't a selector, then that a
-- prefix isn't bound
abbrev pub selector_result : {A : Type 0} → List ℕ → Result A (Stop FaultKind)
    → Result A (Stop FaultKind) → Result A SelectorFault
selector_result text (Err stop) names = Err (BadSelector (stop_offset text stop))
selector_result text (Ok value) (Err stop) = Err (UnboundPrefix (stop_offset text stop))
selector_result text (Ok value) (Ok same) = Ok same

-- ---- by the grammar

-- the answer by the grammar: the selector that the text spells and no other; after the longest
-- beginning `BadSelector`; else at the first name with an unbound prefix `UnboundPrefix`
pub record IsSelectorAnswer (bindings : List Decl) (default text : List ℕ)
    (answer : Result Selector SelectorFault) : Type 0 where
  pub form_is : Result Selector (Stop FaultKind)
  pub by_form : grammar.IsParseResult (fault_ranking false) (selector bindings default)
      (chars text) form_is
  pub names_are : Result Selector (Stop FaultKind)
  pub by_names : grammar.IsParseResult (fault_ranking true) (selector bindings default)
      (chars text) names_are
  pub is_told : answer ≡ selector_result text form_is names_are

pub record IsPatchSelectorAnswer (bindings : List Decl) (default text : List ℕ)
    (answer : Result PatchSelector SelectorFault) : Type 0 where
  pub form_is : Result PatchSelector (Stop FaultKind)
  pub by_form : grammar.IsParseResult (fault_ranking false) (patch_selector bindings default)
      (chars text) form_is
  pub names_are : Result PatchSelector (Stop FaultKind)
  pub by_names : grammar.IsParseResult (fault_ranking true) (patch_selector bindings default)
      (chars text)
      names_are
  pub is_told : answer ≡ selector_result text form_is names_are

-- ---- the last part of a patch's selector

abbrev pub form_of : PatchEnd → PatchForm
form_of Element = forms.Element
form_of (Attribute uri local) = forms.Attribute
form_of (Chars position) = forms.Chars

abbrev pub form_if_parsed : Result PatchSelector (Stop FaultKind) → Option PatchForm
form_if_parsed (Ok selector) = Some (form_of selector.end)
form_if_parsed (Err stop) = None

-- the answer by the grammar, whatever prefixes are bound: the form of the last part of the
-- selector that the text spells; none if it spells none
pub record IsPatchFormAnswer (text : List ℕ) (answer : Option PatchForm) : Type 0 where
  pub stated : Result PatchSelector (Stop FaultKind)
  pub by_grammar : grammar.IsParseResult (fault_ranking false) (patch_selector [] [])
      (chars text) stated
  pub is_told : answer ≡ form_if_parsed stated
