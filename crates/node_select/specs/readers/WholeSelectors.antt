-- The result of reading a whole text, from left to right.
use Rattle.std.specs.Prelude.{ℕ, List, Option, None, Some, Result, Ok, Err, chars}
use Rattle.xml_grammar.specs.TextReading.{Stop}
use Rattle.xml_grammar.specs.readers.RuleReaders.{read_whole_text}
use Rattle.xml_tokens.specs.declared.fault_kind.FaultKind.{FaultKind}
use Rattle.xml_names.specs.declared.names.Decl.{Decl}
use Rattle.node_select.specs.declared.fault.SelectorFault.{SelectorFault}
use Rattle.node_select.specs.declared.fault.SelectorFault.TheVariants.{BadSelector, UnboundPrefix}
use Rattle.node_select.specs.declared.selector.Selector.{Selector}
use Rattle.node_select.specs.declared.selector.PatchForm.{PatchForm}
use Rattle.node_select.specs.declared.selector.PatchForm.TheVariants as forms
use Rattle.node_select.specs.declared.selector.PatchSelector.{PatchSelector}
use Rattle.node_select.specs.Faults.{byte_offset, stop_offset}
use Rattle.node_select.specs.readers.RawSelectors.{RawSelector, RawPatchEnd, RawPatchSelector}
use Rattle.node_select.specs.readers.RawSelectors.{PatchElement}
use Rattle.node_select.specs.readers.RawSelectors.{PatchAttribute, PatchChars, resolved_selector}
use Rattle.node_select.specs.readers.RawSelectors.{resolved_patch_selector, first_unbound}
use Rattle.node_select.specs.readers.RawSelectors.{first_unbound_in_patch}
use Rattle.node_select.specs.readers.Selectors.{read_selector, read_patch_selector}

-- the first unbound prefix, or the selector by the meaning of its names
abbrev pub resolved_or_unbound : {A : Type 0} → List ℕ → Option ℕ → A → Result A SelectorFault
resolved_or_unbound text None value = Ok value
resolved_or_unbound text (Some n) value = Err (UnboundPrefix (byte_offset text n))

-- the result for a text by its form: it isn't a selector, or its names decide
abbrev pub selector_result_of : List Decl → List ℕ → List ℕ → Result RawSelector (Stop FaultKind)
    → Result Selector SelectorFault
selector_result_of bindings default text (Ok raw) =
    resolved_or_unbound text (first_unbound bindings raw) (resolved_selector bindings default raw)
selector_result_of bindings default text (Err stop) = Err (BadSelector (stop_offset text stop))

abbrev pub patch_result : List Decl → List ℕ → List ℕ → Result RawPatchSelector (Stop FaultKind)
    → Result PatchSelector SelectorFault
patch_result bindings default text (Ok raw) =
    resolved_or_unbound text (first_unbound_in_patch bindings raw)
    (resolved_patch_selector bindings default raw)
patch_result bindings default text (Err stop) = Err (BadSelector (stop_offset text stop))

-- a selector, with these bindings and this namespace of unprefixed elements
abbrev pub parsed_selector : List Decl → List ℕ → List ℕ → Result Selector SelectorFault
parsed_selector bindings default text =
    selector_result_of bindings default text (read_whole_text read_selector (chars text))

abbrev pub parsed_patch_selector : List Decl → List ℕ → List ℕ → Result PatchSelector SelectorFault
parsed_patch_selector bindings default text =
    patch_result bindings default text (read_whole_text read_patch_selector (chars text))

-- what the selector of a patch ends in, if the text is one
abbrev pub raw_form_of : RawPatchEnd → PatchForm
raw_form_of PatchElement = forms.Element
raw_form_of (PatchAttribute name) = forms.Attribute
raw_form_of (PatchChars position) = forms.Chars

abbrev pub raw_form_if_parsed : Result RawPatchSelector (Stop FaultKind) → Option PatchForm
raw_form_if_parsed (Ok raw) = Some (raw_form_of raw.1.1)
raw_form_if_parsed (Err stop) = None

abbrev pub parsed_patch_form : List ℕ → Option PatchForm
parsed_patch_form text = raw_form_if_parsed (read_whole_text read_patch_selector (chars text))
