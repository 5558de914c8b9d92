-- What one operation makes of a tree, where its selector is read from left to right.
use Rattle.std.specs.Prelude.{ℕ, List, [], Option, None, Some, is_some, unwrap_or, Result, Ok, Err}
use Rattle.std.specs.Prelude.{if◌then◌else◌}
use Rattle.xml_names.specs.Scopes.{in_scope_bindings, bound_uri}
use Rattle.xml_tree.specs.Tree.{Tree}
use Rattle.xml_names.specs.declared.names.Decl.{Decl}
use Rattle.xml_grammar.specs.TextReading.{Stop}
use Rattle.xml_grammar.specs.readers.RuleReaders.{read_whole_text}
use Rattle.xml_tokens.specs.declared.fault_kind.FaultKind.{FaultKind}
use Rattle.node_select.specs.declared.selector.PatchSelector.{PatchSelector}
use Rattle.node_select.specs.readers.RawSelectors.{RawPatchSelector, first_unbound_in_patch}
use Rattle.node_select.specs.readers.RawSelectors.{resolved_patch_selector}
use Rattle.node_select.specs.readers.Selectors.{read_patch_selector}
use Rattle.node_select.specs.readers.WholeSelectors.{raw_form_of}
use Rattle.patch_rules.specs.PatchOperations as words
use Rattle.patch_rules.specs.PatchOperations.{OperationError}
use Rattle.patch_rules.specs.Selectors.{Reading}

-- the meaning in a scope of a selector as written, with the prefixes of its names
abbrev pub selector_meaning : RawPatchSelector → List (List Decl) → Option PatchSelector
selector_meaning raw c =
    if is_some (first_unbound_in_patch (in_scope_bindings c) raw) then None
    else Some (resolved_patch_selector (in_scope_bindings c) (unwrap_or (bound_uri c []) []) raw)

-- A text is read once: what it ends in and what its names mean both come from this reading.
abbrev pub reading_of : RawPatchSelector → Reading
reading_of raw = record { ends = raw_form_of raw.1.1; means = selector_meaning raw }

abbrev pub reading_if_parsed : Result RawPatchSelector (Stop FaultKind) → Option Reading
reading_if_parsed (Ok raw) = Some (reading_of raw)
reading_if_parsed (Err stop) = None

abbrev pub selector_reading : List ℕ → Option Reading
selector_reading sel = reading_if_parsed (read_whole_text read_patch_selector sel)

abbrev pub apply_selected : List (List Decl) → List ℕ → Tree → Tree → Result Tree OperationError
apply_selected = words.apply_selected selector_reading

abbrev pub apply_operation : List (List Decl) → Tree → Tree → Result Tree OperationError
apply_operation = words.apply_operation selector_reading
