-- The reading of a text as the selector of an operation, by the grammar of patch selectors. RFC
-- 5261, section 4.1.
use Rattle.std.specs.Prelude.{◌≡◌, ℕ, true, List, [], Option, None, Some, unwrap_or, Result, Ok}
use Rattle.std.specs.Prelude.{Err, encode_utf8_all}
use Rattle.xml_names.specs.Characters.{has_only_chars}
use Rattle.xml_names.specs.Scopes.{in_scope_bindings, bound_uri}
use Rattle.xml_names.specs.declared.names.Decl.{Decl}
use Rattle.node_select.specs.Faults.{IsPatchFormAnswer, IsPatchSelectorAnswer}
use Rattle.node_select.specs.declared.fault.SelectorFault.{SelectorFault}
use Rattle.node_select.specs.declared.selector.PatchForm.{PatchForm}
use Rattle.node_select.specs.declared.selector.PatchSelector.{PatchSelector}

-- what the selector ends in, whether its prefixes are bound or not; and what it means in the scope
-- at the operation, where its prefixes are bound there
pub record Reading : Type 0 where
  pub ends : PatchForm
  pub means : List (List Decl) → Option PatchSelector

-- the selector, where there is one
abbrev pub selector_if_ok : Result PatchSelector SelectorFault → Option PatchSelector
selector_if_ok (Ok selector) = Some selector
selector_if_ok (Err fault) = None

-- the reading of a text: it ends in what the grammar says, and means in each scope the selector
-- that the grammar gives it with the bindings there, where an unprefixed name has the default
-- namespace; none where the text is no selector
abbrev pub IsSelectorReading : List ℕ → Option Reading → Type 0
IsSelectorReading sel None = IsPatchFormAnswer (encode_utf8_all sel) None
IsSelectorReading sel (Some reading) =
    IsPatchFormAnswer (encode_utf8_all sel) (Some reading.ends)
    × ((c : List (List Decl))
    → (answer : Result PatchSelector SelectorFault)
    × IsPatchSelectorAnswer (in_scope_bindings c) (unwrap_or (bound_uri c []) [])
    (encode_utf8_all sel) answer
    × (reading.means c ≡ selector_if_ok answer))

-- the function gives the reading of each text of Chars
abbrev pub IsSelectorReader : (List ℕ → Option Reading) → Type 0
IsSelectorReader read =
    (sel : List ℕ) → has_only_chars sel ≡ true → IsSelectorReading sel (read sel)
