-- The error of a selector that is refused.
use Rattle.std.specs.Prelude.{◌≡◌, Bool, true, ◌||◌, List, [], Option, None, Some, is_some}
use Rattle.std.specs.Prelude.{if◌then◌else◌}
use Rattle.std.specs.Str.{bytes_eq}
use Rattle.xml_names.specs.declared.names.Decl.{Decl}
use Rattle.node_select.specs.Names.{prefix_uri}
use Rattle.node_select.specs.declared.fault.SelectorFault.{SelectorFault}
use Rattle.node_select.specs.declared.fault.SelectorFault.TheVariants.{BadSelector, UnboundPrefix}
use Rattle.node_select.specs.declared.selector.PatchForm.{PatchForm}
use Rattle.patch_rules.specs.PatchOperations.{OperationError, Directive, Prefix, PatchAction, Put}
use Rattle.patch_rules.specs.PatchOperations.{NewAttr, Replace, Remove, accepts_form}
use Rattle.patch_rules.specs.Selectors.{Reading}

-- the prefix of a new attribute's name is bound by these bindings
abbrev pub is_type_prefix_bound_by : List Decl → PatchAction → Bool
is_type_prefix_bound_by bindings (Put position) = true
is_type_prefix_bound_by bindings (NewAttr name) =
    bytes_eq name.prefix [] || is_some (prefix_uri bindings name.prefix)
is_type_prefix_bound_by bindings Replace = true
is_type_prefix_bound_by bindings (Remove before after) = true

-- the error of an unbound prefix: what the selector ends in is tested first
abbrev pub unbound_error : PatchAction → PatchForm → OperationError
unbound_error task form = if accepts_form task form then Prefix else Directive

-- the text is a selector, and a prefix in it isn't bound in the scope
abbrev pub HasUnboundPrefix : Option Reading → List (List Decl) → Type 0
HasUnboundPrefix None here = ⊥
HasUnboundPrefix (Some reading) here = reading.means here ≡ None

-- the fault of a refused text: it is no selector, or a prefix in it isn't bound
abbrev pub IsSelectorFault : Option Reading → List (List Decl) → SelectorFault → Type 0
IsSelectorFault reading here (BadSelector place) = reading ≡ None
IsSelectorFault reading here (UnboundPrefix place) = HasUnboundPrefix reading here
