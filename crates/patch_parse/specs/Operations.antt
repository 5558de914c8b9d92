-- What is read of the operations of a diff document. RFC 5261, section 4.
use Rattle.std.specs.Prelude.{ℕ, List, filter, Result, Ok}
use Rattle.xml_tree.specs.Tree.{Tree, child_elements_of}
use Rattle.xml_names.specs.declared.names.Decl.{Decl}
use Rattle.node_select.specs.declared.selector.PatchSelector.{PatchSelector}
use Rattle.patch_rules.specs.PatchOperations.{OperationError, Directive, Prefix, PatchAction}
use Rattle.patch_rules.specs.PatchOperations.{require_some}
use Rattle.patch_rules.specs.PatchOperations.{is_type_prefix_bound, accepts_form, require}
use Rattle.patch_rules.specs.readers.AppliedOperations.{selector_reading}
use Rattle.patch_rules.specs.Replay.{is_in_diff_namespace}

-- the selector, where it suits the patch action and its prefixes are bound
abbrev pub checked_selector : List (List Decl) → List ℕ → PatchAction
    → Result PatchSelector OperationError
checked_selector here sel task =
    require_some (selector_reading sel) Directive (λ reading.
    require (accepts_form task reading.ends) Directive
    (require_some (reading.means here) Prefix
    (λ s. require (is_type_prefix_bound here task) Prefix (Ok s))))

-- the child elements of a document that are in the namespace of diff documents, in the scope at it
abbrev pub operations_in_scope : List (List Decl) → Tree → List Tree
operations_in_scope c document = filter (is_in_diff_namespace c) (child_elements_of document)
