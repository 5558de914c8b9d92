-- The state of an element, computed.
use Rattle.std.specs.Prelude.{ℕ, Bool, false, ◌&&◌, ◌||◌, List, Option, None, Some, is_some}
use Rattle.std.specs.Prelude.{if◌then◌else◌}
use Rattle.xml_tree.specs.Tree.{Tree}
use Rattle.doc_names.specs.declared.usages.Usage.{Usage}
use Rattle.node_select.specs.Selection.{selected_element_path}
use Rattle.node_select.specs.declared.selector.Selector.{Selector}
use Rattle.edit_ops.specs.Notes.{Note}
use Rattle.edit_ops.specs.RecordParts.{has_no_notes}
use Rattle.element_watch.specs.declared.element_states.ElementState.{ElementState}
use Rattle.element_watch.specs.declared.element_states.ElementState.TheVariants.{Unchanged, Exists}
use Rattle.element_watch.specs.declared.element_states.ElementState.TheVariants.{Missing}
use Rattle.element_watch.specs.inner.PathHistory.{path_before_notes}
use Rattle.element_watch.specs.inner.KeyAddresses.{is_key_address}

-- whether a selector that selects the element at a path is a key address, and no change record
-- touches the element
abbrev pub is_untouched_at : Usage → Tree → Selector → List Note → List ℕ → Bool
is_untouched_at u t selector ns p =
    is_key_address u t selector p && is_some (path_before_notes p ns)

abbrev pub is_untouched : Option Usage → Tree → Selector → List Note → List ℕ → Bool
is_untouched None t selector ns p = false
is_untouched (Some u) t selector ns p = is_untouched_at u t selector ns p

-- by the path that is selected
abbrev pub state_at : Option Usage → Tree → Selector → List Note → Option (List ℕ) → ElementState
state_at u t selector ns None = if has_no_notes ns then Unchanged else Missing
state_at u t selector ns (Some p) =
    if has_no_notes ns || is_untouched u t selector ns p then Unchanged else Exists

abbrev pub state_of_selected : Option Usage → Tree → Selector → List Note → ElementState
state_of_selected u t selector ns =
    state_at u t selector ns (selected_element_path selector.steps t)
