-- What the selector of an operation selects, and how its text is taken by the grammar of
-- selectors. RFC 5261, section 4.1.
use Rattle.std.specs.Prelude.{◌≡◌, ℕ, List, Option, None, Some, option_and_then, Result, Ok, Err}
use Rattle.xml_tree.specs.Tree.{Tree}
use Rattle.xml_names.specs.declared.names.Decl.{Decl}
use Rattle.node_select.specs.declared.fault.SelectorFault.{SelectorFault}
use Rattle.node_select.specs.declared.fault.SelectorFault.TheVariants.{BadSelector, UnboundPrefix}
use Rattle.node_select.specs.declared.selector.PatchSelector.{PatchSelector}
use Rattle.patch_rules.specs.PatchOperations.{Location, locate}
use Rattle.patch_rules.specs.Selectors.{Reading}
use Rattle.patch_rules.specs.readers.AppliedOperations.{selector_reading}

-- what a text selects in a tree, as the selector of an operation in the scope
abbrev pub selected_location : List (List Decl) → List ℕ → Tree → Option Location
selected_location c sel t =
    option_and_then (λ s. locate s t) (option_and_then (λ r. r.means c) (selector_reading sel))

-- a text is read as this answer says: there is no reading where it is no selector, and the reading
-- has no meaning where a prefix isn't bound
abbrev pub SelectorReadsAs : List (List Decl) → List ℕ → Result PatchSelector SelectorFault → Type 0
SelectorReadsAs c sel (Ok s) =
    (r : Reading) × (selector_reading sel ≡ Some r) × (r.means c ≡ Some s)
SelectorReadsAs c sel (Err (BadSelector place)) = selector_reading sel ≡ None
SelectorReadsAs c sel (Err (UnboundPrefix place)) =
    (r : Reading) × (selector_reading sel ≡ Some r) × (r.means c ≡ None)
