-- The error that the body of a response names (RFC 4825, section 11: the child of an `xcap-error`
-- is named by the error).
use Rattle.std.specs.Prelude.{◌≡◌, ℕ, Bool, List, [], ◌∷◌, Option, None, Some, Result, Ok, Err}
use Rattle.std.specs.Prelude.{codes, option_map, slice_get, if◌then◌else◌}
use Rattle.xml_names.specs.declared.limits.TheConstants.{MAX_LEVELS}
use Rattle.xml_tree.specs.Tree.{Tree, child_elements_of}
use Rattle.xml_names.specs.ExpandedNames.{element_name, same_expanded}
use Rattle.tree_text.specs.declared.fault.TextFault.{TextFault}
use Rattle.tree_text.specs.Faults.{IsTextResult}

-- the namespace of error documents
abbrev pub error_uri : List ℕ
error_uri = codes "urn:ietf:params:xml:ns:xcap-error"

-- the root is an `xcap-error` in that namespace
abbrev pub is_error_document : Tree → Bool
is_error_document root =
    same_expanded (element_name (root.decls ∷ []) root.name)
    (record { uri = Some error_uri; local = codes "xcap-error" })

-- the error named by bytes that are parsed so: the local name of the first element in an error
-- document; bytes that are no document name none
abbrev pub error_name_of : Result Tree TextFault → Option (List ℕ)
error_name_of (Ok root) =
    if is_error_document root
    then option_map (λ child_element. child_element.name.local)
    (slice_get (child_elements_of root) 0)
    else None
error_name_of (Err fault) = None

-- parsed as a document of at most `MAX_LEVELS` levels, the body names this error, or none
pub record NamesError (body : List ℕ) (name : Option (List ℕ)) : Type 0 where
  pub document : Result Tree TextFault
  pub read : IsTextResult MAX_LEVELS [] body document
  pub told : name ≡ error_name_of document
