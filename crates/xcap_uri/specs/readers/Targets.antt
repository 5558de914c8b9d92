-- Targets, read from left to right.
use Rattle.std.specs.Prelude.{ℕ, List, [], ◌∷◌, encode_utf8_all, Option, None, Some, Result, Ok}
use Rattle.std.specs.Prelude.{Err, if◌then◌else◌, chars}
use Rattle.std.specs.Str.{bytes_eq}
use Rattle.std.specs.List.{join_with_byte}
use Rattle.xml_names.specs.declared.names.Decl.{Decl}
use Rattle.node_select.specs.readers.WholeSelectors.{parsed_selector}
use Rattle.node_select.specs.declared.fault.SelectorFault.{SelectorFault}
use Rattle.node_select.specs.declared.selector.Selector.{Selector}
use Rattle.node_select.specs.declared.selector.End.{End}
use Rattle.node_select.specs.declared.selector.End.TheVariants as ends
use Rattle.xml_names.specs.declared.read_error.ReadError.{ReadError}
use Rattle.xml_names.specs.declared.read_error.ReadError.TheVariants.{Fault, NoMemory}
use Rattle.doc_names.specs.DocIds.{selector_separator}
use Rattle.doc_names.specs.Usages.{namespace_of}
use Rattle.doc_names.specs.declared.doc_id.Auid.{Auid}
use Rattle.xcap_uri.specs.Delimiters.{front_before, rest_after, pieces}
use Rattle.xcap_uri.specs.readers.Steps.{UriError, ◌>>=◌}
use Rattle.xcap_uri.specs.readers.Queries.{parsed_optional_bindings}
use Rattle.xcap_uri.specs.Roots.{slash}
use Rattle.xcap_uri.specs.Targets.{question, rest_under_root, raw_text, target_fault}
use Rattle.xcap_uri.specs.readers.Escapes.{parsed_text, parsed_optional_text}
use Rattle.xcap_uri.specs.readers.Shapes.{shape_of}
use Rattle.xcap_uri.specs.declared.fault.UriFault.TheVariants.{OutsideRoot, BadSelector}
use Rattle.xcap_uri.specs.declared.shape.Shape.{Shape}
use Rattle.xcap_uri.specs.declared.shape.Shape.TheVariants as shapes
use Rattle.xcap_uri.specs.declared.target.Target.{Target}
use Rattle.xcap_uri.specs.declared.target.Target.TheVariants.{Document, Node, Deep, Feed}
use Rattle.xcap_uri.specs.declared.target.Target.TheVariants.{ElementFeed, Flat}

-- the segments before the first one that decodes to the separator, each decoded; and where there
-- is one, the text after it
abbrev pub parsed_segments : List (List ℕ) → Result (List (List ℕ) × Option (List ℕ)) UriError
parsed_segments [] = Ok ([], None)
parsed_segments (segment ∷ segments) =
    parsed_text segment >>= λ text.
    if bytes_eq text selector_separator
    then Ok ([], Some (join_with_byte slash segments))
    else (parsed_segments segments >>= λ x. Ok (text ∷ x.0, x.1))

-- a raw path cut into its segments
abbrev pub parsed_path : List ℕ → Result (List (List ℕ) × Option (List ℕ)) UriError
parsed_path path = parsed_segments (pieces slash path)

-- ---- the selector

abbrev pub error_of : ReadError SelectorFault → UriError
error_of (Fault fault) = Fault (target_fault fault)
error_of NoMemory = NoMemory

abbrev pub with_target_fault : Result Selector SelectorFault → Result Selector UriError
with_target_fault (Ok selector) = Ok selector
with_target_fault (Err fault) = Err (Fault (target_fault fault))

-- the selector that a text spells in a document of this AUID
abbrev pub parsed_target_selector : List Decl → Auid → List ℕ → Result Selector UriError
parsed_target_selector bindings auid text =
    with_target_fault (parsed_selector bindings (chars (namespace_of auid)) (encode_utf8_all text))

-- a feed of a node is about an element, and about nothing else
abbrev pub require_element_end : End → Selector → Result Selector UriError
require_element_end ends.Element selector = Ok selector
require_element_end (ends.Attribute uri local) selector = Err (Fault BadSelector)
require_element_end ends.Namespaces selector = Err (Fault BadSelector)

abbrev pub require_element : Selector → Result Selector UriError
require_element selector = require_element_end selector.end selector

-- the target of a shape
abbrev pub target_of : Shape → List Decl → List ℕ → Result Target UriError
target_of (shapes.Document doc) bindings raw = Ok (Document doc)
target_of (shapes.Node doc text) bindings raw =
    parsed_target_selector bindings doc.auid text >>= λ selector. Ok (Node doc selector)
target_of (shapes.Deep auid home) bindings raw = Ok (Deep auid home)
target_of (shapes.Feed mode tag doc) bindings raw = Ok (Feed mode tag doc)
target_of (shapes.ElementFeed tag doc text) bindings raw =
    parsed_target_selector bindings doc.auid text >>= require_element >>= λ selector.
    Ok (ElementFeed tag doc selector raw)
target_of (shapes.Flat doc service) bindings raw = Ok (Flat doc service)

-- escapes, then the shape, then the query, then the selector
abbrev pub parsed_rest : List ℕ → Result Target UriError
parsed_rest rest =
    parsed_path (front_before question rest) >>= λ path.
    parsed_optional_text path.1 >>= λ selector.
    parsed_optional_text (rest_after question rest) >>= λ query.
    shape_of path.0 selector >>= λ shape.
    parsed_optional_bindings query >>= λ bindings.
    target_of shape bindings (raw_text path.1 (rest_after question rest))

abbrev pub parsed_under_root : Option (List ℕ) → Result Target UriError
parsed_under_root None = Err (Fault OutsideRoot)
parsed_under_root (Some rest) = parsed_rest rest

-- what a target means under a root, or its first fault
abbrev pub parsed_target : List ℕ → List ℕ → Result Target UriError
parsed_target root target = parsed_under_root (rest_under_root root target)
