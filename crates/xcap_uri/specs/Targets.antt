-- Targets of requests: what an address means, or the first of its faults. RFC 4825, section 6.
use Rattle.std.specs.Prelude.{◌≡◌, ◌≢◌, ℕ, Bool, true, false, List, [], ◌∷◌, ◌++◌, encode_utf8_all}
use Rattle.std.specs.Prelude.{Option, None, Some, option_and_then, Result, Ok, Err, if◌then◌else◌}
use Rattle.std.specs.Prelude.{chars}
use Rattle.std.specs.Option.{option_or}
use Rattle.std.specs.List.{join_with_byte}
use Rattle.xml_names.specs.declared.names.Decl.{Decl}
use Rattle.node_select.specs.Faults.{IsSelectorAnswer}
use Rattle.node_select.specs.declared.fault.SelectorFault.{SelectorFault}
use Rattle.node_select.specs.declared.fault.SelectorFault.TheVariants as selectors
use Rattle.node_select.specs.declared.selector.Selector.{Selector}
use Rattle.node_select.specs.declared.selector.End.{End}
use Rattle.node_select.specs.declared.selector.End.TheVariants as ends
use Rattle.xcap_uri.specs.Delimiters.{rest_after_front, front_before, rest_after, pieces}
use Rattle.xcap_uri.specs.Escapes.{DecodesTo, DecodesToOptional}
use Rattle.doc_names.specs.PercentEscapes.{escape_octets, is_visible}
use Rattle.doc_names.specs.DocIds.{IsAddressable, IsAddressableHome, selector_separator}
use Rattle.doc_names.specs.Usages.{namespace_of}
use Rattle.doc_names.specs.declared.doc_id.Auid.{Auid}
use Rattle.doc_names.specs.declared.doc_id.DocId.{DocId}
use Rattle.xcap_uri.specs.FaultOrder.{FirstOrFault, HoldsOrFault}
use Rattle.xcap_uri.specs.Queries.{IsQuery}
use Rattle.xcap_uri.specs.Roots.{slash, path_of}
use Rattle.xcap_uri.specs.Shapes.{NamesShape, HasKnownFirstSegment, AreNonEmpty}
use Rattle.xcap_uri.specs.declared.fault.UriFault.{UriFault}
use Rattle.xcap_uri.specs.declared.fault.UriFault.TheVariants.{OutsideRoot, UnknownAuid, BadShape}
use Rattle.xcap_uri.specs.declared.fault.UriFault.TheVariants.{BadEscape, BadQuery, UnboundPrefix}
use Rattle.xcap_uri.specs.declared.fault.UriFault.TheVariants.{BadSelector}
use Rattle.xcap_uri.specs.declared.shape.Shape.{Shape}
use Rattle.xcap_uri.specs.declared.shape.Shape.TheVariants as shapes
use Rattle.xcap_uri.specs.declared.target.Target.{Target}
use Rattle.xcap_uri.specs.declared.target.Target.TheVariants.{Document, Node, Deep, Feed}
use Rattle.xcap_uri.specs.declared.target.Target.TheVariants.{ElementFeed, Flat}

-- `?`
abbrev pub question : ℕ
question = 63

-- ---- first: the target is under the root

-- what comes after a front and a slash
abbrev pub rest_under : List ℕ → List ℕ → Option (List ℕ)
rest_under front target =
    option_and_then (rest_after_front (slash ∷ [])) (rest_after_front front target)

-- what comes after the whole root or the root's path, and a slash
abbrev pub rest_under_root : List ℕ → List ℕ → Option (List ℕ)
rest_under_root root target = option_or (rest_under root target) (rest_under (path_of root) target)

-- ---- second: its segments

-- these segments of a path decode to these texts up to the first one that decodes to the
-- separator; where there is one, this comes after it
abbrev pub AreSegments : List (List ℕ) → List (List ℕ) → Option (List ℕ) → Type 0
AreSegments [] texts selector = (texts ≡ []) × (selector ≡ None)
AreSegments (segment ∷ segments) [] selector =
    DecodesTo segment selector_separator × (selector ≡ Some (join_with_byte slash segments))
AreSegments (segment ∷ segments) (text ∷ texts) selector =
    DecodesTo segment text × (text ≢ selector_separator) × AreSegments segments texts selector

-- a path is cut at its slashes
abbrev pub IsSplitPath : List ℕ → List (List ℕ) × Option (List ℕ) → Type 0
IsSplitPath path x = AreSegments (pieces slash path) x.0 x.1

-- the text after the separator and its slash, query included
abbrev pub with_query : List ℕ → Option (List ℕ) → List ℕ
with_query selector None = selector
with_query selector (Some query) = selector ++ (question ∷ query)

-- that text with every octet escaped that isn't visible
abbrev pub raw_text : Option (List ℕ) → Option (List ℕ) → List ℕ
raw_text None query = []
raw_text (Some selector) query = escape_octets is_visible (with_query selector query)

-- ---- last: the selector

abbrev pub target_fault : SelectorFault → UriFault
target_fault (selectors.BadSelector place) = BadSelector
target_fault (selectors.UnboundPrefix place) = UnboundPrefix

-- the result for the text of a selector, with these bindings; unprefixed elements are in the
-- namespace of the AUID
abbrev pub IsTargetSelectorAnswer : List Decl → Auid → List ℕ → Result Selector SelectorFault
    → Type 0
IsTargetSelectorAnswer bindings auid text =
    IsSelectorAnswer bindings (chars (namespace_of auid)) (encode_utf8_all text)

-- the node of a document, or the selector's fault
abbrev pub node_target : DocId → Result Selector SelectorFault → Result Target UriFault
node_target doc (Ok selector) = Ok (Node doc selector)
node_target doc (Err fault) = Err (target_fault fault)

-- a feed of a node is about an element, and about nothing else
abbrev pub is_element_end : End → Bool
is_element_end ends.Element = true
is_element_end _ = false

-- the feed of an element, or the selector's fault
abbrev pub element_feed_target : ℕ → DocId → List ℕ → Result Selector SelectorFault
    → Result Target UriFault
element_feed_target tag doc raw (Ok selector) =
    if is_element_end selector.end then Ok (ElementFeed tag doc selector raw) else Err BadSelector
element_feed_target tag doc raw (Err fault) = Err (target_fault fault)

-- what a shape means, with these bindings and the text after the separator
abbrev pub ShapeMeans : List Decl → List ℕ → Shape → Result Target UriFault → Type 0
ShapeMeans bindings raw (shapes.Document doc) answer = answer ≡ Ok (Document doc)
ShapeMeans bindings raw (shapes.Node doc text) answer =
    (read : Result Selector SelectorFault) × IsTargetSelectorAnswer bindings doc.auid text read
    × (answer ≡ node_target doc read)
ShapeMeans bindings raw (shapes.Deep auid home) answer = answer ≡ Ok (Deep auid home)
ShapeMeans bindings raw (shapes.Feed mode tag doc) answer = answer ≡ Ok (Feed mode tag doc)
ShapeMeans bindings raw (shapes.ElementFeed tag doc text) answer =
    (read : Result Selector SelectorFault) × IsTargetSelectorAnswer bindings doc.auid text read
    × (answer ≡ element_feed_target tag doc raw read)
ShapeMeans bindings raw (shapes.Flat doc service) answer = answer ≡ Ok (Flat doc service)

-- ---- all in order

-- a shape, with the query and the text after the separator: the bindings, then the meaning
abbrev pub IsShapeAnswer : Option (List ℕ) → List ℕ → Shape → Result Target UriFault → Type 0
IsShapeAnswer query raw shape =
    FirstOrFault (IsQuery query) BadQuery (λ bindings. ShapeMeans bindings raw shape)

-- segments, with the selector and the query: what they name, then the result for this shape
abbrev pub IsSegmentsAnswer : List (List ℕ) → Option (List ℕ) → Option (List ℕ) → List ℕ
    → Result Target UriFault → Type 0
IsSegmentsAnswer segments selector query raw =
    HoldsOrFault (AreNonEmpty segments) BadShape
    (HoldsOrFault (HasKnownFirstSegment segments) UnknownAuid
    (FirstOrFault (NamesShape segments selector) BadShape (IsShapeAnswer query raw)))

-- what comes after the root: a path, and a query after the first `?`
abbrev pub IsRestAnswer : List ℕ → Result Target UriFault → Type 0
IsRestAnswer rest =
    FirstOrFault (IsSplitPath (front_before question rest)) BadEscape (λ path.
    FirstOrFault (DecodesToOptional path.1) BadEscape (λ selector.
    FirstOrFault (DecodesToOptional (rest_after question rest)) BadEscape (λ query.
    IsSegmentsAnswer path.0 selector query (raw_text path.1 (rest_after question rest)))))

-- the result for a target under a root: its meaning, or the first of its faults
abbrev pub IsTargetResult : List ℕ → List ℕ → Result Target UriFault → Type 0
IsTargetResult root target =
    FirstOrFault (λ rest. rest_under_root root target ≡ Some rest) OutsideRoot
    IsRestAnswer

-- an address can name the ids in a target
abbrev pub IsReadableTarget : Target → Type 0
IsReadableTarget (Document doc) = IsAddressable doc
IsReadableTarget (Node doc selector) = IsAddressable doc
IsReadableTarget (Deep auid home) = IsAddressableHome home
IsReadableTarget (Feed mode tag doc) = IsAddressable doc
IsReadableTarget (ElementFeed tag doc selector raw) = IsAddressable doc
IsReadableTarget (Flat doc service) = IsAddressable doc
