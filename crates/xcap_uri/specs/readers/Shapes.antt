-- What the segments of an address name, read from left to right.
use Rattle.std.specs.Prelude.{ℕ, Bool, true, false, List, [], ◌∷◌, Option, None, Some, option_map}
use Rattle.std.specs.Prelude.{Result, Ok, Err, if◌then◌else◌}
use Rattle.std.specs.List.{list_any}
use Rattle.std.specs.Str.{bytes_eq}
use Rattle.xml_names.specs.declared.read_error.ReadError.TheVariants.{Fault}
use Rattle.xcap_uri.specs.readers.Steps.{UriError}
use Rattle.xcap_uri.specs.Shapes.{doc_of, parse_tag}
use Rattle.xcap_uri.specs.Words.{global, users, feed, flat, element_word}
use Rattle.xcap_uri.specs.readers.Words.{resource_lists, rls_services, xcap_caps, no_patching}
use Rattle.xcap_uri.specs.readers.Words.{xcap_patching, aggregate}
use Rattle.doc_names.specs.declared.doc_id.Auid.{Auid}
use Rattle.doc_names.specs.declared.doc_id.Auid.TheVariants.{ResourceLists, RlsServices, XcapCaps}
use Rattle.doc_names.specs.declared.doc_id.Home.{Home}
use Rattle.doc_names.specs.declared.doc_id.Home.TheVariants.{Global, User}
use Rattle.doc_names.specs.declared.doc_id.DocId.{DocId}
use Rattle.xcap_uri.specs.declared.fault.UriFault.TheVariants.{BadShape, UnknownAuid}
use Rattle.xcap_uri.specs.declared.target.Mode.{Mode}
use Rattle.xcap_uri.specs.declared.target.Mode.TheVariants.{NoPatching, XcapPatching, Aggregate}
use Rattle.xcap_uri.specs.declared.shape.Shape.{Shape}
use Rattle.xcap_uri.specs.declared.shape.Shape.TheVariants.{Document, Node, Deep, Feed, ElementFeed}
use Rattle.xcap_uri.specs.declared.shape.Shape.TheVariants.{Flat}

-- ---- the words

-- the AUID of this name
abbrev pub auid_of : List ℕ → Option Auid
auid_of name =
    if bytes_eq name resource_lists then Some ResourceLists
    else if bytes_eq name rls_services then Some RlsServices
    else if bytes_eq name xcap_caps then Some XcapCaps
    else None

-- the AUID of this name, if its documents are stored
abbrev pub stored_auid_of : List ℕ → Option Auid
stored_auid_of name =
    if bytes_eq name resource_lists then Some ResourceLists
    else if bytes_eq name rls_services then Some RlsServices
    else None

-- the diff processing mode of this name
abbrev pub mode_of : List ℕ → Option Mode
mode_of name =
    if bytes_eq name no_patching then Some NoPatching
    else if bytes_eq name xcap_patching then Some XcapPatching
    else if bytes_eq name aggregate then Some Aggregate
    else None

-- ---- documents

-- a document, or with a selector a node of it; an empty selector is none
abbrev pub document_shape : DocId → Option (List ℕ) → Result Shape UriError
document_shape doc None = Ok (Document doc)
document_shape doc (Some []) = Err (Fault BadShape)
document_shape doc (Some (c ∷ cs)) = Ok (Node doc (c ∷ cs))

-- after a home: a name, or more, which is below a document; then the selector isn't looked at
abbrev pub home_shape : Auid → Home → List (List ℕ) → Option (List ℕ) → Result Shape UriError
home_shape auid home [] selector = Err (Fault BadShape)
home_shape auid home (name ∷ []) selector = document_shape (doc_of auid home name) selector
home_shape auid home (name ∷ next ∷ more) selector = Ok (Deep auid home)

-- after `users`: a user
abbrev pub user_shape : Auid → List (List ℕ) → Option (List ℕ) → Result Shape UriError
user_shape auid [] selector = Err (Fault BadShape)
user_shape auid (xui ∷ rest) selector = home_shape auid (User xui) rest selector

-- after an AUID: `global` or `users`
abbrev pub usage_shape : Auid → List (List ℕ) → Option (List ℕ) → Result Shape UriError
usage_shape auid [] selector = Err (Fault BadShape)
usage_shape auid (tree ∷ rest) selector =
    if bytes_eq tree global then home_shape auid Global rest selector
    else if bytes_eq tree users then user_shape auid rest selector
    else Err (Fault BadShape)

-- ---- feeds and flat lists

-- the document of a stored AUID and a user
abbrev pub stored_doc : List ℕ → List ℕ → List ℕ → List ℕ → Option DocId
stored_doc auid tree xui name =
    if bytes_eq tree users then option_map (λ a. doc_of a (User xui) name) (stored_auid_of auid)
    else None

-- the feed of an element has a selector, which isn't empty
abbrev pub element_feed_shape : ℕ → DocId → Option (List ℕ) → Result Shape UriError
element_feed_shape tag doc None = Err (Fault BadShape)
element_feed_shape tag doc (Some []) = Err (Fault BadShape)
element_feed_shape tag doc (Some (c ∷ cs)) = Ok (ElementFeed tag doc (c ∷ cs))

-- the feed of a document has a mode, and no selector
abbrev pub document_feed_shape : Option Mode → ℕ → DocId → Option (List ℕ) → Result Shape UriError
document_feed_shape None tag doc selector = Err (Fault BadShape)
document_feed_shape (Some mode) tag doc None = Ok (Feed mode tag doc)
document_feed_shape (Some mode) tag doc (Some text) = Err (Fault BadShape)

abbrev pub feed_shape_by_mode : List ℕ → Option ℕ → Option DocId → Option (List ℕ)
    → Result Shape UriError
feed_shape_by_mode mode None doc selector = Err (Fault BadShape)
feed_shape_by_mode mode (Some tag) None selector = Err (Fault BadShape)
feed_shape_by_mode mode (Some tag) (Some doc) selector =
    if bytes_eq mode element_word then element_feed_shape tag doc selector
    else document_feed_shape (mode_of mode) tag doc selector

-- after `~feed`: a mode or `element`, an etag, a stored AUID, `users`, a user and a name
abbrev pub feed_shape : List (List ℕ) → Option (List ℕ) → Result Shape UriError
feed_shape (mode ∷ tag ∷ auid ∷ tree ∷ xui ∷ name ∷ []) selector =
    feed_shape_by_mode mode (parse_tag tag) (stored_doc auid tree xui name) selector
feed_shape _ selector = Err (Fault BadShape)

-- after `~flat`: a user, a name and the address of a service, without separator
abbrev pub flat_shape : List (List ℕ) → Option (List ℕ) → Result Shape UriError
flat_shape (xui ∷ name ∷ service ∷ []) None = Ok (Flat (doc_of RlsServices (User xui) name) service)
flat_shape _ selector = Err (Fault BadShape)

-- ---- all shapes

abbrev pub usage_shape_if_known : Option Auid → List (List ℕ) → Option (List ℕ)
    → Result Shape UriError
usage_shape_if_known None rest selector = Err (Fault UnknownAuid)
usage_shape_if_known (Some auid) rest selector = usage_shape auid rest selector

abbrev pub shape_of_segments : List (List ℕ) → Option (List ℕ) → Result Shape UriError
shape_of_segments [] selector = Err (Fault UnknownAuid)
shape_of_segments (first ∷ rest) selector =
    if bytes_eq first feed then feed_shape rest selector
    else if bytes_eq first flat then flat_shape rest selector
    else usage_shape_if_known (auid_of first) rest selector

abbrev pub is_empty : List ℕ → Bool
is_empty [] = true
is_empty (c ∷ cs) = false

-- what the segments name, none of which is empty
abbrev pub shape_of : List (List ℕ) → Option (List ℕ) → Result Shape UriError
shape_of segments selector =
    if list_any is_empty segments then Err (Fault BadShape) else shape_of_segments segments selector
