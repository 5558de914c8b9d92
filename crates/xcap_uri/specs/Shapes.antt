-- What the segments of an address name. The document selectors are those of RFC 4825, section 6.2;
-- the addresses under `~feed` and `~flat` are this server's own. The segments are those before the
-- separator, decoded; the selector is the text after the separator, if there is one.
use Rattle.std.specs.Prelude.{◌≡◌, ◌≢◌, ◌⊎◌, ℕ, List, [], ◌∷◌, ◌++◌, encode_utf8_all, Option, None}
use Rattle.std.specs.Prelude.{Some, chars, codes}
use Rattle.doc_names.specs.declared.doc_id.Auid.{Auid}
use Rattle.doc_names.specs.declared.doc_id.Auid.TheVariants.{RlsServices}
use Rattle.doc_names.specs.declared.doc_id.Home.{Home}
use Rattle.doc_names.specs.declared.doc_id.Home.TheVariants.{Global, User}
use Rattle.doc_names.specs.declared.doc_id.DocId.{DocId}
use Rattle.doc_names.specs.declared.usages.Usage.{Usage}
use Rattle.doc_names.specs.Usages.{auid_text, usage_of}
use Rattle.xcap_uri.specs.Numerals.{numeral_of}
use Rattle.xcap_uri.specs.Words.{global, users, feed, flat, element_word}
use Rattle.xcap_uri.specs.declared.target.Mode.{Mode}
use Rattle.xcap_uri.specs.declared.target.Mode.TheVariants.{NoPatching, XcapPatching, Aggregate}
use Rattle.xcap_uri.specs.declared.shape.Shape.{Shape}
use Rattle.xcap_uri.specs.declared.shape.Shape.TheVariants.{Document, Node, Deep, Feed, ElementFeed}
use Rattle.xcap_uri.specs.declared.shape.Shape.TheVariants.{Flat}

-- ---- the words

-- the segments of a home: `global`, or `users` and a user
abbrev pub home_segments : Home → List (List ℕ)
home_segments Global = global ∷ []
home_segments (User xui) = users ∷ xui ∷ []

-- the name of a diff processing mode (RFC 5875, section 4.3)
abbrev pub mode_name : Mode → List ℕ
mode_name NoPatching = chars (codes "no-patching")
mode_name XcapPatching = chars (codes "xcap-patching")
mode_name Aggregate = chars (codes "aggregate")

-- the number of an etag, which is a numeral
abbrev pub parse_tag : List ℕ → Option ℕ
parse_tag text = numeral_of (encode_utf8_all text)

-- ---- what they name

abbrev pub doc_of : Auid → Home → List ℕ → DocId
doc_of auid home name = record { auid = auid; home = home; name = name }

-- the segments of what is in a home: the AUID, the home and these
abbrev pub segments_in_home : Auid → Home → List (List ℕ) → List (List ℕ)
segments_in_home auid home rest = chars (auid_text auid) ∷ (home_segments home ++ rest)

-- the segments of the feed of a user's document: `~feed`, the mode, the etag, the AUID, `users`,
-- the user and the name
abbrev pub feed_segments : List ℕ → List ℕ → Auid → List ℕ → List ℕ → List (List ℕ)
feed_segments mode digits auid xui name =
    feed ∷ mode ∷ digits ∷ chars (auid_text auid) ∷ users ∷ xui ∷ name ∷ []

-- segments, and the text of a selector, name a shape, which is called as the target that it means
pub data NamesShape (segments : List (List ℕ)) (selector : Option (List ℕ)) : Shape → Type 0 where
  -- an AUID, a home and a name: a document
  names_document : (auid : Auid) (home : Home) (name : List ℕ)
      → segments ≡ segments_in_home auid home (name ∷ []) → selector ≡ None
      → NamesShape segments selector (Document (doc_of auid home name))
  -- likewise with a selector, which isn't empty: a node of the document
  names_node : (auid : Auid) (home : Home) (name text : List ℕ)
      → segments ≡ segments_in_home auid home (name ∷ []) → selector ≡ Some text → text ≢ []
      → NamesShape segments selector (Node (doc_of auid home name) text)
  -- with further segments: what would be below a document; its selector isn't looked at
  names_deep : (auid : Auid) (home : Home) (name next : List ℕ) (more : List (List ℕ))
      → segments ≡ segments_in_home auid home (name ∷ next ∷ more)
      → NamesShape segments selector (Deep auid home)
  -- the feed of a document of a stored AUID has a mode, and no selector
  names_feed : (mode : Mode) (tag : ℕ) (digits : List ℕ) (auid : Auid) (usage : Usage)
      (xui name : List ℕ)
      → segments ≡ feed_segments (mode_name mode) digits auid xui name
      → parse_tag digits ≡ Some tag → usage_of auid ≡ Some usage → selector ≡ None
      → NamesShape segments selector (Feed mode tag (doc_of auid (User xui) name))
  -- the feed of an element has `element` in place of the mode, and a selector, which isn't empty
  names_element_feed : (tag : ℕ) (digits : List ℕ) (auid : Auid) (usage : Usage)
      (xui name text : List ℕ)
      → segments ≡ feed_segments element_word digits auid xui name
      → parse_tag digits ≡ Some tag → usage_of auid ≡ Some usage → selector ≡ Some text
      → text ≢ []
      → NamesShape segments selector (ElementFeed tag (doc_of auid (User xui) name) text)
  -- `~flat`, a user, a name and the address of a service, without selector: the flat list of that
  -- service
  names_flat : (xui name service : List ℕ) → segments ≡ flat ∷ xui ∷ name ∷ service ∷ []
      → selector ≡ None
      → NamesShape segments selector (Flat (doc_of RlsServices (User xui) name) service)

-- ---- how they begin

-- the first segment is `~feed`, `~flat` or an AUID
abbrev pub HasKnownFirstSegment : List (List ℕ) → Type 0
HasKnownFirstSegment [] = ⊥
HasKnownFirstSegment (first ∷ rest) =
    (first ≡ feed) ⊎ ((first ≡ flat) ⊎ ((auid : Auid) × (first ≡ chars (auid_text auid))))

-- no segment is empty
abbrev pub AreNonEmpty : List (List ℕ) → Type 0
AreNonEmpty [] = Unit {0}
AreNonEmpty (segment ∷ segments) = (segment ≢ []) × AreNonEmpty segments
