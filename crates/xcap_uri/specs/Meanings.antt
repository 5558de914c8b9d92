-- What an address means by RFC 4825, section 6, by itself: a target of the standards, or nothing
-- that a server has. The addresses under `~feed` and `~flat` are this server's own, and what they
-- mean is defined in `Shapes`.
use Rattle.std.specs.Prelude.{◌≡◌, ◌≢◌, ◌⊎◌, ℕ, true, List, [], ◌∷◌, encode_utf8_all, chars}
use Rattle.std.specs.Prelude.{Option, None, Some}
use Rattle.xml_names.specs.declared.names.Decl.{Decl}
use Rattle.xml_grammar.specs.ParseResults.{IsParsedAs}
use Rattle.node_select.specs.Faults.{fault_ranking}
use Rattle.node_select.specs.Grammar as grammar
use Rattle.node_select.specs.declared.selector.Selector.{Selector}
use Rattle.doc_names.specs.Usages.{namespace_of}
use Rattle.doc_names.specs.declared.doc_id.Auid.{Auid}
use Rattle.doc_names.specs.declared.doc_id.Home.{Home}
use Rattle.xcap_uri.specs.Delimiters.{front_before, rest_after, pieces}
use Rattle.xcap_uri.specs.Escapes.{DecodesToOptional}
use Rattle.xcap_uri.specs.Queries.{IsQuery}
use Rattle.xcap_uri.specs.Roots.{slash}
use Rattle.xcap_uri.specs.Shapes.{AreNonEmpty, HasKnownFirstSegment, doc_of, segments_in_home}
use Rattle.xcap_uri.specs.Targets.{AreSegments, question, rest_under_root}
use Rattle.xcap_uri.specs.Words.{feed, flat}
use Rattle.xcap_uri.specs.declared.fault.UriFault.{UriFault}
use Rattle.xcap_uri.specs.declared.fault.UriFault.TheVariants.{OutsideRoot, UnknownAuid}
use Rattle.xcap_uri.specs.declared.target.Target.{Target}
use Rattle.xcap_uri.specs.declared.target.Target.TheVariants.{Document, Node, Deep, Feed}
use Rattle.xcap_uri.specs.declared.target.Target.TheVariants.{ElementFeed, Flat}

-- ---- the parts of an address

-- The decoded parts of an address under a root: its segments up to the separator, the selector
-- after it, and the query.
pub record AddressParts : Type 0 where
  pub segments : List (List ℕ)
  pub selector : Option (List ℕ)
  pub query : Option (List ℕ)

-- The address is under the root and has these parts, and none of its segments is empty.
pub record HasParts (root target : List ℕ) (parts : AddressParts) : Type 0 where
  pub rest : List ℕ
  pub under : rest_under_root root target ≡ Some rest
  pub coded : Option (List ℕ)
  pub path : AreSegments (pieces slash (front_before question rest)) parts.segments coded
  pub selects : DecodesToOptional coded parts.selector
  pub asks : DecodesToOptional (rest_after question rest) parts.query
  pub named : AreNonEmpty parts.segments

-- ---- what they mean

-- the text spells this node selector and no other, with these bindings, in which each prefix of it
-- is bound; unprefixed elements are in the namespace of the AUID
abbrev pub SpellsSelector : List Decl → Auid → List ℕ → Selector → Type 0
SpellsSelector bindings auid text selector =
    IsParsedAs (fault_ranking true) (grammar.selector bindings (chars (namespace_of auid)))
    (chars (encode_utf8_all text)) selector

-- these parts mean a target, with the bindings of their query
pub data PartsMean (parts : AddressParts) (bindings : List Decl) : Target → Type 0 where
  -- an AUID, a home and a name: a document
  means_document : (auid : Auid) (home : Home) (name : List ℕ)
      → parts.segments ≡ segments_in_home auid home (name ∷ []) → parts.selector ≡ None
      → PartsMean parts bindings (Document (doc_of auid home name))
  -- likewise with a selector, which isn't empty: a node of the document
  means_node : (auid : Auid) (home : Home) (name text : List ℕ) (selector : Selector)
      → parts.segments ≡ segments_in_home auid home (name ∷ [])
      → parts.selector ≡ Some text → text ≢ []
      → SpellsSelector bindings auid text selector
      → PartsMean parts bindings (Node (doc_of auid home name) selector)
  -- with further segments: what would be below a document; its selector isn't looked at
  means_deep : (auid : Auid) (home : Home) (name next : List ℕ) (more : List (List ℕ))
      → parts.segments ≡ segments_in_home auid home (name ∷ next ∷ more)
      → PartsMean parts bindings (Deep auid home)

-- ---- what an address means

-- the address means this target
pub record IsTarget (root target : List ℕ) (t : Target) : Type 0 where
  pub parts : AddressParts
  pub has : HasParts root target parts
  pub bindings : List Decl
  pub binds : IsQuery parts.query bindings
  pub means : PartsMean parts bindings t

-- the address is outside the root, or its first segment is no AUID (RFC 4825, section 6.2) and no
-- word of this server's own
abbrev pub LeadsNowhere : List ℕ → List ℕ → Type 0
LeadsNowhere root target =
    (rest_under_root root target ≡ None)
    ⊎ ((parts : AddressParts) × HasParts root target parts
    × (HasKnownFirstSegment parts.segments → ⊥))

-- ---- this server's own addresses

-- the first segment is `~feed` or `~flat`
abbrev pub BeginOwn : List (List ℕ) → Type 0
BeginOwn [] = ⊥
BeginOwn (first ∷ segments) = (first ≡ feed) ⊎ (first ≡ flat)

-- the address is one of this server's own
abbrev pub IsOwnAddress : List ℕ → List ℕ → Type 0
IsOwnAddress root target =
    (parts : AddressParts) × HasParts root target parts × BeginOwn parts.segments

-- the targets that only such an address can mean
abbrev pub IsOwnTarget : Target → Type 0
IsOwnTarget (Feed mode tag id) = Unit {0}
IsOwnTarget (ElementFeed tag id selector raw) = Unit {0}
IsOwnTarget (Flat id service) = Unit {0}
IsOwnTarget _ = ⊥

-- ---- the faults of addresses that lead nowhere

abbrev pub IsNowhereFault : UriFault → Type 0
IsNowhereFault OutsideRoot = Unit {0}
IsNowhereFault UnknownAuid = Unit {0}
IsNowhereFault _ = ⊥
