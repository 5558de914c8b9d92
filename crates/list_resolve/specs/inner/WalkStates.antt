-- What the code has collected of a walk so far.
use Rattle.std.specs.Prelude.{ℕ, ◌<◌, ◌+◌, List, [], ◌∷◌, ◌++◌, fold, if◌then◌else◌}
use Rattle.std.specs.Coded.{Coded, code_by, coded×, coded_ℕ, coded_list}
use Rattle.list_resolve.specs.declared.uri_collector.TheConstants.{MARK_LIMIT}
use Rattle.list_resolve.specs.declared.fault.FlatFault.{FlatFault}
use Rattle.list_resolve.specs.declared.fault.FlatFault.TheVariants.{NoService, TooWide, TooLarge}
use Rattle.xml_names.specs.declared.read_error.ReadError.{ReadError}
use Rattle.xml_names.specs.declared.read_error.ReadError.TheVariants.{Fault, NoMemory}
use Rattle.list_resolve.specs.declared.document_place.Place.{Place}
use Rattle.list_resolve.specs.ElementPlaces.{contains_place}
use Rattle.list_resolve.specs.Walks.{Item, address, mark}
use Rattle.list_resolve.specs.FlatLists.{with_address}
use Rattle.list_resolve.specs.inner.PlaceCodes.{place_code}
use mathlib.Core.Path.{refl}

-- the addresses, each once, and the number of references
pub record Tally : Type 0 where
  pub uris : List (List ℕ)
  pub marks : ℕ

-- a tally, and the recorded places of elements that need not be walked again
pub record CollectorState : Type 0 where
  pub tally : Tally
  pub passed : List Place

abbrev pub tally_code : Coded Tally
tally_code =
    code_by (List (List ℕ) × ℕ) (coded× (coded_list (coded_list coded_ℕ)) coded_ℕ)
    (λ s. (s.uris, s.marks)) (λ p. record { uris = p.0; marks = p.1 }) (λ _. refl)

abbrev pub gathered_code : Coded CollectorState
gathered_code =
    code_by (Tally × List Place) (coded× tally_code (coded_list place_code))
    (λ s. (s.tally, s.passed)) (λ p. record { tally = p.0; passed = p.1 }) (λ _. refl)

abbrev pub empty_tally : Tally
empty_tally = record { uris = []; marks = 0 }

abbrev pub empty_walk : CollectorState
empty_walk = record { tally = empty_tally; passed = [] }

-- with one more item
abbrev pub with_item : Tally → Item → Tally
with_item s (address uri) = record { uris = with_address s.uris uri; marks = s.marks }
with_item s mark = record { uris = s.uris; marks = s.marks + 1 }

-- with these items added
abbrev pub with_items : Tally → List Item → Tally
with_items s items = fold with_item s items

abbrev pub with_collected_item : CollectorState → Item → CollectorState
with_collected_item s item = record { tally = with_item s.tally item; passed = s.passed }

-- with one more place, unless it is there already
abbrev pub with_visited_place : CollectorState → Place → CollectorState
with_visited_place s place =
    record {
      tally = s.tally;
      passed = if contains_place s.passed place then s.passed else (s.passed ++ place ∷ []);
    }

-- why there is no flat list, or out of memory
abbrev pub FlatError : Type 0
FlatError = ReadError FlatFault

-- a call fails while collecting these items: there are too many references among them, or it is
-- out of memory
abbrev pub IsWalkFault : List Item → Tally → FlatError → Type 0
IsWalkFault items old (Fault NoService) = ⊥
IsWalkFault items old (Fault TooWide) = MARK_LIMIT < (with_items old items).marks
IsWalkFault items old (Fault (TooLarge len)) = ⊥
IsWalkFault items old NoMemory = Unit {0}
