-- What need not be walked again: an element without references whose addresses are collected.
use Rattle.std.specs.Prelude.{◌≡◌, ℕ, List, [], Option, Result, Ok, Err, IsTrue, option_and_then}
use Rattle.std.specs.Prelude.{encode_utf8_all}
use Rattle.std.specs.List.{AllByRecursion, list_any}
use Rattle.std.specs.Option.{ForSome}
use Rattle.std.specs.Str.{bytes_eq}
use Rattle.doc_names.specs.declared.doc_id.Auid.TheVariants.{ResourceLists}
use Rattle.doc_names.specs.declared.doc_id.Home.{Home}
use Rattle.doc_names.specs.declared.doc_id.DocId.{DocId}
use Rattle.xcap_uri.specs.declared.fault.UriFault.{UriFault}
use Rattle.xcap_uri.specs.declared.target.Target.{Target}
use Rattle.xcap_uri.proofs.TargetAnswers.{some_target}
use Rattle.list_resolve.specs.declared.document_place.Place.{Place}
use Rattle.list_resolve.specs.declared.reference.Reference.{Reference}
use Rattle.list_resolve.specs.ScopedElements.{ScopedElement, list_element}
use Rattle.list_resolve.specs.Resolution.{ResolutionContext, ResolvedReference, resolve_target}
use Rattle.list_resolve.specs.Resolution.{stored_tree}
use Rattle.list_resolve.specs.Walks.{Item, address, mark, scoped_element_items}
use Rattle.list_resolve.specs.inner.WalkStates.{FlatError, CollectorState, IsWalkFault, with_items}

-- ---- where references lead

-- the only result that a reference's target has
unfoldable pub target_result : List ℕ → List ℕ → Result Target UriFault
target_result root target = (some_target root (encode_utf8_all target)).0

-- where a reference leads, by that result
abbrev pub resolve_in_context : ResolutionContext → Reference → Option ResolvedReference
resolve_in_context g r = resolve_target g r.wanted (target_result g.root r.target)

-- ---- what need not be walked again

-- the name of a user's document of lists
abbrev pub lists_document_id : Home → List ℕ → DocId
lists_document_id home name = record { auid = ResourceLists; home = home; name = name }

-- the element at a place
abbrev pub scoped_element_at : ResolutionContext → Place → Option ScopedElement
scoped_element_at g p =
    option_and_then (λ root. list_element root p.path)
    (stored_tree g.documents (lists_document_id g.home p.name))

-- the item is an address among these; a reference never is
abbrev pub IsCollectedItem : List (List ℕ) → Item → Type 0
IsCollectedItem uris (address uri) = IsTrue (list_any (bytes_eq uri) uris)
IsCollectedItem uris mark = ⊥

abbrev pub AreCollectedItems : List (List ℕ) → List Item → Type 0
AreCollectedItems uris items = AllByRecursion (IsCollectedItem uris) items

-- an element's own items, with nothing after a mark
abbrev pub own_items : List ℕ → ScopedElement → List Item
own_items root s = scoped_element_items (λ (r : Reference). []) root s

-- the element at a recorded place has no references, and its addresses are collected
abbrev pub IsFullyCollected : ResolutionContext → List (List ℕ) → Place → Type 0
IsFullyCollected g uris place =
    ForSome (scoped_element_at g place) (λ s. AreCollectedItems uris (own_items g.root s))

-- likewise for all recorded places
abbrev pub HasSoundPlaces : ResolutionContext → CollectorState → Type 0
HasSoundPlaces g s = AllByRecursion (IsFullyCollected g s.tally.uris) s.passed

-- a call collected these items, or failed
abbrev pub CollectsItems : {T : Type 0} → ResolutionContext → List Item → CollectorState
    → CollectorState
    → Result T FlatError → Type 0
CollectsItems g items old new (Ok x) =
    (new.tally ≡ with_items old.tally items) × HasSoundPlaces g new
CollectsItems g items old new (Err fault) = IsWalkFault items old.tally fault
