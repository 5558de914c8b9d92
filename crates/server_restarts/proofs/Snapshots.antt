-- A valid state is valid without earlier versions, and its snapshot leads to that.
use Rattle.std.proofs.Common.{◌≡◌, ◌≢◌, ℕ, ◌<◌, ◌^◌, List, [], ◌∷◌, ◌++◌, length, map, sum_by, Option, None, refl, sym, ap, subst, ◌∙◌, arith}
use Rattle.std.specs.List.{AllByRecursion, flat_map}
use Rattle.std.proofs.lemmas.List.{length-map}
use Rattle.std.proofs.lemmas.List.Folds.{flat_map-map}
use Rattle.change_log.specs.LogContents.{snapshot_of}
use Rattle.doc_names.specs.NameEquality.{same_home}
use Rattle.doc_names.specs.declared.doc_id.DocId.{DocId}
use Rattle.doc_names.specs.declared.doc_id.Home.{Home}
use Rattle.usage_docs.specs.Services.{document_len}
use Rattle.state_snapshots.specs.Names.{IsEncodableName}
use Rattle.state_snapshots.specs.Snapshots.{document_without_earlier, snapshot_parts, without_earlier}
use Rattle.state_snapshots.proofs.States.{state_kept}
use Rattle.store_core.specs.State.{Document, State, Version, versions}
use Rattle.store_core.specs.HomeLimits.{IsWithin, documents_of_home}
use Rattle.store_core.specs.ValidStates.{AreDistinct, AreHomesWithinLimits, IsValidHistory, IsValidState, document_addresses}
use Rattle.store_core.specs.declared.limits.Limits.{Limits}
use Rattle.store_core.proofs.AcceptedChanges.{sum-mapped, uris_of}
use Rattle.store_core.proofs.DistinctItems.{apart-cut, each-right}
use Rattle.store_core.proofs.Entries.{mapped}
use Rattle.store_core.proofs.HomeLemmas.{length_of}
use Rattle.store_core.proofs.StateContents.{map-filtered}
use Rattle.server_restarts.specs.StatesOfLogs.{LeadsToState}

abbrev tags_of : Document → List ℕ
tags_of d = map (λ v. v.tag) (versions d)

abbrev earlier_tags : Document → List ℕ
earlier_tags d = map (λ v. v.tag) d.earlier

kept_alone : (next : ℕ) (d : Document) → IsValidHistory next d → IsValidHistory next (document_without_earlier d)
kept_alone next d k = record { readable = k.readable; users = k.users; sound = (k.sound.0, tt); tags = (k.tags.0, tt); follows = refl }

all_alone : (next : ℕ) (ds : List Document) → AllByRecursion (IsValidHistory next) ds → AllByRecursion (IsValidHistory next) (map document_without_earlier ds)
all_alone next [] k = tt
all_alone next (d ∷ ds) k = (kept_alone next d k.0, all_alone next ds k.1)

fewer_all : (P : ℕ → Type 0) (ds : List Document) → AllByRecursion P (flat_map tags_of ds) → AllByRecursion P (flat_map tags_of (map document_without_earlier ds))
fewer_all P [] h = tt
fewer_all P (d ∷ ds) h = (h.0, fewer_all P ds (each-right P (earlier_tags d) (flat_map tags_of ds) h.1))

fewer_distinct : (ds : List Document) → AreDistinct (flat_map tags_of ds) → AreDistinct (flat_map tags_of (map document_without_earlier ds))
fewer_distinct [] h = tt
fewer_distinct (d ∷ ds) h = (
  fewer_all (λ t. d.now.tag ≢ t) ds (each-right (λ t. d.now.tag ≢ t) (earlier_tags d) (flat_map tags_of ds) h.0),
  fewer_distinct ds (apart-cut [] (earlier_tags d) (flat_map tags_of ds) h.1),
)

abbrev name_of : Document → DocId
name_of d = d.id

-- each home is within the limits as before
homes_alone : (limits : Limits) (ds : List Document) → AreHomesWithinLimits limits ds → AreHomesWithinLimits limits (map document_without_earlier ds)
homes_alone limits ds within home =
    let own = documents_of_home name_of ds home in
    let there : documents_of_home name_of (map document_without_earlier ds) home ≡ map document_without_earlier own =
    sym (map-filtered document_without_earlier (λ (d : Document). same_home home d.id.home) (λ (d : Document). same_home home d.id.home) (λ d. refl) ds) in
    let few : length own ≡ length (documents_of_home name_of (map document_without_earlier ds) home) = sym (length-map own document_without_earlier) ∙ sym (ap (λ (xs : List Document). length xs) there) in
    let room : sum_by length_of own ≡ sum_by length_of (documents_of_home name_of (map document_without_earlier ds) home) = sym (sum-mapped length_of document_without_earlier own) ∙ sym (ap (λ (xs : List Document). sum_by length_of xs) there) in
    record {
      few = subst (λ (n : ℕ). IsWithin limits.home_documents n) few (within home).few;
      room = subst (λ (n : ℕ). IsWithin limits.home_bytes n) room (within home).room;
    }

pub valid_alone : (m : State) → IsValidState m → IsValidState (without_earlier m)
valid_alone m k =
    let ds = m.documents in
    let few : length (map document_without_earlier ds) ≡ length ds = length-map ds document_without_earlier in
    let room : sum_by length_of (map document_without_earlier ds) ≡ sum_by length_of ds = sum-mapped length_of document_without_earlier ds in
    record {
      started = k.started;
      documents = all_alone m.next ds k.documents;
      names = subst (λ (xs : List DocId). AreDistinct xs) (sym (mapped (λ (d : Document). d.id) document_without_earlier ds)) k.names;
      tags = fewer_distinct ds k.tags;
      services = subst (λ (xs : List (List ℕ)). AreDistinct xs) (sym (flat_map-map uris_of document_without_earlier ds)) k.services;
      countable = k.countable;
      few = omega (arith, few, k.few);
      room = omega (arith, room, k.room);
      homes = homes_alone m.limits ds k.homes;
    }

pub snapshot_leads : (root : List ℕ) (m : State) → IsValidState m → m.next < 2 ^ 64 → AllByRecursion (λ d. IsEncodableName d.id) m.documents → LeadsToState root (snapshot_of (snapshot_parts root m) m.next) (without_earlier m)
snapshot_leads root m k fits writable = record {
  origin = without_earlier m;
  requests = [];
  begins = record { valid = valid_alone m k; parts_of_state = state_kept root m k fits writable; next = refl };
  told = tt;
  changes = refl;
  made = refl;
}
