-- A valid state is valid after each change that suits it.
use Rattle.std.proofs.Common.{◌≡◌, ◌≢◌, ℕ, ◌+◌, ◌<◌, ◌≤◌, Bool, true, false, not, cond, List, [], ◌∷◌, ◌++◌, length, map, filter, find, sum_by, Option, None, Some, IsSome, IsSomeAnd, refl, sym, ap, subst, ◌∙◌, arith}
use Rattle.std.specs.List.{AllByRecursion, flat_map}
use Rattle.std.proofs.lemmas.List.{append-nil, map-append}
use Rattle.std.proofs.lemmas.List.Concat.{flat_map-append}
use Rattle.xml_tree.specs.Tree.{Tree}
use Rattle.usage_docs.specs.Services.{document_len}
use Rattle.doc_names.specs.DocIds.{IsAddressable}
use Rattle.doc_names.specs.NameEquality.{same_id}
use Rattle.doc_names.specs.declared.doc_id.DocId.{DocId}
use Rattle.edit_ops.specs.Changes.{FitsTree, edited}
use Rattle.edit_ops.specs.declared.change.Change.{Change}
use Rattle.edit_ops.specs.Notes.{note_of}
use Rattle.store_core.specs.State.{Document, State, Version, versions, document_after, new_document, default_limits, first_state, first_state_within}
use Rattle.store_core.specs.declared.limits.Limits.{Limits}
use Rattle.store_core.specs.HomeLimits.{IsWithin}
use Rattle.store_core.specs.ValidStates.{AreCountable, AreDistinct, AreHomesWithinLimits, IsValidHistory, IsSoundDocumentFor, IsUserHome, IsValidState, all_addresses}
use Rattle.doc_names.specs.Usages.{usage_of}
use Rattle.store_core.specs.DocumentChanges.{ChangeKind, Makes, Edits, Removes, change_kind, state_after, state_after_by_kind}
use Rattle.store_core.specs.AcceptableChanges.{IsAcceptable, IsAcceptableByKind}
use Rattle.store_core.proofs.DistinctItems.{each-append, each-left, each-right, each-weaker, apart-put, apart-cut, apart-behind, split, one-exchanged, one-filtered}
use Rattle.doc_names.proofs.SameIds.{not-same, other-name}

abbrev pub name_of : Document → DocId
name_of d = d.id

abbrev tags_of : Document → List ℕ
tags_of d = map (λ v. v.tag) (versions d)

abbrev Dated : ℕ → Version → Type 0
Dated next v = (1 ≤ v.tag) × (v.tag < next)

le-add : (a n : ℕ) → a ≤ n → a ≤ n + 1
le-add a n h = omega arith

-- ---- one document

kept-later : (n : ℕ) (d : Document) → IsValidHistory n d → IsValidHistory (n + 1) d
kept-later n d k =
    record {
      readable = k.readable;
      users = k.users;
      sound = k.sound;
      tags = each-weaker (Dated n) (Dated (n + 1)) (λ v h. (h.0, omega (arith, h.1))) (versions d) k.tags;
      follows = k.follows;
    }

kept-all-later : (n : ℕ) (ds : List Document) → AllByRecursion (IsValidHistory n) ds → AllByRecursion (IsValidHistory (n + 1)) ds
kept-all-later n ds k = each-weaker (IsValidHistory n) (IsValidHistory (n + 1)) (kept-later n) ds k

kept-new_document : (id : DocId) (n : ℕ) (root : Tree) → 1 ≤ n → IsAddressable id → IsUserHome id.home → IsSoundDocumentFor (usage_of id.auid) root → IsValidHistory (n + 1) (new_document id n root)
kept-new_document id n root s r u h =
    record {
      readable = r;
      users = u;
      sound = (h, tt);
      tags = ((s, omega arith), tt);
      follows = refl;
    }

kept-document_after : (n : ℕ) (d : Document) (change : Change) → 1 ≤ n → IsValidHistory n d → FitsTree d.now.tree change → IsSoundDocumentFor (usage_of d.id.auid) (edited d.now.tree change) → IsValidHistory (n + 1) (document_after n d (note_of d.now.tag n d.now.tree change))
kept-document_after n d change s k fits h =
    record {
      readable = k.readable;
      users = k.users;
      sound = (h, k.sound);
      tags = ((s, omega arith), each-weaker (Dated n) (Dated (n + 1)) (λ v g. (g.0, omega (arith, g.1))) (versions d) k.tags);
      follows = ((note_of d.now.tag n d.now.tree change, refl, fits, refl, refl), k.tags.0.1, k.follows);
    }

-- ---- etags below the next number

below-one : (n t : ℕ) → t < n → n ≢ t
below-one n t h e = omega arith

below-versions : (n : ℕ) (vs : List Version) → AllByRecursion (Dated n) vs → AllByRecursion (λ t. n ≢ t) (map (λ v. v.tag) vs)
below-versions n [] h = tt
below-versions n (v ∷ vs) h = (below-one n v.tag h.0.1, below-versions n vs h.1)

below-documents : (n : ℕ) (ds : List Document) → AllByRecursion (IsValidHistory n) ds → AllByRecursion (λ t. n ≢ t) (flat_map tags_of ds)
below-documents n [] k = tt
below-documents n (d ∷ ds) k = each-append (λ t. n ≢ t) (tags_of d) (flat_map tags_of ds) (below-versions n (versions d) k.0.tags) (below-documents n ds k.1)

-- ---- names

none-step : (id : DocId) (d : Document) (ds : List Document) (b : Bool) → same_id id d.id ≡ b → cond b (Some d) (find (λ e. same_id id e.id) ds) ≡ None → (find (λ e. same_id id e.id) ds ≡ None → AllByRecursion (λ y. id ≢ y) (map name_of ds)) → AllByRecursion (λ y. id ≢ y) (map name_of (d ∷ ds))
none-step id d ds true e h by = cc
none-step id d ds false e h by = (not-same id d.id e, by h)

none-found : (id : DocId) (ds : List Document) → find (λ d. same_id id d.id) ds ≡ None → AllByRecursion (λ y. id ≢ y) (map name_of ds)
none-found id [] h = tt
none-found id (d ∷ ds) h = none-step id d ds (same_id id d.id) refl h (none-found id ds)

-- after the document that was found there is none of its name
none-behind : (id : DocId) (d : Document) (ds : List Document) → same_id id d.id ≡ true → AllByRecursion (λ y. d.id ≢ y) (map name_of ds) → AllByRecursion (λ e. same_id id e.id ≡ false) ds
none-behind id d [] p h = tt
none-behind id d (e ∷ es) p h = (other-name id d.id e.id (same_id id e.id) refl p h.0, none-behind id d es p h.1)

-- ---- a creation

kept-made : (m : State) (id : DocId) (change : Change) (root : Tree) → IsValidState m → IsAcceptableByKind m id change (Makes root) → AreDistinct (all_addresses (state_after_by_kind m id change (Makes root)).documents)
    → length (state_after_by_kind m id change (Makes root)).documents ≤ m.limits.documents → sum_by (λ d. document_len d.now.tree) (state_after_by_kind m id change (Makes root)).documents ≤ m.limits.bytes → AreHomesWithinLimits m.limits (state_after_by_kind m id change (Makes root)).documents → IsValidState (state_after_by_kind m id change (Makes root))
kept-made m id change root k s services few room homes =
    let ds = m.documents in
    let new = new_document id m.next root in
    let names : AreDistinct (map name_of ds ++ id ∷ []) =
    apart-put (map name_of ds) [] id (subst (λ (xs : List DocId). AreDistinct xs) (sym (append-nil (map name_of ds))) k.names) (subst (λ (xs : List DocId). AllByRecursion (λ y. id ≢ y) xs) (sym (append-nil (map name_of ds))) (none-found id ds s.0)) in
    let tags : AreDistinct (flat_map tags_of ds ++ m.next ∷ []) =
    apart-put (flat_map tags_of ds) [] m.next (subst (λ (xs : List ℕ). AreDistinct xs) (sym (append-nil (flat_map tags_of ds))) k.tags) (subst (λ (xs : List ℕ). AllByRecursion (λ t. m.next ≢ t) xs) (sym (append-nil (flat_map tags_of ds))) (below-documents m.next ds k.documents)) in
    record {
      started = le-add 1 m.next k.started;
      documents = each-append (IsValidHistory (m.next + 1)) ds (new ∷ []) (kept-all-later m.next ds k.documents) (kept-new_document id m.next root k.started s.1 s.2 s.3, tt);
      names = subst (λ (xs : List DocId). AreDistinct xs) (sym (map-append name_of ds (new ∷ []))) names;
      tags = subst (λ (xs : List ℕ). AreDistinct xs) (sym (flat_map-append tags_of ds (new ∷ []))) tags;
      services = services;
      countable = k.countable;
      few = few;
      room = room;
      homes = homes;
    }

-- ---- a stored document

-- the documents of a valid state before and after the one of a name
pub record Round (m : State) (id : DocId) (d : Document) : Type 0 where
  pub before : List Document
  pub behind : List Document
  pub parts : m.documents ≡ before ++ d ∷ behind
  pub passes : same_id id d.id ≡ true
  pub none-before : AllByRecursion (λ e. same_id id e.id ≡ false) before
  pub none-behind : AllByRecursion (λ e. same_id id e.id ≡ false) behind
  pub kept-before : AllByRecursion (IsValidHistory m.next) before
  pub kept : IsValidHistory m.next d
  pub kept-behind : AllByRecursion (IsValidHistory m.next) behind
  pub names : AreDistinct (map name_of before ++ d.id ∷ map name_of behind)
  pub tags : AreDistinct (flat_map tags_of before ++ (tags_of d ++ flat_map tags_of behind))

pub round : (m : State) (id : DocId) (d : Document) → IsValidState m → find (λ e. same_id id e.id) m.documents ≡ Some d → Round m id d
round m id d k h =
    let s = split (λ (e : Document). same_id id e.id) m.documents d h in
    let all : AllByRecursion (IsValidHistory m.next) (s.before ++ d ∷ s.behind) = subst (λ (ds : List Document). AllByRecursion (IsValidHistory m.next) ds) s.parts k.documents in
    let right = each-right (IsValidHistory m.next) s.before (d ∷ s.behind) all in
    let names : AreDistinct (map name_of s.before ++ d.id ∷ map name_of s.behind) =
    subst (λ (xs : List DocId). AreDistinct xs) (ap (map name_of) s.parts ∙ map-append name_of s.before (d ∷ s.behind)) k.names in
    record {
      before = s.before;
      behind = s.behind;
      parts = s.parts;
      passes = s.passes;
      none-before = s.none;
      none-behind = none-behind id d s.behind s.passes (apart-behind (map name_of s.before) (map name_of s.behind) d.id names);
      kept-before = each-left (IsValidHistory m.next) s.before (d ∷ s.behind) all;
      kept = right.0;
      kept-behind = right.1;
      names = names;
      tags = subst (λ (xs : List ℕ). AreDistinct xs) (ap (flat_map tags_of) s.parts ∙ flat_map-append tags_of s.before (d ∷ s.behind)) k.tags;
    }

below-round : (m : State) (id : DocId) (d : Document) (r : Round m id d) → AllByRecursion (λ t. m.next ≢ t) (flat_map tags_of r.before ++ (tags_of d ++ flat_map tags_of r.behind))
below-round m id d r =
    each-append (λ t. m.next ≢ t) (flat_map tags_of r.before) (tags_of d ++ flat_map tags_of r.behind) (below-documents m.next r.before r.kept-before)
    (each-append (λ t. m.next ≢ t) (tags_of d) (flat_map tags_of r.behind) (below-versions m.next (versions d) r.kept.tags) (below-documents m.next r.behind r.kept-behind))

record Found (m : State) (id : DocId) (P : Document → Type 0) : Type 0 where
  document : Document
  found : find (λ e. same_id id e.id) m.documents ≡ Some document
  holds : P document

found-and : (m : State) (id : DocId) (P : Document → Type 0) (o : Option Document) → find (λ e. same_id id e.id) m.documents ≡ o → IsSomeAnd o P → Found m id P
found-and m id P None e h = absurd h
found-and m id P (Some d) e h = record { document = d; found = e; holds = h }

kept-edited : (m : State) (id : DocId) (change : Change) → IsValidState m → IsAcceptableByKind m id change Edits → AreDistinct (all_addresses (state_after_by_kind m id change Edits).documents)
    → length (state_after_by_kind m id change Edits).documents ≤ m.limits.documents → sum_by (λ d. document_len d.now.tree) (state_after_by_kind m id change Edits).documents ≤ m.limits.bytes → AreHomesWithinLimits m.limits (state_after_by_kind m id change Edits).documents → IsValidState (state_after_by_kind m id change Edits)
kept-edited m id change k s services few room homes =
    let f = found-and m id (λ d. FitsTree d.now.tree change × IsSoundDocumentFor (usage_of d.id.auid) (edited d.now.tree change)) (find (λ e. same_id id e.id) m.documents) refl s in
    let d = f.document in
    let r = round m id d k f.found in
    let update_entry : Document → Document = λ e. document_after m.next e (note_of e.now.tag m.next e.now.tree change) in
    let docs : (state_after_by_kind m id change Edits).documents ≡ r.before ++ update_entry d ∷ r.behind =
    ap (λ (ds : List Document). map (λ e. cond (same_id id e.id) (update_entry e) e) ds) r.parts
    ∙ one-exchanged (λ (e : Document). same_id id e.id) update_entry r.before r.behind d r.none-before r.passes r.none-behind in
    record {
      started = le-add 1 m.next k.started;
      documents =
          subst (λ (ds : List Document). AllByRecursion (IsValidHistory (m.next + 1)) ds) (sym docs)
          (each-append (IsValidHistory (m.next + 1)) r.before (update_entry d ∷ r.behind) (kept-all-later m.next r.before r.kept-before)
          (kept-document_after m.next d change k.started r.kept f.holds.0 f.holds.1, kept-all-later m.next r.behind r.kept-behind));
      names = subst (λ (xs : List DocId). AreDistinct xs) (sym (ap (map name_of) docs ∙ map-append name_of r.before (update_entry d ∷ r.behind))) r.names;
      tags =
          subst (λ (xs : List ℕ). AreDistinct xs) (sym (ap (flat_map tags_of) docs ∙ flat_map-append tags_of r.before (update_entry d ∷ r.behind)))
          (apart-put (flat_map tags_of r.before) (tags_of d ++ flat_map tags_of r.behind) m.next r.tags (below-round m id d r));
      services = services;
      countable = k.countable;
      few = few;
      room = room;
      homes = homes;
    }

found-some : (m : State) (id : DocId) (o : Option Document) → find (λ e. same_id id e.id) m.documents ≡ o → IsSome o → Found m id (λ d. Unit {0})
found-some m id None e h = cc
found-some m id (Some d) e h = record { document = d; found = e; holds = tt }

kept-removed : (m : State) (id : DocId) (change : Change) → IsValidState m → IsAcceptableByKind m id change Removes → AreDistinct (all_addresses (state_after_by_kind m id change Removes).documents)
    → length (state_after_by_kind m id change Removes).documents ≤ m.limits.documents → sum_by (λ d. document_len d.now.tree) (state_after_by_kind m id change Removes).documents ≤ m.limits.bytes → AreHomesWithinLimits m.limits (state_after_by_kind m id change Removes).documents → IsValidState (state_after_by_kind m id change Removes)
kept-removed m id change k s services few room homes =
    let f = found-some m id (find (λ e. same_id id e.id) m.documents) refl s in
    let d = f.document in
    let r = round m id d k f.found in
    let docs : (state_after_by_kind m id change Removes).documents ≡ r.before ++ r.behind =
    ap (λ (ds : List Document). filter (λ e. not (same_id id e.id)) ds) r.parts
    ∙ one-filtered (λ (e : Document). same_id id e.id) r.before r.behind d r.none-before r.passes r.none-behind in
    record {
      started = le-add 1 m.next k.started;
      documents =
          subst (λ (ds : List Document). AllByRecursion (IsValidHistory (m.next + 1)) ds) (sym docs)
          (each-append (IsValidHistory (m.next + 1)) r.before r.behind (kept-all-later m.next r.before r.kept-before) (kept-all-later m.next r.behind r.kept-behind));
      names = subst (λ (xs : List DocId). AreDistinct xs) (sym (ap (map name_of) docs ∙ map-append name_of r.before r.behind)) (apart-cut (map name_of r.before) (d.id ∷ []) (map name_of r.behind) r.names);
      tags = subst (λ (xs : List ℕ). AreDistinct xs) (sym (ap (flat_map tags_of) docs ∙ flat_map-append tags_of r.before r.behind)) (apart-cut (flat_map tags_of r.before) (tags_of d) (flat_map tags_of r.behind) r.tags);
      services = services;
      countable = k.countable;
      few = few;
      room = room;
      homes = homes;
    }

kept-act : (m : State) (id : DocId) (change : Change) (act : ChangeKind) → IsValidState m → IsAcceptableByKind m id change act → AreDistinct (all_addresses (state_after_by_kind m id change act).documents)
    → length (state_after_by_kind m id change act).documents ≤ m.limits.documents → sum_by (λ d. document_len d.now.tree) (state_after_by_kind m id change act).documents ≤ m.limits.bytes → AreHomesWithinLimits m.limits (state_after_by_kind m id change act).documents → IsValidState (state_after_by_kind m id change act)
kept-act m id change (Makes root) = kept-made m id change root
kept-act m id change Edits = kept-edited m id change
kept-act m id change Removes = kept-removed m id change

within-nothing : (l : Option ℕ) → IsWithin l 0
within-nothing None = tt
within-nothing (Some most) = omega arith

pub kept-first-within : (limits : Limits) (first : ℕ) → 1 ≤ first → AreCountable limits → IsValidState (first_state_within limits first)
kept-first-within limits first h most =
    record {
      started = h;
      documents = tt;
      names = tt;
      tags = tt;
      services = tt;
      countable = most;
      few = omega arith;
      room = omega arith;
      homes = λ home. record { few = within-nothing limits.home_documents; room = within-nothing limits.home_bytes };
    }

pub kept-first : (first : ℕ) → 1 ≤ first → IsValidState (first_state first)
kept-first first h = kept-first-within default_limits first h (omega arith, omega arith)

pub kept-state_after : (m : State) (id : DocId) (change : Change) → IsValidState m → IsAcceptable m id change → IsValidState (state_after m id change)
kept-state_after m id change k s = kept-act m id change (change_kind change) k s.act s.services s.few s.room s.homes
