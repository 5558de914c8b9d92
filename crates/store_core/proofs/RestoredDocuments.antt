-- A document that is put again into a store, with an etag that it had before.
use Rattle.std.proofs.Common.{◌≡◌, ◌≢◌, ℕ, ◌+◌, ◌<◌, ◌≤◌, ◌==◌, Bool, true, false, cond, List, [], ◌∷◌, ◌++◌, length, map, find, sum_by, Option, None, Some, Result, Ok, Err, refl, sym, ap, subst, ◌∙◌, arith, length-append}
use Rattle.std.specs.Prelude.{IsTrue, MatchOption, ◌↔◌}
use Rattle.std.proofs.lemmas.Option.{same_Some}
use Rattle.std.specs.Bool.{MatchBool}
use Rattle.std.specs.List.{AllByRecursion, flat_map}
use Rattle.std.specs.Set.{is_member}
use Rattle.std.specs.Str.{bytes_eq}
use Rattle.std.proofs.lemmas.Bool.Decides.{nat_tests}
use Rattle.std.proofs.lemmas.List.{append-nil, map-append}
use Rattle.std.proofs.lemmas.List.Concat.{flat_map-append}
use Rattle.std.proofs.lemmas.List.Sums.{sum_by-append}
use Rattle.xml_tree.specs.Tree.{Tree}
use Rattle.usage_docs.specs.Services.{document_len}
use Rattle.doc_names.specs.NameEquality.{same_id}
use Rattle.doc_names.specs.declared.doc_id.DocId.{DocId}
use Rattle.edit_ops.specs.declared.change.Change.TheVariants.{CreateDocument}
use Rattle.edit_ops.specs.Notes.{Note}
use Rattle.store_core.specs.declared.entry.Entry.{Entry}
use Rattle.store_core.specs.declared.limits.Limits.{Limits}
use Rattle.store_core.specs.declared.refusal.StoreRefusal.{StoreRefusal}
use Rattle.store_core.specs.declared.step.EntryStep.{EntryStep}
use Rattle.store_core.specs.declared.step.EntryStep.TheVariants.{Make}
use Rattle.store_core.specs.declared.change_builder.Outline.{Outline}
use Rattle.store_core.specs.State.{Document, State, new_document, versions}
use Rattle.store_core.specs.Contents.{StoredDocument, Represents, stored_document, StoreContents as Content, contents_of as content_of}
use Rattle.store_core.specs.ValidStates.{AreDistinct, IsValidHistory, IsValidState}
use Rattle.store_core.specs.ChangePreconditions.{MayRequest}
use Rattle.store_core.specs.AcceptableChanges.{IsAcceptable}
use Rattle.store_core.specs.DocumentChanges.{contents_after, find_document, note_for, state_after, stored_id}
use Rattle.store_core.specs.PreparedChanges.{PreparedChange}
use Rattle.store_core.specs.StoreViews.{SpareCapacity, StoreView, new_entry}
use Rattle.store_core.specs.RestoredDocuments.{HasNoRecords, RestoresDocument, contents_with, state_with}
use Rattle.store_core.specs.inner.ChangePlans.{CanTakeStep, IsCreationOutline, IsPlanResult, TakesStep}
use Rattle.store_core.specs.inner.RestoredEntries.{IsFreeTag, IsPlannedRestore, is_unused_tag, restored_document, restored_root}
use Rattle.store_core.specs.inner.StoreMemory.{IsConsistentStore, address_holder, contents_view, entry_addresses, entry_len, entry_number, registered_after, registered_number, stored_view}
use Rattle.store_core.proofs.AcceptedChanges.{accepted-suits, find-map, sum-first, uris_of}
use Rattle.store_core.proofs.Admits.{suiting-made}
use Rattle.store_core.proofs.ChangeSteps.{absent-entry, total-is}
use Rattle.store_core.proofs.DistinctItems.{apart-put, each-append, each-right}
use Rattle.store_core.proofs.Entries.{known}
use Rattle.store_core.proofs.Holders.{held-apart}
use Rattle.store_core.proofs.HomeLemmas.{homes-exchanged, length_of}
use Rattle.store_core.proofs.KeptAfter.{kept-state_after, name_of}
use Rattle.store_core.proofs.OneVersion.{no_document_has, no_version_has}
use Rattle.store_core.proofs.PlanAnswers.{creation-planned, prepared-ok, reason-of}
use Rattle.store_core.proofs.Services.{none-mapped}

abbrev Row : Type 0
Row = DocId × Entry

abbrev tags_of : Document → List ℕ
tags_of d = map (λ v. v.tag) (versions d)

-- ---- the state with one document more

module _ (m : State) (id : DocId) (tag : ℕ) (root : Tree) (valid : IsValidState m) where
  abbrev Held : List Document
  Held = m.documents

  abbrev Again : Document
  Again = new_document id tag root

  abbrev Created : Document
  Created = new_document id m.next root

  abbrev AfterCreation : State
  AfterCreation = state_after m id (CreateDocument root)

  -- it is valid, if it is so with the next number as the etag
  pub valid_with : IsValidState AfterCreation → 1 ≤ tag → tag < m.next → AllByRecursion (λ t. tag ≢ t) (flat_map tags_of Held) → IsValidState (state_with Again m)
  valid_with is low below free =
      let last : IsValidHistory (m.next + 1) Created = (each-right (IsValidHistory (m.next + 1)) Held (Created ∷ []) is.documents).0 in
      let tags : AreDistinct (flat_map tags_of Held ++ tag ∷ []) =
      apart-put (flat_map tags_of Held) [] tag (subst (λ (xs : List ℕ). AreDistinct xs) (sym (append-nil (flat_map tags_of Held))) valid.tags) (subst (λ (xs : List ℕ). AllByRecursion (λ t. tag ≢ t) xs) (sym (append-nil (flat_map tags_of Held))) free) in
      let few : length (Held ++ Created ∷ []) ≤ m.limits.documents = is.few in
      let room : sum_by length_of (Held ++ Created ∷ []) ≤ m.limits.bytes = is.room in
      record {
        started = valid.started;
        documents = each-append (IsValidHistory m.next) Held (Again ∷ []) valid.documents (record { readable = last.readable; users = last.users; sound = (last.sound.0, tt); tags = ((low, below), tt); follows = refl }, tt);
        names = subst (λ (xs : List DocId). AreDistinct xs) (map-append name_of Held (Created ∷ []) ∙ sym (map-append name_of Held (Again ∷ []))) is.names;
        tags = subst (λ (xs : List ℕ). AreDistinct xs) (sym (flat_map-append tags_of Held (Again ∷ []))) tags;
        services = subst (λ (xs : List (List ℕ)). AreDistinct xs) (flat_map-append uris_of Held (Created ∷ []) ∙ sym (flat_map-append uris_of Held (Again ∷ []))) is.services;
        countable = valid.countable;
        few = omega (arith, few, length-append Held (Created ∷ []), length-append Held (Again ∷ []));
        room = omega (arith, room, sum_by-append length_of Held (Created ∷ []), sum-first length_of Created [], sum_by-append length_of Held (Again ∷ []), sum-first length_of Again []);
        homes = homes-exchanged m.limits Held Created Again [] refl refl is.homes;
      }

  -- if it is valid, the change that creates the document suits the state
  suits_then : MayRequest (content_of m) id (CreateDocument root) → IsValidState (state_with Again m) → IsAcceptable m id (CreateDocument root)
  suits_then asks is =
      let last : IsValidHistory m.next Again = (each-right (IsValidHistory m.next) Held (Again ∷ []) is.documents).0 in
      let missing : find (λ (e : Document). same_id id e.id) Held ≡ None =
      none-mapped stored_document (find (λ (e : Document). same_id id e.id) Held) (sym (find-map stored_document (λ (h : StoredDocument). same_id id h.id) Held) ∙ asks.0) in
      let few : length (Held ++ Again ∷ []) ≤ m.limits.documents = is.few in
      let room : sum_by length_of (Held ++ Again ∷ []) ≤ m.limits.bytes = is.room in
      record {
        act = (missing, last.readable, last.users, last.sound.0);
        services = subst (λ (xs : List (List ℕ)). AreDistinct xs) (flat_map-append uris_of Held (Again ∷ []) ∙ sym (flat_map-append uris_of Held (Created ∷ []))) is.services;
        few = omega (arith, few, length-append Held (Created ∷ []), length-append Held (Again ∷ []));
        room = omega (arith, room, sum_by-append length_of Held (Created ∷ []), sum-first length_of Created [], sum_by-append length_of Held (Again ∷ []), sum-first length_of Again []);
        homes = homes-exchanged m.limits Held Again Created [] refl refl is.homes;
      }

  -- if it is valid, no document has the etag
  no_document : IsValidState (state_with Again m) → AllByRecursion (λ h. tag ≢ h.tag) (map stored_document Held)
  no_document is =
      let tags : AreDistinct (flat_map tags_of Held ++ tag ∷ []) = subst (λ (xs : List ℕ). AreDistinct xs) (flat_map-append tags_of Held (Again ∷ [])) is.tags in
      no_document_has tag m.next Held (last_differs (flat_map tags_of Held) tag tags)
    where
      last_differs : (xs : List ℕ) (x : ℕ) → AreDistinct (xs ++ x ∷ []) → AllByRecursion (λ t. x ≢ t) xs
      last_differs [] x apart = tt
      last_differs (y ∷ ys) x apart = ((λ (same : x ≡ y). (each-right (λ z. y ≢ z) ys (x ∷ []) apart.0).0 (sym same)), last_differs ys x apart.1)

  free_then : IsValidState (state_with Again m) → IsFreeTag (content_of m) tag
  free_then is =
      let last : IsValidHistory m.next Again = (each-right (IsValidHistory m.next) Held (Again ∷ []) is.documents).0 in
      record { low = last.tags.0.0; below = last.tags.0.1; fresh = no_document is }

-- ---- in a store

module _ (c : Content) (id : DocId) (tag : ℕ) (root : Tree) where
  abbrev IsValidWith : State → Type 0
  IsValidWith m = IsValidState (state_with (new_document id tag root) m)

  -- the etag is taken
  pub not_free : ¬ (IsFreeTag c tag) → (m : State) → Represents c m → IsValidState m → ¬ (IsValidWith m)
  not_free taken m stands valid is = taken (subst (λ (x : Content). IsFreeTag x tag) (sym stands) (free_then m id tag root valid is))

  -- the store refuses the change that creates the document
  pub refused : MayRequest c id (CreateDocument root) → c.next < 18446744073709551616 → (e : StoreRefusal) → IsPlanResult c id (CreateDocument root) (Err e) → (m : State) → Represents c m → IsValidState m → ¬ (IsValidWith m)
  refused asks number e plan m stands valid is =
      let asks' = subst (λ (x : Content). MayRequest x id (CreateDocument root)) stands asks in
      let made = suiting-made c m id (CreateDocument root) stands valid (suits_then m id tag root valid asks' is) (subst (λ (x : Content). x.next < 18446744073709551616) stands number) in
      let not_made = reason-of c id (CreateDocument root) e plan in
      let no : ◌≡◌ {A = Result (Note × Content) StoreRefusal} (Ok (note_for c id (CreateDocument root) (find_document stored_id c.documents id), contents_after c id (CreateDocument root))) (Err e) = sym made ∙ not_made in
      cc

  -- nothing is against the document
  pub planned : MayRequest c id (CreateDocument root) → HasNoRecords c → IsFreeTag c tag → (o : Outline) → IsCreationOutline c id root o → (m : State) → Represents c m → IsValidState m → IsValidWith m
  planned asks alone free o outlined m stands valid =
      let change = CreateDocument root in
      let plan = creation-planned c id root o asks outlined in
      let ok = prepared-ok c id change _ plan in
      let suits = accepted-suits c m id change _ stands valid asks ok.1 in
      let fresh = no_version_has tag m.next m.documents valid.documents (subst (λ (x : Content). HasNoRecords x) stands alone) (subst (λ (x : Content). IsFreeTag x tag) stands free).fresh in
      valid_with m id tag root valid (kept-state_after m id change valid suits) free.low (subst (λ (x : Content). tag < x.next) stands free.below) fresh

-- ---- its NewEntry

fresh_numbers : (tag : ℕ) (es : List Row) → AllByRecursion (λ e. e.1.notes ≡ [] → entry_number e ≡ e.1.tag) es → AllByRecursion (λ h. h.notes ≡ []) (map stored_view es) → AllByRecursion (λ h. tag ≢ h.tag) (map stored_view es)
    → AllByRecursion (λ t. tag ≢ t) (map entry_number es)
fresh_numbers tag [] unedited alone fresh = tt
fresh_numbers tag (e ∷ es) unedited alone fresh = ((λ (same : tag ≡ entry_number e). fresh.0 (same ∙ unedited.0 alone.0)), fresh_numbers tag es unedited.1 alone.1 fresh.1)

module _ (es : List Row) (rs : List (List ℕ × ℕ)) (limits : Limits) (last total : ℕ) (p : PreparedChange) (s : IsConsistentStore es rs limits last total) (plan : IsPlannedRestore (contents_view es limits last) p) where
  abbrev Contained : Content
  Contained = contents_view es limits last

  abbrev NewEntry : Entry
  NewEntry = new_entry p.note.next (restored_root p)

  abbrev NewRow : Row
  NewRow = (p.doc, NewEntry)

  abbrev Restored : Document
  Restored = restored_document p

  pub may_put : CanTakeStep es p.doc p.step
  may_put = subst (λ (x : EntryStep). CanTakeStep es p.doc x) (sym plan.step) (absent-entry es rs limits last total p.doc s plan.absent)

  holds : contents_view (es ++ NewRow ∷ []) limits last ≡ contents_with Restored Contained
  holds = ap (λ (hs : List StoredDocument). let x : Content = record { documents = hs; next = last + 1; limits = limits } in x) (map-append stored_view es (NewRow ∷ []))

  stands_with : (m : State) → Represents Contained m → Represents (contents_view (es ++ NewRow ∷ []) limits last) (state_with Restored m)
  stands_with m stands =
      holds ∙ ap (contents_with Restored) stands ∙ ap (λ (hs : List StoredDocument). let x : Content = record { documents = hs; next = m.next; limits = m.limits } in x) (sym (map-append stored_document m.documents (Restored ∷ [])))

  kept_with : (m : State) × Represents (contents_view (es ++ NewRow ∷ []) limits last) m × IsValidState m
  kept_with = (state_with Restored s.kept.0, stands_with s.kept.0 s.kept.1, plan.valid s.kept.0 s.kept.1 s.kept.2)

  consistent_with : (rows : List (List ℕ × ℕ)) → ((uri : List ℕ) → registered_number rows uri ≡ registered_after p.leaves p.enters p.note.next (registered_number rs uri) uri) → IsConsistentStore (es ++ NewRow ∷ []) rows limits last p.total
  consistent_with rows reg =
      let apart = (known (es ++ NewRow ∷ []) limits last kept_with.0 kept_with.1 kept_with.2).services in
      let one : sum_by entry_len (NewRow ∷ []) ≡ document_len (restored_root p) + 0 = sum-first entry_len NewRow [] in
      let below : p.note.next < last + 1 = plan.free.below in
      let fresh = fresh_numbers p.note.next es s.unedited plan.alone plan.free.fresh in
      record {
        kept = kept_with;
        addresses = λ uri.
            reg uri
            ∙ ap (λ (us : List (List ℕ)). registered_after us p.enters p.note.next (registered_number rs uri) uri) plan.leaves
            ∙ ap (λ (us : List (List ℕ)). registered_after [] us p.note.next (registered_number rs uri) uri) plan.enters
            ∙ ap (λ (o : Option ℕ). registered_after [] (entry_addresses NewRow) p.note.next o uri) (s.addresses uri ∙ ap (λ (xs : List Row). address_holder xs uri) (sym (append-nil es)))
            ∙ held-apart entry_addresses entry_number es [] NewRow uri apart;
        numbers =
            subst (λ (ns : List ℕ). AreDistinct ns) (sym (map-append entry_number es (NewRow ∷ [])))
            (apart-put (map entry_number es) [] (entry_number NewRow) (subst (λ (ns : List ℕ). AreDistinct ns) (sym (append-nil (map entry_number es))) s.numbers)
            (subst (λ (ns : List ℕ). AllByRecursion (λ t. entry_number NewRow ≢ t) ns) (sym (append-nil (map entry_number es))) fresh));
        given = each-append (λ (r : Row). entry_number r ≤ last) es (NewRow ∷ []) s.given (omega (arith, below), tt);
        sum = omega (arith, plan.total, total-is es limits last, s.sum, sum_by-append entry_len es (NewRow ∷ []), one);
        lens = each-append (λ (r : Row). r.1.len ≡ entry_len r) es (NewRow ∷ []) s.lens (refl, tt);
        unedited = each-append (λ (r : Row). r.1.notes ≡ [] → entry_number r ≡ r.1.tag) es (NewRow ∷ []) s.unedited ((λ _. refl), tt);
      }

  module _ (left rows : List (List ℕ × ℕ)) (next : List Row) (created number : ℕ) (leaves enters : List (List ℕ)) (stepped : TakesStep (record { entries = es; doc = p.doc; number = number }) p.step created next)
      (is_leaves : leaves ≡ p.leaves) (is_enters : enters ≡ p.enters)
      (took : (uri : List ℕ) → registered_number left uri ≡ cond (is_member bytes_eq leaves uri) None (registered_number rs uri)) (gave : (uri : List ℕ) → registered_number rows uri ≡ cond (is_member bytes_eq enters uri) (Some created) (registered_number left uri)) where
    put : TakesStep (record { entries = es; doc = p.doc; number = number }) (Make p.doc NewEntry) created next
    put = subst (λ (x : EntryStep). TakesStep (record { entries = es; doc = p.doc; number = number }) x created next) plan.step stepped

    exchanges : (uri : List ℕ) → registered_number rows uri ≡ registered_after p.leaves p.enters p.note.next (registered_number rs uri) uri
    exchanges uri =
        gave uri
        ∙ ap (λ (o : Option ℕ). cond (is_member bytes_eq enters uri) (Some created) o) (took uri)
        ∙ ap (λ (us : List (List ℕ)). cond (is_member bytes_eq enters uri) (Some created) (cond (is_member bytes_eq us uri) None (registered_number rs uri))) is_leaves
        ∙ ap (λ (us : List (List ℕ)). cond (is_member bytes_eq us uri) (Some created) (cond (is_member bytes_eq p.leaves uri) None (registered_number rs uri))) is_enters
        ∙ ap (λ (n : ℕ). cond (is_member bytes_eq p.enters uri) (Some n) (cond (is_member bytes_eq p.leaves uri) None (registered_number rs uri))) put.1

    pub still_consistent : IsConsistentStore next rows limits last p.total
    still_consistent = subst (λ (xs : List Row). IsConsistentStore xs rows limits last p.total) (sym put.0) (consistent_with rows exchanges)

    pub holds_restored : contents_view next limits last ≡ contents_with Restored Contained
    holds_restored = ap (λ (xs : List Row). contents_view xs limits last) put.0 ∙ holds

-- ---- what a store has then

module _ (es : List Row) (rs : List (List ℕ × ℕ)) (limits : Limits) (last total : ℕ) (room : SpareCapacity) (s : StoreView) (p q : PreparedChange)
    (seen : (let x : StoreView = record { content = contents_view es limits last; room = room } in x) ≡ s) (same : p ≡ q) (storing : IsConsistentStore es rs limits last total) (plan : IsPlannedRestore s.content q) where
  pub plan_here : IsPlannedRestore (contents_view es limits last) p
  plan_here = subst (λ (x : StoreView). IsPlannedRestore x.content p) (sym seen) (subst (λ (x : PreparedChange). IsPlannedRestore s.content x) (sym same) plan)

  pub may_put_here : CanTakeStep es p.doc p.step
  may_put_here = may_put es rs limits last total p storing plan_here

  pub held_then : (content : Content) → content ≡ contents_with (restored_document p) (contents_view es limits last) → content ≡ contents_with (restored_document q) s.content
  held_then content is =
      is
      ∙ ap (λ (x : StoreView). contents_with (restored_document p) x.content) seen
      ∙ ap (λ (x : PreparedChange). contents_with (restored_document x) s.content) same

-- ---- whether an etag is free

differs : (a b : ℕ) → (a == b) ≡ false → b ≡ a → ⊥
differs a b other same = grind (arith, nat_tests)

equals : (a b : ℕ) → (a == b) ≡ true → b ≡ a
equals a b same = grind (arith, nat_tests)

unused_by : (tag : ℕ) (e : Row) (es : List Row) (b : Bool) → (e.1.tag == tag) ≡ b → cond b false (is_unused_tag tag es) ≡ true → (is_unused_tag tag es ≡ true → AllByRecursion (λ h. tag ≢ h.tag) (map stored_view es))
    → AllByRecursion (λ h. tag ≢ h.tag) (map stored_view (e ∷ es))
unused_by tag e es true is h more = cc
unused_by tag e es false is h more = (differs e.1.tag tag is, more h)

pub unused : (tag : ℕ) (es : List Row) → is_unused_tag tag es ≡ true → AllByRecursion (λ h. tag ≢ h.tag) (map stored_view es)
unused tag [] h = tt
unused tag (e ∷ es) h = unused_by tag e es (e.1.tag == tag) refl h (unused tag es)

used_by : (tag : ℕ) (e : Row) (es : List Row) (b : Bool) → (e.1.tag == tag) ≡ b → cond b false (is_unused_tag tag es) ≡ false → (is_unused_tag tag es ≡ false → AllByRecursion (λ h. tag ≢ h.tag) (map stored_view es) → ⊥)
    → AllByRecursion (λ h. tag ≢ h.tag) (map stored_view (e ∷ es)) → ⊥
used_by tag e es true is h more all = all.0 (equals e.1.tag tag is)
used_by tag e es false is h more all = more h all.1

pub used : (tag : ℕ) (es : List Row) → is_unused_tag tag es ≡ false → AllByRecursion (λ h. tag ≢ h.tag) (map stored_view es) → ⊥
used tag [] h all = cc
used tag (e ∷ es) h all = used_by tag e es (e.1.tag == tag) refl h (used tag es) all

-- the number wasn't given
module _ (es : List Row) (limits : Limits) (last : ℕ) (room : SpareCapacity) (s : StoreView) (seen : (let x : StoreView = record { content = contents_view es limits last; room = room } in x) ≡ s) (tag : ℕ) where
  free_here : IsFreeTag s.content tag → IsFreeTag (contents_view es limits last) tag
  free_here free = subst (λ (x : StoreView). IsFreeTag x.content tag) (sym seen) free

  pub not_given : (b : Bool) → b ≡ false → IsTrue b ↔ ((1 ≤ tag) × (tag ≤ last)) → ¬ (IsFreeTag s.content tag)
  not_given b lower exact free =
      let f = free_here free in
      let below : tag < last + 1 = f.below in
      let yes : b ≡ true = exact.1 (f.low, omega (arith, below)) in
      let both : true ≡ false = sym yes ∙ lower in
      cc

  pub judged_by : (g b : Bool) → g ≡ true → IsTrue g ↔ ((1 ≤ tag) × (tag ≤ last)) → b ≡ is_unused_tag tag es → MatchBool b (IsFreeTag s.content tag) (¬ (IsFreeTag s.content tag))
  judged_by g true given exact is =
      let within = exact.0 given in
      let low : 1 ≤ tag = within.0 in
      let most : tag ≤ last = within.1 in
      subst (λ (x : StoreView). IsFreeTag x.content tag) seen (record { low = low; below = omega (arith, most); fresh = unused tag es (sym is) })
  judged_by g false given exact is = λ free. used tag es (sym is) (free_here free).fresh

-- what is prepared by an outline
module _ (c : Content) (id : DocId) (tag : ℕ) (root : Tree) (asks : MayRequest c id (CreateDocument root)) (alone : HasNoRecords c) (free : IsFreeTag c tag) (o : Outline) (outlined : IsCreationOutline c id root o) where
  abbrev prepared_by : Outline → PreparedChange
  prepared_by o = record {
    doc = id;
    note = record { previous = 0; next = o.number; bindings = []; change = CreateDocument root; fresh = false };
    step = Make id (new_entry o.number root);
    leaves = o.leaves;
    enters = o.enters;
    total = o.total;
  }

  abbrev IsPrepared : PreparedChange → Type 0
  IsPrepared p = IsPlannedRestore c p × (restored_document p ≡ new_document id tag root)

  plans : IsPrepared (prepared_by (record o { number = tag }))
  plans = (
    record {
      step = refl;
      leaves = outlined.leaves;
      enters = outlined.enters;
      total = outlined.total;
      absent = asks.0;
      free = free;
      alone = alone;
      valid = planned c id tag root asks alone free o outlined;
    },
    refl,
  )

  pub plans_so : (p : PreparedChange) (n : Outline) → n ≡ record o { number = tag } → p ≡ prepared_by n → IsPrepared p
  plans_so p n same is = subst IsPrepared (sym (is ∙ ap prepared_by same)) plans

-- the document is put
pub restored_so : (old new : Content) (d : Document) (p : PreparedChange) → IsPlannedRestore old p → restored_document p ≡ d → new ≡ contents_with (restored_document p) old → RestoresDocument old d true new
restored_so old new d p plan same is =
    (is ∙ ap (λ (x : Document). contents_with x old) same, λ m stands valid. subst (λ (x : Document). IsValidState (state_with x m)) same (plan.valid m stands valid))

-- ---- by what was returned

pub if_true : {P : Type 0} (Q : Type 0) (b : Bool) → b ≡ true → MatchBool b P Q → P
if_true Q true holds h = h
if_true Q false holds h = cc

pub if_false : (P : Type 0) {Q : Type 0} (b : Bool) → b ≡ false → MatchBool b P Q → Q
if_false P true lower h = cc
if_false P false lower h = h

pub if_none : {A P : Type 0} (Q : A → Type 0) (o : Option A) → o ≡ None → MatchOption o P Q → P
if_none Q None none h = h
if_none Q (Some x) none h = cc

pub if_some : {A : Type 0} (P : Type 0) (Q : A → Type 0) (o : Option A) (x : A) → o ≡ Some x → MatchOption o P Q → Q x
if_some P Q None x some h = cc
if_some P Q (Some y) x some h = subst Q (same_Some y x some) h
