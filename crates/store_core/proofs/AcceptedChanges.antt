-- A change that the store makes suits the state that its contents represent.
use Rattle.std.proofs.Common.{◌≡◌, ◌≢◌, ℕ, ◌+◌, ◌≤◌, nat_lt, nat_le, Bool, true, false, not, ◌&&◌, cond, List, [], ◌∷◌, ◌++◌, length, map, filter, find, sum_by, Option, None, Some, IsSome, IsSomeAnd, option_map, min, Ok, refl, sym, ap, subst, ◌∙◌, arith, length-append}
use Rattle.std.specs.List.{AllByRecursion, flat_map}
use Rattle.std.proofs.lemmas.Bool.Decides.{nat_tests}
use Rattle.std.proofs.lemmas.List.{append-nil, length-map}
use Rattle.std.proofs.lemmas.List.Folds.{flat_map-map}
use Rattle.std.proofs.lemmas.List.Concat.{flat_map-append}
use Rattle.std.proofs.lemmas.List.Sums.{sum_by-append}
use Rattle.std.specs.Option.{option_or as or_else}
use Rattle.xml_tree.specs.Tree.{Tree}
use Rattle.usage_docs.specs.Services.{document_len}
use Rattle.usage_docs.specs.declared.key_repeats.Clash.{Clash}
use Rattle.doc_names.specs.declared.usages.Usage.{Usage}
use Rattle.doc_names.specs.NameEquality.{same_home, same_id}
use Rattle.doc_names.specs.declared.doc_id.DocId.{DocId}
use Rattle.edit_ops.specs.Changes.{FitsTree, edited}
use Rattle.edit_ops.specs.declared.change.Change.{Change}
use Rattle.edit_ops.specs.Notes.{Note, note_of}
use Rattle.store_core.specs.declared.refusal.StoreRefusal.{StoreRefusal}
use Rattle.store_core.specs.declared.refusal.StoreRefusal.TheVariants.{ServiceTaken, TooLarge, TooMany, StoreFull, HomeTooMany, HomeFull}
use Rattle.store_core.specs.HomeLimits.{IsWithin, documents_of_home, is_above}
use Rattle.store_core.specs.State.{Document, State, new_document, document_after}
use Rattle.store_core.specs.Contents.{StoredDocument, Represents, stored_document, StoreContents as Content, contents_of as content_of}
use Rattle.store_core.specs.ValidStates.{AreDistinct, AreHomesWithinLimits, IsSoundDocumentFor, IsValidState, all_addresses, document_addresses}
use Rattle.doc_names.specs.Usages.{usage_of}
use Rattle.store_core.specs.ChangePreconditions.{MayRequest, MayRequestByKind, MayBeDocumentFor}
use Rattle.store_core.specs.DocumentChanges.{ChangeKind, Makes, Edits, Removes, change_kind, state_after_by_kind, refusal_of, refusal_of_home, refusal_of_number, refusal_of_tree, refusal_in_store, others_of_home, home_len_of_others, document_id, refusal_or, change_result, contents_after, find_document, stored_id, note_for, refusal_if, other_addresses, total_len_of_others, first_taken_address, without_document}
use Rattle.store_core.specs.AcceptableChanges.{IsAcceptable, IsAcceptableByKind}
use Rattle.store_core.proofs.DistinctItems.{apart-cut, none-filtered, one-exchanged, one-filtered}
use Rattle.store_core.proofs.KeptAfter.{round}
use Rattle.store_core.proofs.HomeLemmas.{home_sum, homes-put, homes-removed, length_of, less-edited, less-made, one, ones, within-of}
use Rattle.doc_names.proofs.SameIds.{id_exact}
use Rattle.store_core.proofs.Services.{apart-mix, none-mapped, none-first_taken_address, own-apart}
use Rattle.store_core.proofs.StateContents.{map-filtered}

-- ---- what passes the tests

both-none : {A : Type 0} (a b : Option A) → or_else a b ≡ None → (a ≡ None) × (b ≡ None)
both-none None b h = (refl, h)
both-none (Some a) b h = cc

not-so : (b : Bool) (r : StoreRefusal) → refusal_if b r ≡ None → b ≡ false
not-so true r h = cc
not-so false r h = refl

not-more : (a b : ℕ) → nat_lt a b ≡ false → b ≤ a
not-more a b h = grind (arith, nat_tests)

fewer : (most n : ℕ) → (true && nat_le most n) ≡ false → n + 1 ≤ most
fewer most n h = grind (arith, nat_tests)

pub record Passes (c : Content) (id : DocId) (is_new : Bool) (t : Tree) : Type 0 where
  pub services : AllByRecursion (λ uri. AllByRecursion (λ o. uri ≢ o) (other_addresses c id)) (document_addresses id.auid t)
  pub short : document_len t ≤ 262144
  pub few : (is_new && nat_le c.limits.documents (length c.documents)) ≡ false
  pub room : total_len_of_others c id + document_len t ≤ c.limits.bytes
  pub home_few : IsWithin c.limits.home_documents (length (others_of_home c id) + 1)
  pub home_room : IsWithin c.limits.home_bytes (home_len_of_others c id + document_len t)

pub passes : (c : Content) (id : DocId) (is_new : Bool) (t : Tree) → refusal_of_tree c id is_new t ≡ None → Passes c id is_new t
passes c id is_new t h =
    let told : Clash → StoreRefusal = λ clash. ServiceTaken clash in
    let first : Option StoreRefusal = option_map told (first_taken_address (other_addresses c id) (document_addresses id.auid t)) in
    let second : Option StoreRefusal = refusal_if (nat_lt 262144 (document_len t)) (TooLarge (min (document_len t) 18446744073709551615)) in
    let third : Option StoreRefusal = refusal_if (is_new && nat_le c.limits.documents (length c.documents)) TooMany in
    let fourth : Option StoreRefusal = refusal_if (nat_lt c.limits.bytes (total_len_of_others c id + document_len t)) (StoreFull (total_len_of_others c id + document_len t)) in
    let fifth : Option StoreRefusal = refusal_if (is_above c.limits.home_documents (length (others_of_home c id) + 1)) HomeTooMany in
    let sixth : Option StoreRefusal = refusal_if (is_above c.limits.home_bytes (home_len_of_others c id + document_len t)) (HomeFull (home_len_of_others c id + document_len t)) in
    let all = both-none (refusal_in_store c id is_new t) (refusal_of_home c id t) h in
    let own = both-none fifth sixth all.1 in
    let a = both-none first (or_else second (or_else third fourth)) all.0 in
    let b = both-none second (or_else third fourth) a.1 in
    let d = both-none third fourth b.1 in
    record {
      services = none-first_taken_address (other_addresses c id) (document_addresses id.auid t) (none-mapped told (first_taken_address (other_addresses c id) (document_addresses id.auid t)) a.0);
      short = not-more 262144 (document_len t) (not-so (nat_lt 262144 (document_len t)) (TooLarge (min (document_len t) 18446744073709551615)) b.0);
      few = not-so (is_new && nat_le c.limits.documents (length c.documents)) TooMany d.0;
      room = not-more c.limits.bytes (total_len_of_others c id + document_len t) (not-so (nat_lt c.limits.bytes (total_len_of_others c id + document_len t)) (StoreFull (total_len_of_others c id + document_len t)) d.1);
      home_few =
          within-of c.limits.home_documents (length (others_of_home c id) + 1) (not-so (is_above c.limits.home_documents (length (others_of_home c id) + 1)) HomeTooMany own.0);
      home_room =
          within-of c.limits.home_bytes (home_len_of_others c id + document_len t)
          (not-so (is_above c.limits.home_bytes (home_len_of_others c id + document_len t)) (HomeFull (home_len_of_others c id + document_len t)) own.1);
    }

sound-of : (usage : Option Usage) (t : Tree) → MayBeDocumentFor usage t → document_len t ≤ 262144 → IsSoundDocumentFor usage t
sound-of None t h s = absurd h
sound-of (Some usage) t h s = record { proper = h.proper; low = h.low; faultless = h.faultless; short = s }

-- ---- lists of documents

module _ {D H : Type 0} (h : D → H) (q : H → Bool) where
  find-step : (d : D) (ds : List D) (b : Bool) → find q (map h ds) ≡ option_map h (find (λ e. q (h e)) ds) → cond b (Some (h d)) (find q (map h ds)) ≡ option_map h (cond b (Some d) (find (λ e. q (h e)) ds))
  find-step d ds true by = refl
  find-step d ds false by = by

  pub find-map : (ds : List D) → find q (map h ds) ≡ option_map h (find (λ e. q (h e)) ds)
  find-map [] = refl
  find-map (d ∷ ds) = find-step d ds (q (h d)) (find-map ds)

module _ {D : Type 0} (p : D → Bool) where
  not_found_refusal-step : (x : D) (xs : List D) (b : Bool) → p x ≡ b → cond b (Some x) (find p xs) ≡ None → (find p xs ≡ None → AllByRecursion (λ e. p e ≡ false) xs) → AllByRecursion (λ e. p e ≡ false) (x ∷ xs)
  not_found_refusal-step x xs true e h by = cc
  not_found_refusal-step x xs false e h by = (e, by h)

  pub not_found_refusal : (xs : List D) → find p xs ≡ None → AllByRecursion (λ e. p e ≡ false) xs
  not_found_refusal [] h = tt
  not_found_refusal (x ∷ xs) h = not_found_refusal-step x xs (p x) refl h (not_found_refusal xs)

module _ {X : Type 0} (f : X → ℕ) where
  pub sum-first : (x : X) (xs : List X) → sum_by f (x ∷ xs) ≡ f x + sum_by f xs
  sum-first x xs = omega (arith, sum_by-append f (x ∷ []) xs)

  pub sum-put : (xs : List X) (x : X) (ys : List X) → sum_by f (xs ++ x ∷ ys) ≡ sum_by f (xs ++ ys) + f x
  sum-put xs x ys = omega (arith, sum_by-append f xs (x ∷ ys), sum_by-append f xs ys, sum-first x ys)

pub sum-mapped : {X Y : Type 0} (f : Y → ℕ) (h : X → Y) (xs : List X) → sum_by f (map h xs) ≡ sum_by (λ x. f (h x)) xs
sum-mapped f h [] = refl
sum-mapped f h (x ∷ xs) = omega (arith, sum-first f (h x) (map h xs), sum-first (λ e. f (h e)) x xs, sum-mapped f h xs)

-- ---- the other documents in contents that represent a state

abbrev pub uris_of : Document → List (List ℕ)
uris_of d = document_addresses d.id.auid d.now.tree

abbrev pub rest : State → DocId → List Document
rest m id = filter (λ d. not (same_id id d.id)) m.documents

rest-held : (m : State) (id : DocId) → without_document stored_id (map stored_document m.documents) id ≡ map stored_document (rest m id)
rest-held m id = sym (map-filtered stored_document (λ (d : Document). not (same_id id d.id)) (λ (h : StoredDocument). not (same_id id h.id)) (λ d. refl) m.documents)

pub rest-all_addresses : (m : State) (id : DocId) → other_addresses (content_of m) id ≡ all_addresses (rest m id)
rest-all_addresses m id =
    let of_held : StoredDocument → List (List ℕ) = λ h. document_addresses h.id.auid h.tree in
    ap (flat_map of_held) (rest-held m id) ∙ flat_map-map of_held stored_document (rest m id)

pub rest-lengths : (m : State) (id : DocId) → total_len_of_others (content_of m) id ≡ sum_by length_of (rest m id)
rest-lengths m id =
    let of_held : StoredDocument → ℕ = λ h. document_len h.tree in
    ap (sum_by of_held) (rest-held m id) ∙ sum-mapped of_held stored_document (rest m id)

rest-homes : (m : State) (id : DocId) → others_of_home (content_of m) id ≡ map stored_document (documents_of_home document_id (rest m id) id.home)
rest-homes m id =
    ap (λ (hs : List StoredDocument). documents_of_home stored_id hs id.home) (rest-held m id)
    ∙ sym (map-filtered stored_document (λ (d : Document). same_home id.home d.id.home) (λ (h : StoredDocument). same_home id.home h.id.home) (λ d. refl) (rest m id))

pub rest-home-count : (m : State) (id : DocId) → length (others_of_home (content_of m) id) ≡ home_sum one (rest m id) id.home
rest-home-count m id =
    let ds = documents_of_home document_id (rest m id) id.home in
    ap (λ (hs : List StoredDocument). length hs) (rest-homes m id) ∙ length-map ds stored_document ∙ ones ds

pub rest-home-len : (m : State) (id : DocId) → home_len_of_others (content_of m) id ≡ home_sum length_of (rest m id) id.home
rest-home-len m id =
    let of_held : StoredDocument → ℕ = λ h. document_len h.tree in
    ap (sum_by of_held) (rest-homes m id) ∙ sum-mapped of_held stored_document (documents_of_home document_id (rest m id) id.home)

-- ---- each kind of change

pub record Suited (m : State) (id : DocId) (change : Change) (act : ChangeKind) : Type 0 where
  suits : IsAcceptableByKind m id change act
  services : AreDistinct (all_addresses (state_after_by_kind m id change act).documents)
  few : length (state_after_by_kind m id change act).documents ≤ m.limits.documents
  room : sum_by (λ d. document_len d.now.tree) (state_after_by_kind m id change act).documents ≤ m.limits.bytes
  homes : AreHomesWithinLimits m.limits (state_after_by_kind m id change act).documents

few-made : (m : State) (d : Document) → length (map stored_document m.documents) + 1 ≤ m.limits.documents → length (m.documents ++ d ∷ []) ≤ m.limits.documents
few-made m d h = omega (arith, h, length-map m.documents stored_document, length-append m.documents (d ∷ []))

room-made : (most : ℕ) (ds : List Document) (d : Document) (n : ℕ) → n ≡ sum_by length_of ds → n + length_of d ≤ most → sum_by length_of (ds ++ d ∷ []) ≤ most
room-made most ds d n e h = omega (arith, e, h, sum_by-append length_of ds (d ∷ []), sum-first length_of d [])

suited-made : (m : State) (id : DocId) (change : Change) (root : Tree) → IsValidState m → MayRequestByKind (content_of m) id change (Makes root) → refusal_of_tree (content_of m) id true root ≡ None → Suited m id change (Makes root)
suited-made m id change root k a h =
    let p = passes (content_of m) id true root h in
    let new = new_document id m.next root in
    let missing : find (λ (e : Document). same_id id e.id) m.documents ≡ None =
    none-mapped stored_document (find (λ (e : Document). same_id id e.id) m.documents) (sym (find-map stored_document (λ (h : StoredDocument). same_id id h.id) m.documents) ∙ a.0) in
    let all : rest m id ≡ m.documents = none-filtered (λ (e : Document). same_id id e.id) m.documents (not_found_refusal (λ (e : Document). same_id id e.id) m.documents missing) in
    let others : other_addresses (content_of m) id ≡ all_addresses m.documents ++ [] = rest-all_addresses m id ∙ ap (λ (ds : List Document). all_addresses ds) all ∙ sym (append-nil (all_addresses m.documents)) in
    let own = document_addresses id.auid root in
    record {
      suits = (missing, a.1, a.2, sound-of (usage_of id.auid) root a.3 p.short);
      services =
          subst (λ (xs : List (List ℕ)). AreDistinct xs) (sym (flat_map-append uris_of m.documents (new ∷ [])))
          (apart-mix (all_addresses m.documents) own [] (subst (λ (xs : List (List ℕ)). AreDistinct xs) (sym (append-nil (all_addresses m.documents))) k.services) (own-apart id.auid root a.3)
          (subst (λ (xs : List (List ℕ)). AllByRecursion (λ uri. AllByRecursion (λ o. uri ≢ o) xs) own) others p.services));
      few = few-made m new (fewer m.limits.documents (length (map stored_document m.documents)) p.few);
      room = room-made m.limits.bytes m.documents new (total_len_of_others (content_of m) id) (rest-lengths m id ∙ ap (λ (ds : List Document). sum_by length_of ds) all) p.room;
      homes =
          homes-put m.limits (m.documents ++ new ∷ []) m.documents m.documents [] new refl k.homes (λ f h. less-made f m.documents h)
          (subst (λ (n : ℕ). IsWithin m.limits.home_documents (n + 1)) (rest-home-count m id ∙ ap (λ (ds : List Document). home_sum one ds id.home) (all ∙ sym (append-nil m.documents))) p.home_few)
          (subst (λ (n : ℕ). IsWithin m.limits.home_bytes (n + document_len root)) (rest-home-len m id ∙ ap (λ (ds : List Document). home_sum length_of ds id.home) (all ∙ sym (append-nil m.documents))) p.home_room);
    }

suited-edited : (m : State) (id : DocId) (change : Change) → IsValidState m → (o : Option Document) → find (λ e. same_id id e.id) m.documents ≡ o
    → IsSomeAnd (option_map stored_document o) (λ h. FitsTree h.tree change × MayBeDocumentFor (usage_of h.id.auid) (edited h.tree change)) → refusal_of (content_of m) id change (option_map stored_document o) Edits ≡ None → Suited m id change Edits
suited-edited m id change k None e a h = absurd a
suited-edited m id change k (Some d) e a h =
    let r = round m id d k e in
    let t = edited d.now.tree change in
    let p = passes (content_of m) id false t (both-none (refusal_of_tree (content_of m) id false t) (refusal_of_number (content_of m)) h).0 in
    let update_entry : Document → Document = λ e. document_after m.next e (note_of e.now.tag m.next e.now.tree change) in
    let docs : (state_after_by_kind m id change Edits).documents ≡ r.before ++ update_entry d ∷ r.behind =
    ap (λ (ds : List Document). map (λ e. cond (same_id id e.id) (update_entry e) e) ds) r.parts
    ∙ one-exchanged (λ (e : Document). same_id id e.id) update_entry r.before r.behind d r.none-before r.passes r.none-behind in
    let others : rest m id ≡ r.before ++ r.behind =
    ap (λ (ds : List Document). filter (λ e. not (same_id id e.id)) ds) r.parts
    ∙ one-filtered (λ (e : Document). same_id id e.id) r.before r.behind d r.none-before r.passes r.none-behind in
    let now : AreDistinct (flat_map uris_of r.before ++ (uris_of d ++ flat_map uris_of r.behind)) =
    subst (λ (xs : List (List ℕ)). AreDistinct xs) (ap (λ (ds : List Document). all_addresses ds) r.parts ∙ flat_map-append uris_of r.before (d ∷ r.behind)) k.services in
    let same : id ≡ d.id = id_exact id d.id r.passes in
    let own = document_addresses d.id.auid t in
    let apart : AllByRecursion (λ uri. AllByRecursion (λ o. uri ≢ o) (flat_map uris_of r.before ++ flat_map uris_of r.behind)) own =
    subst (λ (xs : List (List ℕ)). AllByRecursion (λ uri. AllByRecursion (λ o. uri ≢ o) xs) own)
    (rest-all_addresses m id ∙ ap (λ (ds : List Document). all_addresses ds) others ∙ flat_map-append uris_of r.before r.behind)
    (subst (λ (i : DocId). AllByRecursion (λ uri. AllByRecursion (λ o. uri ≢ o) (other_addresses (content_of m) id)) (document_addresses i.auid t)) same p.services) in
    record {
      suits = subst (λ (found : Option Document). IsSomeAnd found (λ d. FitsTree d.now.tree change × IsSoundDocumentFor (usage_of d.id.auid) (edited d.now.tree change))) (sym e) (a.0, sound-of (usage_of d.id.auid) t a.1 p.short);
      services =
          subst (λ (xs : List (List ℕ)). AreDistinct xs) (sym (ap (λ (ds : List Document). all_addresses ds) docs ∙ flat_map-append uris_of r.before (update_entry d ∷ r.behind)))
          (apart-mix (flat_map uris_of r.before) own (flat_map uris_of r.behind) (apart-cut (flat_map uris_of r.before) (uris_of d) (flat_map uris_of r.behind) now) (own-apart d.id.auid t a.1) apart);
      few = omega (arith, k.few, length-map m.documents (λ (e : Document). cond (same_id id e.id) (update_entry e) e));
      room =
          omega (arith, p.room, rest-lengths m id, ap (λ (ds : List Document). sum_by length_of ds) others, ap (λ (ds : List Document). sum_by length_of ds) docs, sum-put length_of r.before (update_entry d) r.behind);
      homes =
          homes-put m.limits (state_after_by_kind m id change Edits).documents m.documents r.before r.behind (update_entry d) docs k.homes (λ f h. less-edited f m.documents r.before r.behind d r.parts h)
          (subst (λ (i : DocId). IsWithin m.limits.home_documents (home_sum one (r.before ++ r.behind) i.home + 1)) same
          (subst (λ (n : ℕ). IsWithin m.limits.home_documents (n + 1)) (rest-home-count m id ∙ ap (λ (ds : List Document). home_sum one ds id.home) others) p.home_few))
          (subst (λ (i : DocId). IsWithin m.limits.home_bytes (home_sum length_of (r.before ++ r.behind) i.home + document_len t)) same
          (subst (λ (n : ℕ). IsWithin m.limits.home_bytes (n + document_len t)) (rest-home-len m id ∙ ap (λ (ds : List Document). home_sum length_of ds id.home) others) p.home_room));
    }

suited-removed : (m : State) (id : DocId) (change : Change) → IsValidState m → (o : Option Document) → find (λ e. same_id id e.id) m.documents ≡ o → IsSome (option_map stored_document o) → Suited m id change Removes
suited-removed m id change k None e a = cc
suited-removed m id change k (Some d) e a =
    let r = round m id d k e in
    let others : rest m id ≡ r.before ++ r.behind =
    ap (λ (ds : List Document). filter (λ e. not (same_id id e.id)) ds) r.parts
    ∙ one-filtered (λ (e : Document). same_id id e.id) r.before r.behind d r.none-before r.passes r.none-behind in
    let now : AreDistinct (flat_map uris_of r.before ++ (uris_of d ++ flat_map uris_of r.behind)) =
    subst (λ (xs : List (List ℕ)). AreDistinct xs) (ap (λ (ds : List Document). all_addresses ds) r.parts ∙ flat_map-append uris_of r.before (d ∷ r.behind)) k.services in
    record {
      suits = subst (λ (found : Option Document). IsSome found) (sym e) refl;
      services =
          subst (λ (xs : List (List ℕ)). AreDistinct xs) (sym (ap (λ (ds : List Document). all_addresses ds) others ∙ flat_map-append uris_of r.before r.behind))
          (apart-cut (flat_map uris_of r.before) (uris_of d) (flat_map uris_of r.behind) now);
      few =
          omega (arith, k.few, ap (λ (ds : List Document). length ds) r.parts, ap (λ (ds : List Document). length ds) others, length-append r.before (d ∷ r.behind), length-append r.before r.behind);
      room =
          omega (arith, k.room, ap (λ (ds : List Document). sum_by length_of ds) r.parts, ap (λ (ds : List Document). sum_by length_of ds) others, sum-put length_of r.before d r.behind);
      homes = homes-removed m.limits (state_after_by_kind m id change Removes).documents m.documents r.before r.behind d r.parts others k.homes;
    }

suited : (m : State) (id : DocId) (change : Change) (act : ChangeKind) → IsValidState m → MayRequestByKind (content_of m) id change act → refusal_of (content_of m) id change (find_document stored_id (map stored_document m.documents) id) act ≡ None → Suited m id change act
suited m id change (Makes root) k a h = suited-made m id change root k a (both-none (refusal_of_tree (content_of m) id true root) (refusal_of_number (content_of m)) h).0
suited m id change Edits k a h =
    let o = find (λ (e : Document). same_id id e.id) m.documents in
    let found = find-map stored_document (λ (h : StoredDocument). same_id id h.id) m.documents in
    suited-edited m id change k o refl
    (subst (λ (x : Option StoredDocument). IsSomeAnd x (λ h. FitsTree h.tree change × MayBeDocumentFor (usage_of h.id.auid) (edited h.tree change))) found a)
    (subst (λ (x : Option StoredDocument). refusal_of (content_of m) id change x Edits ≡ None) found h)
suited m id change Removes k a h =
    let o = find (λ (e : Document). same_id id e.id) m.documents in
    suited-removed m id change k o refl (subst (λ (x : Option StoredDocument). IsSome x) (find-map stored_document (λ (h : StoredDocument). same_id id h.id) m.documents) a)

-- ---- what the store returns

pub not-refused : (o : Option StoreRefusal) (note : Note) (next : Content) (x : Note × Content) → refusal_or o note next ≡ Ok x → o ≡ None
not-refused None note next x h = refl
not-refused (Some refusal) note next x h = cc

suits-of : (m : State) (id : DocId) (change : Change) → IsValidState m → MayRequest (content_of m) id change → (x : Note × Content) → change_result (content_of m) id change ≡ Ok x → IsAcceptable m id change
suits-of m id change k a x h =
    let found = find_document stored_id (map stored_document m.documents) id in
    let s = suited m id change (change_kind change) k a (not-refused (refusal_of (content_of m) id change found (change_kind change)) (note_for (content_of m) id change found) (contents_after (content_of m) id change) x h) in
    record { act = s.suits; services = s.services; few = s.few; room = s.room; homes = s.homes }

pub accepted-suits : (c : Content) (m : State) (id : DocId) (change : Change) (x : Note × Content) → Represents c m → IsValidState m → MayRequest c id change → change_result c id change ≡ Ok x → IsAcceptable m id change
accepted-suits c m id change x s k a h =
    let e : c ≡ content_of m = s in
    suits-of m id change k (subst (λ (d : Content). MayRequest d id change) e a) x (subst (λ (d : Content). change_result d id change ≡ Ok x) e h)
