-- The store makes each change that suits the state that its contents represent, while there is a
-- number for it.
use Rattle.std.proofs.Common.{◌≡◌, ◌≢◌, ℕ, ◌+◌, ◌<◌, ◌≤◌, nat_lt, nat_le, min, Bool, true, false, not, ◌&&◌, cond, List, [], ◌∷◌, ◌++◌, length, map, filter, find, sum_by, Option, None, Some, IsSomeAnd, option_map, Ok, refl, sym, ap, subst, ◌∙◌, arith, length-append}
use Rattle.std.specs.List.{AllByRecursion, flat_map}
use Rattle.std.proofs.lemmas.Bool.Decides.{nat_tests}
use Rattle.std.proofs.lemmas.List.{append-nil, length-map}
use Rattle.std.proofs.lemmas.List.Concat.{flat_map-append}
use Rattle.std.proofs.lemmas.List.Sums.{sum_by-append}
use Rattle.std.specs.Option.{option_or as or_else}
use Rattle.xml_tree.specs.Tree.{Tree}
use Rattle.usage_docs.specs.Services.{document_len}
use Rattle.usage_docs.specs.declared.key_repeats.Clash.{Clash}
use Rattle.doc_names.specs.declared.usages.Usage.{Usage}
use Rattle.doc_names.specs.NameEquality.{same_id}
use Rattle.doc_names.specs.declared.doc_id.DocId.{DocId}
use Rattle.edit_ops.specs.Changes.{FitsTree, edited}
use Rattle.edit_ops.specs.declared.change.Change.{Change}
use Rattle.edit_ops.specs.Notes.{note_of}
use Rattle.store_core.specs.declared.refusal.StoreRefusal.{StoreRefusal}
use Rattle.store_core.specs.declared.refusal.StoreRefusal.TheVariants.{ServiceTaken, TooLarge, TooMany, StoreFull, HomeTooMany, HomeFull, NoNumber}
use Rattle.store_core.specs.HomeLimits.{IsWithin, is_above}
use Rattle.store_core.specs.State.{Document, State, new_document, document_after}
use Rattle.store_core.specs.Contents.{StoredDocument, Represents, stored_document, StoreContents as Content, contents_of as content_of}
use Rattle.store_core.specs.ValidStates.{AreDistinct, AreHomesWithinLimits, IsSoundDocumentFor, IsValidState, all_addresses, document_addresses}
use Rattle.doc_names.specs.Usages.{usage_of}
use Rattle.store_core.specs.DocumentChanges.{ChangeKind, Makes, Edits, Removes, change_kind, state_after_by_kind, refusal_of, refusal_of_home, refusal_of_number, refusal_of_tree, refusal_in_store, others_of_home, home_len_of_others, refusal_or, change_result, contents_after, find_document, stored_id, note_for, refusal_if, other_addresses, total_len_of_others, first_taken_address}
use Rattle.store_core.specs.AcceptableChanges.{IsAcceptable, IsAcceptableByKind}
use Rattle.store_core.proofs.DistinctItems.{none-filtered, one-exchanged, one-filtered}
use Rattle.store_core.proofs.KeptAfter.{round}
use Rattle.store_core.proofs.HomeLemmas.{home_sum, length_of, not-above, one, own-few, own-room}
use Rattle.doc_names.proofs.SameIds.{id_exact}
use Rattle.store_core.proofs.AcceptedChanges.{uris_of, rest, rest-all_addresses, rest-home-count, rest-home-len, rest-lengths, sum-put, sum-first, find-map, not_found_refusal}
use Rattle.store_core.proofs.AdmissionLemmas.{apart-unmix, neither, no-more, not-told, not-yet, nothing-first_taken_address}

admits-home : (c : Content) (id : DocId) (t : Tree) → IsWithin c.limits.home_documents (length (others_of_home c id) + 1) → IsWithin c.limits.home_bytes (home_len_of_others c id + document_len t) → refusal_of_home c id t ≡ None
admits-home c id t few room =
    let count = length (others_of_home c id) + 1 in
    let bytes = home_len_of_others c id + document_len t in
    neither (refusal_if (is_above c.limits.home_documents count) HomeTooMany) (refusal_if (is_above c.limits.home_bytes bytes) (HomeFull bytes))
    (not-told (is_above c.limits.home_documents count) HomeTooMany (not-above c.limits.home_documents count few))
    (not-told (is_above c.limits.home_bytes bytes) (HomeFull bytes) (not-above c.limits.home_bytes bytes room))

admits-tree : (c : Content) (id : DocId) (is_new : Bool) (t : Tree) → AllByRecursion (λ uri. AllByRecursion (λ o. uri ≢ o) (other_addresses c id)) (document_addresses id.auid t) → document_len t ≤ 262144 → (is_new && nat_le c.limits.documents (length c.documents)) ≡ false → total_len_of_others c id + document_len t ≤ c.limits.bytes
    → IsWithin c.limits.home_documents (length (others_of_home c id) + 1) → IsWithin c.limits.home_bytes (home_len_of_others c id + document_len t) → refusal_of_tree c id is_new t ≡ None
admits-tree c id is_new t services short few room home_few home_room =
    let told : Clash → StoreRefusal = λ clash. ServiceTaken clash in
    let first : Option StoreRefusal = option_map told (first_taken_address (other_addresses c id) (document_addresses id.auid t)) in
    let second : Option StoreRefusal = refusal_if (nat_lt 262144 (document_len t)) (TooLarge (min (document_len t) 18446744073709551615)) in
    let third : Option StoreRefusal = refusal_if (is_new && nat_le c.limits.documents (length c.documents)) TooMany in
    let fourth : Option StoreRefusal = refusal_if (nat_lt c.limits.bytes (total_len_of_others c id + document_len t)) (StoreFull (total_len_of_others c id + document_len t)) in
    neither (refusal_in_store c id is_new t) (refusal_of_home c id t)
    (neither first (or_else second (or_else third fourth)) (ap (λ (o : Option Clash). option_map told o) (nothing-first_taken_address (other_addresses c id) (document_addresses id.auid t) services))
    (neither second (or_else third fourth) (not-told (nat_lt 262144 (document_len t)) (TooLarge (min (document_len t) 18446744073709551615)) (no-more 262144 (document_len t) short))
    (neither third fourth (not-told (is_new && nat_le c.limits.documents (length c.documents)) TooMany few)
    (not-told (nat_lt c.limits.bytes (total_len_of_others c id + document_len t)) (StoreFull (total_len_of_others c id + document_len t)) (no-more c.limits.bytes (total_len_of_others c id + document_len t) room)))))
    (admits-home c id t home_few home_room)

under : (n : ℕ) → n < 18446744073709551616 → nat_le 18446744073709551616 n ≡ false
under n h = grind (arith, nat_tests)

has-number : (c : Content) → c.next < 18446744073709551616 → refusal_of_number c ≡ None
has-number c h = not-told (nat_le 18446744073709551616 c.next) NoNumber (under c.next h)

short-of : (usage : Option Usage) (t : Tree) → IsSoundDocumentFor usage t → document_len t ≤ 262144
short-of None t h = absurd h
short-of (Some usage) t h = h.short

few-before : (m : State) (d : Document) → length (m.documents ++ d ∷ []) ≤ m.limits.documents → length (map stored_document m.documents) + 1 ≤ m.limits.documents
few-before m d h = omega (arith, h, length-map m.documents stored_document, length-append m.documents (d ∷ []))

room-before : (most : ℕ) (ds : List Document) (d : Document) (n : ℕ) → n ≡ sum_by length_of ds → sum_by length_of (ds ++ d ∷ []) ≤ most → n + length_of d ≤ most
room-before most ds d n e h = omega (arith, e, h, sum_by-append length_of ds (d ∷ []), sum-first length_of d [])

admits-made : (m : State) (id : DocId) (change : Change) (root : Tree) → IsAcceptableByKind m id change (Makes root) → AreDistinct (all_addresses (state_after_by_kind m id change (Makes root)).documents) → length (state_after_by_kind m id change (Makes root)).documents ≤ m.limits.documents
    → sum_by (λ d. document_len d.now.tree) (state_after_by_kind m id change (Makes root)).documents ≤ m.limits.bytes → AreHomesWithinLimits m.limits (state_after_by_kind m id change (Makes root)).documents → refusal_of_tree (content_of m) id true root ≡ None
admits-made m id change root s services few room homes =
    let new = new_document id m.next root in
    let all : rest m id ≡ m.documents = none-filtered (λ (e : Document). same_id id e.id) m.documents (not_found_refusal (λ (e : Document). same_id id e.id) m.documents s.0) in
    let others : other_addresses (content_of m) id ≡ all_addresses m.documents ++ [] = rest-all_addresses m id ∙ ap (λ (ds : List Document). all_addresses ds) all ∙ sym (append-nil (all_addresses m.documents)) in
    let own = document_addresses id.auid root in
    admits-tree (content_of m) id true root
    (subst (λ (xs : List (List ℕ)). AllByRecursion (λ uri. AllByRecursion (λ o. uri ≢ o) xs) own) (sym others)
    (apart-unmix (all_addresses m.documents) own [] (subst (λ (xs : List (List ℕ)). AreDistinct xs) (flat_map-append uris_of m.documents (new ∷ [])) services)))
    (short-of (usage_of id.auid) root s.3) (not-yet m.limits.documents (length (map stored_document m.documents)) (few-before m new few))
    (room-before m.limits.bytes m.documents new (total_len_of_others (content_of m) id) (rest-lengths m id ∙ ap (λ (ds : List Document). sum_by length_of ds) all) room)
    (subst (λ (n : ℕ). IsWithin m.limits.home_documents (n + 1)) (sym (rest-home-count m id ∙ ap (λ (ds : List Document). home_sum one ds id.home) (all ∙ sym (append-nil m.documents)))) (own-few m.limits (m.documents ++ new ∷ []) m.documents [] new refl homes))
    (subst (λ (n : ℕ). IsWithin m.limits.home_bytes (n + document_len root)) (sym (rest-home-len m id ∙ ap (λ (ds : List Document). home_sum length_of ds id.home) (all ∙ sym (append-nil m.documents))))
    (own-room m.limits (m.documents ++ new ∷ []) m.documents [] new refl homes))

admits-edited : (m : State) (id : DocId) (change : Change) → IsValidState m → (o : Option Document) → find (λ e. same_id id e.id) m.documents ≡ o
    → IsSomeAnd o (λ d. FitsTree d.now.tree change × IsSoundDocumentFor (usage_of d.id.auid) (edited d.now.tree change)) → AreDistinct (all_addresses (state_after_by_kind m id change Edits).documents)
    → sum_by (λ d. document_len d.now.tree) (state_after_by_kind m id change Edits).documents ≤ m.limits.bytes → AreHomesWithinLimits m.limits (state_after_by_kind m id change Edits).documents → m.next < 18446744073709551616 → refusal_of (content_of m) id change (option_map stored_document o) Edits ≡ None
admits-edited m id change k None e s services room homes number = absurd s
admits-edited m id change k (Some d) e s services room homes number =
    let r = round m id d k e in
    let t = edited d.now.tree change in
    let update_entry : Document → Document = λ e. document_after m.next e (note_of e.now.tag m.next e.now.tree change) in
    let docs : (state_after_by_kind m id change Edits).documents ≡ r.before ++ update_entry d ∷ r.behind =
    ap (λ (ds : List Document). map (λ e. cond (same_id id e.id) (update_entry e) e) ds) r.parts
    ∙ one-exchanged (λ (e : Document). same_id id e.id) update_entry r.before r.behind d r.none-before r.passes r.none-behind in
    let others : rest m id ≡ r.before ++ r.behind =
    ap (λ (ds : List Document). filter (λ e. not (same_id id e.id)) ds) r.parts
    ∙ one-filtered (λ (e : Document). same_id id e.id) r.before r.behind d r.none-before r.passes r.none-behind in
    let same : d.id ≡ id = sym (id_exact id d.id r.passes) in
    let own = document_addresses d.id.auid t in
    let apart : AllByRecursion (λ uri. AllByRecursion (λ o. uri ≢ o) (other_addresses (content_of m) id)) own =
    subst (λ (xs : List (List ℕ)). AllByRecursion (λ uri. AllByRecursion (λ o. uri ≢ o) xs) own)
    (sym (rest-all_addresses m id ∙ ap (λ (ds : List Document). all_addresses ds) others ∙ flat_map-append uris_of r.before r.behind))
    (apart-unmix (flat_map uris_of r.before) own (flat_map uris_of r.behind) (subst (λ (xs : List (List ℕ)). AreDistinct xs) (ap (λ (ds : List Document). all_addresses ds) docs ∙ flat_map-append uris_of r.before (update_entry d ∷ r.behind)) services)) in
    neither (refusal_of_tree (content_of m) id false t) (refusal_of_number (content_of m))
    (admits-tree (content_of m) id false t (subst (λ (i : DocId). AllByRecursion (λ uri. AllByRecursion (λ o. uri ≢ o) (other_addresses (content_of m) id)) (document_addresses i.auid t)) same apart)
    (short-of (usage_of d.id.auid) t s.1) refl
    (omega (arith, room, rest-lengths m id, ap (λ (ds : List Document). sum_by length_of ds) others, ap (λ (ds : List Document). sum_by length_of ds) docs, sum-put length_of r.before (update_entry d) r.behind))
    (subst (λ (n : ℕ). IsWithin m.limits.home_documents (n + 1)) (sym (rest-home-count m id ∙ ap (λ (ds : List Document). home_sum one ds id.home) others))
    (subst (λ (i : DocId). IsWithin m.limits.home_documents (home_sum one (r.before ++ r.behind) i.home + 1)) same (own-few m.limits (state_after_by_kind m id change Edits).documents r.before r.behind (update_entry d) docs homes)))
    (subst (λ (n : ℕ). IsWithin m.limits.home_bytes (n + document_len t)) (sym (rest-home-len m id ∙ ap (λ (ds : List Document). home_sum length_of ds id.home) others))
    (subst (λ (i : DocId). IsWithin m.limits.home_bytes (home_sum length_of (r.before ++ r.behind) i.home + document_len t)) same (own-room m.limits (state_after_by_kind m id change Edits).documents r.before r.behind (update_entry d) docs homes))))
    (has-number (content_of m) number)

admits : (m : State) (id : DocId) (change : Change) (act : ChangeKind) → IsValidState m → IsAcceptableByKind m id change act → AreDistinct (all_addresses (state_after_by_kind m id change act).documents) → length (state_after_by_kind m id change act).documents ≤ m.limits.documents
    → sum_by (λ d. document_len d.now.tree) (state_after_by_kind m id change act).documents ≤ m.limits.bytes → AreHomesWithinLimits m.limits (state_after_by_kind m id change act).documents → m.next < 18446744073709551616 → refusal_of (content_of m) id change (find_document stored_id (map stored_document m.documents) id) act ≡ None
admits m id change (Makes root) k s services few room homes number =
    neither (refusal_of_tree (content_of m) id true root) (refusal_of_number (content_of m)) (admits-made m id change root s services few room homes) (has-number (content_of m) number)
admits m id change Edits k s services few room homes number =
    let o = find (λ (e : Document). same_id id e.id) m.documents in
    subst (λ (x : Option StoredDocument). refusal_of (content_of m) id change x Edits ≡ None) (sym (find-map stored_document (λ (h : StoredDocument). same_id id h.id) m.documents)) (admits-edited m id change k o refl s services room homes number)
admits m id change Removes k s services few room homes number = has-number (content_of m) number

pub suiting-made : (c : Content) (m : State) (id : DocId) (change : Change) → Represents c m → IsValidState m → IsAcceptable m id change → m.next < 18446744073709551616
    → change_result c id change ≡ Ok (note_for c id change (find_document stored_id c.documents id), contents_after c id change)
suiting-made c m id change s k t number =
    let found = find_document stored_id c.documents id in
    let h : refusal_of c id change found (change_kind change) ≡ None =
    subst (λ (d : Content). refusal_of d id change (find_document stored_id d.documents id) (change_kind change) ≡ None) (sym s) (admits m id change (change_kind change) k t.act t.services t.few t.room t.homes number) in
    ap (λ (o : Option StoreRefusal). refusal_or o (note_for c id change found) (contents_after c id change)) h
