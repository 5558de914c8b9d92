-- The stored version of one document, and of all others, after a change.
use Rattle.std.specs.List.{AllByRecursion}
use Rattle.std.specs.Prelude.{◌≢◌, ◌&&◌, nat_le, nat_lt, min, sum_by, flat_map}
use Rattle.std.proofs.Common.{◌≡◌, ℕ, ◌+◌, Bool, true, false, List, [], ◌∷◌, length, find, map, Option, None, Some, option_map, refl, sym, ap, subst, ◌∙◌}
use Rattle.std.proofs.lemmas.Option.{same_Some}
use Rattle.std.specs.Option.{option_or as or_else}
use Rattle.xml_tree.specs.Tree.{Tree}
use Rattle.usage_docs.specs.Services.{document_len}
use Rattle.doc_names.specs.NameEquality.{same_id}
use Rattle.doc_names.specs.declared.doc_id.DocId.{DocId}
use Rattle.doc_names.proofs.SameIds.{id_exact, ids_apart}
use Rattle.edit_ops.specs.Changes.{edited}
use Rattle.edit_ops.specs.declared.change.Change.{Change}
use Rattle.edit_ops.specs.declared.change.Change.TheVariants.{CreateDocument}
use Rattle.store_core.specs.DocumentChanges.{ChangeKind, Makes, Edits, Removes, change_kind, refusal_of, refusal_of_home, refusal_of_number, refusal_of_tree, refusal_in_store, contents_after, contents_after_by_kind, find_document, stored_document_after, stored_id, refusal_if, other_addresses, total_len_of_others, first_taken_address, without_document}
use Rattle.store_core.specs.Contents.{StoredDocument, Represents, stored_document, StoreContents as Content}
use Rattle.store_core.specs.ValidStates.{AreDistinct, IsValidState, document_addresses}
use Rattle.store_core.specs.State.{Document, State}
use Rattle.store_core.specs.declared.refusal.StoreRefusal.{StoreRefusal}
use Rattle.store_core.specs.declared.refusal.StoreRefusal.TheVariants.{ServiceTaken, TooLarge, TooMany, StoreFull, HomeTooMany, HomeFull}
use Rattle.store_core.specs.declared.limits.Limits.{Limits}
use Rattle.store_core.specs.HomeLimits.{documents_of_home, is_above}
use Rattle.store_core.proofs.HeldAfter.{by_act, with}
use Rattle.xcap_machine.specs.WriteEffects.{name_and_tree, named_trees}
use Rattle.xcap_machine.specs.Resources.{version_of}

-- ---- the version of a document

pub seen_at : (c : Content) (id : DocId) (h : StoredDocument) → find_document stored_id c.documents id ≡ Some h → ◌≡◌ {A = Option (Tree × ℕ)} (version_of c id) (Some (h.tree, h.tag))
seen_at c id h there = ap (λ (o : Option StoredDocument). option_map {U = Tree × ℕ} (λ (x : StoredDocument). (x.tree, x.tag)) o) there

pub unseen_at : (c : Content) (id : DocId) → find_document stored_id c.documents id ≡ None → ◌≡◌ {A = Option (Tree × ℕ)} (version_of c id) None
unseen_at c id none = ap (λ (o : Option StoredDocument). option_map {U = Tree × ℕ} (λ (x : StoredDocument). (x.tree, x.tag)) o) none

-- ---- a tree that was accepted once is accepted again

none_both : {A : Type 0} (a b : Option A) → or_else a b ≡ None → (a ≡ None) × (b ≡ None)
none_both None b h = (refl, h)
none_both (Some x) b h = cc

both_none : {A : Type 0} (a b : Option A) → a ≡ None → b ≡ None → or_else a b ≡ None
both_none None b p q = q
both_none (Some x) b p q = let z : Some x ≡ None = p in cc

pub let_in_again : (c d : Content) (id : DocId) (is_new : Bool) (t : Tree) → d.limits ≡ c.limits → without_document stored_id d.documents id ≡ without_document stored_id c.documents id → refusal_of_tree c id is_new t ≡ None → refusal_of_tree d id false t ≡ None
let_in_again c d id is_new t limits others h =
    let addresses : other_addresses d id ≡ other_addresses c id = ap (λ (l : List StoredDocument). flat_map (λ h. document_addresses h.id.auid h.tree) l) others in
    let lengths : total_len_of_others d id ≡ total_len_of_others c id = ap (λ (l : List StoredDocument). sum_by (λ h. document_len h.tree) l) others in
    let first : List (List ℕ) → Option StoreRefusal = λ us. option_map (λ clash. ServiceTaken clash) (first_taken_address us (document_addresses id.auid t)) in
    let second : Option StoreRefusal = refusal_if (nat_lt 262144 (document_len t)) (TooLarge (min (document_len t) 18446744073709551615)) in
    let third : Option StoreRefusal = refusal_if (is_new && nat_le c.limits.documents (length c.documents)) TooMany in
    let fourth : ℕ → ℕ → Option StoreRefusal = λ most n. refusal_if (nat_lt most (n + document_len t)) (StoreFull (n + document_len t)) in
    let own : Limits → List StoredDocument → Option StoreRefusal = λ l hs.
    or_else (refusal_if (is_above l.home_documents (length (documents_of_home stored_id hs id.home) + 1)) HomeTooMany)
    (refusal_if (is_above l.home_bytes (sum_by (λ h. document_len h.tree) (documents_of_home stored_id hs id.home) + document_len t)) (HomeFull (sum_by (λ h. document_len h.tree) (documents_of_home stored_id hs id.home) + document_len t))) in
    let home : refusal_of_home d id t ≡ refusal_of_home c id t =
    ap (λ (l : Limits). own l (without_document stored_id d.documents id)) limits ∙ ap (λ (hs : List StoredDocument). own c.limits hs) others in
    let room : fourth d.limits.bytes (total_len_of_others d id) ≡ fourth c.limits.bytes (total_len_of_others c id) =
    ap (λ (l : Limits). fourth l.bytes (total_len_of_others d id)) limits ∙ ap (fourth c.limits.bytes) lengths in
    let all = none_both (refusal_in_store c id is_new t) (refusal_of_home c id t) h in
    let a = none_both (first (other_addresses c id)) (or_else second (or_else third (fourth c.limits.bytes (total_len_of_others c id)))) all.0 in
    let b = none_both second (or_else third (fourth c.limits.bytes (total_len_of_others c id))) a.1 in
    let e = none_both third (fourth c.limits.bytes (total_len_of_others c id)) b.1 in
    let none : Option StoreRefusal = refusal_if (false && nat_le d.limits.documents (length d.documents)) TooMany in
    both_none (refusal_in_store d id false t) (refusal_of_home d id t)
    (both_none (first (other_addresses d id)) (or_else second (or_else none (fourth d.limits.bytes (total_len_of_others d id)))) (ap first addresses ∙ a.0)
    (both_none second (or_else none (fourth d.limits.bytes (total_len_of_others d id))) b.0 (room ∙ e.1)))
    (home ∙ all.1)

-- no change changes the limits
pub same_limits : (c : Content) (id : DocId) (change : Change) (act : ChangeKind) → change_kind change ≡ act → (contents_after c id change).limits ≡ c.limits
same_limits c id change act is = ap (λ (x : Content). x.limits) (sym (by_act c id change act is)) ∙ by act
  where
    by : (act : ChangeKind) → (contents_after_by_kind c id change act).limits ≡ c.limits
    by (Makes root) = refl
    by Edits = refl
    by Removes = refl

-- the tree that a change leaves was accepted
pub edit_let_in : (c : Content) (id : DocId) (change : Change) (h : StoredDocument) → change_kind change ≡ Edits → find_document stored_id c.documents id ≡ Some h → refusal_of c id change (find_document stored_id c.documents id) (change_kind change) ≡ None
    → refusal_of_tree c id false (edited h.tree change) ≡ None
edit_let_in c id change h acts there none =
    let here : refusal_of c id change (Some h) Edits ≡ None = ap (λ (o : Option StoredDocument). refusal_of c id change o Edits) (sym there) ∙ ap (λ (a : ChangeKind). refusal_of c id change (find_document stored_id c.documents id) a) (sym acts) ∙ none in
    (none_both (refusal_of_tree c id false (edited h.tree change)) (refusal_of_number c) here).0

pub make_let_in : (c : Content) (id : DocId) (t : Tree) → refusal_of c id (CreateDocument t) (find_document stored_id c.documents id) (Makes t) ≡ None → refusal_of_tree c id true t ≡ None
make_let_in c id t none = (none_both (refusal_of_tree c id true t) (refusal_of_number c) none).0

-- ---- the trees of all documents, where one is replaced by itself

none_other : (f : StoredDocument → StoredDocument) (id : DocId) (d : StoredDocument) (ds : List StoredDocument) → same_id id d.id ≡ true → AllByRecursion (λ y. d.id ≢ y) (map stored_id ds) → map name_and_tree (with f id ds) ≡ map name_and_tree ds
none_other f id d [] own apart = refl
none_other f id d (e ∷ ds) own apart =
    let other : same_id id e.id ≡ false = subst (λ (x : DocId). same_id x e.id ≡ false) (sym (id_exact id d.id own)) (ids_apart d.id e.id (λ same. apart.0 (sym same))) in
    rw other (ap (λ (l : List (DocId × Tree)). name_and_tree e ∷ l) (none_other f id d ds own apart.1))

trees_kept : (f : StoredDocument → StoredDocument) (id : DocId) (ds : List StoredDocument) (h : StoredDocument) → AreDistinct (map stored_id ds) → find (λ d. same_id id d.id) ds ≡ Some h → name_and_tree (f h) ≡ name_and_tree h → map name_and_tree (with f id ds) ≡ map name_and_tree ds
trees_kept f id [] h apart there same = refl
trees_kept f id (d ∷ ds) h apart there same = by (same_id id d.id) refl (trees_kept f id ds h apart.1)
  where
    by : (b : Bool) → same_id id d.id ≡ b → (find (λ e. same_id id e.id) ds ≡ Some h → name_and_tree (f h) ≡ name_and_tree h → map name_and_tree (with f id ds) ≡ map name_and_tree ds) → map name_and_tree (with f id (d ∷ ds)) ≡ map name_and_tree (d ∷ ds)
    by true e rest =
        let is : d ≡ h = same_Some d h (rw e at there) in
        let here : name_and_tree (f d) ≡ name_and_tree d = subst (λ (x : StoredDocument). name_and_tree (f x) ≡ name_and_tree x) (sym is) same in
        rw e (ap (λ (x : DocId × Tree). x ∷ map name_and_tree (with f id ds)) here ∙ ap (λ (l : List (DocId × Tree)). name_and_tree d ∷ l) (none_other f id d ds e apart.0))
    by false e rest = rw e (ap (λ (l : List (DocId × Tree)). name_and_tree d ∷ l) (rest (rw e at there) same))

names_held : (ds : List Document) → map stored_id (map stored_document ds) ≡ map (λ d. d.id) ds
names_held [] = refl
names_held (d ∷ ds) = ap (λ (l : List DocId). d.id ∷ l) (names_held ds)

-- no two stored documents have one name, where the contents represent a valid state
pub names_apart : (c : Content) (m : State) → Represents c m → IsValidState m → AreDistinct (map stored_id c.documents)
names_apart c m stands kept = subst (λ (x : Content). AreDistinct (map stored_id x.documents)) (sym stands) (subst (λ (l : List DocId). AreDistinct l) (sym (names_held m.documents)) kept.names)

pub same_trees : (c : Content) (id : DocId) (change : Change) (h : StoredDocument) → AreDistinct (map stored_id c.documents) → change_kind change ≡ Edits → find_document stored_id c.documents id ≡ Some h → edited h.tree change ≡ h.tree
    → ◌≡◌ {A = List (DocId × Tree)} (named_trees (contents_after c id change)) (named_trees c)
same_trees c id change h apart acts there same =
    ap (λ (x : Content). named_trees x) (sym (by_act c id change Edits acts))
    ∙ trees_kept (stored_document_after c.next change) id c.documents h apart there (ap (λ (t : Tree). let x : DocId × Tree = (h.id, t) in x) same)
