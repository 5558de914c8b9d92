-- What the code finds about an element, by the results of its parts.
use Rattle.std.proofs.Common.{◌≡◌, ◌↔◌, ℕ, Bool, true, false, List, is_some, IsTrue, Option, None, Some, option_map, Result, Ok, Err, IfOk, encode_utf8_all, refl, sym, ap, ◌∙◌}
use Rattle.std.specs.Prelude.{◌&&◌}
use Rattle.std.proofs.lemmas.Option.{same_Some}
use Rattle.xml_tree.specs.Tree.{Tree}
use Rattle.xml_tree.specs.Print.{document_print}
use Rattle.doc_names.specs.DocIds.{id_text}
use Rattle.doc_names.specs.Usages.{usage_of}
use Rattle.doc_names.specs.declared.doc_id.DocId.{DocId}
use Rattle.doc_names.specs.declared.usages.Usage.{Usage}
use Rattle.node_select.specs.Selection.{SelectsPath}
use Rattle.node_select.specs.declared.selector.Selector.{Selector}
use Rattle.edit_ops.specs.Notes.{Note}
use Rattle.edit_rules.specs.KeyAddresses.{IsKeyAddressOf}
use Rattle.element_watch.specs.ElementNotices.{element_notice}
use Rattle.element_watch.specs.declared.element_states.ElementState.{ElementState}
use Rattle.store_core.specs.DocumentChanges.{find_document, stored_id}
use Rattle.store_core.specs.Contents.{StoredDocument, StoreContents}
use Rattle.element_watch.specs.TouchedElements.{MovesUntouchedThrough}
use Rattle.element_watch.specs.WatchedElements.{IsNoticeText}
use Rattle.element_watch.specs.inner.PathHistory.{path_before_notes}
use Rattle.element_watch.specs.inner.KeyAddresses.{is_key_address}
use Rattle.element_watch.specs.inner.ElementStates.{is_untouched_at, state_of_selected}
use Rattle.element_watch.proofs.Addresses.{address_is}
use Rattle.element_watch.proofs.EarlierPlaces.{leads_is}
use Rattle.element_watch.proofs.States.{state_is}

-- ---- an element that no change touched

same_test : (a b : Bool) → (a ≡ true → b ≡ true) → (b ≡ true → a ≡ true) → a ≡ b
same_test true b f g = sym (f refl)
same_test false true f g = g refl
same_test false false f g = refl

keyed_is : (u : Usage) (t : Tree) (selector : Selector) (p : List ℕ) (keyed : Bool) → SelectsPath selector.steps t p → IsTrue keyed ↔ IsKeyAddressOf u t selector p → keyed ≡ is_key_address u t selector p
keyed_is u t selector p keyed selects tells =
    let is = address_is u t selector p selects in
    same_test keyed (is_key_address u t selector p) (λ h. is.1 (tells.0 h)) (λ h. tells.1 (is.0 h))

traced_is : (ns : List Note) (q : List ℕ) (o : Option (List ℕ)) → ((p : List ℕ) → (o ≡ Some p) ↔ MovesUntouchedThrough p ns q) → o ≡ path_before_notes q ns
traced_is ns q o tells = by (path_before_notes q ns) refl o refl
  where
    by : (found : Option (List ℕ)) → path_before_notes q ns ≡ found → (x : Option (List ℕ)) → o ≡ x → o ≡ found
    by None none None is = is
    by None none (Some p) is = let z : None ≡ Some p = sym none ∙ (leads_is ns p q).1 ((tells p).0 is) in cc
    by (Some p) some x is = (tells p).1 ((leads_is ns p q).0 some)

module _ (u : Usage) (t : Tree) (selector : Selector) (ns : List Note) (p : List ℕ) (keyed : Bool) (selects : SelectsPath selector.steps t p) (tells : IsTrue keyed ↔ IsKeyAddressOf u t selector p) where
  pub not_keyed : keyed ≡ false → keyed ≡ is_untouched_at u t selector ns p
  not_keyed no_key = no_key ∙ ap (λ (b : Bool). b && is_some (path_before_notes p ns)) (sym no_key ∙ keyed_is u t selector p keyed selects tells)

  pub when_keyed : (o : Option (List ℕ)) (there : Bool) → keyed ≡ true → there ≡ is_some o → ((q : List ℕ) → (o ≡ Some q) ↔ MovesUntouchedThrough q ns p) → there ≡ is_untouched_at u t selector ns p
  when_keyed o there by_key is traced =
      is ∙ ap is_some (traced_is ns p o traced) ∙ ap (λ (b : Bool). b && is_some (path_before_notes p ns)) (sym by_key ∙ keyed_is u t selector p keyed selects tells)

-- ---- the diff document

abbrev PairOf : Option StoredDocument → Option (Tree × ℕ)
PairOf o = option_map (λ h. (h.tree, h.tag)) o

got_is : (o : Option StoredDocument) (t : Tree) (tag : ℕ) → Some (t, tag) ≡ PairOf o → (h : StoredDocument) × ((o ≡ Some h) × (h.tree ≡ t))
got_is None t tag is = cc
got_is (Some h) t tag is = (h, (refl, ap (λ (x : Tree × ℕ). x.0) (sym (same_Some (t, tag) (h.tree, h.tag) is))))

all_texts : {E : Type 0} (root : List ℕ) (c : StoreContents) (id : DocId) (selector : Selector) (raw : List ℕ) (ns : List Note) (u : Usage) (h : StoredDocument) (state : ElementState) (r : Result (List ℕ) E) → find_document stored_id c.documents id ≡ Some h → usage_of id.auid ≡ Some u
    → state ≡ state_of_selected (Some u) h.tree selector ns → IfOk r (λ bytes. bytes ≡ encode_utf8_all (document_print (element_notice root (id_text id) raw state))) → IfOk r (IsNoticeText root (record { doc = id; selector = selector; raw = raw }) c ns)
all_texts root c id selector raw ns u h state (Err e) there known is writes = tt
all_texts root c id selector raw ns u h state (Ok bytes) there known is writes = (
  element_notice root (id_text id) raw state,
  (record { held = h; there = there; state = state; is_state = rw (known, is) (state_is (Some u) h.tree selector ns); told = refl }, writes),
)

pub notice_text : {E : Type 0} (root : List ℕ) (c : StoreContents) (id : DocId) (selector : Selector) (raw : List ℕ) (ns : List Note) (u : Usage) (t : Tree) (tag : ℕ) (state : ElementState) (r : Result (List ℕ) E) → Some (t, tag) ≡ PairOf (find_document stored_id c.documents id)
    → usage_of id.auid ≡ Some u → state ≡ state_of_selected (Some u) t selector ns → IfOk r (λ bytes. bytes ≡ encode_utf8_all (document_print (element_notice root (id_text id) raw state))) → IfOk r (IsNoticeText root (record { doc = id; selector = selector; raw = raw }) c ns)
notice_text root c id selector raw ns u t tag state r got known is writes =
    let h = got_is (find_document stored_id c.documents id) t tag got in
    all_texts root c id selector raw ns u h.0 state r h.1.0 known (is ∙ ap (λ (x : Tree). state_of_selected (Some u) x selector ns) (sym h.1.1)) writes
