-- The entries of a store's documents, as its contents: the entry of a name among the others, and
-- what a valid state says of all.
use Rattle.std.proofs.Common.{◌≡◌, ◌≢◌, ℕ, ◌≤◌, Bool, true, false, cond, List, [], ◌∷◌, ◌++◌, length, map, find, sum_by, Option, None, Some, option_map, refl, sym, ap, subst, ◌∙◌, arith}
use Rattle.std.proofs.lemmas.List.{length-map, map-append}
use Rattle.std.proofs.lemmas.List.Folds.{flat_map-map}
use Rattle.std.specs.List.{AllByRecursion, flat_map}
use Rattle.std.specs.Map.{lookup}
use Rattle.xml_tree.specs.Tree.{Tree, height}
use Rattle.usage_docs.specs.Services.{document_len}
use Rattle.doc_names.specs.declared.usages.Usage.{Usage}
use Rattle.doc_names.specs.NameEquality.{same_id}
use Rattle.doc_names.specs.declared.doc_id.DocId.{DocId}
use Rattle.store_core.specs.declared.limits.Limits.{Limits}
use Rattle.store_core.specs.declared.entry.Entry.{Entry}
use Rattle.store_core.specs.State.{Document, State}
use Rattle.store_core.specs.Contents.{StoredDocument, Represents, stored_document, StoreContents as Content}
use Rattle.store_core.specs.ValidStates.{AreDistinct, IsValidHistory, IsSoundDocumentFor, IsValidState, all_addresses, document_addresses}
use Rattle.doc_names.specs.Usages.{usage_of}
use Rattle.store_core.specs.DocumentChanges.{find_document, stored_id}
use Rattle.store_core.specs.inner.StoreMemory.{contents_view, stored_view, entry_len, entry_id, entry_addresses}
use Rattle.store_core.proofs.AcceptedChanges.{sum-mapped}
use Rattle.store_core.proofs.DistinctItems.{apart-behind, each-weaker}
use Rattle.doc_names.proofs.SameIds.{other-name, id_exact}

-- ---- lists

pub mapped : {X Y Z : Type 0} (g : Y → Z) (f : X → Y) (xs : List X) → map g (map f xs) ≡ map (λ x. g (f x)) xs
mapped g f [] = refl
mapped g f (x ∷ xs) = ap (λ ys. g (f x) ∷ ys) (mapped g f xs)

module _ {X Y : Type 0} (P : Y → Type 0) (f : X → Y) where
  pub each-mapped : (xs : List X) → AllByRecursion (λ x. P (f x)) xs → AllByRecursion P (map f xs)
  each-mapped [] h = tt
  each-mapped (x ∷ xs) h = (h.0, each-mapped xs h.1)

  pub each-unmapped : (xs : List X) → AllByRecursion P (map f xs) → AllByRecursion (λ x. P (f x)) xs
  each-unmapped [] h = tt
  each-unmapped (x ∷ xs) h = (h.0, each-unmapped xs h.1)

-- ---- the entry that a look-up finds

pub record FoundAt {K V : Type 0} (test : K → Bool) (es : List (K × V)) (v : V) : Type 0 where
  pub before : List (K × V)
  pub behind : List (K × V)
  pub key : K
  pub parts : es ≡ before ++ (key, v) ∷ behind
  pub passes : test key ≡ true
  pub none : AllByRecursion (λ e. test e.0 ≡ false) before

module _ {K V : Type 0} (test : K → Bool) where
  found-step : (x : K × V) (xs : List (K × V)) (v : V) (b : Bool) → test x.0 ≡ b → cond b (Some x.1) (lookup test xs) ≡ Some v → (lookup test xs ≡ Some v → FoundAt test xs v) → FoundAt test (x ∷ xs) v
  found-step x xs v true e h by =
      let same : x.1 ≡ v = cc in
      record { before = []; behind = xs; key = x.0; parts = ap (λ (w : V). (x.0, w) ∷ xs) same; passes = e; none = tt }
  found-step x xs v false e h by =
      let s = by h in
      record { before = x ∷ s.before; behind = s.behind; key = s.key; parts = ap (λ (ys : List (K × V)). x ∷ ys) s.parts; passes = s.passes; none = (e, s.none) }

  pub found-at : (es : List (K × V)) (v : V) → lookup test es ≡ Some v → FoundAt test es v
  found-at [] v h = cc
  found-at (x ∷ xs) v h = found-step x xs v (test x.0) refl h (found-at xs v)

  not_found_refusal-step : (x : K × V) (xs : List (K × V)) (b : Bool) → test x.0 ≡ b → cond b (Some x.1) (lookup test xs) ≡ None → (lookup test xs ≡ None → AllByRecursion (λ e. test e.0 ≡ false) xs) → AllByRecursion (λ e. test e.0 ≡ false) (x ∷ xs)
  not_found_refusal-step x xs true e h by = cc
  not_found_refusal-step x xs false e h by = (e, by h)

  pub none-found : (es : List (K × V)) → lookup test es ≡ None → AllByRecursion (λ e. test e.0 ≡ false) es
  none-found [] h = tt
  none-found (x ∷ xs) h = not_found_refusal-step x xs (test x.0) refl h (none-found xs)

-- the first entry that passes, whatever is read of it
module _ {K V H X : Type 0} (test : K → Bool) (held : K × V → H) (name : H → K) (same : (e : K × V) → name (held e) ≡ e.0) (read : H → X) (see : V → X) (agree : (e : K × V) → read (held e) ≡ see e.1) where
  read-step : (x : K × V) (xs : List (K × V)) (b : Bool) → option_map read (find (λ h. test (name h)) (map held xs)) ≡ option_map see (lookup test xs)
      → option_map read (cond b (Some (held x)) (find (λ h. test (name h)) (map held xs))) ≡ option_map see (cond b (Some x.1) (lookup test xs))
  read-step x xs true by = ap Some (agree x)
  read-step x xs false by = by

  pub read-as : (es : List (K × V)) → option_map read (find (λ h. test (name h)) (map held es)) ≡ option_map see (lookup test es)
  read-as [] = refl
  read-as (x ∷ xs) =
      ap (λ k. option_map read (cond (test k) (Some (held x)) (find (λ h. test (name h)) (map held xs)))) (same x) ∙ read-step x xs (test x.0) (read-as xs)

pub tree-and-tag : (es : List (DocId × Entry)) (doc : DocId) → option_map {U = Tree × ℕ} (λ (h : StoredDocument). (h.tree, h.tag)) (find_document stored_id (map stored_view es) doc) ≡ option_map {U = Tree × ℕ} (λ (v : Entry). (v.tree.root, v.tag)) (lookup (same_id doc) es)
tree-and-tag es doc = read-as (same_id doc) stored_view stored_id (λ e. refl) (λ (h : StoredDocument). (h.tree, h.tag)) (λ (v : Entry). (v.tree.root, v.tag)) (λ e. refl) es

-- ---- the entry of a name, among entries of different names

behind-others : (doc key : DocId) (es : List (DocId × Entry)) → same_id doc key ≡ true → AllByRecursion (λ y. key ≢ y) (map entry_id es) → AllByRecursion (λ e. same_id doc e.0 ≡ false) es
behind-others doc key [] p h = tt
behind-others doc key (e ∷ es) p h = (other-name doc key e.0 (same_id doc e.0) refl p h.0, behind-others doc key es p h.1)

pub record Around (es : List (DocId × Entry)) (doc : DocId) (v : Entry) : Type 0 where
  pub before : List (DocId × Entry)
  pub behind : List (DocId × Entry)
  pub parts : es ≡ before ++ (doc, v) ∷ behind
  pub passes : same_id doc doc ≡ true
  pub none-before : AllByRecursion (λ e. same_id doc e.0 ≡ false) before
  pub none-behind : AllByRecursion (λ e. same_id doc e.0 ≡ false) behind

pub around : (es : List (DocId × Entry)) (doc : DocId) (v : Entry) → AreDistinct (map entry_id es) → lookup (same_id doc) es ≡ Some v → Around es doc v
around es doc v apart h =
    let s = found-at (same_id doc) es v h in
    let same : s.key ≡ doc = sym (id_exact doc s.key s.passes) in
    let names : AreDistinct (map entry_id s.before ++ s.key ∷ map entry_id s.behind) =
    subst (λ (xs : List DocId). AreDistinct xs) (ap (map entry_id) s.parts ∙ map-append entry_id s.before ((s.key, v) ∷ s.behind)) apart in
    record {
      before = s.before;
      behind = s.behind;
      parts = s.parts ∙ ap (λ (k : DocId). s.before ++ (k, v) ∷ s.behind) same;
      passes = subst (λ (k : DocId). same_id doc k ≡ true) same s.passes;
      none-before = s.none;
      none-behind = behind-others doc s.key s.behind s.passes (apart-behind (map entry_id s.before) (map entry_id s.behind) s.key names);
    }

-- ---- what a valid state says of the entries of a store that represents it

pub record Known (es : List (DocId × Entry)) (limits : Limits) : Type 0 where
  pub names : AreDistinct (map entry_id es)
  pub services : AreDistinct (flat_map entry_addresses es)
  pub low : AllByRecursion (λ e. height e.1.tree.root ≤ 64) es
  pub few : length es ≤ limits.documents
  pub room : sum_by entry_len es ≤ limits.bytes
  pub countable : limits.bytes ≤ 1152921504606846976

low-of : (usage : Option Usage) (t : Tree) → IsSoundDocumentFor usage t → height t ≤ 64
low-of None t h = absurd h
low-of (Some usage) t h = h.low

-- what holds of the present tree of each document holds of each entry's tree
each-tree : (P : Tree → Type 0) (m : State) (es : List (DocId × Entry)) → map stored_view es ≡ map stored_document m.documents → ((d : Document) → IsValidHistory m.next d → P d.now.tree) → AllByRecursion (IsValidHistory m.next) m.documents → AllByRecursion (λ e. P e.1.tree.root) es
each-tree P m es same by k =
    let Q : StoredDocument → Type 0 = λ h. P h.tree in
    let kept : Document → Type 0 = λ d. IsValidHistory m.next d in
    let held : Document → Type 0 = λ d. P d.now.tree in
    each-unmapped Q stored_view es (subst (λ (hs : List StoredDocument). AllByRecursion Q hs) (sym same) (each-mapped Q stored_document m.documents (each-weaker kept held by m.documents k)))

pub known : (es : List (DocId × Entry)) (limits : Limits) (last : ℕ) (m : State) → Represents (contents_view es limits last) m → IsValidState m → Known es limits
known es limits last m s k =
    let ds = m.documents in
    let same : map stored_view es ≡ map stored_document ds = ap (λ (c : Content). c.documents) s in
    let name : StoredDocument → DocId = λ h. h.id in
    let uris : StoredDocument → List (List ℕ) = λ h. document_addresses h.id.auid h.tree in
    let len : StoredDocument → ℕ = λ h. document_len h.tree in
    let names : map entry_id es ≡ map (λ (d : Document). d.id) ds = sym (mapped name stored_view es) ∙ ap (map name) same ∙ mapped name stored_document ds in
    let services : flat_map entry_addresses es ≡ all_addresses ds = sym (flat_map-map uris stored_view es) ∙ ap (flat_map uris) same ∙ flat_map-map uris stored_document ds in
    let lens : sum_by entry_len es ≡ sum_by (λ (d : Document). document_len d.now.tree) ds = sym (sum-mapped len stored_view es) ∙ ap (sum_by len) same ∙ sum-mapped len stored_document ds in
    let within : limits.documents ≡ m.limits.documents = ap (λ (c : Content). c.limits.documents) s in
    let within_bytes : limits.bytes ≡ m.limits.bytes = ap (λ (c : Content). c.limits.bytes) s in
    record {
      names = subst (λ (xs : List DocId). AreDistinct xs) (sym names) k.names;
      services = subst (λ (xs : List (List ℕ)). AreDistinct xs) (sym services) k.services;
      low = each-tree (λ t. height t ≤ 64) m es same (λ d h. low-of (usage_of d.id.auid) d.now.tree h.sound.0) k.documents;
      few = omega (arith, k.few, within, ap (λ (hs : List StoredDocument). length hs) same, length-map es stored_view, length-map ds stored_document);
      room = omega (arith, k.room, within_bytes, lens);
      countable = omega (arith, k.countable.1, within_bytes);
    }
