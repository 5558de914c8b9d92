-- What is returned since an etag, and the versions of the document from that etag on.
use Rattle.std.proofs.Common.{◌≡◌, ℕ, ◌≤◌, Bool, true, false, cond, List, [], ◌∷◌, ◌++◌, length, map, reverse, Option, None, Some, IsSome, IsSomeAnd, option_map, find, slice_get, eqb-true, append_assoc, append-nil, refl, sym, ap, ◌∙◌, subst, inl, inr}
use Rattle.std.specs.Prelude.{◌==◌}
use Rattle.std.proofs.lemmas.List.{reverse-append, reverse-reverse}
use Rattle.std.proofs.lemmas.Option.{same_Some}
use Rattle.std.specs.List.{AllByRecursion}
use Rattle.xml_tree.specs.Tree.{Tree, at}
use Rattle.doc_names.specs.DocIds.{id_text}
use Rattle.doc_names.specs.NameEquality.{same_id}
use Rattle.doc_names.specs.Usages.{usage_of}
use Rattle.doc_names.specs.declared.doc_id.DocId.{DocId}
use Rattle.doc_names.specs.declared.usages.Usage.{Usage}
use Rattle.node_select.specs.Selection.{SelectsPath}
use Rattle.node_select.specs.declared.selector.Selector.{Selector}
use Rattle.node_select.proofs.Along.{one_path, path_there}
use Rattle.edit_ops.specs.Notes.{Note}
use Rattle.edit_ops.specs.DiffOperations.{weight}
use Rattle.edit_rules.specs.KeyAddresses.{IsKeyAddressOf}
use Rattle.element_watch.specs.ElementNotices.{element_notice}
use Rattle.element_watch.specs.declared.element_states.ElementState.{ElementState}
use Rattle.element_watch.specs.declared.element_states.ElementState.TheVariants.{Unchanged, Exists, Missing}
use Rattle.store_core.specs.DocumentChanges.{find_document, document_id, stored_id}
use Rattle.store_core.specs.Contents.{StoredDocument, Represents, StoreContents, stored_document}
use Rattle.store_core.specs.ValidStates.{IsValidHistory, IsSoundDocument, IsSoundDocumentFor, IsValidState}
use Rattle.store_core.specs.Since.{ReportedChanges, notes_from, since}
use Rattle.store_core.specs.inner.ChangesSince.{stored_changes_since, changes_since_of}
use Rattle.store_core.specs.State.{Document, State, Version, is_within_retention, notes, retained_notes, longest_retained_end, versions}
use Rattle.store_core.proofs.AcceptedChanges.{find-map}
use Rattle.store_core.proofs.ChangePremises.{found-name}
use Rattle.store_core.proofs.Chains.{notes_of}
use Rattle.element_watch.specs.SelectionHistory.{SelectsElementFrom, SelectsElementSince, SelectsElement, notes_after}
use Rattle.element_watch.specs.TouchedElements.{MovesUntouchedThrough}
use Rattle.element_watch.specs.WatchedElements.{IsElementNotice, HasNothingToReport, IsElementState, silent_notice}
use Rattle.element_watch.proofs.Chain.{begins_with, found_in_each}

-- ---- ends of lists

-- what is retained is an end
retained_end : {A : Type 0} (w : A → ℕ) (xs : List A) → (front : List A) × (xs ≡ front ++ longest_retained_end w xs)
retained_end {A = A} w [] = ([], refl)
retained_end {A = A} w (x ∷ []) = ([], refl)
retained_end {A = A} w (x ∷ y ∷ xs) = by (is_within_retention w (x ∷ y ∷ xs)) (retained_end w (y ∷ xs))
  where
    by : (b : Bool) → (front : List A) × (y ∷ xs ≡ front ++ longest_retained_end w (y ∷ xs)) → (front : List A) × (x ∷ y ∷ xs ≡ front ++ cond b (x ∷ y ∷ xs) (longest_retained_end w (y ∷ xs)))
    by true r = ([], refl)
    by false r = (x ∷ r.0, ap (λ l. x ∷ l) r.1)

-- a list ends with records of which the first continues from the etag
record EndsWith (tag : ℕ) (ns xs : List Note) : Type 0 where
  front : List Note
  whole : xs ≡ front ++ ns
  note : Note
  later : List Note
  parts : ns ≡ note ∷ later
  goes_on : note.previous ≡ tag

records_from_tag : (tag : ℕ) (xs ns : List Note) → notes_from tag xs ≡ Some ns → EndsWith tag ns xs
records_from_tag tag [] ns h = cc
records_from_tag tag (x ∷ xs) ns h = by (x.previous == tag) refl h (records_from_tag tag xs ns)
  where
    by : (b : Bool) → x.previous == tag ≡ b → cond b (Some (x ∷ xs)) (notes_from tag xs) ≡ Some ns → (notes_from tag xs ≡ Some ns → EndsWith tag ns xs) → EndsWith tag ns (x ∷ xs)
    by true e s f =
        let same : x ∷ xs ≡ ns = same_Some (x ∷ xs) ns s in record { front = []; whole = same; note = x; later = xs; parts = sym same; goes_on = eqb-true x.previous tag e }
    by false e s f = let r = f s in record { front = x ∷ r.front; whole = ap (λ l. x ∷ l) r.whole; note = r.note; later = r.later; parts = r.parts; goes_on = r.goes_on }

told_notes : (o : Option (List Note)) (ns : List Note) → changes_since_of o ≡ ReportedChanges ns → o ≡ Some ns
told_notes None ns h = cc
told_notes (Some xs) ns h = ap Some (cc)

-- ---- a document that is found

-- its records end with those returned since the etag; where these are none, the etag is its own
record ToldSince (d : Document) (tag : ℕ) (ns : List Note) : Type 0 where
  front : List Note
  whole : notes d ≡ front ++ ns
  same_tag : ns ≡ [] → d.now.tag ≡ tag
  goes_on : (n : Note) (ms : List Note) → ns ≡ n ∷ ms → n.previous ≡ tag

by_tag : (d : Document) (tag : ℕ) (ns : List Note) (b : Bool) → d.now.tag == tag ≡ b → cond b (ReportedChanges []) (changes_since_of (notes_from tag (retained_notes (notes d)))) ≡ ReportedChanges ns → ToldSince d tag ns
by_tag d tag ns true e h =
    let none : [] ≡ ns = cc in
    subst (ToldSince d tag) none (record { front = notes d; whole = sym (append-nil (notes d)); same_tag = λ _. eqb-true d.now.tag tag e; goes_on = λ n ms is. cc })
by_tag d tag ns false e h =
    let f = records_from_tag tag (retained_notes (notes d)) ns (told_notes (notes_from tag (retained_notes (notes d))) ns h) in
    let g = retained_end weight (notes d) in record {
      front = g.0 ++ f.front;
      whole = g.1 ∙ ap (λ (l : List Note). g.0 ++ l) f.whole ∙ sym (append_assoc g.0 f.front ns);
      same_tag = λ none. let z : f.note ∷ f.later ≡ [] = sym f.parts ∙ none in cc;
      goes_on = λ n ms is. ap (λ (x : Note). x.previous) (first n f.note ms f.later (sym is ∙ f.parts)) ∙ f.goes_on;
    }
  where
    first : (n m : Note) (ms ks : List Note) → n ∷ ms ≡ m ∷ ks → n ≡ m
    first n m ms ks h = cc

kept_found : (next : ℕ) (id : DocId) (ds : List Document) (d : Document) → AllByRecursion (IsValidHistory next) ds → find (λ x. same_id id x.id) ds ≡ Some d → IsValidHistory next d
kept_found next id [] d all h = cc
kept_found next id (x ∷ ds) d all h = by (same_id id x.id) h (kept_found next id ds d all.1)
  where
    by : (b : Bool) → cond b (Some x) (find (λ y. same_id id y.id) ds) ≡ Some d → (find (λ y. same_id id y.id) ds ≡ Some d → IsValidHistory next d) → IsValidHistory next d
    by true s f = subst (IsValidHistory next) (same_Some x d s) all.0
    by false s f = f s

made_of : (o : Option Document) (h : StoredDocument) → option_map stored_document o ≡ Some h → (d : Document) × ((o ≡ Some d) × (stored_document d ≡ h))
made_of None h is = cc
made_of (Some d) h is = (d, (refl, same_Some (stored_document d) h is))

-- ---- the element in each version

-- where nothing is reported of an element, the records move a place to its own
former_place : (u : Usage) (t : Tree) (selector : Selector) (ns : List Note) (p : List ℕ) → SelectsPath selector.steps t p → HasNothingToReport (Some u) t selector ns → (q : List ℕ) × MovesUntouchedThrough q ns p
former_place u t selector ns p selects (inl none) = (p, subst (λ (l : List Note). MovesUntouchedThrough p l p) (sym none) refl)
former_place u t selector ns p selects (inr h) =
    let at_it = h.1 in
    (at_it.former, subst (λ (q : List ℕ). MovesUntouchedThrough at_it.former ns q) (one_path selector.steps t h.0 p at_it.selects selects) at_it.passes)

some_and : (o : Option Tree) (P : Tree → Type 0) → IsSome o → ((e : Tree) → o ≡ Some e → P e) → IsSomeAnd o P
some_and None P h f = cc
some_and (Some e) P h f = f e refl

sound_all : (usage : Option Usage) (u : Usage) (vs : List Version) → usage ≡ Some u → AllByRecursion (λ v. IsSoundDocumentFor usage v.tree) vs → AllByRecursion (λ v. IsSoundDocument u v.tree) vs
sound_all usage u vs is all = subst (λ (x : Option Usage). AllByRecursion (λ v. IsSoundDocumentFor x v.tree) vs) is all

module _ (u : Usage) (selector : Selector) (p : List ℕ) (d : Document) (next tag : ℕ) (ns : List Note) (kept : IsValidHistory next d) (known : usage_of d.id.auid ≡ Some u) (told : ToldSince d tag ns) where
  -- its records, newest first
  turned : notes_of (versions d) ≡ reverse ns ++ reverse told.front
  turned = sym (reverse-reverse (notes_of (versions d))) ∙ ap reverse told.whole ∙ reverse-append told.front ns

  finds_in : SelectsPath selector.steps d.now.tree p → IsKeyAddressOf u d.now.tree selector p → (q : List ℕ) → MovesUntouchedThrough q ns p → SelectsElementFrom (length (reverse ns)) selector.steps d p
  finds_in selects address q passes =
      some_and (at p d.now.tree) (λ e. (k : ℕ) (v : Version) → k ≤ length (reverse ns) → slice_get (versions d) k ≡ Some v → SelectsElement selector.steps e v.tree (notes_after k (versions d)) p)
      (path_there selector.steps d.now.tree p selects)
      (λ e there k v le is.
      subst (λ (l : List Note). SelectsElement selector.steps e v.tree l p) (append-nil (notes_after k (versions d)))
      (found_in_each u selector e p d.now d.earlier (reverse ns) (reverse told.front) [] p q (sound_all (usage_of d.id.auid) u (versions d) known kept.sound) kept.follows turned selects address there refl
      (subst (λ (l : List Note). MovesUntouchedThrough q l p) (sym (reverse-reverse ns)) passes) k v le is))

  tag_of_first : (x : Version) → (reverse ns ≡ [] → x ≡ d.now) → ((n : Note) (ms : List Note) → reverse (reverse ns) ≡ n ∷ ms → n.previous ≡ x.tag) → x.tag ≡ tag
  tag_of_first x if_none if_some = by ns refl
    where
      by : (l : List Note) → ns ≡ l → x.tag ≡ tag
      by [] e = ap (λ (v : Version). v.tag) (if_none (ap reverse e)) ∙ told.same_tag e
      by (n ∷ ms) e = sym (if_some n ms (reverse-reverse ns ∙ e)) ∙ told.goes_on n ms e

  since_found : (m : State) (id : DocId) → find_document document_id m.documents id ≡ Some d → SelectsPath selector.steps d.now.tree p → IsKeyAddressOf u d.now.tree selector p → (q : List ℕ) → MovesUntouchedThrough q ns p
      → SelectsElementSince m id tag selector.steps p
  since_found m id there selects address q passes =
      let first = begins_with d.now d.earlier (reverse ns) (reverse told.front) kept.follows turned in record {
        document = d;
        there = there;
        from = first.0;
        number = length (reverse ns);
        is_version = first.1.0;
        same_tag = tag_of_first first.0 first.1.1.0 first.1.1.1;
        finds = finds_in selects address q passes;
      }

find_since : (c : StoreContents) (m : State) (id : DocId) (tag : ℕ) (ns : List Note) (held : StoredDocument) (u : Usage) (selector : Selector) (p : List ℕ) → IsValidState m → Represents c m → since c id tag ≡ ReportedChanges ns → find_document stored_id c.documents id ≡ Some held
    → usage_of id.auid ≡ Some u → HasNothingToReport (Some u) held.tree selector ns → SelectsPath selector.steps held.tree p → IsKeyAddressOf u held.tree selector p → SelectsElementSince m id tag selector.steps p
find_since c m id tag ns held u selector p kept stands told there known quiet selects address =
    let mapped : find_document stored_id (map stored_document m.documents) id ≡ Some held = ap (λ (x : StoreContents). find_document stored_id x.documents id) (sym stands) ∙ there in
    let r = made_of (find_document document_id m.documents id) held (sym (find-map stored_document (λ (h : StoredDocument). same_id id h.id) m.documents) ∙ mapped) in
    let d = r.0 in
    let same : held ≡ stored_document d = sym r.1.1 in
    let changes_since : stored_changes_since tag (Some (stored_document d)) ≡ ReportedChanges ns = ap (λ (h : StoredDocument). stored_changes_since tag (Some h)) r.1.1 ∙ ap (stored_changes_since tag) (sym there) ∙ told in
    let in_state = by_tag d tag ns (d.now.tag == tag) refl changes_since in
    let known' : usage_of d.id.auid ≡ Some u = ap (λ (i : DocId). usage_of i.auid) (sym (found-name c id held there ∙ ap (λ (h : StoredDocument). h.id) same)) ∙ known in
    let tree : held.tree ≡ d.now.tree = ap (λ (h : StoredDocument). h.tree) same in
    let place = former_place u held.tree selector ns p selects quiet in
    since_found u selector p d m.next tag ns (kept_found m.next id m.documents d kept.documents r.1.0) known' in_state m id r.1.0 (subst (λ (t : Tree). SelectsPath selector.steps t p) tree selects)
    (subst (λ (t : Tree). IsKeyAddressOf u t selector p) tree address) place.0 place.1

-- ---- a diff document that reports nothing

silent_so : (root id raw : List ℕ) (state : ElementState) → silent_notice root ≡ element_notice root id raw state → state ≡ Unchanged
silent_so root id raw Unchanged is = refl
silent_so root id raw Exists is = let contents = ap (λ (t : Tree). t.content) is in cc
silent_so root id raw Missing is = let contents = ap (λ (t : Tree). t.content) is in cc

quiet_so : (u : Usage) (t : Tree) (selector : Selector) (ns : List Note) (usage : Option Usage) (state : ElementState) → usage ≡ Some u → state ≡ Unchanged → IsElementState usage t selector ns state → HasNothingToReport (Some u) t selector ns
quiet_so u t selector ns usage state known unchanged is = subst (λ (x : Option Usage). HasNothingToReport x t selector ns) known (subst (IsElementState usage t selector ns) unchanged is)

pub find_unreported : (root : List ℕ) (c : StoreContents) (m : State) (id : DocId) (tag : ℕ) (ns : List Note) (held : StoredDocument) (u : Usage) (selector : Selector) (raw p : List ℕ) → IsValidState m → Represents c m → since c id tag ≡ ReportedChanges ns → find_document stored_id c.documents id ≡ Some held
    → usage_of id.auid ≡ Some u → IsElementNotice root (record { doc = id; selector = selector; raw = raw }) c ns (silent_notice root) → SelectsPath selector.steps held.tree p → IsKeyAddressOf u held.tree selector p → SelectsElementSince m id tag selector.steps p
find_unreported root c m id tag ns held u selector raw p kept stands told there known notice selects address =
    let same : notice.held ≡ held = same_Some notice.held held (sym notice.there ∙ there) in
    let quiet = quiet_so u notice.held.tree selector ns (usage_of id.auid) notice.state known (silent_so root (id_text id) raw notice.state notice.told) notice.is_state in
    find_since c m id tag ns held u selector p kept stands told there known (subst (λ (h : StoredDocument). HasNothingToReport (Some u) h.tree selector ns) same quiet) selects address
