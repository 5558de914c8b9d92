-- What a store has of its documents and addresses after each step of a change.
use Rattle.std.proofs.Common.{◌≡◌, ◌≢◌, ℕ, ◌+◌, ◌≤◌, Bool, true, false, not, cond, List, [], ◌∷◌, ◌++◌, map, filter, find, sum_by, Option, None, Some, IsSome, option_map, refl, sym, ap, subst, ◌∙◌, arith}
use Rattle.std.proofs.lemmas.List.{append-nil, map-append}
use Rattle.std.proofs.lemmas.List.Sums.{sum_by-append}
use Rattle.std.proofs.lemmas.Option.{same_Some}
use Rattle.std.specs.List.{AllByRecursion, flat_map}
use Rattle.std.specs.Map.{lookup}
use Rattle.std.specs.Set.{is_member}
use Rattle.std.specs.Str.{bytes_eq}
use Rattle.xml_tree.specs.Tree.{Tree, height}
use Rattle.usage_docs.specs.Services.{document_len}
use Rattle.doc_names.specs.NameEquality.{same_id}
use Rattle.doc_names.specs.Usages.{usage_of}
use Rattle.doc_names.specs.declared.doc_id.DocId.{DocId}
use Rattle.edit_ops.specs.Changes.{FitsTree, edited}
use Rattle.edit_ops.specs.declared.change.Change.{Change}
use Rattle.edit_ops.specs.Notes.{Note, note_of}
use Rattle.store_core.specs.declared.limits.Limits.{Limits}
use Rattle.store_core.specs.declared.entry.Entry.{Entry}
use Rattle.store_core.specs.declared.staged_tree.StagedTree.{StagedTree}
use Rattle.store_core.specs.declared.step.EntryStep.{EntryStep}
use Rattle.store_core.specs.declared.step.EntryStep.TheVariants.{Make, Edit, End}
use Rattle.store_core.specs.State.{State, first_state_within, retained_notes}
use Rattle.store_core.specs.Contents.{StoredDocument, Represents, StoreContents as Content}
use Rattle.store_core.specs.ValidStates.{AreCountable, AreDistinct, IsSoundDocumentFor, IsValidState, document_addresses}
use Rattle.store_core.specs.TreeChanges.{IsStagedTreeFor}
use Rattle.store_core.specs.DocumentChanges.{ChangeKind, Edits, state_after, change_kind, contents_after, contents_after_by_kind, find_document, stored_document_after, stored_id, with_document}
use Rattle.store_core.specs.inner.StoreMemory.{IsUpdatedEntry, IsConsistentStore, contents_view, registered_after, stored_view, address_holder, entry_len, entry_number, registered_number, unshared_flags, entry_addresses}
use Rattle.store_core.specs.PreparedChanges.{HasTreeForStep, IsPlanned, IsStepOf, PreparedChange, total_len}
use Rattle.store_core.proofs.AcceptedChanges.{find-map, sum-first, sum-mapped, sum-put}
use Rattle.store_core.proofs.DistinctItems.{apart-cut, apart-put, each-append, each-cut, each-left, each-right, each-weaker, one-exchanged, one-filtered}
use Rattle.store_core.proofs.ChangePremises.{asked}
use Rattle.store_core.proofs.Keeps.{keeps}
use Rattle.store_core.proofs.KeptAfter.{kept-first-within}
use Rattle.store_core.proofs.SoundHeld.{all_sound, sound_held}
use Rattle.store_core.proofs.StateContents.{map-filtered}
use Rattle.store_core.proofs.Entries.{Around, Known, around, each-mapped, known, none-found}
use Rattle.store_core.proofs.Holders.{held-apart, held-exchanged, held-less}
use Rattle.store_core.proofs.OneVersion.{retains_some}
use Rattle.store_core.proofs.SharedTrees.{found-tree}
use Rattle.store_core.specs.StoreViews.{SpareCapacity, StoreView}
use Rattle.store_core.specs.inner.ChangePlans.{CanTakeStep, TakesStep}

abbrev Row : Type 0
Row = DocId × Entry

abbrev content : Limits → List StoredDocument → ℕ → Content
content limits hs n = record { documents = hs; next = n; limits = limits }

-- ---- the document that a step changes

find-first : {D : Type 0} (q : D → Bool) (xs ys : List D) (x : D) → AllByRecursion (λ e. q e ≡ false) xs → q x ≡ true → find q (xs ++ x ∷ ys) ≡ Some x
find-first q [] ys x a h = ap (λ b. cond b (Some x) (find q ys)) h
find-first q (y ∷ xs) ys x a h = ap (λ b. cond b (Some y) (find q (xs ++ x ∷ ys))) a.0 ∙ find-first q xs ys x a.1 h

pub held-found : (es : List Row) (doc : DocId) (v : Entry) → Around es doc v → find_document stored_id (map stored_view es) doc ≡ Some (stored_view (doc, v))
held-found es doc v r =
    let q : Row → Bool = λ e. same_id doc e.0 in
    find-map stored_view (λ (h : StoredDocument). same_id doc h.id) es
    ∙ ap (λ (rows : List Row). option_map stored_view (find q rows)) r.parts
    ∙ ap (λ (o : Option Row). option_map stored_view o) (find-first q r.before r.behind (doc, v) r.none-before r.passes)

pub one-held : (es : List Row) (doc : DocId) (v : Entry) (h : StoredDocument) → Around es doc v → find_document stored_id (map stored_view es) doc ≡ Some h → h ≡ stored_view (doc, v)
one-held es doc v h r e = same_Some h (stored_view (doc, v)) (sym e ∙ held-found es doc v r)

-- ---- what every store fulfils

pub known-of : (es : List Row) (rs : List (List ℕ × ℕ)) (limits : Limits) (last total : ℕ) → IsConsistentStore es rs limits last total → Known es limits
known-of es rs limits last total s = known es limits last s.kept.0 s.kept.1 s.kept.2

pub around-of : (es : List Row) (rs : List (List ℕ × ℕ)) (limits : Limits) (last total : ℕ) (doc : DocId) (v : Entry) → IsConsistentStore es rs limits last total → lookup (same_id doc) es ≡ Some v → Around es doc v
around-of es rs limits last total doc v s h = around es doc v (known-of es rs limits last total s).names h

pub total-is : (es : List Row) (limits : Limits) (last : ℕ) → total_len (contents_view es limits last) ≡ sum_by entry_len es
total-is es limits last = sum-mapped (λ (h : StoredDocument). document_len h.tree) stored_view es

-- the state after a change that is made
kept-next : (es rows : List Row) (limits : Limits) (last : ℕ) (p : PreparedChange) → ((m : State) × Represents (contents_view es limits last) m × IsValidState m) → IsPlanned (contents_view es limits last) p
    → contents_view rows limits p.note.next ≡ contents_after (contents_view es limits last) p.doc p.note.change → (m : State) × Represents (contents_view rows limits p.note.next) m × IsValidState m
kept-next es rows limits last p kept planned same =
    let c = contents_view es limits last in
    let next = keeps c kept.0 p.doc p.note.change p.note (contents_after c p.doc p.note.change) kept.1 kept.2 planned.asks planned.made in
    let m = state_after kept.0 p.doc p.note.change in
    (m, subst (λ (d : Content). Represents d m) (sym same) next.0, next.1)

later : (last next : ℕ) (es : List Row) → next ≡ last + 1 → AllByRecursion (λ e. entry_number e ≤ last) es → AllByRecursion (λ e. entry_number e ≤ next) es
later last next es e a = each-weaker (λ (r : Row). entry_number r ≤ last) (λ (r : Row). entry_number r ≤ next) (λ r h. omega (arith, h, e)) es a

numbers-below : (last n : ℕ) (es : List Row) → n ≡ last + 1 → AllByRecursion (λ e. entry_number e ≤ last) es → AllByRecursion (λ t. n ≢ t) (map entry_number es)
numbers-below last n [] e a = tt
numbers-below last n (r ∷ es) e a = ((λ (same : n ≡ entry_number r). omega (arith, same, e, a.0)), numbers-below last n es e a.1)

abbrev HasLen : Row → Type 0
HasLen e = e.1.len ≡ entry_len e

abbrev IsUnedited : Row → Type 0
IsUnedited e = e.1.notes ≡ [] → entry_number e ≡ e.1.tag

-- ---- a creation

made-content : (es : List Row) (limits : Limits) (last : ℕ) (p : PreparedChange) (key : DocId) (entry : Entry) → p.note.next ≡ last + 1 → IsStepOf (contents_view es limits last) p (Make key entry)
    → contents_view (es ++ (p.doc, entry) ∷ []) limits p.note.next ≡ contents_after (contents_view es limits last) p.doc p.note.change
made-content es limits last p key entry number step =
    let c = contents_view es limits last in
    let root = entry.tree.root in
    let new : StoredDocument = record { id = p.doc; tag = c.next; tree = root; notes = [] } in
    let held : stored_view (p.doc, entry) ≡ new = ap (λ (x : Entry). stored_view (p.doc, x)) step.2 in
    ap (λ (n : ℕ). content limits (map stored_view (es ++ (p.doc, entry) ∷ [])) (n + 1)) number
    ∙ ap (λ (hs : List StoredDocument). content limits hs (c.next + 1)) (map-append stored_view es ((p.doc, entry) ∷ []))
    ∙ ap (λ (h : StoredDocument). content limits (map stored_view es ++ h ∷ []) (c.next + 1)) held
    ∙ sym (ap (λ (change : Change). contents_after c p.doc change) step.1)

made-stored : (es : List Row) (rs : List (List ℕ × ℕ)) (limits : Limits) (last total : ℕ) (p : PreparedChange) (key : DocId) (entry : Entry) (rows : List (List ℕ × ℕ))
    → IsConsistentStore es rs limits last total → IsPlanned (contents_view es limits last) p → IsStepOf (contents_view es limits last) p (Make key entry)
    → ((uri : List ℕ) → registered_number rows uri ≡ registered_after p.leaves p.enters entry.created (registered_number rs uri) uri)
    → IsConsistentStore (es ++ (p.doc, entry) ∷ []) rows limits p.note.next p.total
made-stored es rs limits last total p key entry rows s planned step reg =
    let c = contents_view es limits last in
    let row : Row = (p.doc, entry) in
    let kept = kept-next es (es ++ row ∷ []) limits last p s.kept planned (made-content es limits last p key entry planned.number step) in
    let apart = (known (es ++ row ∷ []) limits p.note.next kept.0 kept.1 kept.2).services in
    let created : entry.created ≡ c.next = ap (λ (x : Entry). x.created) step.2 in
    let n : entry_number row ≡ last + 1 = created in
    record {
      kept = kept;
      addresses = λ uri.
          reg uri
          ∙ ap (λ (us : List (List ℕ)). registered_after us p.enters entry.created (registered_number rs uri) uri) step.3
          ∙ ap (λ (us : List (List ℕ)). registered_after [] us entry.created (registered_number rs uri) uri) step.4
          ∙ ap (λ (o : Option ℕ). registered_after [] (entry_addresses row) entry.created o uri) (s.addresses uri ∙ ap (λ (ds : List Row). address_holder ds uri) (sym (append-nil es)))
          ∙ held-apart entry_addresses entry_number es [] row uri apart;
      numbers =
          subst (λ (ns : List ℕ). AreDistinct ns) (sym (map-append entry_number es (row ∷ [])))
          (apart-put (map entry_number es) [] (entry_number row) (subst (λ (ns : List ℕ). AreDistinct ns) (sym (append-nil (map entry_number es))) s.numbers)
          (subst (λ (ns : List ℕ). AllByRecursion (λ t. entry_number row ≢ t) ns) (sym (append-nil (map entry_number es))) (numbers-below last (entry_number row) es n s.given)));
      given = each-append (λ (r : Row). entry_number r ≤ p.note.next) es (row ∷ []) (later last p.note.next es planned.number s.given) (omega (arith, n, planned.number), tt);
      sum = omega (arith, step.5, total-is es limits last, sum_by-append entry_len es (row ∷ []), sum-first entry_len row []);
      lens = each-append HasLen es (row ∷ []) s.lens (ap (λ (x : Entry). x.len) step.2, tt);
      unedited = each-append IsUnedited es (row ∷ []) s.unedited ((λ (_ : entry.notes ≡ []). created ∙ sym (ap (λ (x : Entry). x.tag) step.2)), tt);
    }

-- ---- an edit

renewed-rows : (es : List Row) (doc : DocId) (v w : Entry) (r : Around es doc v) → map (λ e. cond (same_id doc e.0) (e.0, w) e) es ≡ r.before ++ (doc, w) ∷ r.behind
renewed-rows es doc v w r =
    let f : Row → Row = λ e. (e.0, w) in
    let q : Row → Bool = λ e. same_id doc e.0 in
    ap (λ (rows : List Row). map (λ (e : Row). cond (q e) (f e) e) rows) r.parts ∙ one-exchanged q f r.before r.behind (doc, v) r.none-before r.passes r.none-behind

renewed-held : (doc : DocId) (v w : Entry) (number len : ℕ) (kept : Note) (change : Change) → IsUpdatedEntry v number kept len w → kept.change ≡ change → kept ≡ note_of v.tag number v.tree.root change
    → stored_view (doc, w) ≡ stored_document_after number change (stored_view (doc, v))
renewed-held doc v w number len kept change new same note =
    let held : ℕ → Tree → List Note → StoredDocument = λ n x ns. record { id = doc; tag = n; tree = x; notes = ns } in
    ap (λ (n : ℕ). held n w.tree.root w.notes) new.tag
    ∙ ap (λ (x : Tree). held number x w.notes) (new.tree ∙ ap (λ (x : Change). edited v.tree.root x) same)
    ∙ ap (λ (ns : List Note). held number (edited v.tree.root change) ns) (new.notes ∙ ap (λ (n : Note). retained_notes (v.notes ++ n ∷ [])) note)

renewed-content : (es : List Row) (limits : Limits) (last : ℕ) (p : PreparedChange) (v w : Entry) (len : ℕ) (kept : Note) (h : StoredDocument) (r : Around es p.doc v)
    → p.note.next ≡ last + 1 → change_kind p.note.change ≡ Edits → h ≡ stored_view (p.doc, v) → kept.change ≡ p.note.change → kept ≡ note_of h.tag (last + 1) h.tree p.note.change → IsUpdatedEntry v p.note.next kept len w
    → contents_view (r.before ++ (p.doc, w) ∷ r.behind) limits p.note.next ≡ contents_after (contents_view es limits last) p.doc p.note.change
renewed-content es limits last p v w len kept h r number edits same changed note new =
    let c = contents_view es limits last in
    let change = p.note.change in
    let g : StoredDocument → StoredDocument = stored_document_after c.next change in
    let q : StoredDocument → Bool = λ x. same_id p.doc x.id in
    let before = map stored_view r.before in
    let behind = map stored_view r.behind in
    let of_doc : Row → DocId = λ e. e.0 in
    let nones : (rows : List Row) → AllByRecursion (λ e. same_id p.doc e.0 ≡ false) rows → AllByRecursion (λ x. q x ≡ false) (map stored_view rows) = λ rows a. each-mapped (λ (x : StoredDocument). q x ≡ false) stored_view rows a in
    let renewed : IsUpdatedEntry v c.next kept len w = subst (λ (n : ℕ). IsUpdatedEntry v n kept len w) number new in
    let held : stored_view (p.doc, w) ≡ g (stored_view (p.doc, v)) =
    renewed-held p.doc v w c.next len kept change renewed changed (note ∙ ap (λ (x : StoredDocument). note_of x.tag (last + 1) x.tree change) same) in
    let all : with_document stored_id g c.documents p.doc ≡ before ++ g (stored_view (p.doc, v)) ∷ behind =
    ap (λ (hs : List StoredDocument). map (λ (x : StoredDocument). cond (q x) (g x) x) hs) (ap (map stored_view) r.parts ∙ map-append stored_view r.before ((p.doc, v) ∷ r.behind))
    ∙ one-exchanged q g before behind (stored_view (p.doc, v)) (nones r.before r.none-before) r.passes (nones r.behind r.none-behind) in
    ap (λ (n : ℕ). content limits (map stored_view (r.before ++ (p.doc, w) ∷ r.behind)) (n + 1)) number
    ∙ ap (λ (hs : List StoredDocument). content limits hs (c.next + 1)) (map-append stored_view r.before ((p.doc, w) ∷ r.behind) ∙ ap (λ (x : StoredDocument). before ++ x ∷ behind) held ∙ sym all)
    ∙ sym (ap (λ (act : ChangeKind). contents_after_by_kind c p.doc change act) edits)

renewed-stored : (es : List Row) (rs : List (List ℕ × ℕ)) (limits : Limits) (last total : ℕ) (p : PreparedChange) (staged : StagedTree) (kept : Note) (len : ℕ) (v w : Entry) (rows : List (List ℕ × ℕ))
    → IsConsistentStore es rs limits last total → IsPlanned (contents_view es limits last) p → IsStepOf (contents_view es limits last) p (Edit staged kept len) → lookup (same_id p.doc) es ≡ Some v → IsUpdatedEntry v p.note.next kept len w
    → ((uri : List ℕ) → registered_number rows uri ≡ registered_after p.leaves p.enters w.created (registered_number rs uri) uri)
    → (contents_view (map (λ e. cond (same_id p.doc e.0) (e.0, w) e) es) limits p.note.next ≡ contents_after (contents_view es limits last) p.doc p.note.change)
    × IsConsistentStore (map (λ e. cond (same_id p.doc e.0) (e.0, w) e) es) rows limits p.note.next p.total
renewed-stored es rs limits last total p staged kept len v w rows s planned step found new reg =
    let c = contents_view es limits last in
    let r = around-of es rs limits last total p.doc v s found in
    let old : Row = (p.doc, v) in
    let row : Row = (p.doc, w) in
    let h = step.0 in
    let same : h ≡ stored_view old = one-held es p.doc v h r step.1 in
    let tree : h.tree ≡ v.tree.root = ap (λ (x : StoredDocument). x.tree) same in
    let all = renewed-rows es p.doc v w r in
    let changed : kept.change ≡ p.note.change = ap (λ (n : Note). n.change) step.5 in
    let now : w.tree.root ≡ edited h.tree p.note.change = new.tree ∙ ap (λ (x : Change). edited v.tree.root x) changed ∙ ap (λ (x : Tree). edited x p.note.change) (sym tree) in
    let long : len ≡ document_len w.tree.root = step.4 ∙ ap document_len (sym now) in
    let stands = renewed-content es limits last p v w len kept h r planned.number step.2 same changed (step.5 ∙ step.6) new in
    let next = kept-next es (r.before ++ row ∷ r.behind) limits last p s.kept planned stands in
    let apart = (known (r.before ++ row ∷ r.behind) limits p.note.next next.0 next.1 next.2).services in
    let before-apart : AreDistinct (flat_map entry_addresses (r.before ++ old ∷ r.behind)) = subst (λ (ds : List Row). AreDistinct (flat_map entry_addresses ds)) r.parts (known-of es rs limits last total s).services in
    let given = subst (λ (ds : List Row). AllByRecursion (λ e. entry_number e ≤ p.note.next) ds) r.parts (later last p.note.next es planned.number s.given) in
    let given-behind = each-right (λ (e : Row). entry_number e ≤ p.note.next) r.before (old ∷ r.behind) given in
    let lens = subst (λ (ds : List Row). AllByRecursion HasLen ds) r.parts s.lens in
    let unedited = subst (λ (ds : List Row). AllByRecursion IsUnedited ds) r.parts s.unedited in
    let edited_too : IsUnedited row = λ (none : w.notes ≡ []). absurd (retains_some v.notes kept (sym new.notes ∙ none)) in
    let exchange = step.7 in
    let was : entry_addresses old ≡ exchange.0 ++ (p.leaves ++ exchange.1) = ap (λ (x : Tree). document_addresses p.doc.auid x) (sym tree) ∙ exchange.2 in
    let is : entry_addresses row ≡ exchange.0 ++ (p.enters ++ exchange.1) = ap (λ (x : Tree). document_addresses p.doc.auid x) now ∙ exchange.3 in
    let stored : IsConsistentStore (r.before ++ row ∷ r.behind) rows limits p.note.next p.total = record {
      kept = next;
      addresses = λ uri.
          reg uri
          ∙ ap (λ (o : Option ℕ). registered_after p.leaves p.enters w.created o uri) (s.addresses uri ∙ ap (λ (ds : List Row). address_holder ds uri) r.parts)
          ∙ held-exchanged entry_addresses entry_number r.before r.behind old row exchange.0 exchange.1 p.leaves p.enters uri before-apart apart (sym new.created) was is;
      numbers =
          subst (λ (ns : List ℕ). AreDistinct ns)
          (ap (map entry_number) r.parts ∙ map-append entry_number r.before (old ∷ r.behind) ∙ ap (λ (n : ℕ). map entry_number r.before ++ n ∷ map entry_number r.behind) (sym new.created) ∙ sym (map-append entry_number r.before (row ∷ r.behind)))
          s.numbers;
      given = each-append (λ (e : Row). entry_number e ≤ p.note.next) r.before (row ∷ r.behind) (each-left (λ (e : Row). entry_number e ≤ p.note.next) r.before (old ∷ r.behind) given) (omega (arith, new.created, given-behind.0), given-behind.1);
      sum =
          omega (arith, step.8, total-is es limits last, ap (sum_by entry_len) r.parts, sum-put entry_len r.before old r.behind, sum-put entry_len r.before row r.behind, ap document_len tree, long);
      lens = each-append HasLen r.before (row ∷ r.behind) (each-left HasLen r.before (old ∷ r.behind) lens) (new.len ∙ long, (each-right HasLen r.before (old ∷ r.behind) lens).1);
      unedited = each-append IsUnedited r.before (row ∷ r.behind) (each-left IsUnedited r.before (old ∷ r.behind) unedited) (edited_too, (each-right IsUnedited r.before (old ∷ r.behind) unedited).1);
    } in (
      ap (λ (ds : List Row). contents_view ds limits p.note.next) all ∙ stands,
      subst (λ (ds : List Row). IsConsistentStore ds rows limits p.note.next p.total) (sym all) stored,
    )

-- ---- a removal

ended-content : (es : List Row) (limits : Limits) (last : ℕ) (p : PreparedChange) → p.note.next ≡ last + 1 → IsStepOf (contents_view es limits last) p End
    → contents_view (filter (λ e. not (same_id p.doc e.0)) es) limits p.note.next ≡ contents_after (contents_view es limits last) p.doc p.note.change
ended-content es limits last p number step =
    let c = contents_view es limits last in
    let others = filter (λ (e : Row). not (same_id p.doc e.0)) es in
    ap (λ (n : ℕ). content limits (map stored_view others) (n + 1)) number
    ∙ ap (λ (hs : List StoredDocument). content limits hs (c.next + 1)) (map-filtered stored_view (λ (e : Row). not (same_id p.doc e.0)) (λ (h : StoredDocument). not (same_id p.doc h.id)) (λ e. refl) es)
    ∙ sym (ap (λ (change : Change). contents_after c p.doc change) step.2)

ended-stored : (es : List Row) (rs : List (List ℕ × ℕ)) (limits : Limits) (last total : ℕ) (p : PreparedChange) (v : Entry) (created : ℕ) (rows : List (List ℕ × ℕ))
    → IsConsistentStore es rs limits last total → IsPlanned (contents_view es limits last) p → IsStepOf (contents_view es limits last) p End → lookup (same_id p.doc) es ≡ Some v
    → ((uri : List ℕ) → registered_number rows uri ≡ registered_after p.leaves p.enters created (registered_number rs uri) uri)
    → IsConsistentStore (filter (λ e. not (same_id p.doc e.0)) es) rows limits p.note.next p.total
ended-stored es rs limits last total p v created rows s planned step found reg =
    let r = around-of es rs limits last total p.doc v s found in
    let old : Row = (p.doc, v) in
    let h = step.0 in
    let same : h ≡ stored_view old = one-held es p.doc v h r step.1 in
    let tree : h.tree ≡ v.tree.root = ap (λ (x : StoredDocument). x.tree) same in
    let all : filter (λ (e : Row). not (same_id p.doc e.0)) es ≡ r.before ++ r.behind =
    ap (λ (ds : List Row). filter (λ (e : Row). not (same_id p.doc e.0)) ds) r.parts ∙ one-filtered (λ (e : Row). same_id p.doc e.0) r.before r.behind old r.none-before r.passes r.none-behind in
    let next = kept-next es (filter (λ (e : Row). not (same_id p.doc e.0)) es) limits last p s.kept planned (ended-content es limits last p planned.number step) in
    let before-apart : AreDistinct (flat_map entry_addresses (r.before ++ old ∷ r.behind)) = subst (λ (ds : List Row). AreDistinct (flat_map entry_addresses ds)) r.parts (known-of es rs limits last total s).services in
    let leaves : p.leaves ≡ entry_addresses old = step.3 ∙ ap (λ (x : Tree). document_addresses p.doc.auid x) tree in
    let numbers : AreDistinct (map entry_number r.before ++ (entry_number old ∷ [] ++ map entry_number r.behind)) =
    subst (λ (ns : List ℕ). AreDistinct ns) (ap (map entry_number) r.parts ∙ map-append entry_number r.before (old ∷ r.behind)) s.numbers in
    let given = subst (λ (ds : List Row). AllByRecursion (λ e. entry_number e ≤ p.note.next) ds) r.parts (later last p.note.next es planned.number s.given) in
    let lens = subst (λ (ds : List Row). AllByRecursion HasLen ds) r.parts s.lens in
    let unedited = subst (λ (ds : List Row). AllByRecursion IsUnedited ds) r.parts s.unedited in
    subst (λ (ds : List Row). IsConsistentStore ds rows limits p.note.next p.total) (sym all) (record {
      kept = subst (λ (ds : List Row). (m : State) × Represents (contents_view ds limits p.note.next) m × IsValidState m) all next;
      addresses = λ uri.
          reg uri
          ∙ ap (λ (us : List (List ℕ)). registered_after us p.enters created (registered_number rs uri) uri) leaves
          ∙ ap (λ (us : List (List ℕ)). registered_after (entry_addresses old) us created (registered_number rs uri) uri) step.4
          ∙ ap (λ (o : Option ℕ). cond (is_member bytes_eq (entry_addresses old) uri) None o) (s.addresses uri ∙ ap (λ (ds : List Row). address_holder ds uri) r.parts)
          ∙ held-less entry_addresses entry_number r.before r.behind old uri before-apart;
      numbers = subst (λ (ns : List ℕ). AreDistinct ns) (sym (map-append entry_number r.before r.behind)) (apart-cut (map entry_number r.before) (entry_number old ∷ []) (map entry_number r.behind) numbers);
      given = each-cut (λ (e : Row). entry_number e ≤ p.note.next) r.before (old ∷ []) r.behind given;
      sum = omega (arith, step.5, total-is es limits last, ap (sum_by entry_len) r.parts, sum-put entry_len r.before old r.behind, ap document_len tree);
      lens = each-cut HasLen r.before (old ∷ []) r.behind lens;
      unedited = each-cut IsUnedited r.before (old ∷ []) r.behind unedited;
    })

-- ---- any step

none-held : (rows : List Row) (id : DocId) → AllByRecursion (λ e. same_id id e.0 ≡ false) rows → find_document stored_id (map stored_view rows) id ≡ None
none-held [] id a = refl
none-held (r ∷ rows) id a = ap (λ b. cond b (Some (stored_view r)) (find_document stored_id (map stored_view rows) id)) a.0 ∙ none-held rows id a.1

pub missing-held : (es : List Row) (doc : DocId) → lookup (same_id doc) es ≡ None → find_document stored_id (map stored_view es) doc ≡ None
missing-held es doc e = none-held es doc (none-found (same_id doc) es e)

found-entry : (es : List Row) (doc : DocId) (h : StoredDocument) (o : Option Entry) → lookup (same_id doc) es ≡ o → find_document stored_id (map stored_view es) doc ≡ Some h → (v : Entry) × (lookup (same_id doc) es ≡ Some v)
found-entry es doc h (Some v) e there = (v, e)
found-entry es doc h None e there = let missing = missing-held es doc e in cc

nothing-there : (o : Option StoredDocument) → o ≡ None → IsSome o → ⊥
nothing-there None e h = cc
nothing-there (Some h) e g = cc

-- a stored document has an entry
pub no-entry : (es : List Row) (limits : Limits) (last : ℕ) (room : SpareCapacity) (s : StoreView) (doc : DocId) → (let x : StoreView = record { content = contents_view es limits last; room = room } in x) ≡ s → None ≡ lookup (same_id doc) es → IsSome (find_document stored_id s.content.documents doc) → ⊥
no-entry es limits last room s doc seen none h =
    nothing-there (find_document stored_id (map stored_view es) doc) (missing-held es doc (sym none)) (subst (λ (x : StoreView). IsSome (find_document stored_id x.content.documents doc)) (sym seen) h)

pub stored : (es : List Row) (rs : List (List ℕ × ℕ)) (limits : Limits) (last total : ℕ) (p : PreparedChange) (step : EntryStep) (created : ℕ) (next : List Row) (rows : List (List ℕ × ℕ))
    → IsConsistentStore es rs limits last total → IsPlanned (contents_view es limits last) p → IsStepOf (contents_view es limits last) p step → TakesStep (record { entries = es; doc = p.doc; number = p.note.next }) step created next
    → ((uri : List ℕ) → registered_number rows uri ≡ registered_after p.leaves p.enters created (registered_number rs uri) uri)
    → (contents_view next limits p.note.next ≡ contents_after (contents_view es limits last) p.doc p.note.change) × IsConsistentStore next rows limits p.note.next p.total
stored es rs limits last total p (Make key entry) created next rows s planned step stepped reg =
    let behind : next ≡ es ++ (p.doc, entry) ∷ [] = stepped.0 ∙ ap (λ (d : DocId). es ++ (d, entry) ∷ []) step.6 in
    let registered_number-as = λ (uri : List ℕ). reg uri ∙ ap (λ (n : ℕ). registered_after p.leaves p.enters n (registered_number rs uri) uri) stepped.1 in (
      ap (λ (ds : List Row). contents_view ds limits p.note.next) behind ∙ made-content es limits last p key entry planned.number step,
      subst (λ (ds : List Row). IsConsistentStore ds rows limits p.note.next p.total) (sym behind) (made-stored es rs limits last total p key entry rows s planned step registered_number-as),
    )
stored es rs limits last total p (Edit staged kept len) created next rows s planned step stepped reg =
    let v = stepped.0 in
    let w = stepped.1 in
    let registered_number-as = λ (uri : List ℕ). reg uri ∙ ap (λ (n : ℕ). registered_after p.leaves p.enters n (registered_number rs uri) uri) stepped.5 in
    let made = renewed-stored es rs limits last total p staged kept len v w rows s planned step stepped.2 stepped.3 registered_number-as in (
      ap (λ (ds : List Row). contents_view ds limits p.note.next) stepped.4 ∙ made.0,
      subst (λ (ds : List Row). IsConsistentStore ds rows limits p.note.next p.total) (sym stepped.4) made.1,
    )
stored es rs limits last total p End created next rows s planned step stepped reg =
    let found = found-entry es p.doc step.0 (lookup (same_id p.doc) es) refl step.1 in (
      ap (λ (ds : List Row). contents_view ds limits p.note.next) stepped ∙ ended-content es limits last p planned.number step,
      subst (λ (ds : List Row). IsConsistentStore ds rows limits p.note.next p.total) (sym stepped) (ended-stored es rs limits last total p found.0 created rows s planned step found.1 reg),
    )

-- ---- a store before any change, and one whose reserved memory alone changed

pub first-storing : (es : List Row) (rs : List (List ℕ × ℕ)) (limits : Limits) (first last : ℕ) → es ≡ [] → rs ≡ [] → 1 ≤ first → AreCountable limits → last + 1 ≡ first → IsConsistentStore es rs limits last 0
first-storing es rs limits first last none empty h most e =
    subst (λ (ds : List Row). IsConsistentStore ds rs limits last 0) (sym none)
    (subst (λ (us : List (List ℕ × ℕ)). IsConsistentStore [] us limits last 0) (sym empty)
    (record {
      kept = (first_state_within limits first, ap (λ (n : ℕ). content limits [] n) e, kept-first-within limits first h most);
      addresses = λ uri. refl;
      numbers = tt;
      given = tt;
      sum = refl;
      lens = tt;
      unedited = tt;
    }))

-- ---- what a look-up finds

pub low-entry : (es : List Row) (rs : List (List ℕ × ℕ)) (limits : Limits) (last total : ℕ) (doc : DocId) (v : Entry) → IsConsistentStore es rs limits last total → lookup (same_id doc) es ≡ Some v → height v.tree.root ≤ 64
low-entry es rs limits last total doc v s found =
    let r = around-of es rs limits last total doc v s found in
    let P : Row → Type 0 = λ e. height e.1.tree.root ≤ 64 in
    (each-right P r.before ((doc, v) ∷ r.behind) (subst (λ (ds : List Row). AllByRecursion P ds) r.parts (known-of es rs limits last total s).low)).0

pub sound-entry : (es : List Row) (rs : List (List ℕ × ℕ)) (limits : Limits) (last total : ℕ) (doc : DocId) (v : Entry) → IsConsistentStore es rs limits last total → lookup (same_id doc) es ≡ Some v → IsSoundDocumentFor (usage_of doc.auid) v.tree.root
sound-entry es rs limits last total doc v s found =
    let r = around-of es rs limits last total doc v s found in
    sound_held (contents_view es limits last) doc (stored_view (doc, v)) (held-found es doc v r) (all_sound (contents_view es limits last) s.kept.0 s.kept.1 s.kept.2)

pub len-of : (es : List Row) (rs : List (List ℕ × ℕ)) (limits : Limits) (last total : ℕ) (doc : DocId) (v : Entry) → IsConsistentStore es rs limits last total → lookup (same_id doc) es ≡ Some v → v.len ≡ document_len v.tree.root
len-of es rs limits last total doc v s found =
    let r = around-of es rs limits last total doc v s found in
    (each-right HasLen r.before ((doc, v) ∷ r.behind) (subst (λ (ds : List Row). AllByRecursion HasLen ds) r.parts s.lens)).0

-- ---- what a step requires

not-there : (es : List Row) (rs : List (List ℕ × ℕ)) (limits : Limits) (last total : ℕ) (doc : DocId) (o : Option Entry) → IsConsistentStore es rs limits last total → lookup (same_id doc) es ≡ o → find_document stored_id (map stored_view es) doc ≡ None → lookup (same_id doc) es ≡ None
not-there es rs limits last total doc None s e missing = e
not-there es rs limits last total doc (Some v) s e missing =
    let there : find_document stored_id (map stored_view es) doc ≡ Some (stored_view (doc, v)) = held-found es doc v (around-of es rs limits last total doc v s e) in
    cc

-- the edit of a retained record fits the entry of its document, and its memory is the one for that
-- entry's tree
may-edit : (es : List Row) (rs : List (List ℕ × ℕ)) (limits : Limits) (last total : ℕ) (p : PreparedChange) (staged : StagedTree) (kept : Note) (len : ℕ) (v : Entry)
    → IsConsistentStore es rs limits last total → IsPlanned (contents_view es limits last) p → IsStepOf (contents_view es limits last) p (Edit staged kept len) → lookup (same_id p.doc) es ≡ Some v
    → FitsTree v.tree.root kept.change × IsStagedTreeFor v.tree.root kept.change staged
may-edit es rs limits last total p staged kept len v s planned step found =
    let h = step.0 in
    let r = around-of es rs limits last total p.doc v s found in
    let tree : h.tree ≡ v.tree.root = ap (λ (x : StoredDocument). x.tree) (one-held es p.doc v h r step.1) in
    let changed : p.note.change ≡ kept.change = sym (ap (λ (n : Note). n.change) step.5) in
    let fits : FitsTree h.tree p.note.change = (asked (contents_view es limits last) p.doc p.note.change h step.2 step.1 planned.asks).0 in (
      subst (λ (x : Change). FitsTree v.tree.root x) changed (subst (λ (x : Tree). FitsTree x p.note.change) tree fits),
      subst (λ (x : Change). IsStagedTreeFor v.tree.root x staged) changed (subst (λ (x : Tree). IsStagedTreeFor x p.note.change staged) tree step.3),
    )

pub steppable : (es : List Row) (rs : List (List ℕ × ℕ)) (limits : Limits) (last total : ℕ) (p : PreparedChange) (step : EntryStep) → IsConsistentStore es rs limits last total → IsPlanned (contents_view es limits last) p → IsStepOf (contents_view es limits last) p step
    → HasTreeForStep step (lookup (same_id p.doc) (unshared_flags es)) → CanTakeStep es p.doc step
steppable es rs limits last total p (Make key entry) s planned step has =
    subst (λ (d : DocId). lookup (same_id d) es ≡ None) (sym step.6) (not-there es rs limits last total p.doc (lookup (same_id p.doc) es) s refl step.0)
steppable es rs limits last total p (Edit staged kept len) s planned step has =
    let found = found-entry es p.doc step.0 (lookup (same_id p.doc) es) refl step.1 in
    let may = may-edit es rs limits last total p staged kept len found.0 s planned step found.1 in
    (found.0, found.1, may.0, may.1, has found.0.tree.own (found-tree es p.doc found.0 found.1))
steppable es rs limits last total p End s planned step has = tt

pub absent-entry : (es : List Row) (rs : List (List ℕ × ℕ)) (limits : Limits) (last total : ℕ) (doc : DocId) → IsConsistentStore es rs limits last total → find_document stored_id (map stored_view es) doc ≡ None → lookup (same_id doc) es ≡ None
absent-entry es rs limits last total doc s missing = not-there es rs limits last total doc (lookup (same_id doc) es) s refl missing
