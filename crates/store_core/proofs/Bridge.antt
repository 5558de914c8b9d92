-- The records that a store returns since an etag lead from the version with that etag to the
-- present one.
use Rattle.std.proofs.Common.{◌≡◌, ℕ, ◌<◌, ◌≤◌, Bool, true, false, cond, ◌&&◌, List, [], ◌∷◌, ◌++◌, length, map, reverse, sum_by, Option, None, Some, find, eqb-true, append_assoc, append-nil, length-append, refl, sym, ap, ◌∙◌, subst, arith}
use Rattle.std.specs.Prelude.{◌==◌, nat_le}
use Rattle.std.proofs.lemmas.Bool.Decides.{nat_tests}
use Rattle.std.proofs.lemmas.List.{reverse-append, reverse-reverse}
use Rattle.std.specs.List.{AllByRecursion}
use Rattle.doc_names.specs.declared.usages.Usage.{Usage}
use Rattle.doc_names.specs.NameEquality.{same_id}
use Rattle.doc_names.specs.declared.doc_id.DocId.{DocId}
use Rattle.edit_ops.specs.Notes.{Note}
use Rattle.edit_ops.specs.DiffOperations.{weight}
use Rattle.store_core.specs.DocumentChanges.{find_document, document_id, stored_id}
use Rattle.store_core.specs.Contents.{StoredDocument, Represents, stored_document, StoreContents as Content}
use Rattle.doc_names.specs.Usages.{usage_of}
use Rattle.store_core.specs.ValidStates.{IsValidHistory, IsValidState}
use Rattle.store_core.specs.Since.{ReportedChanges, notes_from, since}
use Rattle.store_core.specs.inner.ChangesSince.{stored_changes_since, changes_since_of}
use Rattle.store_core.specs.State.{Document, State, Version, is_within_retention, notes, retained_notes, longest_retained_end, versions}
use Rattle.store_core.specs.History.{AreRecordsSince, RecordsLeadBetween}
use Rattle.store_core.proofs.Chains.{Reached, notes_of, reached}

-- ---- ends of lists

both : (a b : Bool) → (a && b) ≡ true → (a ≡ true) × (b ≡ true)
both true b h = (refl, h)
both false b h = absurd cc

small_end_is : {A : Type 0} (w : A → ℕ) (xs : List A) → (front : List A) × (xs ≡ front ++ longest_retained_end w xs) × (length (longest_retained_end w xs) ≤ 64)
small_end_is w [] = ([], refl, omega arith)
small_end_is w (x ∷ []) = ([], refl, omega arith)
small_end_is w (x ∷ y ∷ xs) = by (is_within_retention w (x ∷ y ∷ xs)) refl (small_end_is w (y ∷ xs))
  where
    low : (n : ℕ) → nat_le n 64 ≡ true → n ≤ 64
    low n h = grind (arith, nat_tests)

    by : (b : Bool) → is_within_retention w (x ∷ y ∷ xs) ≡ b → (front : _) × (y ∷ xs ≡ front ++ longest_retained_end w (y ∷ xs)) × (length (longest_retained_end w (y ∷ xs)) ≤ 64)
        → (front : _) × (x ∷ y ∷ xs ≡ front ++ longest_retained_end w (x ∷ y ∷ xs)) × (length (longest_retained_end w (x ∷ y ∷ xs)) ≤ 64)
    by true e r = rw e ([], refl, low (length (x ∷ y ∷ xs)) (both (nat_le (length (x ∷ y ∷ xs)) 64) (nat_le (sum_by w (x ∷ y ∷ xs)) 65536) e).0)
    by false e r = rw e (x ∷ r.0, ap (λ l. x ∷ l) r.1, r.2)

-- the records from an etag on are an end of the list, and the first continues from the etag
from_is : (tag : ℕ) (xs ns : List Note) → notes_from tag xs ≡ Some ns → (front : List Note) × (xs ≡ front ++ ns) × (n : Note) × (ms : List Note) × (ns ≡ n ∷ ms) × (n.previous ≡ tag)
from_is tag [] ns h = cc
from_is tag (x ∷ xs) ns h = by (x.previous == tag) refl h (from_is tag xs ns)
  where
    by : (b : Bool) → x.previous == tag ≡ b → cond b (Some (x ∷ xs)) (notes_from tag xs) ≡ Some ns
        → (notes_from tag xs ≡ Some ns → (front : List Note) × (xs ≡ front ++ ns) × (n : Note) × (ms : List Note) × (ns ≡ n ∷ ms) × (n.previous ≡ tag))
        → (front : List Note) × (x ∷ xs ≡ front ++ ns) × (n : Note) × (ms : List Note) × (ns ≡ n ∷ ms) × (n.previous ≡ tag)
    by true e s f = let same : x ∷ xs ≡ ns = cc in ([], same, x, xs, sym same, eqb-true x.previous tag e)
    by false e s f = let r = f s in (x ∷ r.0, ap (λ l. x ∷ l) r.1, r.2, r.3, r.4, r.5)

length-le : {A : Type 0} (front ns xs : List A) → xs ≡ front ++ ns → length ns ≤ length xs
length-le front ns xs is = omega (arith, ap length is, length-append front ns)

-- ---- documents that are found

-- one found in a mapped list is the image of the one found in the list
found : {D H : Type 0} (h : D → H) (q : H → Bool) (P : D → Type 0) (ds : List D) (x : H) → AllByRecursion P ds → find q (map h ds) ≡ Some x → (d : D) × (find (λ y. q (h y)) ds ≡ Some d) × (h d ≡ x) × P d
found {D = D} {H = H} h q P [] x all is = cc
found {D = D} {H = H} h q P (d ∷ ds) x all is = by (q (h d)) refl is (found h q P ds x all.1)
  where
    by : (b : Bool) → q (h d) ≡ b → cond b (Some (h d)) (find q (map h ds)) ≡ Some x → (find q (map h ds) ≡ Some x → (e : D) × (find (λ y. q (h y)) ds ≡ Some e) × (h e ≡ x) × P e)
        → (e : D) × (find (λ y. q (h y)) (d ∷ ds) ≡ Some e) × (h e ≡ x) × P e
    by true e s f = let same : h d ≡ x = cc in (d, rw e refl, same, all.0)
    by false e s f = let r = f s in (r.0, rw e r.1, r.2, r.3)

-- ---- etags

low_all : (next : ℕ) (vs : List Version) → AllByRecursion (λ v. (1 ≤ v.tag) × (v.tag < next)) vs → AllByRecursion (λ v. v.tag < next) vs
low_all next [] h = tt
low_all next (v ∷ vs) h = (h.0.1, low_all next vs h.1)

-- ---- what is returned

-- an end of a document's records leads from one of its versions to the present one
from_end : (next : ℕ) (d : Document) (front ns : List Note) → IsValidHistory next d → notes d ≡ front ++ ns → Reached (usage_of d.id.auid) next (versions d) ns d.now
from_end next d front ns kept is =
    let turned : notes_of (versions d) ≡ reverse ns ++ reverse front = sym (reverse-reverse (notes_of (versions d))) ∙ ap reverse is ∙ reverse-append front ns in
    subst (λ l. Reached (usage_of d.id.auid) next (versions d) l d.now) (reverse-reverse ns)
    (reached (usage_of d.id.auid) next d.now d.earlier (reverse ns) (reverse front) kept.sound (low_all next (versions d) kept.tags) kept.follows turned)

-- the first record says from which etag it continues
first_tag : (usage : Option Usage) (next : ℕ) (from to : Version) (ns : List Note) (n : Note) (ms : List Note) (tag : ℕ) → RecordsLeadBetween usage next from ns to → ns ≡ n ∷ ms → n.previous ≡ tag → from.tag ≡ tag
first_tag usage next from to ns n ms tag h is previous =
    let k : RecordsLeadBetween usage next from (n ∷ ms) to = subst (λ l. RecordsLeadBetween usage next from l to) is h in
    sym (ap (λ (x : Note). x.previous) k.notes.1) ∙ previous

by_story : (m : State) (id : DocId) (tag : ℕ) (ns : List Note) (d : Document) → find_document document_id m.documents id ≡ Some d → IsValidHistory m.next d → changes_since_of (notes_from tag (retained_notes (notes d))) ≡ ReportedChanges ns → AreRecordsSince m id tag ns
by_story m id tag ns d there kept is = by (notes_from tag (retained_notes (notes d))) refl is
  where
    by : (o : Option (List Note)) → notes_from tag (retained_notes (notes d)) ≡ o → changes_since_of o ≡ ReportedChanges ns → AreRecordsSince m id tag ns
    by None e s = absurd (cc)
    by (Some xs) e s =
        let same : xs ≡ ns = cc in
        let f = from_is tag (retained_notes (notes d)) ns (e ∙ ap (λ l. Some l) same) in
        let g = small_end_is weight (notes d) in
        let whole : notes d ≡ (g.0 ++ f.0) ++ ns = g.1 ∙ ap (λ l. g.0 ++ l) f.1 ∙ sym (append_assoc g.0 f.0 ns) in
        let r = from_end m.next d (g.0 ++ f.0) ns kept whole in record {
          document = d;
          there = there;
          from = r.from;
          number = r.number;
          is_version = r.there;
          same_tag = first_tag (usage_of d.id.auid) m.next r.from d.now ns f.2 f.3 tag r.leads f.4 f.5;
          leads = r.leads;
          few = omega (arith, length-le f.0 ns (retained_notes (notes d)) f.1, g.2);
        }

present : (m : State) (id : DocId) (tag : ℕ) (ns : List Note) (d : Document) → find_document document_id m.documents id ≡ Some d → IsValidHistory m.next d → d.now.tag ≡ tag → [] ≡ ns → AreRecordsSince m id tag ns
present m id tag ns d there kept same none =
    let r = from_end m.next d (notes d) [] kept (sym (append-nil (notes d))) in
    subst (AreRecordsSince m id tag) none (record {
      document = d;
      there = there;
      from = d.now;
      number = 0;
      is_version = refl;
      same_tag = same;
      leads = record {
        notes = tt;
        tree = refl;
        tag = refl;
        sound = kept.sound.0;
        first = kept.tags.0.1;
        tags = tt;
      };
      few = omega arith;
    })

by_held : (m : State) (id : DocId) (tag : ℕ) (ns : List Note) (d : Document) (b : Bool) → find_document document_id m.documents id ≡ Some d → IsValidHistory m.next d → d.now.tag == tag ≡ b
    → cond b (ReportedChanges []) (changes_since_of (notes_from tag (retained_notes (notes d)))) ≡ ReportedChanges ns → AreRecordsSince m id tag ns
by_held m id tag ns d true there kept e s = let none : [] ≡ ns = cc in present m id tag ns d there kept (eqb-true d.now.tag tag e) none
by_held m id tag ns d false there kept e s = by_story m id tag ns d there kept s

by_found : (m : State) (id : DocId) (tag : ℕ) (ns : List Note) (o : Option StoredDocument) → IsValidState m → find_document stored_id (map stored_document m.documents) id ≡ o → stored_changes_since tag o ≡ ReportedChanges ns → AreRecordsSince m id tag ns
by_found m id tag ns None kept is s = absurd (cc)
by_found m id tag ns (Some h) kept is s =
    let r = found stored_document (λ x. same_id id x.id) (IsValidHistory m.next) m.documents h kept.documents is in
    by_held m id tag ns r.0 (r.0.now.tag == tag) r.1 r.3 refl (ap (λ o. stored_changes_since tag (Some o)) r.2 ∙ s)

pub told_since : (c : Content) (m : State) (id : DocId) (tag : ℕ) (ns : List Note) → IsValidState m → Represents c m → since c id tag ≡ ReportedChanges ns → AreRecordsSince m id tag ns
told_since c m id tag ns kept stands is =
    by_found m id tag ns (find_document stored_id (map stored_document m.documents) id) kept refl (ap (λ (x : Content). stored_changes_since tag (find_document stored_id x.documents id)) (sym stands) ∙ is)
