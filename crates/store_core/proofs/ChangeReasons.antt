-- The reasons against a change, as the registry and the total give them, are those of the
-- definitions.
use Rattle.std.proofs.Common.{◌≡◌, ◌≢◌, ℕ, ◌+◌, ◌-◌, ◌≤◌, nat_lt, nat_le, min, Bool, true, false, not, ◌&&◌, List, [], ◌∷◌, ◌++◌, length, map, filter, sum_by, Option, None, Some, IsSomeAnd, option_map, Ok, Err, refl, sym, ap, subst, ◌∙◌, arith}
use Rattle.std.proofs.lemmas.Bool.Decides.{nat_tests}
use Rattle.std.proofs.lemmas.List.{length-map, map-append}
use Rattle.std.proofs.lemmas.List.Folds.{flat_map-map}
use Rattle.std.specs.List.{AllByRecursion, flat_map, position}
use Rattle.std.specs.Map.{lookup}
use Rattle.std.specs.Set.{is_member}
use Rattle.std.specs.Str.{bytes_eq}
use Rattle.std.specs.Option.{option_or as or_else}
use Rattle.std.specs.Prelude.{max}
use Rattle.xml_tree.specs.Tree.{Tree}
use Rattle.usage_docs.specs.Services.{document_len}
use Rattle.usage_docs.specs.declared.key_repeats.Clash.{Clash}
use Rattle.usage_docs.specs.declared.schema_table.Key.TheVariants.{Uri}
use Rattle.doc_names.specs.NameEquality.{same_id}
use Rattle.doc_names.specs.declared.doc_id.DocId.{DocId}
use Rattle.edit_ops.specs.Notes.{Note}
use Rattle.store_core.specs.declared.limits.Limits.{Limits}
use Rattle.store_core.specs.declared.entry.Entry.{Entry}
use Rattle.store_core.specs.declared.refusal.StoreRefusal.{StoreRefusal}
use Rattle.store_core.specs.declared.refusal.StoreRefusal.TheVariants.{ServiceTaken, TooLarge, TooMany, StoreFull}
use Rattle.store_core.specs.Contents.{StoredDocument, StoreContents as Content}
use Rattle.store_core.specs.ValidStates.{AreDistinct, document_addresses}
use Rattle.store_core.specs.DocumentChanges.{refusal_in_store, refusal_or, find_document, stored_id, refusal_if, other_addresses, total_len_of_others, first_taken_address, without_document}
use Rattle.store_core.specs.inner.StoreMemory.{IsConsistentStore, contents_view, stored_view, address_holder, is_held_by_other, entry_len, entry_number, registered_number, entry_addresses}
use Rattle.store_core.specs.PreparedChanges.{total_len}
use Rattle.store_core.proofs.AcceptedChanges.{sum-mapped, sum-put}
use Rattle.store_core.proofs.DistinctItems.{each-append, each-left, each-right, each-weaker, apart-behind, none-filtered, one-filtered}
use Rattle.store_core.proofs.AdmissionLemmas.{apart-before}
use Rattle.store_core.proofs.StateContents.{map-filtered}
use Rattle.store_core.proofs.Entries.{Around, each-unmapped, none-found}
use Rattle.store_core.proofs.Holders.{is-other, others-hold, others-hold-beside, own-free}
use Rattle.store_core.proofs.Places.{first-among}
use Rattle.store_core.proofs.ChangeSteps.{absent-entry, around-of, held-found, known-of, len-of, one-held, total-is}
use Rattle.store_core.specs.StoreViews.{SpareCapacity, StoreView}
use Rattle.store_core.specs.inner.Addresses.{AreReplacedAt}
use Rattle.store_core.specs.inner.ChangePlans.{refusal_from_checks, IsStoredAs}

abbrev Row : Type 0
Row = DocId × Entry

-- ---- by numbers

long : (n m : ℕ) → nat_lt 262144 n ≡ true → nat_lt 262144 (min n 18446744073709551615) ≡ true
long n m h = grind (arith, nat_tests)

short : (n : ℕ) → nat_lt 262144 n ≡ false → min n 18446744073709551615 ≡ n
short n h = grind (arith, nat_tests)

-- a length that was capped at the greatest number gives the same test
cut-step : (place : Option ℕ) (n : ℕ) (full : Bool) (others most : ℕ) (b : Bool) → nat_lt 262144 n ≡ b
    → refusal_from_checks place (min n 18446744073709551615) full others most
    ≡ or_else (option_map (λ clash. ServiceTaken clash) (option_map (λ i. let clash : Clash = record { path = i ∷ []; key = Uri } in clash) place))
    (or_else (refusal_if (nat_lt 262144 n) (TooLarge (min n 18446744073709551615))) (or_else (refusal_if full TooMany) (refusal_if (nat_lt most (others + n)) (StoreFull (others + n)))))
cut-step (Some i) n full others most b e = refl
cut-step None n full others most true e =
    ap (λ t. or_else (refusal_if t (TooLarge (min n 18446744073709551615))) (or_else (refusal_if full TooMany) (refusal_if (nat_lt most (others + min n 18446744073709551615)) (StoreFull (others + min n 18446744073709551615))))) (long n n e)
    ∙ sym (ap (λ t. or_else (refusal_if t (TooLarge (min n 18446744073709551615))) (or_else (refusal_if full TooMany) (refusal_if (nat_lt most (others + n)) (StoreFull (others + n))))) e)
cut-step None n full others most false e =
    let s = short n e in
    ap (λ (m : ℕ). or_else (refusal_if (nat_lt 262144 m) (TooLarge m)) (or_else (refusal_if full TooMany) (refusal_if (nat_lt most (others + m)) (StoreFull (others + m))))) s
    ∙ sym (ap (λ (m : ℕ). or_else (refusal_if (nat_lt 262144 n) (TooLarge m)) (or_else (refusal_if full TooMany) (refusal_if (nat_lt most (others + n)) (StoreFull (others + n))))) s)

-- ---- the tests of a tree

-- where a registry says of each address whether another document has it
found-so : (c : Content) (id : DocId) (is_new : Bool) (t : Tree) (test : List ℕ → Bool) (full : Bool) (others : ℕ) → ((uri : List ℕ) → is_member bytes_eq (other_addresses c id) uri ≡ test uri)
    → full ≡ (is_new && nat_le c.limits.documents (length c.documents)) → others ≡ total_len_of_others c id
    → refusal_from_checks (position test (document_addresses id.auid t)) (min (document_len t) 18446744073709551615) full others c.limits.bytes ≡ refusal_in_store c id is_new t
found-so c id is_new t test full others tests fullness lengths =
    let own = document_addresses id.auid t in
    let clash : ℕ → Clash = λ i. record { path = i ∷ []; key = Uri } in
    let there : List ℕ → Bool = λ uri. is_member bytes_eq (other_addresses c id) uri in
    let same : there ≡ test = λ i uri. tests uri i in
    let n = document_len t in
    let rest : Option Clash → Bool → ℕ → Option StoreRefusal = λ first f o. or_else (option_map (λ (x : Clash). ServiceTaken x) first)
    (or_else (refusal_if (nat_lt 262144 n) (TooLarge (min n 18446744073709551615))) (or_else (refusal_if f TooMany) (refusal_if (nat_lt c.limits.bytes (o + n)) (StoreFull (o + n))))) in
    cut-step (position test own) n full others c.limits.bytes (nat_lt 262144 n) refl
    ∙ ap (λ (p : List ℕ → Bool). rest (option_map clash (position p own)) full others) (sym same)
    ∙ ap (λ (f : Bool). rest (first_taken_address (other_addresses c id) own) f others) fullness
    ∙ ap (λ (o : ℕ). rest (first_taken_address (other_addresses c id) own) (is_new && nat_le c.limits.documents (length c.documents)) o) lengths

-- the other documents, by their entries
abbrev pub others-of : List Row → DocId → List Row
others-of es id = filter (λ e. not (same_id id e.0)) es

pub others-held : (es : List Row) (limits : Limits) (last : ℕ) (id : DocId) → without_document stored_id (contents_view es limits last).documents id ≡ map stored_view (others-of es id)
others-held es limits last id = sym (map-filtered stored_view (λ (e : Row). not (same_id id e.0)) (λ (h : StoredDocument). not (same_id id h.id)) (λ e. refl) es)

other-uris : (es : List Row) (limits : Limits) (last : ℕ) (id : DocId) → other_addresses (contents_view es limits last) id ≡ flat_map entry_addresses (others-of es id)
other-uris es limits last id =
    let uris : StoredDocument → List (List ℕ) = λ h. document_addresses h.id.auid h.tree in
    ap (flat_map uris) (others-held es limits last id) ∙ flat_map-map uris stored_view (others-of es id)

other-lens : (es : List Row) (limits : Limits) (last : ℕ) (id : DocId) → total_len_of_others (contents_view es limits last) id ≡ sum_by entry_len (others-of es id)
other-lens es limits last id =
    let len : StoredDocument → ℕ = λ h. document_len h.tree in
    ap (sum_by len) (others-held es limits last id) ∙ sum-mapped len stored_view (others-of es id)

-- ---- a new document

all-others : (es : List Row) → AllByRecursion (λ e. is_held_by_other None (Some (entry_number e)) ≡ true) es
all-others [] = tt
all-others (e ∷ es) = (refl, all-others es)

pub against-new : (es : List Row) (rs : List (List ℕ × ℕ)) (limits : Limits) (last total : ℕ) (id : DocId) (t : Tree) → IsConsistentStore es rs limits last total → lookup (same_id id) es ≡ None
    → refusal_from_checks (position (λ uri. is_held_by_other None (registered_number rs uri)) (document_addresses id.auid t)) (min (document_len t) 18446744073709551615) (nat_le limits.documents (length es)) total limits.bytes ≡ refusal_in_store (contents_view es limits last) id true t
against-new es rs limits last total id t s missing =
    let all : others-of es id ≡ es = none-filtered (λ (e : Row). same_id id e.0) es (none-found (same_id id) es missing) in
    found-so (contents_view es limits last) id true t (λ uri. is_held_by_other None (registered_number rs uri)) (nat_le limits.documents (length es)) total
    (λ uri. ap (λ (us : List (List ℕ)). is_member bytes_eq us uri) (other-uris es limits last id ∙ ap (flat_map entry_addresses) all) ∙ sym (others-hold entry_addresses entry_number None es uri (all-others es)) ∙ ap (λ (o : Option ℕ). is_held_by_other None o) (sym (s.addresses uri)))
    (ap (λ (n : ℕ). nat_le limits.documents n) (sym (length-map es stored_view)))
    (s.sum ∙ sym (other-lens es limits last id ∙ ap (sum_by entry_len) all))

-- ---- a stored document

numbers-apart : (es : List Row) (v : Row) (before behind : List Row) → es ≡ before ++ v ∷ behind → AreDistinct (map entry_number es) → AllByRecursion (λ e. is_held_by_other (Some (entry_number v)) (Some (entry_number e)) ≡ true) (before ++ behind)
numbers-apart es v before behind parts apart =
    let n = entry_number v in
    let Q : ℕ → Type 0 = λ t. n ≢ t in
    let R : Row → Type 0 = λ e. n ≢ entry_number e in
    let S : Row → Type 0 = λ e. is_held_by_other (Some n) (Some (entry_number e)) ≡ true in
    let split : AreDistinct (map entry_number before ++ n ∷ map entry_number behind) = subst (λ (ns : List ℕ). AreDistinct ns) (ap (map entry_number) parts ∙ map-append entry_number before (v ∷ behind)) apart in
    each-append S before behind
    (each-weaker R S (λ e h. is-other n (entry_number e) h) before (each-unmapped Q entry_number before (apart-before (map entry_number before) (map entry_number behind) n split)))
    (each-weaker R S (λ e h. is-other n (entry_number e) h) behind (each-unmapped Q entry_number behind (apart-behind (map entry_number before) (map entry_number behind) n split)))

others-round : (es : List Row) (id : DocId) (v : Entry) (r : Around es id v) → others-of es id ≡ r.before ++ r.behind
others-round es id v r = ap (λ (ds : List Row). others-of ds id) r.parts ∙ one-filtered (λ (e : Row). same_id id e.0) r.before r.behind (id, v) r.none-before r.passes r.none-behind

-- the total without a document
pub total-without : (es : List Row) (rs : List (List ℕ × ℕ)) (limits : Limits) (last total : ℕ) (id : DocId) (v : Entry) → IsConsistentStore es rs limits last total → lookup (same_id id) es ≡ Some v → total ≡ sum_by entry_len (others-of es id) + document_len v.tree.root
total-without es rs limits last total id v s found =
    let r = around-of es rs limits last total id v s found in
    omega (arith, s.sum, ap (sum_by entry_len) r.parts, sum-put entry_len r.before (id, v) r.behind, ap (sum_by entry_len) (others-round es id v r))

module _ (es : List Row) (rs : List (List ℕ × ℕ)) (limits : Limits) (last total : ℕ) (id : DocId) (v : Entry) (s : IsConsistentStore es rs limits last total) (found : lookup (same_id id) es ≡ Some v) where
  abbrev is-first_taken_address : List ℕ → Bool
  is-first_taken_address uri = is_held_by_other (Some v.created) (registered_number rs uri)

  abbrev round : Around es id v
  round = around-of es rs limits last total id v s found

  apart-round : AreDistinct (flat_map entry_addresses (round.before ++ (id, v) ∷ round.behind))
  apart-round = subst (λ (ds : List Row). AreDistinct (flat_map entry_addresses ds)) round.parts (known-of es rs limits last total s).services

  others-numbered : AllByRecursion (λ e. is_held_by_other (Some v.created) (Some (entry_number e)) ≡ true) (round.before ++ round.behind)
  others-numbered = numbers-apart es (id, v) round.before round.behind round.parts s.numbers

  held-round : (uri : List ℕ) → address_holder (round.before ++ (id, v) ∷ round.behind) uri ≡ registered_number rs uri
  held-round uri = ap (λ (ds : List Row). address_holder ds uri) (sym round.parts) ∙ sym (s.addresses uri)

  pub against-held : (t : Tree)
      → refusal_from_checks (position is-first_taken_address (document_addresses id.auid t)) (min (document_len t) 18446744073709551615) false (total - document_len v.tree.root) limits.bytes ≡ refusal_in_store (contents_view es limits last) id false t
  against-held t =
      found-so (contents_view es limits last) id false t is-first_taken_address false (total - document_len v.tree.root)
      (λ uri.
      ap (λ (us : List (List ℕ)). is_member bytes_eq us uri) (other-uris es limits last id ∙ ap (flat_map entry_addresses) (others-round es id v round))
      ∙ sym (others-hold-beside entry_addresses entry_number round.before round.behind (id, v) uri apart-round others-numbered)
      ∙ ap (λ (o : Option ℕ). is_held_by_other (Some v.created) o) (held-round uri))
      refl
      (omega (arith, total-without es rs limits last total id v s found, other-lens es limits last id))

  -- no address of the document is another document's
  own-untaken : AllByRecursion (λ uri. is-first_taken_address uri ≡ false) (document_addresses id.auid v.tree.root)
  own-untaken =
      each-weaker (λ (uri : List ℕ). is_held_by_other (Some v.created) (address_holder (round.before ++ (id, v) ∷ round.behind) uri) ≡ false) (λ (uri : List ℕ). is-first_taken_address uri ≡ false)
      (λ uri h. ap (λ (o : Option ℕ). is_held_by_other (Some v.created) o) (sym (held-round uri)) ∙ h)
      (document_addresses id.auid v.tree.root) (own-free entry_addresses entry_number round.before round.behind (id, v) apart-round others-numbered)

  -- so where it replaces some, the first taken one is among the added ones
  pub first-first_taken_address : (t : Tree) (place : ℕ) (leaves enters : List (List ℕ)) → AreReplacedAt place (document_addresses id.auid v.tree.root) leaves enters (document_addresses id.auid t)
      → option_map (λ i. max place i) (position is-first_taken_address enters) ≡ position is-first_taken_address (document_addresses id.auid t)
  first-first_taken_address t place leaves enters x =
      let none = subst (λ (us : List (List ℕ)). AllByRecursion (λ uri. is-first_taken_address uri ≡ false) us) x.was own-untaken in
      let P : List ℕ → Type 0 = λ uri. is-first_taken_address uri ≡ false in
      sym (ap (position is-first_taken_address) x.becomes
      ∙ first-among is-first_taken_address place x.before enters x.behind (each-left P x.before (leaves ++ x.behind) none) (each-right P leaves x.behind (each-right P x.before (leaves ++ x.behind) none)) x.come)

-- ---- what a store finds about a tree, and about the other documents

pub total-small : (es : List Row) (rs : List (List ℕ × ℕ)) (limits : Limits) (last total : ℕ) → IsConsistentStore es rs limits last total → total ≤ 1152921504606846976
total-small es rs limits last total s = omega (arith, s.sum, (known-of es rs limits last total s).room, (known-of es rs limits last total s).countable)

module _ (es : List Row) (rs : List (List ℕ × ℕ)) (limits : Limits) (last total : ℕ) (room : SpareCapacity) (s : StoreView) (doc : DocId) (seen : (let x : StoreView = record { content = contents_view es limits last; room = room } in x) ≡ s) (storing : IsConsistentStore es rs limits last total) where
  pub new-answer : (t : Tree) (uris : List (List ℕ)) (place : Option ℕ) (len : ℕ) → find_document stored_id s.content.documents doc ≡ None → uris ≡ document_addresses doc.auid t
      → place ≡ position (λ uri. is_held_by_other None (registered_number rs uri)) uris → len ≡ min (document_len t) 18446744073709551615 → refusal_from_checks place len (nat_le limits.documents (length es)) total limits.bytes ≡ refusal_in_store s.content doc true t
  new-answer t uris place len missing own at counted =
      let absent = absent-entry es rs limits last total doc storing (subst (λ (x : StoreView). find_document stored_id x.content.documents doc ≡ None) (sym seen) missing) in
      let test : List ℕ → Bool = λ uri. is_held_by_other None (registered_number rs uri) in
      ap (λ (o : Option ℕ). refusal_from_checks o len (nat_le limits.documents (length es)) total limits.bytes) (at ∙ ap (λ (us : List (List ℕ)). position test us) own)
      ∙ ap (λ (n : ℕ). refusal_from_checks (position test (document_addresses doc.auid t)) n (nat_le limits.documents (length es)) total limits.bytes) counted
      ∙ against-new es rs limits last total doc t storing absent
      ∙ ap (λ (x : StoreView). refusal_in_store x.content doc true t) seen

  module _ (v : Entry) (found : Some v ≡ lookup (same_id doc) es) where
    len-here : v.len ≡ document_len v.tree.root
    len-here = len-of es rs limits last total doc v storing (sym found)

    held-tree : (h : StoredDocument) → find_document stored_id s.content.documents doc ≡ Some h → h.tree ≡ v.tree.root
    held-tree h is =
        let r = around-of es rs limits last total doc v storing (sym found) in
        ap (λ (x : StoredDocument). x.tree) (one-held es doc v h r (subst (λ (x : StoreView). find_document stored_id x.content.documents doc ≡ Some h) (sym seen) is))

    pub edit-answer : (h : StoredDocument) (t : Tree) (leaves uris : List (List ℕ)) (first len : ℕ) (place : Option ℕ) → find_document stored_id s.content.documents doc ≡ Some h
        → AreReplacedAt first (document_addresses doc.auid h.tree) leaves uris (document_addresses doc.auid t)
        → place ≡ option_map (λ i. max first i) (position (λ uri. is_held_by_other (Some v.created) (registered_number rs uri)) uris)
        → len ≡ min (document_len t) 18446744073709551615 → refusal_from_checks place len false (total - v.len) limits.bytes ≡ refusal_in_store s.content doc false t
    edit-answer h t leaves uris first len place is exchanged at counted =
        let test : List ℕ → Bool = λ uri. is_held_by_other (Some v.created) (registered_number rs uri) in
        let here = subst (λ (x : Tree). AreReplacedAt first (document_addresses doc.auid x) leaves uris (document_addresses doc.auid t)) (held-tree h is) exchanged in
        ap (λ (o : Option ℕ). refusal_from_checks o len false (total - v.len) limits.bytes) (at ∙ first-first_taken_address es rs limits last total doc v storing (sym found) t first leaves uris here)
        ∙ ap (λ (n : ℕ). refusal_from_checks (position test (document_addresses doc.auid t)) n false (total - v.len) limits.bytes) counted
        ∙ ap (λ (n : ℕ). refusal_from_checks (position test (document_addresses doc.auid t)) (min (document_len t) 18446744073709551615) false (total - n) limits.bytes) len-here
        ∙ against-held es rs limits last total doc v storing (sym found) t
        ∙ ap (λ (x : StoreView). refusal_in_store x.content doc false t) seen

    pub held-as : IsStoredAs s.content doc v
    held-as =
        let r = around-of es rs limits last total doc v storing (sym found) in
        subst (λ (x : StoreView). IsStoredAs x.content doc v) seen (stored_view (doc, v), held-found es doc v r, refl, refl, len-here)

    pub no-longer : v.len ≤ total
    no-longer = omega (arith, len-here, total-without es rs limits last total doc v storing (sym found))

    pub others-are : total - v.len ≡ total_len_of_others s.content doc
    others-are =
        let here : total - v.len ≡ total_len_of_others (contents_view es limits last) doc = omega (arith, len-here, total-without es rs limits last total doc v storing (sym found), other-lens es limits last doc) in
        here ∙ ap (λ (x : StoreView). total_len_of_others x.content doc) seen

    pub whole-is : IsSomeAnd (find_document stored_id s.content.documents doc) (λ h. (total - v.len) + document_len h.tree ≡ total_len s.content)
    whole-is =
        let r = around-of es rs limits last total doc v storing (sym found) in
        let n : (total - v.len) + document_len v.tree.root ≡ total_len (contents_view es limits last) =
        omega (arith, len-here, total-without es rs limits last total doc v storing (sym found), storing.sum, total-is es limits last) in
        subst (λ (x : StoreView). IsSomeAnd (find_document stored_id x.content.documents doc) (λ h. (total - v.len) + document_len h.tree ≡ total_len x.content)) seen
        (subst (λ (o : Option StoredDocument). IsSomeAnd o (λ h. (total - v.len) + document_len h.tree ≡ total_len (contents_view es limits last))) (sym (held-found es doc v r)) n)

-- ---- what is returned

pub refused-first : (a b : Option StoreRefusal) (e : StoreRefusal) (note : Note) (next : Content) → a ≡ Some e → refusal_or (or_else a b) note next ≡ Err e
refused-first a b e note next h = ap (λ (o : Option StoreRefusal). refusal_or (or_else o b) note next) h

pub refused-last : (a b : Option StoreRefusal) (e : StoreRefusal) (note : Note) (next : Content) → a ≡ None → b ≡ Some e → refusal_or (or_else a b) note next ≡ Err e
refused-last a b e note next h g = ap (λ (o : Option StoreRefusal). refusal_or (or_else o b) note next) h ∙ ap (λ (o : Option StoreRefusal). refusal_or o note next) g

pub not-refused-at-all : (a b : Option StoreRefusal) (note : Note) (next : Content) → a ≡ None → b ≡ None → refusal_or (or_else a b) note next ≡ Ok (note, next)
not-refused-at-all a b note next h g = ap (λ (o : Option StoreRefusal). refusal_or (or_else o b) note next) h ∙ ap (λ (o : Option StoreRefusal). refusal_or o note next) g
