-- What an edit does to the service addresses of a document: the removed ones and the added ones
-- are between the same others.
use Rattle.std.proofs.Common.{◌≡◌, ℕ, zero, suc, ◌≤◌, Bool, true, false, cond, List, [], ◌∷◌, ◌++◌, length, take, drop, Option, None, Some, IsSome, IsSomeAnd, option_and_then, option_to_list, refl, sym, ap, subst, ◌∙◌, arith}
use Rattle.std.proofs.lemmas.List.{append-nil, length-take-le, take-append-drop}
use Rattle.std.proofs.lemmas.List.Elements.{filter_map-append}
use Rattle.std.specs.List.{AllByRecursion, cons_option, filter_map, slice_get}
use Rattle.std.specs.Option.{option_map_or}
use Rattle.doc_names.specs.Usages.{usage_of}
use Rattle.doc_names.specs.declared.doc_id.Auid.{Auid}
use Rattle.doc_names.specs.declared.doc_id.Auid.TheVariants.{ResourceLists, RlsServices as RlsUsage, XcapCaps}
use Rattle.doc_names.specs.declared.usages.Usage.TheVariants as usages
use Rattle.edit_ops.specs.Changes.{FitsTree, edited}
use Rattle.edit_ops.specs.declared.change.Change.{Change}
use Rattle.edit_ops.specs.declared.change.Change.TheVariants.{CreateDocument, Insert, Replace, Remove, SetAttr, DropAttr, RemoveDocument}
use Rattle.xml_names.specs.Attributes.{change_item}
use Rattle.xml_tree.specs.Edits.{change_at, change_child, cut_child, drop_attr, last_number, parent_path, put_kid, set_attr_value}
use Rattle.xml_tree.specs.Proper.{IsProperPart, IsProperTree}
use Rattle.xml_tree.specs.TreeScopes.{inside}
use Rattle.xml_tree.specs.Tree.{Tree, at, child_elements_of}
use Rattle.xml_names.specs.declared.names.Name.{Name}
use Rattle.xml_tree.proofs.EverywhereLaws.{Everywhere-child_element}
use Rattle.xml_tree.proofs.PlaceLaws.{child_elements-change_element, child_elements-cut, child_elements-put}
use Rattle.usage_docs.specs.KeyAttributes.{value_of}
use Rattle.usage_docs.specs.SchemaTable.{Scope}
use Rattle.usage_docs.specs.Services.{service_uri, service_uris}
use Rattle.usage_docs.specs.Validity.{IsValidDocument}
use Rattle.usage_docs.specs.declared.schema_table.Key.TheVariants.{Uri}
use Rattle.store_core.specs.ChangePreconditions.{MayBeDocumentFor}
use Rattle.store_core.specs.ValidStates.{IsSoundDocumentFor, document_addresses}
use Rattle.store_core.specs.inner.Addresses.{AreReplacedAt, AreAddedAt, service_address, service_address_at, added_addresses_of, first_added_number, is_uri_name, removed_addresses_of, added_service_addresses, removed_service_addresses}
use Rattle.store_core.proofs.DistinctItems.{each-left, each-right}
use Rattle.store_core.proofs.Uris.{Serves, all-serve, other-dropped, other-written, uri-dropped, uri-of, uri-written}

abbrev Uris : Type 0
Uris = List (List ℕ)

-- ---- lists

module _ {X : Type 0} where
  parted : (xs : List X) (i : ℕ) (x : X) → slice_get xs i ≡ Some x → xs ≡ take i xs ++ x ∷ drop (suc i) xs
  parted [] i x h = cc
  parted (y ∷ xs) zero x h = let same : y ≡ x = cc in ap (λ z. z ∷ xs) same
  parted (y ∷ xs) (suc i) x h = ap (λ zs. y ∷ zs) (parted xs i x h)

  changed : (xs : List X) (i : ℕ) (x : X) (f : X → X) → slice_get xs i ≡ Some x → change_item i f xs ≡ take i xs ++ f x ∷ drop (suc i) xs
  changed [] i x f h = cc
  changed (y ∷ xs) zero x f h = let same : y ≡ x = cc in ap (λ z. f z ∷ xs) same
  changed (y ∷ xs) (suc i) x f h = ap (λ zs. y ∷ zs) (changed xs i x f h)

  before-it : (xs : List X) (i : ℕ) (x : X) → slice_get xs i ≡ Some x → length (take i xs) ≡ i
  before-it [] i x h = cc
  before-it (y ∷ xs) zero x h = refl
  before-it (y ∷ xs) (suc i) x h = ap suc (before-it xs i x h)

first-uri : (o : Option (List ℕ)) (us : Uris) → cons_option o us ≡ option_to_list o ++ us
first-uri None us = refl
first-uri (Some u) us = refl

-- ---- replaced addresses

comes-one : (place n : ℕ) (o : Option (List ℕ)) → n ≡ place → AreAddedAt place n (option_to_list o)
comes-one place n None e = tt
comes-one place n (Some u) e = e

come-all : (us : Uris) → AreAddedAt 0 0 us
come-all [] = tt
come-all (u ∷ []) = refl
come-all (u ∷ v ∷ us) = (refl, refl)

all-exchanged : (old new : Uris) → AreReplacedAt 0 old old new new
all-exchanged old new = record { before = []; behind = []; was = sym (append-nil old); becomes = sym (append-nil new); come = come-all new }

none-exchanged : (place : ℕ) (old new : Uris) → old ≡ new → AreReplacedAt place old [] [] new
none-exchanged place old new e = record { before = []; behind = old; was = refl; becomes = sym e; come = tt }

-- where none is added the place doesn't matter
any-place : (n place : ℕ) (old leaves new : Uris) → AreReplacedAt n old leaves [] new → AreReplacedAt place old leaves [] new
any-place n place old leaves new r = record { before = r.before; behind = r.behind; was = r.was; becomes = r.becomes; come = tt }

none-either : (b : Bool) (place : ℕ) (old new : Uris) → old ≡ new → AreReplacedAt place old (cond b [] []) (cond b [] []) new
none-either true place old new e = none-exchanged place old new e
none-either false place old new e = none-exchanged place old new e

-- ---- services

module _ (c : Scope) where
  uris : List Tree → Uris
  uris es = filter_map (service_uri c) es

  abbrev Serve : List Tree → Type 0
  Serve es = AllByRecursion (Serves c) es

  counted : (es : List Tree) → Serve es → length (uris es) ≡ length es
  unfolding uris
  counted [] h = refl
  counted (e ∷ es) h = ap (λ (o : Option (List ℕ)). length (cons_option o (uris es))) (uri-of c e h.0 ∙ h.0.1.1) ∙ ap suc (counted es h.1)

  joined : (xs ys : List Tree) → uris (xs ++ ys) ≡ uris xs ++ uris ys
  unfolding uris
  joined xs ys = filter_map-append (service_uri c) xs ys

  begun : (e : Tree) (es : List Tree) → Serves c e → uris (e ∷ es) ≡ service_address e ++ uris es
  unfolding uris
  begun e es h = first-uri (service_uri c e) (uris es) ∙ ap (λ (o : Option (List ℕ)). option_to_list o ++ uris es) (uri-of c e h)

  around : (xs ys : List Tree) (e : Tree) → Serves c e → uris (xs ++ e ∷ ys) ≡ uris xs ++ (service_address e ++ uris ys)
  around xs ys e h = joined xs (e ∷ ys) ∙ ap (λ (us : Uris). uris xs ++ us) (begun e ys h)

  module _ (xs ys ks ls : List Tree) (place : ℕ) (count : length xs ≡ place) (old : Serve ks) (new : Serve ls) where
    before-of : (rest : List Tree) → ks ≡ xs ++ rest → length (uris xs) ≡ place
    before-of rest e = counted xs (each-left (Serves c) xs rest (subst Serve e old)) ∙ count

    of-them : (e : Tree) (es : List Tree) → es ≡ xs ++ e ∷ ys → Serve es → Serves c e
    of-them e es is h = (each-right (Serves c) xs (e ∷ ys) (subst Serve is h)).0

    one-more : (m : Tree) → ks ≡ xs ++ ys → ls ≡ xs ++ m ∷ ys → AreReplacedAt place (uris ks) [] (service_address m) (uris ls)
    one-more m e g = record {
      before = uris xs;
      behind = uris ys;
      was = ap uris e ∙ joined xs ys;
      becomes = ap uris g ∙ around xs ys m (of-them m ls g new);
      come = comes-one place (length (uris xs)) (value_of Uri m.attrs) (before-of ys e);
    }

    one-less : (k : Tree) → ks ≡ xs ++ k ∷ ys → ls ≡ xs ++ ys → AreReplacedAt place (uris ks) (service_address k) [] (uris ls)
    one-less k e g = record {
      before = uris xs;
      behind = uris ys;
      was = ap uris e ∙ around xs ys k (of-them k ks e old);
      becomes = ap uris g ∙ joined xs ys;
      come = tt;
    }

    one-changed : (k m : Tree) → ks ≡ xs ++ k ∷ ys → ls ≡ xs ++ m ∷ ys → AreReplacedAt place (uris ks) (service_address k) (service_address m) (uris ls)
    one-changed k m e g = record {
      before = uris xs;
      behind = uris ys;
      was = ap uris e ∙ around xs ys k (of-them k ks e old);
      becomes = ap uris g ∙ around xs ys m (of-them m ls g new);
      come = comes-one place (length (uris xs)) (value_of Uri m.attrs) (before-of (k ∷ ys) e);
    }

    same-service_address : (k m : Tree) → ks ≡ xs ++ k ∷ ys → ls ≡ xs ++ m ∷ ys → value_of Uri m.attrs ≡ value_of Uri k.attrs → uris ks ≡ uris ls
    same-service_address k m e g same =
        ap uris e ∙ around xs ys k (of-them k ks e old)
        ∙ ap (λ (o : Option (List ℕ)). uris xs ++ (option_to_list o ++ uris ys)) (sym same)
        ∙ sym (ap uris g ∙ around xs ys m (of-them m ls g new))

-- ---- an edit of a valid document

there-below : {A : Type 0} (f : Tree → Option A) (o : Option Tree) → IsSome (option_and_then f o) → (k : Tree) × (o ≡ Some k)
there-below f None h = cc
there-below f (Some k) h = (k, refl)

there-with : (f : Tree → Option Tree) (o : Option Tree) (P : Tree → Type 0) → IsSomeAnd (option_and_then f o) P → (k : Tree) × (o ≡ Some k)
there-with f None P h = absurd h
there-with f (Some k) P h = (k, refl)

some-before : {A : Type 0} (f : Tree → Option A) (o : Option Tree) → IsSome (option_and_then f o) → IsSome o
some-before f None h = h
some-before f (Some e) h = refl

-- a change further down keeps the attributes
same-attrs : (q : List ℕ) (g : Tree → Tree) → ((e : Tree) → (g e).attrs ≡ e.attrs) → (k : Tree) → (change_at q g k).attrs ≡ k.attrs
same-attrs [] g h k = h k
same-attrs (n ∷ q) g h k = refl

module _ (t : Tree) (i : ℕ) (k : Tree) (there : slice_get (child_elements_of t) i ≡ Some k) (old : IsValidDocument usages.RlsServices t) where
  abbrev SharedRoot : Scope
  SharedRoot = t.decls ∷ []

  abbrev front-child_elements : List Tree
  front-child_elements = take i (child_elements_of t)

  abbrev rest-child_elements : List Tree
  rest-child_elements = drop (suc i) (child_elements_of t)

  service_address-there : service_address_at t (i ∷ []) ≡ service_address k
  service_address-there = ap (λ (o : Option Tree). option_map_or service_address o []) there

  module _ (f : Tree → Tree) (new : IsValidDocument usages.RlsServices (change_child i f t)) where
    child_elements-then : child_elements_of (change_child i f t) ≡ front-child_elements ++ f k ∷ rest-child_elements
    child_elements-then = child_elements-change_element i f t.content ∙ changed (child_elements_of t) i k f there

    exchanged-child_element : AreReplacedAt i (service_uris t) (service_address k) (service_address (f k)) (service_uris (change_child i f t))
    unfolding uris
    exchanged-child_element =
        one-changed SharedRoot front-child_elements rest-child_elements (child_elements_of t) (child_elements_of (change_child i f t)) i (before-it (child_elements_of t) i k there) (all-serve t old) (all-serve (change_child i f t) new)
        k (f k) (parted (child_elements_of t) i k there) child_elements-then

    kept-child_element : value_of Uri (f k).attrs ≡ value_of Uri k.attrs → service_uris t ≡ service_uris (change_child i f t)
    unfolding uris
    kept-child_element same =
        same-service_address SharedRoot front-child_elements rest-child_elements (child_elements_of t) (child_elements_of (change_child i f t)) i (before-it (child_elements_of t) i k there) (all-serve t old) (all-serve (change_child i f t) new)
        k (f k) (parted (child_elements_of t) i k there) child_elements-then same

    kept-attrs : (f k).attrs ≡ k.attrs → service_uris t ≡ service_uris (change_child i f t)
    kept-attrs same = kept-child_element (ap (value_of Uri) same)

    served : Serves SharedRoot (f k)
    served = of-child_element (all-serve (change_child i f t) new) child_elements-then
      where
        of-child_element : AllByRecursion (Serves SharedRoot) (child_elements_of (change_child i f t)) → child_elements_of (change_child i f t) ≡ front-child_elements ++ f k ∷ rest-child_elements → Serves SharedRoot (f k)
        of-child_element all is = (each-right (Serves SharedRoot) front-child_elements (f k ∷ rest-child_elements) (subst (λ (es : List Tree). AllByRecursion (Serves SharedRoot) es) is all)).0

  removed-child_element : IsValidDocument usages.RlsServices (cut_child i t) → AreReplacedAt i (service_uris t) (service_address k) [] (service_uris (cut_child i t))
  unfolding uris
  removed-child_element new =
      one-less SharedRoot front-child_elements rest-child_elements (child_elements_of t) (child_elements_of (cut_child i t)) i (before-it (child_elements_of t) i k there) (all-serve t old) (all-serve (cut_child i t) new)
      k (parted (child_elements_of t) i k there) (child_elements-cut i t.content)

inserted-child_element : (t : Tree) (gap : ℕ) (e : Tree) → gap ≤ length (child_elements_of t) → IsValidDocument usages.RlsServices t → IsValidDocument usages.RlsServices (put_kid gap e t)
    → AreReplacedAt gap (service_uris t) [] (service_address e) (service_uris (put_kid gap e t))
unfolding uris
inserted-child_element t gap e within old new =
    one-more (t.decls ∷ []) (take gap (child_elements_of t)) (drop gap (child_elements_of t)) (child_elements_of t) (child_elements_of (put_kid gap e t)) gap (length-take-le gap (child_elements_of t) within) (all-serve t old) (all-serve (put_kid gap e t) new)
    e (sym (take-append-drop gap (child_elements_of t))) (child_elements-put gap e t.content within)

-- an attribute of a service
module _ (t : Tree) (i : ℕ) (k : Tree) (there : slice_get (child_elements_of t) i ≡ Some k) (old : IsValidDocument usages.RlsServices t) (n : Name) where
  written-child_element : (v : List ℕ) (b : Bool) → is_uri_name n ≡ b → IsValidDocument usages.RlsServices (change_child i (set_attr_value n v) t)
      → AreReplacedAt i (service_uris t) (cond b (service_address_at t (i ∷ [])) []) (cond b (v ∷ []) []) (service_uris (change_child i (set_attr_value n v) t))
  written-child_element v true e new =
      let f = set_attr_value n v in
      let after = service_uris (change_child i f t) in
      subst (λ (us : Uris). AreReplacedAt i (service_uris t) us (v ∷ []) after) (sym (service_address-there t i k there old))
      (subst (λ (o : Option (List ℕ)). AreReplacedAt i (service_uris t) (service_address k) (option_to_list o) after) (uri-written n v e k.attrs) (exchanged-child_element t i k there old f new))
  written-child_element v false e new =
      let f = set_attr_value n v in
      none-exchanged i (service_uris t) (service_uris (change_child i f t)) (kept-child_element t i k there old f new (other-written n v e k.attrs))

  nothing : (o : Option (List ℕ)) (uri : List ℕ) → o ≡ None → o ≡ Some uri → ⊥
  nothing o uri none some = let z : None ≡ Some uri = sym none ∙ some in cc

  dropped-child_element : IsProperTree [] t → (b : Bool) → is_uri_name n ≡ b → IsValidDocument usages.RlsServices (change_child i (drop_attr n) t) → service_uris t ≡ service_uris (change_child i (drop_attr n) t)
  dropped-child_element proper true e new =
      let f = drop_attr n in
      let tag = (Everywhere-child_element IsProperPart (t.decls ∷ []) i t.content k there proper.1).0 in
      let then : Serves (t.decls ∷ []) (f k) = served t i k there old f new in
      absurd (nothing (value_of Uri (f k).attrs) then.1.0 (uri-dropped (inside (t.decls ∷ []) k) n k.attrs e tag.names) then.1.1)
  dropped-child_element proper false e new = kept-child_element t i k there old (drop_attr n) new (other-dropped n e k.attrs)

services-exchanged : (t : Tree) (change : Change) → FitsTree t change → IsProperTree [] t → IsValidDocument usages.RlsServices t → IsValidDocument usages.RlsServices (edited t change)
    → AreReplacedAt (first_added_number change) (service_uris t) (removed_service_addresses t change) (added_service_addresses change) (service_uris (edited t change))
services-exchanged t (CreateDocument root) fits proper old new = absurd fits
services-exchanged t (Insert [] gap e) fits proper old new = inserted-child_element t gap e fits old new
services-exchanged t (Insert (i ∷ q) gap e) fits proper old new =
    let child_element = there-with (at q) (slice_get (child_elements_of t) i) (λ x. gap ≤ length (child_elements_of x)) fits in
    none-exchanged gap (service_uris t) (service_uris (edited t (Insert (i ∷ q) gap e)))
    (kept-attrs t i child_element.0 child_element.1 old (change_at q (put_kid gap e)) new (same-attrs q (put_kid gap e) (λ x. refl) child_element.0))
services-exchanged t (Replace [] e) fits proper old new = all-exchanged (service_uris t) (service_uris e)
services-exchanged t (Replace (i ∷ []) e) fits proper old new =
    let child_element = there-below (at []) (slice_get (child_elements_of t) i) fits in
    subst (λ (us : Uris). AreReplacedAt i (service_uris t) us (service_address e) (service_uris (edited t (Replace (i ∷ []) e)))) (sym (service_address-there t i child_element.0 child_element.1 old))
    (exchanged-child_element t i child_element.0 child_element.1 old (λ _. e) new)
services-exchanged t (Replace (i ∷ j ∷ q) e) fits proper old new =
    let child_element = there-below (at (j ∷ q)) (slice_get (child_elements_of t) i) fits in
    none-exchanged i (service_uris t) (service_uris (edited t (Replace (i ∷ j ∷ q) e))) (kept-attrs t i child_element.0 child_element.1 old (change_at (j ∷ q) (λ _. e)) new refl)
services-exchanged t (Remove []) fits proper old new = absurd (omega (arith, fits.0))
services-exchanged t (Remove (i ∷ [])) fits proper old new =
    let child_element = there-below (at []) (slice_get (child_elements_of t) i) fits.1 in
    subst (λ (us : Uris). AreReplacedAt 0 (service_uris t) us [] (service_uris (cut_child i t))) (sym (service_address-there t i child_element.0 child_element.1 old))
    (any-place i 0 (service_uris t) (service_address child_element.0) (service_uris (cut_child i t)) (removed-child_element t i child_element.0 child_element.1 old new))
services-exchanged t (Remove (i ∷ j ∷ q)) fits proper old new =
    let child_element = there-below (at (j ∷ q)) (slice_get (child_elements_of t) i) fits.1 in
    let f = cut_child (last_number (j ∷ q)) in
    none-exchanged 0 (service_uris t) (service_uris (edited t (Remove (i ∷ j ∷ q))))
    (kept-attrs t i child_element.0 child_element.1 old (change_at (parent_path (j ∷ q)) f) new (same-attrs (parent_path (j ∷ q)) f (λ x. refl) child_element.0))
services-exchanged t (SetAttr [] n v) fits proper old new = none-either (is_uri_name n) 0 (service_uris t) (service_uris t) refl
services-exchanged t (SetAttr (i ∷ []) n v) fits proper old new =
    let child_element = there-below (at []) (slice_get (child_elements_of t) i) fits in
    written-child_element t i child_element.0 child_element.1 old n v (is_uri_name n) refl new
services-exchanged t (SetAttr (i ∷ j ∷ q) n v) fits proper old new =
    let child_element = there-below (at (j ∷ q)) (slice_get (child_elements_of t) i) fits in
    none-either (is_uri_name n) i (service_uris t) (service_uris (edited t (SetAttr (i ∷ j ∷ q) n v)))
    (kept-attrs t i child_element.0 child_element.1 old (change_at (j ∷ q) (set_attr_value n v)) new refl)
services-exchanged t (DropAttr [] n) fits proper old new = none-exchanged 0 (service_uris t) (service_uris t) refl
services-exchanged t (DropAttr (i ∷ []) n) fits proper old new =
    let child_element = there-below (at []) (slice_get (child_elements_of t) i) (some-before _ (at (i ∷ []) t) fits) in
    none-exchanged 0 (service_uris t) (service_uris (edited t (DropAttr (i ∷ []) n))) (dropped-child_element t i child_element.0 child_element.1 old n proper (is_uri_name n) refl new)
services-exchanged t (DropAttr (i ∷ j ∷ q) n) fits proper old new =
    let child_element = there-below (at (j ∷ q)) (slice_get (child_elements_of t) i) (some-before _ (at (i ∷ j ∷ q) t) fits) in
    none-exchanged 0 (service_uris t) (service_uris (edited t (DropAttr (i ∷ j ∷ q) n)))
    (kept-attrs t i child_element.0 child_element.1 old (change_at (j ∷ q) (drop_attr n)) new refl)
services-exchanged t RemoveDocument fits proper old new = absurd fits

-- of any application usage
pub exchanged-by : (auid : Auid) (t : Tree) (change : Change) → FitsTree t change → IsSoundDocumentFor (usage_of auid) t → MayBeDocumentFor (usage_of auid) (edited t change)
    → AreReplacedAt (first_added_number change) (document_addresses auid t) (removed_addresses_of auid t change) (added_addresses_of auid change) (document_addresses auid (edited t change))
exchanged-by ResourceLists t change fits sound may = none-exchanged (first_added_number change) [] [] refl
exchanged-by RlsUsage t change fits sound may = services-exchanged t change fits sound.proper sound.faultless.0 may.faultless.0
exchanged-by XcapCaps t change fits sound may = none-exchanged (first_added_number change) [] [] refl
