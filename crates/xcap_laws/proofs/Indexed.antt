-- The index of services has exactly the services of the documents that it lists, and each address
-- once.
use Rattle.std.proofs.Common.{◌≡◌, ◌≢◌, ℕ, Bool, true, false, List, [], ◌∷◌, ◌++◌, map, filter, filter_map, flat_map, IsSome, Option, None, Some, refl, sym, ap, ap₂, subst, ◌∙◌}
use Rattle.std.proofs.lemmas.List.Elements.{All-contains, All-from_recursion, Contains-append_left, Contains-append_right, Contains-push, filter_map-append}
use Rattle.std.proofs.lemmas.Option.{same_Some}
use Rattle.std.specs.List.{AllByRecursion, Contains, cons_option}
use Rattle.std.specs.Str.{bytes_eq}
use Rattle.std.specs.declared.cmp.Ordering.{Ordering}
use Rattle.std.specs.declared.cmp.Ordering.TheVariants.{Less, Equal, Greater}
use Rattle.xml_tree.specs.Tree.{Tree, child_elements_of}
use Rattle.xml_tree.specs.TreeScopes.{inside}
use Rattle.usage_docs.specs.KeyAttributes.{value_of}
use Rattle.usage_docs.specs.SchemaTable.{Scope, kind_of}
use Rattle.usage_docs.specs.Services.{is_service, listed_service, service_elements, service_uri, service_uris}
use Rattle.usage_docs.specs.declared.schema_table.ElementKind.{ElementKind}
use Rattle.usage_docs.specs.declared.schema_table.ElementKind.TheVariants as kinds
use Rattle.usage_docs.specs.declared.schema_table.Key.TheVariants.{Uri}
use Rattle.usage_docs.proofs.ListingLemmas.{kids_of_elems}
use Rattle.doc_names.specs.declared.doc_id.Auid.{Auid}
use Rattle.doc_names.specs.declared.doc_id.Auid.TheVariants.{ResourceLists, RlsServices, XcapCaps}
use Rattle.doc_names.specs.declared.doc_id.Home.{Home}
use Rattle.doc_names.specs.declared.doc_id.Home.TheVariants.{Global, User}
use Rattle.store_core.specs.Contents.{StoredDocument, contents_of, stored_document}
use Rattle.store_core.specs.Indexes.{index, index_entry, entry_if_listed}
use Rattle.store_core.specs.State.{Document, State}
use Rattle.store_core.specs.ValidStates.{AreDistinct, IsValidState, all_addresses, document_addresses}
use Rattle.store_core.proofs.DistinctItems.{apart-cut, apart-middle, each-append, each-left, each-right, each-weaker}
use Rattle.store_core.proofs.ByUser.{index_trees, one-index-trees, some-index-trees}
use Rattle.store_core.proofs.InOrder.{Pair, cmp, each-in-order, in_order, placed, put}
use Rattle.store_core.proofs.Services.{apart-mix}
use Rattle.xcap_machine.specs.Resources.{IsIndexOfServices}
use Rattle.xcap_laws.specs.ServiceIndexes.{IsConsistentIndex, IsListedService, listed_addresses}

-- ---- each of the items

-- each item of a list is in it, and what holds of each item holds of one that is in the list
own : {X : Type 0} (xs : List X) → AllByRecursion (λ x. Contains xs x) xs
own [] = tt
own (x ∷ xs) = (Contains-append_left (x ∷ []) xs x (Contains-push [] x), each-weaker (λ y. Contains xs y) (λ y. Contains (x ∷ xs) y) (λ y there. Contains-append_right (x ∷ []) xs y there) xs (own xs))

item_of : {X : Type 0} (P : X → Type 0) (xs : List X) (x : X) → AllByRecursion P xs → Contains xs x → P x
item_of P xs x all there = All-contains P xs x (All-from_recursion P xs all) there

module _ {X Y : Type 0} (P : Y → Type 0) (f : X → List Y) where
  each-flat : (xs : List X) → AllByRecursion (λ x. AllByRecursion P (f x)) xs → AllByRecursion P (flat_map f xs)
  each-flat [] a = tt
  each-flat (x ∷ xs) a = each-append P (f x) (flat_map f xs) a.0 (each-flat xs a.1)

  flat-each : (xs : List X) → AllByRecursion P (flat_map f xs) → AllByRecursion (λ x. AllByRecursion P (f x)) xs
  flat-each [] a = tt
  flat-each (x ∷ xs) a = (each-left P (f x) (flat_map f xs) a, flat-each xs (each-right P (f x) (flat_map f xs) a))

module _ (P : Pair → Type 0) where
  placed-each : (d : Pair) (es : List Pair) → AllByRecursion P (placed d es) → P d × AllByRecursion P es
  placed-each d [] a = a
  placed-each d (e ∷ es) a = by (cmp d.0 e.0) a (placed-each d es)
    where
      by : (o : Ordering) → AllByRecursion P (put o d e es (placed d es)) → (AllByRecursion P (placed d es) → P d × AllByRecursion P es) → P d × AllByRecursion P (e ∷ es)
      by Less a rest = a
      by Equal a rest = a
      by Greater a rest = let r = rest a.1 in (r.0, (a.0, r.1))

  in-order-each : (ds : List Pair) → AllByRecursion P (in_order ds) → AllByRecursion P ds
  in-order-each [] a = tt
  in-order-each (d ∷ ds) a = let r = placed-each d (in_order ds) a in (r.0, in-order-each ds r.1)

-- ---- the documents that are listed

listed_tree : (auid : Auid) (home : Home) (b : Bool) (t : Tree) (x : Pair) → entry_if_listed auid b home t ≡ Some x → (x.1 ≡ t) × (document_addresses auid t ≡ service_uris t)
listed_tree ResourceLists home b t x h = cc
listed_tree RlsServices home false t x h = cc
listed_tree RlsServices Global true t x h = cc
listed_tree RlsServices (User xui) true t x h = (sym (ap (λ (p : Pair). p.1) (same_Some {A = Pair} (xui, t) x h)), refl)
listed_tree XcapCaps home b t x h = cc

of_listed : (h : StoredDocument) (x : Pair) → index_entry h ≡ Some x → (x.1 ≡ h.tree) × (document_addresses h.id.auid h.tree ≡ service_uris h.tree)
of_listed h x is = listed_tree h.id.auid h.id.home (bytes_eq h.id.name index) h.tree x is

module _ (P : Tree → Type 0) where
  pub listed-each : (hs : List StoredDocument) → AllByRecursion (λ h. IsSome (index_entry h) → P h.tree) hs → AllByRecursion (λ (x : Pair). P x.1) (filter_map index_entry hs)
  listed-each [] a = tt
  listed-each (h ∷ hs) a = by (index_entry h) refl (listed-each hs a.1)
    where
      by : (o : Option Pair) → index_entry h ≡ o → AllByRecursion (λ (x : Pair). P x.1) (filter_map index_entry hs) → AllByRecursion (λ (x : Pair). P x.1) (cons_option o (filter_map index_entry hs))
      by None is rest = rest
      by (Some x) is rest = (subst P (sym (of_listed h x is).0) (a.0 (subst (λ (o : Option Pair). IsSome o) (sym is) refl)), rest)

  pub each-listed : (hs : List StoredDocument) → AllByRecursion (λ (x : Pair). P x.1) (filter_map index_entry hs) → AllByRecursion (λ h. IsSome (index_entry h) → P h.tree) hs
  each-listed [] a = tt
  each-listed (h ∷ hs) a = by (index_entry h) refl a (each-listed hs)
    where
      none : index_entry h ≡ None → IsSome (index_entry h) → P h.tree
      none is some = absurd (let bad : IsSome {T = Pair} None = subst (λ (x : Option Pair). IsSome x) is some in cc)

      by : (o : Option Pair) → index_entry h ≡ o → AllByRecursion (λ (x : Pair). P x.1) (cons_option o (filter_map index_entry hs))
          → (AllByRecursion (λ (x : Pair). P x.1) (filter_map index_entry hs) → AllByRecursion (λ g. IsSome (index_entry g) → P g.tree) hs) → AllByRecursion (λ g. IsSome (index_entry g) → P g.tree) (h ∷ hs)
      by None is all rest = (none is, rest all)
      by (Some x) is all rest = (λ some. subst P (of_listed h x is).0 all.0, rest all.1)

-- ---- distinct addresses

both-each : {X : Type 0} (P Q R : X → Type 0) → ((x : X) → P x → Q x → R x) → (xs : List X) → AllByRecursion P xs → AllByRecursion Q xs → AllByRecursion R xs
both-each P Q R f [] a b = tt
both-each P Q R f (x ∷ xs) a b = (f x a.0 b.0, both-each P Q R f xs a.1 b.1)

across : {X : Type 0} (xs ys zs : List X) → AreDistinct (xs ++ (ys ++ zs)) → AllByRecursion (λ y. AllByRecursion (λ o. y ≢ o) (xs ++ zs)) ys
across [] [] zs a = tt
across [] (y ∷ ys) zs a = (each-right (λ o. y ≢ o) ys zs a.0, across [] ys zs a.1)
across (x ∷ xs) ys zs a =
    both-each (λ y. x ≢ y) (λ y. AllByRecursion (λ o. y ≢ o) (xs ++ zs)) (λ y. AllByRecursion (λ o. y ≢ o) (x ∷ xs ++ zs)) (λ y other rest. ((λ same. other (sym same)), rest)) ys
    (each-left (λ y. x ≢ y) ys zs (each-right (λ y. x ≢ y) xs (ys ++ zs) a.0)) (across xs ys zs a.1)

abbrev Uris : Type 0
Uris = List (List ℕ)

abbrev uris : Pair → Uris
uris x = service_uris x.1

module _ (P : List ℕ → Type 0) where
  each-place : (d : Pair) (es : List Pair) → AllByRecursion P (uris d ++ flat_map uris es) → AllByRecursion P (flat_map uris (placed d es))
  each-place d [] a = a
  each-place d (e ∷ es) a = by (cmp d.0 e.0) (each-place d es)
    where
      by : (o : Ordering) → (AllByRecursion P (uris d ++ flat_map uris es) → AllByRecursion P (flat_map uris (placed d es))) → AllByRecursion P (flat_map uris (put o d e es (placed d es)))
      by Less rest = a
      by Equal rest = a
      by Greater rest =
          let own = each-left P (uris d) (uris e ++ flat_map uris es) a in
          let others = each-right P (uris d) (uris e ++ flat_map uris es) a in
          each-append P (uris e) (flat_map uris (placed d es)) (each-left P (uris e) (flat_map uris es) others)
          (rest (each-append P (uris d) (flat_map uris es) own (each-right P (uris e) (flat_map uris es) others)))

  each-order : (ds : List Pair) → AllByRecursion P (flat_map uris ds) → AllByRecursion P (flat_map uris (in_order ds))
  each-order [] a = tt
  each-order (d ∷ ds) a =
      each-place d (in_order ds) (each-append P (uris d) (flat_map uris (in_order ds)) (each-left P (uris d) (flat_map uris ds) a) (each-order ds (each-right P (uris d) (flat_map uris ds) a)))

distinct-place : (d : Pair) (es : List Pair) → AreDistinct (uris d ++ flat_map uris es) → AreDistinct (flat_map uris (placed d es))
distinct-place d [] a = a
distinct-place d (e ∷ es) a = by (cmp d.0 e.0) (distinct-place d es)
  where
    by : (o : Ordering) → (AreDistinct (uris d ++ flat_map uris es) → AreDistinct (flat_map uris (placed d es))) → AreDistinct (flat_map uris (put o d e es (placed d es)))
    by Less rest = a
    by Equal rest = a
    by Greater rest =
        apart-mix [] (uris e) (flat_map uris (placed d es)) (rest (apart-cut (uris d) (uris e) (flat_map uris es) a)) (apart-middle (uris d) (uris e) (flat_map uris es) a)
        (each-weaker (λ y. AllByRecursion (λ o. y ≢ o) (uris d ++ flat_map uris es)) (λ y. AllByRecursion (λ o. y ≢ o) (flat_map uris (placed d es))) (λ y others. each-place (λ o. y ≢ o) d es others) (uris e)
        (across (uris d) (uris e) (flat_map uris es) a))

distinct-order : (ds : List Pair) → AreDistinct (flat_map uris ds) → AreDistinct (flat_map uris (in_order ds))
distinct-order [] a = tt
distinct-order (d ∷ ds) a =
    distinct-place d (in_order ds)
    (apart-mix [] (uris d) (flat_map uris (in_order ds)) (distinct-order ds (apart-cut [] (uris d) (flat_map uris ds) a)) (apart-middle [] (uris d) (flat_map uris ds) a)
    (each-weaker (λ y. AllByRecursion (λ o. y ≢ o) (flat_map uris ds)) (λ y. AllByRecursion (λ o. y ≢ o) (flat_map uris (in_order ds))) (λ y others. each-order (λ o. y ≢ o) ds others) (uris d)
    (across [] (uris d) (flat_map uris ds) a)))

abbrev listed : List Document → List Pair
listed ds = filter_map index_entry (map stored_document ds)

-- the addresses that are listed are among those of all documents
among : (P : List ℕ → Type 0) (ds : List Document) → AllByRecursion P (all_addresses ds) → AllByRecursion P (flat_map uris (listed ds))
among P [] a = tt
among P (d ∷ ds) a = by (index_entry (stored_document d)) refl (among P ds (each-right P (document_addresses d.id.auid d.now.tree) (all_addresses ds) a))
  where
    by : (o : Option Pair) → index_entry (stored_document d) ≡ o → AllByRecursion P (flat_map uris (listed ds)) → AllByRecursion P (flat_map uris (cons_option o (listed ds)))
    by None is rest = rest
    by (Some x) is rest =
        let of = of_listed (stored_document d) x is in
        let same : document_addresses d.id.auid d.now.tree ≡ uris x = of.1 ∙ ap service_uris (sym of.0) in
        each-append P (uris x) (flat_map uris (listed ds)) (subst (λ (us : Uris). AllByRecursion P us) same (each-left P (document_addresses d.id.auid d.now.tree) (all_addresses ds) a)) rest

distinct-listed : (ds : List Document) → AreDistinct (all_addresses ds) → AreDistinct (flat_map uris (listed ds))
distinct-listed [] a = tt
distinct-listed (d ∷ ds) a = by (index_entry (stored_document d)) refl (distinct-listed ds (apart-cut [] (document_addresses d.id.auid d.now.tree) (all_addresses ds) a))
  where
    by : (o : Option Pair) → index_entry (stored_document d) ≡ o → AreDistinct (flat_map uris (listed ds)) → AreDistinct (flat_map uris (cons_option o (listed ds)))
    by None is rest = rest
    by (Some x) is rest =
        let of = of_listed (stored_document d) x is in
        let same : document_addresses d.id.auid d.now.tree ≡ uris x = of.1 ∙ ap service_uris (sym of.0) in
        let b : AreDistinct (uris x ++ all_addresses ds) = subst (λ (us : Uris). AreDistinct (us ++ all_addresses ds)) same a in
        apart-mix [] (uris x) (flat_map uris (listed ds)) rest (apart-middle [] (uris x) (all_addresses ds) b)
        (each-weaker (λ y. AllByRecursion (λ o. y ≢ o) (all_addresses ds)) (λ y. AllByRecursion (λ o. y ≢ o) (flat_map uris (listed ds))) (λ y others. among (λ o. y ≢ o) ds others) (uris x) (across [] (uris x) (all_addresses ds) b))

-- ---- the addresses in the index

abbrev uri_of : Tree → Option (List ℕ)
uri_of e = value_of Uri e.attrs

own_uris : (c : Scope) (ks : List Tree) → filter_map uri_of (map (listed_service c) (filter (is_service c) ks)) ≡ filter_map (service_uri c) ks
unfolding service_uri
own_uris c [] = refl
own_uris c (k ∷ ks) = by (kind_of kinds.RlsServices (inside c k) k.name) refl (own_uris c ks)
  where
    by : (o : Option ElementKind) → kind_of kinds.RlsServices (inside c k) k.name ≡ o → filter_map uri_of (map (listed_service c) (filter (is_service c) ks)) ≡ filter_map (service_uri c) ks
        → filter_map uri_of (map (listed_service c) (filter (is_service c) (k ∷ ks))) ≡ filter_map (service_uri c) (k ∷ ks)
    by None is rest = rw is rest
    by (Some kind) is rest = rw is (ap (cons_option (uri_of k)) rest)

all_uris : (ts : List Tree) → filter_map uri_of (flat_map service_elements ts) ≡ flat_map service_uris ts
all_uris [] = refl
all_uris (t ∷ ts) =
    filter_map-append uri_of (service_elements t) (flat_map service_elements ts)
    ∙ ap₂ (λ (a b : Uris). a ++ b) (own_uris (t.decls ∷ []) (child_elements_of t)) (all_uris ts)

flat_trees : {Y : Type 0} (f : Tree → List Y) (xs : List Pair) → flat_map f (map (λ (x : Pair). x.1) xs) ≡ flat_map (λ (x : Pair). f x.1) xs
flat_trees f [] = refl
flat_trees f (x ∷ xs) = ap (λ ys. f x.1 ++ ys) (flat_trees f xs)

-- ---- the index

module _ (m : State) (kept : IsValidState m) (root : Tree) (is : IsIndexOfServices (contents_of m) root) where
  abbrev pairs : List Pair
  pairs = in_order (listed m.documents)

  services : child_elements_of root ≡ flat_map (λ (x : Pair). service_elements x.1) pairs
  services =
      let same : is.0 ≡ index_trees (contents_of m) = one-index-trees (contents_of m) is.0 (index_trees (contents_of m)) is.1 (some-index-trees (contents_of m)) in
      ap child_elements_of is.2 ∙ kids_of_elems (flat_map service_elements is.0) ∙ ap (flat_map service_elements) same ∙ flat_trees service_elements pairs

  listed_once : AreDistinct (listed_addresses root)
  listed_once =
      let here : listed_addresses root ≡ flat_map uris pairs =
      ap (filter_map uri_of) (services ∙ sym (flat_trees service_elements pairs)) ∙ all_uris (map (λ (x : Pair). x.1) pairs) ∙ flat_trees service_uris pairs in
      subst (λ (us : Uris). AreDistinct us) (sym here) (distinct-order (listed m.documents) (distinct-listed m.documents kept.services))

  only : (P : Tree → Type 0) → AllByRecursion (λ (h : StoredDocument). IsSome (index_entry h) → AllByRecursion P (service_elements h.tree)) (map stored_document m.documents) → AllByRecursion P (child_elements_of root)
  only P all =
      subst (λ (es : List Tree). AllByRecursion P es) (sym services)
      (each-flat P (λ (x : Pair). service_elements x.1) pairs (each-in-order (λ (x : Pair). AllByRecursion P (service_elements x.1)) (listed m.documents) (listed-each (λ t. AllByRecursion P (service_elements t)) (map stored_document m.documents) all)))

  every : (P : Tree → Type 0) → AllByRecursion P (child_elements_of root) → AllByRecursion (λ (h : StoredDocument). IsSome (index_entry h) → AllByRecursion P (service_elements h.tree)) (map stored_document m.documents)
  every P all =
      each-listed (λ t. AllByRecursion P (service_elements t)) (map stored_document m.documents)
      (in-order-each (λ (x : Pair). AllByRecursion P (service_elements x.1)) (listed m.documents)
      (flat-each P (λ (x : Pair). service_elements x.1) pairs (subst (λ (es : List Tree). AllByRecursion P es) services all)))

  pub index_is_consistent : IsConsistentIndex (contents_of m) root
  index_is_consistent =
      record {
        no_others =
            only (IsListedService (contents_of m))
            (each-weaker (λ (h : StoredDocument). Contains (contents_of m).documents h) (λ (h : StoredDocument). IsSome (index_entry h) → AllByRecursion (IsListedService (contents_of m)) (service_elements h.tree))
            (λ h there some. each-weaker (λ s. Contains (service_elements h.tree) s) (IsListedService (contents_of m)) (λ s here. record { document = h; is_stored = there; is_listed = some; is_in = here }) (service_elements h.tree) (own (service_elements h.tree)))
            (contents_of m).documents (own (contents_of m).documents));
        none_missing = λ service of.
            let all = every (λ s. Contains (child_elements_of root) s) (own (child_elements_of root)) in
            item_of (λ (s : Tree). Contains (child_elements_of root) s) (service_elements of.document.tree) service
            (item_of (λ (h : StoredDocument). IsSome (index_entry h) → AllByRecursion (λ s. Contains (child_elements_of root) s) (service_elements h.tree)) (contents_of m).documents of.document all of.is_stored of.is_listed) of.is_in;
        once = listed_once;
      }
