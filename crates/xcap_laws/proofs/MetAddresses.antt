-- Each address of a flat list is met from the service, and none is there twice.
use Rattle.std.proofs.Common.{◌≡◌, ◌≢◌, ◌⊎◌, ℕ, zero, suc, Bool, true, false, ◌||◌, nat_lt, cond, List, [], ◌∷◌, ◌++◌, fold, filter_map, count_by, Option, None, Some, Ok, Err, slice_get, inl, inr, refl, sym, ap, ◌∙◌, subst, arith, true≢false}
use Rattle.std.specs.Prelude.{option_and_then, option_map}
use Rattle.std.specs.List.{AllByRecursion, list_any}
use Rattle.std.specs.Option.{option_map_or}
use Rattle.std.specs.Str.{bytes_eq}
use Rattle.std.proofs.lemmas.Slice.Eq.{bytes_eq-Decides}
use Rattle.xml_tree.specs.Tree.{Content, Tree, child_elements, comment_node, last, more}
use Rattle.xml_names.specs.declared.names.Attr.{Attr}
use Rattle.xml_names.specs.declared.names.Decl.{Decl}
use Rattle.xml_names.specs.declared.names.Name.{Name}
use Rattle.doc_names.specs.declared.doc_id.DocId.{DocId}
use Rattle.usage_docs.specs.KeyAttributes.{value_of}
use Rattle.usage_docs.specs.SchemaTable.{Scope, kind_of}
use Rattle.usage_docs.specs.declared.schema_table.ElementKind.{ElementKind}
use Rattle.usage_docs.specs.declared.schema_table.ElementKind.TheVariants as kinds
use Rattle.usage_docs.specs.declared.schema_table.Key.TheVariants.{Uri}
use Rattle.store_core.specs.Contents.{StoreContents}
use Rattle.store_core.specs.ValidStates.{AreDistinct}
use Rattle.list_resolve.specs.FlatLists.{IsFlatList, flat_list_of, is_mark, item_address, service_of, with_address}
use Rattle.list_resolve.specs.ElementPlaces.{contains_place}
use Rattle.list_resolve.specs.References.{reference_of}
use Rattle.list_resolve.specs.Resolution.{ResolvedReference, stored_tree}
use Rattle.list_resolve.specs.ScopedElements.{ScopedElement, scoped_child}
use Rattle.list_resolve.specs.Walks.{Item, address, kind_items, mark, scoped_element_items, walk, walk_after_mark, content_items}
use Rattle.list_resolve.specs.declared.fault.FlatFault.TheVariants.{NoService, TooWide}
use Rattle.xcap_laws.specs.ReachedAddresses.{IsMemberOf, ReachesEntry, LeadsToAddress, Reference, child, entry, lead}

-- the places of elements that references lead to
abbrev ArgumentOf : {A B : Type 0} → (A → B) → Type 0
ArgumentOf {A = A} f = A

abbrev Place : Type 0
Place = ArgumentOf (contains_place [])

-- ---- lists

in_either : {A : Type 0} (x : A) (xs ys : List A) → IsMemberOf x (xs ++ ys) → IsMemberOf x xs ⊎ IsMemberOf x ys
in_either {A = A} x [] ys h = inr h
in_either {A = A} x (z ∷ xs) ys (inl same) = inl (inl same)
in_either {A = A} x (z ∷ xs) ys (inr h) = by (in_either x xs ys h)
  where
    by : IsMemberOf x xs ⊎ IsMemberOf x ys → IsMemberOf x (z ∷ xs) ⊎ IsMemberOf x ys
    by (inl k) = inl (inr k)
    by (inr k) = inr k

-- an address that a list gets was there, or is the one appended
in_with : (uri x : List ℕ) (uris : List (List ℕ)) → IsMemberOf uri (with_address uris x) → IsMemberOf uri uris ⊎ (x ≡ uri)
in_with uri x uris h = by (list_any (bytes_eq x) uris) h
  where
    last_one : IsMemberOf uri uris ⊎ IsMemberOf uri (x ∷ []) → IsMemberOf uri uris ⊎ (x ≡ uri)
    last_one (inl k) = inl k
    last_one (inr (inl same)) = inr same
    last_one (inr (inr none)) = absurd none

    by : (b : Bool) → IsMemberOf uri (cond b uris (uris ++ x ∷ [])) → IsMemberOf uri uris ⊎ (x ≡ uri)
    by true k = inl k
    by false k = last_one (in_either uri uris (x ∷ []) k)

in_fold : (uri : List ℕ) (uris : List (List ℕ)) (items : List Item) → IsMemberOf uri (fold with_address uris (filter_map item_address items)) → IsMemberOf uri uris ⊎ IsMemberOf (address uri) items
in_fold uri uris [] h = inl h
in_fold uri uris (mark ∷ items) h = by (in_fold uri uris items h)
  where
    by : IsMemberOf uri uris ⊎ IsMemberOf (address uri) items → IsMemberOf uri uris ⊎ IsMemberOf (address uri) (mark ∷ items)
    by (inl k) = inl k
    by (inr k) = inr (inr k)
in_fold uri uris (address x ∷ items) h = by (in_fold uri (with_address uris x) items h)
  where
    first : IsMemberOf uri uris ⊎ (x ≡ uri) → IsMemberOf uri uris ⊎ IsMemberOf (address uri) (address x ∷ items)
    first (inl k) = inl k
    first (inr same) = inr (inl (ap address same))

    by : IsMemberOf uri (with_address uris x) ⊎ IsMemberOf (address uri) items → IsMemberOf uri uris ⊎ IsMemberOf (address uri) (address x ∷ items)
    by (inl k) = first (in_with uri x uris k)
    by (inr k) = inr (inr k)

-- ---- no address twice

apart : (x : List ℕ) (uris : List (List ℕ)) → list_any (bytes_eq x) uris ≡ false → AllByRecursion (λ y. y ≢ x) uris
apart x [] none = tt
apart x (y ∷ uris) none = by (bytes_eq x y) refl none (apart x uris)
  where
    equal : (a b : List ℕ) → a ≡ b → bytes_eq b a ≡ true
    equal a b same = grind (arith, bytes_eq-Decides)

    by : (b : Bool) → bytes_eq x y ≡ b → (b || list_any (bytes_eq x) uris) ≡ false → (list_any (bytes_eq x) uris ≡ false → AllByRecursion (λ z. z ≢ x) uris) → AllByRecursion (λ z. z ≢ x) (y ∷ uris)
    by true e s f = absurd (true≢false s)
    by false e s f = (λ same. true≢false (sym (equal y x same) ∙ e), f s)

all_more : (P : List ℕ → Type 0) (uris : List (List ℕ)) (x : List ℕ) → AllByRecursion P uris → P x → AllByRecursion P (uris ++ x ∷ [])
all_more P [] x all here = (here, tt)
all_more P (y ∷ uris) x all here = (all.0, all_more P uris x all.1 here)

distinct_more : (uris : List (List ℕ)) (x : List ℕ) → AreDistinct uris → AllByRecursion (λ y. y ≢ x) uris → AreDistinct (uris ++ x ∷ [])
distinct_more [] x distinct others = (tt, tt)
distinct_more (y ∷ uris) x distinct others = (all_more (λ z. y ≢ z) uris x distinct.0 others.0, distinct_more uris x distinct.1 others.1)

distinct_with : (x : List ℕ) (uris : List (List ℕ)) → AreDistinct uris → AreDistinct (with_address uris x)
distinct_with x uris distinct = by (list_any (bytes_eq x) uris) refl
  where
    by : (b : Bool) → list_any (bytes_eq x) uris ≡ b → AreDistinct (cond b uris (uris ++ x ∷ []))
    by true e = distinct
    by false e = distinct_more uris x distinct (apart x uris e)

distinct_fold : (uris xs : List (List ℕ)) → AreDistinct uris → AreDistinct (fold with_address uris xs)
distinct_fold uris [] distinct = distinct
distinct_fold uris (x ∷ xs) distinct = distinct_fold (with_address uris x) xs (distinct_with x uris distinct)

-- ---- what a walk meets

module _ (resolve : Reference → Option ResolvedReference) (root uri : List ℕ) where
  abbrev ComesFromLead : (Reference → List Item) → Type 0
  ComesFromLead behind = (r : Reference) → IsMemberOf (address uri) (behind r) → (l : ResolvedReference) × (resolve r ≡ Some l) × ReachesEntry resolve root uri l.scoped_element

  -- a child in which the address is met
  abbrev InChild : ElementKind → Scope → Content → Type 0
  InChild row c content = (e : Tree) × (n : ℕ) × (slice_get (child_elements content) n ≡ Some e) × (k : ScopedElement) × (scoped_child (record { kind = row; scope = c; element = e }) e ≡ Some k) × ReachesEntry resolve root uri k

  later_child : (row : ElementKind) (c : Scope) (t : List ℕ) (n : Name) (ds : List Decl) (ats : List Attr) (k rest : Content) → InChild row c rest → InChild row c (more t n ds ats k rest)
  later_child row c t n ds ats k rest h = (h.0, suc h.1, h.2, h.3, h.4, h.5)

  from_child : (s : ScopedElement) → InChild s.kind s.scope s.element.content → ReachesEntry resolve root uri s
  from_child s h = child s h.3 h.0 h.1 h.2 h.4 h.5

  module _ (behind : Reference → List Item) (comes : ComesFromLead behind) where
    of_entry : (s : ScopedElement) → s.kind ≡ kinds.Entry → (o : Option (List ℕ)) → value_of Uri s.element.attrs ≡ o → IsMemberOf (address uri) (option_map_or (λ own. address own ∷ []) o []) → ReachesEntry resolve root uri s
    of_entry s kind None e h = absurd h
    of_entry s kind (Some own) e (inl same) = entry s kind (e ∙ ap Some (let one : own ≡ uri = cc in one))
    of_entry s kind (Some own) e (inr none) = absurd none

    of_reference : (s : ScopedElement) (o : Option Reference) → reference_of root s.kind s.element.attrs s.element.content ≡ o → IsMemberOf (address uri) (option_map_or (λ r. mark ∷ behind r) o []) → ReachesEntry resolve root uri s
    of_reference s None e h = absurd h
    of_reference s (Some r) e (inl same) = absurd (let never : mark ≡ address uri = same in cc)
    of_reference s (Some r) e (inr h) = let l = comes r h in lead s r l.0 e l.1 l.2

    of_kind : (kind : ElementKind) (c : Scope) (e : Tree) (items : List Item) → (IsMemberOf (address uri) items → InChild kinds.EntryList c e.content) → IsMemberOf (address uri) (kind_items behind root kind e items)
        → ReachesEntry resolve root uri (record { kind = kind; scope = c; element = e })
    of_kind kinds.Entry c e items inner h = of_entry (record { kind = kinds.Entry; scope = c; element = e }) refl (value_of Uri e.attrs) refl h
    of_kind kinds.EntryList c e items inner h = from_child (record { kind = kinds.EntryList; scope = c; element = e }) (inner h)
    of_kind kinds.ResourceLists c e items inner h = of_reference (record { kind = kinds.ResourceLists; scope = c; element = e }) (reference_of root kinds.ResourceLists e.attrs e.content) refl h
    of_kind kinds.EntryRef c e items inner h = of_reference (record { kind = kinds.EntryRef; scope = c; element = e }) (reference_of root kinds.EntryRef e.attrs e.content) refl h
    of_kind kinds.External c e items inner h = of_reference (record { kind = kinds.External; scope = c; element = e }) (reference_of root kinds.External e.attrs e.content) refl h
    of_kind kinds.DisplayName c e items inner h = of_reference (record { kind = kinds.DisplayName; scope = c; element = e }) (reference_of root kinds.DisplayName e.attrs e.content) refl h
    of_kind kinds.RlsServices c e items inner h = of_reference (record { kind = kinds.RlsServices; scope = c; element = e }) (reference_of root kinds.RlsServices e.attrs e.content) refl h
    of_kind kinds.Service c e items inner h = of_reference (record { kind = kinds.Service; scope = c; element = e }) (reference_of root kinds.Service e.attrs e.content) refl h
    of_kind kinds.ResourceList c e items inner h = of_reference (record { kind = kinds.ResourceList; scope = c; element = e }) (reference_of root kinds.ResourceList e.attrs e.content) refl h
    of_kind kinds.Packages c e items inner h = of_reference (record { kind = kinds.Packages; scope = c; element = e }) (reference_of root kinds.Packages e.attrs e.content) refl h
    of_kind kinds.Package c e items inner h = of_reference (record { kind = kinds.Package; scope = c; element = e }) (reference_of root kinds.Package e.attrs e.content) refl h

    abbrev tree : Name → List Decl → List Attr → Content → Tree
    tree n ds ats k = record { name = n; decls = ds; attrs = ats; content = k }

    by_kind : (row : ElementKind) (c : Scope) (n : Name) (ds : List Decl) (ats : List Attr) (k : Content) (t : List ℕ) (rest : Content) (o : Option ElementKind) → kind_of row (c ++ ds ∷ []) n ≡ o
        → (IsMemberOf (address uri) (content_items behind root kinds.EntryList (c ++ ds ∷ []) k) → InChild kinds.EntryList (c ++ ds ∷ []) k)
        → IsMemberOf (address uri) (option_map_or (λ kind. kind_items behind root kind (tree n ds ats k) (content_items behind root kinds.EntryList (c ++ ds ∷ []) k)) o [])
        → InChild row c (more t n ds ats k rest)
    by_kind row c n ds ats k t rest None e inner h = absurd h
    by_kind row c n ds ats k t rest (Some kind) e inner h =
        let here : ScopedElement = record { kind = kind; scope = c ++ ds ∷ []; element = tree n ds ats k } in
        (tree n ds ats k, zero, refl, here, ap (option_map (λ (x : ElementKind). record { kind = x; scope = c ++ ds ∷ []; element = tree n ds ats k })) e, of_kind kind (c ++ ds ∷ []) (tree n ds ats k) (content_items behind root kinds.EntryList (c ++ ds ∷ []) k) inner h)

    of_walked : (row : ElementKind) (c : Scope) (content : Content) → IsMemberOf (address uri) (content_items behind root row c content) → InChild row c content
    of_walked row c (last t) h = absurd h
    of_walked row c (comment_node t x rest) h = of_walked row c rest h
    of_walked row c (more t n ds ats k rest) h =
        by (of_walked kinds.EntryList (c ++ ds ∷ []) k) (of_walked row c rest)
        (in_either (address uri) (option_map_or (λ kind. kind_items behind root kind (tree n ds ats k) (content_items behind root kinds.EntryList (c ++ ds ∷ []) k)) (kind_of row (c ++ ds ∷ []) n) []) (content_items behind root row c rest) h)
      where
        by : (IsMemberOf (address uri) (content_items behind root kinds.EntryList (c ++ ds ∷ []) k) → InChild kinds.EntryList (c ++ ds ∷ []) k) → (IsMemberOf (address uri) (content_items behind root row c rest) → InChild row c rest)
            → IsMemberOf (address uri) (option_map_or (λ kind. kind_items behind root kind (tree n ds ats k) (content_items behind root kinds.EntryList (c ++ ds ∷ []) k)) (kind_of row (c ++ ds ∷ []) n) []) ⊎ IsMemberOf (address uri) (content_items behind root row c rest)
            → InChild row c (more t n ds ats k rest)
        by inner others (inl here) = by_kind row c n ds ats k t rest (kind_of row (c ++ ds ∷ []) n) refl inner here
        by inner others (inr later) = later_child row c t n ds ats k rest (others later)

    of_element : (s : ScopedElement) → IsMemberOf (address uri) (scoped_element_items behind root s) → ReachesEntry resolve root uri s
    of_element s h = of_kind s.kind s.scope s.element (content_items behind root kinds.EntryList s.scope s.element.content) (of_walked kinds.EntryList s.scope s.element.content) h

  -- what comes after a reference
  of_lead : (left : ℕ) (chain : List Place) → ComesFromLead (walk_after_mark resolve root left chain)
  of_lead zero chain r h = absurd h
  of_lead (suc left) chain r h = by (resolve r) refl h (λ p. of_lead left (p ∷ chain))
    where
      by_place : (l : ResolvedReference) (b : Bool) → resolve r ≡ Some l → IsMemberOf (address uri) (cond b [] (scoped_element_items (walk_after_mark resolve root left (l.place ∷ chain)) root l.scoped_element))
          → (ComesFromLead (walk_after_mark resolve root left (l.place ∷ chain))) → (k : ResolvedReference) × (resolve r ≡ Some k) × ReachesEntry resolve root uri k.scoped_element
      by_place l true e none f = absurd none
      by_place l false e k f = (l, e, of_element (walk_after_mark resolve root left (l.place ∷ chain)) f l.scoped_element k)

      by : (o : Option ResolvedReference) → resolve r ≡ o
          → IsMemberOf (address uri) (option_map_or (λ l. cond (contains_place chain l.place) [] (scoped_element_items (walk_after_mark resolve root left (l.place ∷ chain)) root l.scoped_element)) o [])
          → ((p : Place) → ComesFromLead (walk_after_mark resolve root left (p ∷ chain))) → (l : ResolvedReference) × (resolve r ≡ Some l) × ReachesEntry resolve root uri l.scoped_element
      by None e k f = absurd k
      by (Some l) e k f = by_place l (contains_place chain l.place) e k (f l.place)

  of_walk : (s : ScopedElement) → IsMemberOf (address uri) (walk resolve root s) → ReachesEntry resolve root uri s
  of_walk s h = from_child s (of_walked (walk_after_mark resolve root 16 []) (of_lead 16 []) s.kind s.scope s.element.content h)

-- ---- flat lists

list_of : (items : List Item) (uris : List (List ℕ)) → flat_list_of items ≡ Ok uris → fold with_address [] (filter_map item_address items) ≡ uris
list_of items uris is = by (nat_lt 4096 (count_by is_mark items)) is
  where
    by : (b : Bool) → cond b (Err TooWide) (Ok (fold with_address [] (filter_map item_address items))) ≡ Ok uris → fold with_address [] (filter_map item_address items) ≡ uris
    by true s = absurd cc
    by false s = cc

nothing_in : (uri : List ℕ) (items : List Item) → IsMemberOf uri [] ⊎ IsMemberOf (address uri) items → IsMemberOf (address uri) items
nothing_in uri items (inl none) = absurd none
nothing_in uri items (inr h) = h

service_list : (resolve : Reference → Option ResolvedReference) (root : List ℕ) (o : Option ScopedElement) (uris : List (List ℕ)) → Ok uris ≡ option_map_or (λ service. flat_list_of (walk resolve root service)) o (Err NoService)
    → (s : ScopedElement) × (o ≡ Some s) × (flat_list_of (walk resolve root s) ≡ Ok uris)
service_list resolve root None uris is = absurd cc
service_list resolve root (Some s) uris is = (s, refl, sym is)

pub distinct : (c : StoreContents) (root : List ℕ) (doc : DocId) (service : List ℕ) (uris : List (List ℕ)) → IsFlatList c root doc service (Ok uris) → AreDistinct uris
distinct c root doc service uris h =
    let r = service_list h.0 root (option_and_then (service_of service) (stored_tree c.documents doc)) uris h.2 in
    subst AreDistinct (list_of (walk h.0 root r.0) uris r.2) (distinct_fold [] (filter_map item_address (walk h.0 root r.0)) tt)

pub met : (c : StoreContents) (root : List ℕ) (doc : DocId) (service : List ℕ) (uris : List (List ℕ)) (uri : List ℕ) → IsFlatList c root doc service (Ok uris) → IsMemberOf uri uris → LeadsToAddress c root doc service uri
met c root doc service uris uri h is_in =
    let r = service_list h.0 root (option_and_then (service_of service) (stored_tree c.documents doc)) uris h.2 in
    let items = walk h.0 root r.0 in
    let there : IsMemberOf uri (fold with_address [] (filter_map item_address items)) = subst (IsMemberOf uri) (sym (list_of items uris r.2)) is_in in record {
      resolve = h.0;
      are_leads = h.1;
      element = r.0;
      is_service = r.1;
      is_met = of_walk h.0 root uri r.0 (nothing_in uri items (in_fold uri [] items there));
    }
