-- The documents that the index of all services lists, as a store has them: each of another user,
-- and each with at most `MAX_LEVELS` levels.
use Rattle.std.proofs.Common.{◌≡◌, ◌≢◌, ℕ, ◌≤◌, Bool, true, false, Ordering, Less, Equal, Greater, Bor, List, [], ◌∷◌, map, Option, None, Some, refl, sym, ap, subst, ◌∙◌}
use Rattle.std.proofs.lemmas.List.Elements.{All-from_recursion}
use Rattle.std.proofs.lemmas.Option.{same_Some}
use Rattle.std.proofs.lemmas.Slice.Eq.{bytes_eq-Decides}
use Rattle.std.specs.BTreeMap.{insert_entry}
use Rattle.std.specs.Cmp.Lexicographic.{slice_cmp}
use Rattle.std.specs.List.{All, AllByRecursion, cons_option}
use Rattle.std.specs.Map.{values_of}
use Rattle.std.specs.Ordering.{match_ordering, nat_cmp}
use Rattle.std.specs.Str.{bytes_eq}
use Rattle.xml_tree.specs.Tree.{Tree, height}
use Rattle.doc_names.specs.declared.doc_id.Auid.{Auid}
use Rattle.doc_names.specs.declared.doc_id.Auid.TheVariants.{ResourceLists, RlsServices, XcapCaps}
use Rattle.doc_names.specs.declared.doc_id.Home.{Home}
use Rattle.doc_names.specs.declared.doc_id.Home.TheVariants.{Global, User}
use Rattle.doc_names.specs.declared.doc_id.DocId.{DocId}
use Rattle.store_core.specs.declared.limits.Limits.{Limits}
use Rattle.store_core.specs.declared.entry.Entry.{Entry}
use Rattle.store_core.specs.Indexes.{AreIndexTrees, index, index_entry, entry_if_listed}
use Rattle.store_core.specs.ValidStates.{AreDistinct}
use Rattle.store_core.specs.inner.ServiceListing.{with_entries, index_entries, borrowed_pairs}
use Rattle.store_core.specs.inner.StoreMemory.{IsConsistentStore, contents_view, stored_view, entry_id}
use Rattle.store_core.proofs.ByUser.{index_trees, some-index-trees}
use Rattle.store_core.proofs.InOrder.{NamesApart, Other, each-in-order, with_entries-in-order, equal-texts, in_order}
use Rattle.store_core.proofs.ChangeSteps.{known-of}
use Rattle.store_core.specs.StoreViews.{SpareCapacity, StoreView}

abbrev Row : Type 0
Row = DocId × Entry

abbrev Pair : Type 0
Pair = List ℕ × Tree

-- ---- users' names are distinct

abbrev of-user : List ℕ → DocId
of-user xui = record { auid = RlsServices; home = User xui; name = index }

abbrev id-of : Auid → Home → List ℕ → DocId
id-of auid home name = record { auid = auid; home = home; name = name }

index_entries-id : (auid : Auid) (home : Home) (name : List ℕ) (t : Tree) (x : Pair) (b : Bool) → bytes_eq name index ≡ b → entry_if_listed auid b home t ≡ Some x → id-of auid home name ≡ of-user x.0
index_entries-id ResourceLists home name t x b e h = cc
index_entries-id RlsServices home name t x false e h = cc
index_entries-id RlsServices Global name t x true e h = cc
index_entries-id RlsServices (User xui) name t x true e h =
    ap (λ (n : List ℕ). id-of RlsServices (User xui) n) ((bytes_eq-Decides name index).0 e)
    ∙ ap (λ (p : Pair). of-user p.0) (same_Some {A = Pair} (xui, t) x h)
index_entries-id XcapCaps home name t x b e h = cc

row-id : (e : Row) (x : Pair) → index_entry (stored_view e) ≡ Some x → e.0 ≡ of-user x.0
row-id e x h = index_entries-id e.0.auid e.0.home e.0.name e.1.tree.root x (bytes_eq e.0.name index) refl h

others-step : (id : DocId) (x : Pair) (e : Row) (ys : List Pair) (o : Option Pair) → id ≡ of-user x.0 → id ≢ e.0 → index_entry (stored_view e) ≡ o → AllByRecursion (Other x) ys → AllByRecursion (Other x) (cons_option o ys)
others-step id x e ys None same apart h by = by
others-step id x e ys (Some y) same apart h by = (λ (equal : slice_cmp nat_cmp x.0 y.0 ≡ Equal). apart (same ∙ ap (λ (xui : List ℕ). of-user xui) (equal-texts x.0 y.0 equal) ∙ sym (row-id e y h)), by)

others : (id : DocId) (x : Pair) (es : List Row) → id ≡ of-user x.0 → AllByRecursion (λ y. id ≢ y) (map entry_id es) → AllByRecursion (Other x) (index_entries es)
others id x [] same a = tt
others id x (e ∷ es) same a = others-step id x e (index_entries es) (index_entry (stored_view e)) same a.0 refl (others id x es same a.1)

apart-step : (e : Row) (es : List Row) (o : Option Pair) → index_entry (stored_view e) ≡ o → AllByRecursion (λ y. e.0 ≢ y) (map entry_id es) → NamesApart (index_entries es) → NamesApart (cons_option o (index_entries es))
apart-step e es None h a by = by
apart-step e es (Some x) h a by = (others e.0 x es (row-id e x h) a, by)

users-apart : (es : List Row) → AreDistinct (map entry_id es) → NamesApart (index_entries es)
users-apart [] a = tt
users-apart (e ∷ es) a = apart-step e es (index_entry (stored_view e)) refl a.0 (users-apart es a.1)

-- ---- their trees have at most `MAX_LEVELS` levels

abbrev IsWithinLevels : Pair → Type 0
IsWithinLevels x = height x.1 ≤ 64

abbrev IsLowRow : Row → Type 0
IsLowRow e = height e.1.tree.root ≤ 64

index_entries-tree : (auid : Auid) (home : Home) (b : Bool) (t : Tree) (x : Pair) → entry_if_listed auid b home t ≡ Some x → t ≡ x.1
index_entries-tree ResourceLists home b t x h = cc
index_entries-tree RlsServices home false t x h = cc
index_entries-tree RlsServices Global true t x h = cc
index_entries-tree RlsServices (User xui) true t x h = ap (λ (p : Pair). p.1) (same_Some {A = Pair} (xui, t) x h)
index_entries-tree XcapCaps home b t x h = cc

low-step : (e : Row) (ds : List Pair) (o : Option Pair) → index_entry (stored_view e) ≡ o → IsLowRow e → AllByRecursion IsWithinLevels ds → AllByRecursion IsWithinLevels (cons_option o ds)
low-step e ds None h low by = by
low-step e ds (Some x) h low by = (subst (λ (t : Tree). height t ≤ 64) (index_entries-tree e.0.auid e.0.home (bytes_eq e.0.name index) e.1.tree.root x h) low, by)

low-index_entries : (es : List Row) → AllByRecursion IsLowRow es → AllByRecursion IsWithinLevels (index_entries es)
low-index_entries [] a = tt
low-index_entries (e ∷ es) a = low-step e (index_entries es) (index_entry (stored_view e)) refl a.0 (low-index_entries es a.1)

-- the borrowed trees have these values, so they have no more levels
first-same : (t u : Tree) (ts us : List Tree) → t ∷ ts ≡ u ∷ us → (t ≡ u) × (ts ≡ us)
first-same t u ts us h = (cc, cc)

low-shown : (xs : List (Bor Tree)) (ds : List Pair) → map (λ (x : Bor Tree). x.now) xs ≡ map (λ (d : Pair). d.1) ds → AllByRecursion IsWithinLevels ds → AllByRecursion (λ (x : Bor Tree). height x.now ≤ 64) xs
low-shown [] ds h a = tt
low-shown (x ∷ xs) [] h a = cc
low-shown (x ∷ xs) (d ∷ ds) h a =
    let same = first-same x.now d.1 (map (λ (y : Bor Tree). y.now) xs) (map (λ (y : Pair). y.1) ds) h in
    (subst (λ (t : Tree). height t ≤ 64) (sym same.0) a.0, low-shown xs ds same.1 a.1)

-- ---- a map by users

-- the order of its keys
abbrev pub by_name : Bor (List ℕ) → Bor (List ℕ) → Ordering
by_name x y = slice_cmp nat_cmp x.now y.now

module _ (k : Bor (List ℕ)) (v : Bor Tree) where
  pub pairs-insert : (es : List (Bor (List ℕ) × Bor Tree)) → borrowed_pairs (insert_entry by_name es k v) ≡ insert_entry (slice_cmp nat_cmp) (borrowed_pairs es) k.now v.now
  pairs-insert [] = refl
  pairs-insert (e ∷ es) = step (by_name k e.0) (pairs-insert es)
    where
      step : (o : Ordering) → borrowed_pairs (insert_entry by_name es k v) ≡ insert_entry (slice_cmp nat_cmp) (borrowed_pairs es) k.now v.now
          → borrowed_pairs (match_ordering o ((k, v) ∷ e ∷ es) ((e.0, v) ∷ es) (e ∷ insert_entry by_name es k v))
          ≡ match_ordering o ((k.now, v.now) ∷ (e.0.now, e.1.now) ∷ borrowed_pairs es) ((e.0.now, v.now) ∷ borrowed_pairs es) ((e.0.now, e.1.now) ∷ insert_entry (slice_cmp nat_cmp) (borrowed_pairs es) k.now v.now)
      step Less rest = refl
      step Equal rest = refl
      step Greater rest = ap (λ (ds : List Pair). (e.0.now, e.1.now) ∷ ds) rest

pub trees-in-pairs : (es : List (Bor (List ℕ) × Bor Tree)) → map (λ (t : Bor Tree). t.now) (values_of es) ≡ map (λ (d : Pair). d.1) (borrowed_pairs es)
trees-in-pairs [] = refl
trees-in-pairs (e ∷ es) = ap (λ (ts : List Tree). e.1.now ∷ ts) (trees-in-pairs es)

-- ---- in a store

module _ (es : List Row) (rs : List (List ℕ × ℕ)) (limits : Limits) (last total : ℕ) (storing : IsConsistentStore es rs limits last total) where
  -- the entries of such a map for a store's documents are in order
  pub index_entries-in-order : with_entries [] (index_entries es) ≡ in_order (index_entries es)
  index_entries-in-order = with_entries-in-order (index_entries es) (users-apart es (known-of es rs limits last total storing).names)

  pub low-in-order : AllByRecursion IsWithinLevels (in_order (index_entries es))
  low-in-order = each-in-order IsWithinLevels (index_entries es) (low-index_entries es (known-of es rs limits last total storing).low)

  module _ (made : List (Bor (List ℕ) × Bor Tree)) (all : borrowed_pairs made ≡ with_entries [] (index_entries es)) (trees : List (Bor Tree)) (shown : trees ≡ values_of made) where
    trees-in-order : map (λ (t : Bor Tree). t.now) trees ≡ map (λ (d : Pair). d.1) (in_order (index_entries es))
    trees-in-order =
        ap (map (λ (t : Bor Tree). t.now)) shown ∙ trees-in-pairs made ∙ ap (map (λ (d : Pair). d.1)) (all ∙ index_entries-in-order)

    -- so they are those that the index lists
    pub trees-index_entries : (room : SpareCapacity) (s : StoreView) → (let x : StoreView = record { content = contents_view es limits last; room = room } in x) ≡ s → AreIndexTrees s.content (map (λ (t : Bor Tree). t.now) trees)
    trees-index_entries room s seen =
        subst (AreIndexTrees s.content) (sym (trees-in-order ∙ ap (λ (x : StoreView). index_trees x.content) seen)) (some-index-trees s.content)

    pub trees-low : All (λ (t : Bor Tree). height t.now ≤ 64) trees
    trees-low = All-from_recursion (λ (t : Bor Tree). height t.now ≤ 64) trees (low-shown trees (in_order (index_entries es)) trees-in-order low-in-order)
