-- The documents that the index lists, by the users' names: there is one such list, and `in_order`
-- is it.
use Rattle.std.proofs.Common.{◌≡◌, Bool, true, false, cond, List, [], ◌∷◌, filter, filter_map, map, refl, sym, ap, ◌∙◌}
use Rattle.std.proofs.lemmas.List.Sorted.{ranks_by}
use Rattle.std.specs.Cmp.{IsStrictWeakOrder}
use Rattle.std.specs.Cmp.Lexicographic.{nat_list_cmp_total}
use Rattle.std.specs.List.Sorted.{ties}
use Rattle.std.specs.Ordering.{is_lt, ordering_reverse}
use Rattle.std.specs.declared.cmp.Ordering.{Ordering}
use Rattle.std.specs.declared.cmp.Ordering.TheVariants.{Less, Equal, Greater}
use Rattle.xml_tree.specs.Tree.{Tree}
use Rattle.store_core.specs.Indexes.{IsSortedByUser, AreIndexTrees, index_entry}
use Rattle.store_core.proofs.InOrder.{Pair, cmp, each-placed, in_order, placed, put, turned}
use Rattle.store_core.proofs.SortLemmas.{Rises, from-lower, one-order, rises-sorted, sorted-rises, tied}
use Rattle.store_core.specs.Contents.{StoreContents as Content}

abbrev less : Pair → Pair → Bool
less x y = is_lt (cmp x.0 y.0)

is-order : IsStrictWeakOrder less
is-order = ranks_by nat_list_cmp_total (λ (d : Pair). d.0)

-- ---- the sorted list is ascending

behind : (d e : Pair) (o : Ordering) → cmp d.0 e.0 ≡ o → less e d ≡ is_lt (ordering_reverse o)
behind d e o h = ap is_lt (turned d.0 e.0 o h)

placed-first : (d e : Pair) (es : List Pair) → less e d ≡ false → Rises less (e ∷ es) → Rises less (d ∷ e ∷ es)
placed-first d e es low u = ((low, from-lower less is-order d e es low u.0), u)

placed-rises-step : (d e : Pair) (es : List Pair) (o : Ordering) → cmp d.0 e.0 ≡ o → Rises less (e ∷ es) → Rises less (placed d es) → Rises less (put o d e es (placed d es))
placed-rises-step d e es Less h u by = placed-first d e es (behind d e Less h) u
placed-rises-step d e es Equal h u by = placed-first d e es (behind d e Equal h) u
placed-rises-step d e es Greater h u by = (each-placed (λ (w : Pair). less w e ≡ false) d es (ap is_lt h) u.0, by)

placed-rises : (d : Pair) (es : List Pair) → Rises less es → Rises less (placed d es)
placed-rises d [] u = (tt, tt)
placed-rises d (e ∷ es) u = placed-rises-step d e es (cmp d.0 e.0) refl u (placed-rises d es u.1)

rises : (ds : List Pair) → Rises less (in_order ds)
rises [] = tt
rises (d ∷ ds) = placed-rises d (in_order ds) (rises ds)

-- ---- equal names keep their order

abbrev kept : Pair → List Pair → List Pair
kept x ds = filter (ties less x) ds

abbrev more : Bool → Pair → List Pair → List Pair
more b d ds = cond b (d ∷ ds) ds

-- x is equal to only one of two, where one is less
not-both : (x d e : Pair) → cmp d.0 e.0 ≡ Greater → ties less x d ≡ true → ties less x e ≡ true → true ≡ false
not-both x d e h with-d with-e =
    sym (behind d e Greater h) ∙ is-order.chain e x d (tied less is-order x e with-e).1 (tied less is-order x d with-d).0

exchanged : (d e : Pair) (b c : Bool) (ds : List Pair) → (b ≡ true → c ≡ true → true ≡ false) → more c e (more b d ds) ≡ more b d (more c e ds)
exchanged d e true true ds never = let clash = never refl refl in cc
exchanged d e true false ds never = refl
exchanged d e false c ds never = refl

placed-keeps-step : (x d e : Pair) (es : List Pair) (o : Ordering) → cmp d.0 e.0 ≡ o → kept x (placed d es) ≡ more (ties less x d) d (kept x es) → kept x (put o d e es (placed d es)) ≡ more (ties less x d) d (kept x (e ∷ es))
placed-keeps-step x d e es Less h by = refl
placed-keeps-step x d e es Equal h by = refl
placed-keeps-step x d e es Greater h by =
    ap (more (ties less x e) e) by ∙ exchanged d e (ties less x d) (ties less x e) (kept x es) (not-both x d e h)

placed-keeps : (x d : Pair) (es : List Pair) → kept x (placed d es) ≡ more (ties less x d) d (kept x es)
placed-keeps x d [] = refl
placed-keeps x d (e ∷ es) = placed-keeps-step x d e es (cmp d.0 e.0) refl (placed-keeps x d es)

keeps : (x : Pair) (ds : List Pair) → kept x (in_order ds) ≡ kept x ds
keeps x [] = refl
keeps x (d ∷ ds) = placed-keeps x d (in_order ds) ∙ ap (more (ties less x d) d) (keeps x ds)

-- ---- the one list

pub by-user : (ds : List Pair) → IsSortedByUser ds (in_order ds)
by-user ds = record { rises = sorted-rises less (in_order ds) (rises ds); keeps = λ x. keeps x ds }

pub one-by-user : (ds xs ys : List Pair) → IsSortedByUser ds xs → IsSortedByUser ds ys → xs ≡ ys
one-by-user ds xs ys a b =
    one-order less is-order xs ys (rises-sorted less is-order xs a.rises) (rises-sorted less is-order ys b.rises) (λ x. a.keeps x ∙ sym (b.keeps x))

abbrev pub index_trees : Content → List Tree
index_trees c = map (λ (d : Pair). d.1) (in_order (filter_map index_entry c.documents))

pub some-index-trees : (c : Content) → AreIndexTrees c (index_trees c)
some-index-trees c = (in_order (filter_map index_entry c.documents), by-user (filter_map index_entry c.documents), refl)

pub one-index-trees : (c : Content) (ts us : List Tree) → AreIndexTrees c ts → AreIndexTrees c us → ts ≡ us
one-index-trees c ts us a b =
    a.2 ∙ ap (map (λ (d : Pair). d.1)) (one-by-user (filter_map index_entry c.documents) a.0 b.0 a.1 b.1) ∙ sym b.2
