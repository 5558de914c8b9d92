-- A map that collects declarations, seen as its declarations in order.
use Rattle.std.proofs.Common.{◌≡◌, Ordering, Less, Equal, Greater, ℕ, List, [], ◌∷◌, ◌++◌, Bor, encode_utf8_all, map, refl, sym, ap, ◌∙◌}
use Rattle.std.specs.BTreeMap.{insert_entry}
use Rattle.std.specs.Map.{values_of}
use Rattle.std.specs.Cmp.Lexicographic.{slice_cmp}
use Rattle.std.specs.Ordering.{nat_cmp}
use Rattle.xml_names.specs.declared.names.Decl.{Decl}
use Rattle.xml_names.specs.inner.DeclarationMaps.{AreKeyedByPrefix, with_sorted_decls, with_sorted_decl, map_decls}
use Rattle.xml_names.proofs.ByteOrder.{order, order-encodes, order_equal}

-- the order of the keys
abbrev pub by_bytes : Bor (List ℕ) → Bor (List ℕ) → Ordering
by_bytes x y = slice_cmp nat_cmp x.now y.now

module _ (k : Bor (List ℕ)) (v : Bor Decl) (at_prefix : k.now ≡ encode_utf8_all v.now.prefix) where
  in_order : (e : Bor (List ℕ) × Bor Decl) → e.0.now ≡ encode_utf8_all e.1.now.prefix → by_bytes k e.0 ≡ order v.now.prefix e.1.now.prefix
  in_order e is = ap (λ x. slice_cmp nat_cmp x e.0.now) at_prefix ∙ ap (slice_cmp nat_cmp (encode_utf8_all v.now.prefix)) is ∙ order-encodes v.now.prefix e.1.now.prefix

  pub values-insert : (es : List (Bor (List ℕ) × Bor Decl)) → AreKeyedByPrefix es → map_decls (insert_entry by_bytes es k v) ≡ with_sorted_decl v.now (map_decls es)
  values-insert [] h = refl
  values-insert (e ∷ es) h = by (order v.now.prefix e.1.now.prefix) refl (values-insert es h.1)
    where
      by : (o : Ordering) → order v.now.prefix e.1.now.prefix ≡ o → map_decls (insert_entry by_bytes es k v) ≡ with_sorted_decl v.now (map_decls es)
          → map_decls (insert_entry by_bytes (e ∷ es) k v) ≡ with_sorted_decl v.now (map_decls (e ∷ es))
      by Less is rest = rw (in_order e h.0, is) refl
      by Equal is rest = rw (in_order e h.0, is) refl
      by Greater is rest = rw (in_order e h.0, is) (ap (λ ds. e.1.now ∷ ds) rest)

  pub AreKeyed-insert : (es : List (Bor (List ℕ) × Bor Decl)) → AreKeyedByPrefix es → AreKeyedByPrefix (insert_entry by_bytes es k v)
  AreKeyed-insert [] h = (at_prefix, tt)
  AreKeyed-insert (e ∷ es) h = by (order v.now.prefix e.1.now.prefix) refl (AreKeyed-insert es h.1)
    where
      by : (o : Ordering) → order v.now.prefix e.1.now.prefix ≡ o → AreKeyedByPrefix (insert_entry by_bytes es k v) → AreKeyedByPrefix (insert_entry by_bytes (e ∷ es) k v)
      by Less is rest = rw (in_order e h.0, is) (at_prefix, h)
      by Equal is rest = rw (in_order e h.0, is) (h.0 ∙ ap encode_utf8_all (sym (order_equal v.now.prefix e.1.now.prefix is)), h.1)
      by Greater is rest = rw (in_order e h.0, is) (h.0, rest)

pub map_decls-values_of : (es : List (Bor (List ℕ) × Bor Decl)) → map (λ x. x.now) (values_of es) ≡ map_decls es
map_decls-values_of [] = refl
map_decls-values_of (e ∷ es) = ap (λ ds. e.1.now ∷ ds) (map_decls-values_of es)

pub with_sorted_decls-append : (acc xs ys : List Decl) → with_sorted_decls acc (xs ++ ys) ≡ with_sorted_decls (with_sorted_decls acc xs) ys
with_sorted_decls-append acc [] ys = refl
with_sorted_decls-append acc (d ∷ xs) ys = with_sorted_decls-append (with_sorted_decl d acc) xs ys
