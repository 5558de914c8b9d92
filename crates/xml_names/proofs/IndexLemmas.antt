-- Look-ups in declarations that are in the order of their prefixes.
use Rattle.std.proofs.Common.{◌≡◌, ◌≢◌, Ordering, Less, Equal, Greater, ◌⊎◌, inl, inr, ℕ, zero, suc, ◌+◌, ◌<◌, ◌≤◌, Bool, true, false, List, [], ◌∷◌, length, get_or, map, Option, Some, None, Bor, cond, bytes_eq, refl, sym, ap, ◌∙◌, subst, add-one, arith}
use Rattle.std.specs.Cmp.Lexicographic.{bytes_decides, nat_list_cmp_total}
use Rattle.std.specs.List.Sorted.{IsNonDecreasingBy, IsPartitionPoint}
use Rattle.std.specs.Option.{option_or}
use Rattle.std.specs.Ordering.{is_lt, ordering_index, ordering_reverse}
use Rattle.std.proofs.lemmas.List.Sorted.{searchable_from_sorted}
use Rattle.xml_names.specs.declared.names.Decl.{Decl}
use Rattle.xml_names.specs.inner.DeclarationMaps.{IsPrefixIndex}
use Rattle.xml_names.specs.Scopes.{AreSortedByPrefix, declared_uri}
use Rattle.xml_names.proofs.BindingLaws.{AreInOrder-with_sorted_decls, declared-with_sorted_decls, sole}
use Rattle.xml_names.proofs.ByteOrder.{order, order_same, order_equal}
use Rattle.xml_names.proofs.ScopeLemmas.{option_or-none}

-- ---- an index declares what the declarations declare
pub in_order : (index ds : List Decl) → IsPrefixIndex index ds → AreSortedByPrefix index
in_order index ds (inl none) = subst AreSortedByPrefix (sym none) tt
in_order index ds (inr all) = subst AreSortedByPrefix (sym all) (AreInOrder-with_sorted_decls [] ds tt)

pub declared-index : (index ds : List Decl) (p : List ℕ) → IsPrefixIndex index ds → index ≢ [] → declared_uri index p ≡ declared_uri ds p
declared-index index ds p (inl none) some = absurd (some none)
declared-index index ds p (inr all) some = ap (λ (l : List Decl). declared_uri l p) all ∙ declared-with_sorted_decls [] ds p tt ∙ option_or-none (declared_uri ds p)

-- ---- a search for a prefix
abbrev pub seen : List (Bor Decl) → List Decl
seen ls = map (λ x. x.now) ls

module _ (p : List ℕ) where
  -- how a declaration compares to the prefix
  abbrev pub to_prefix : Bor Decl → Ordering
  to_prefix x = order x.now.prefix p

  -- a declaration of the prefix is the only one
  pub found : (ls : List (Bor Decl)) → AreSortedByPrefix (seen ls) → (i : ℕ) (d : Bor Decl) → i < length ls → to_prefix (get_or ls i d) ≡ Equal
      → declared_uri (seen ls) p ≡ Some (get_or ls i d).now.uri
  found [] h i d within is = absurd (omega (arith, within))
  found (x ∷ ls) h zero d within is =
      let same : bytes_eq x.now.prefix p ≡ true = (bytes_decides x.now.prefix p).1 (order_equal x.now.prefix p is) in
      rw (sole x.now p (seen ls) h.0 same, same) refl
  found (x ∷ ls) h (suc i) d within is =
      ap (λ (o : Option (List ℕ)). option_or o (cond (bytes_eq x.now.prefix p) (Some x.now.uri) None)) (found ls h.1 i d (omega (arith, within)) is)

  unlike : (x : Bor Decl) → to_prefix x ≢ Equal → bytes_eq x.now.prefix p ≡ false
  unlike x other = by (bytes_eq x.now.prefix p) refl
    where
      by : (b : Bool) → bytes_eq x.now.prefix p ≡ b → b ≡ false
      by false is = refl
      by true is = absurd (other (ap (λ (q : List ℕ). order q p) ((bytes_decides x.now.prefix p).0 is) ∙ order_same p))

  missing : (ls : List (Bor Decl)) → ((k : ℕ) (d : Bor Decl) → k < length ls → to_prefix (get_or ls k d) ≢ Equal) → declared_uri (seen ls) p ≡ None
  missing [] h = refl
  missing (x ∷ ls) h = rw (missing ls (λ k d within. h (suc k) d (omega (arith, within))), unlike x (h 0 x (omega arith))) refl

  rises : (ls : List (Bor Decl)) → AreSortedByPrefix (seen ls) → (k : ℕ) (d : Bor Decl) → k + 1 < length ls
      → is_lt (order (get_or ls (suc k) d).now.prefix (get_or ls k d).now.prefix) ≡ false
  rises [] h k d within = absurd (omega (arith, within))
  rises (x ∷ []) h k d within = absurd (omega (arith, within))
  rises (x ∷ y ∷ ls) h zero d within = ap is_lt (nat_list_cmp_total.antisymm y.now.prefix x.now.prefix ∙ ap ordering_reverse h.0.0)
  rises (x ∷ y ∷ ls) h (suc k) d within = rises (y ∷ ls) h.1 k d (omega (arith, within))

  searchable : (ls : List (Bor Decl)) → AreSortedByPrefix (seen ls) → IsNonDecreasingBy (λ x. ordering_index (to_prefix x)) ls
  searchable ls h =
      searchable_from_sorted nat_list_cmp_total (λ (x : Bor Decl). x.now.prefix) ls p
      (λ k d low within. subst (λ (j : ℕ). is_lt (order (get_or ls j d).now.prefix (get_or ls k d).now.prefix) ≡ false) (sym (add-one k)) (rises ls h k d within))

  side : (k i : ℕ) → (k < i) ⊎ (i ≤ k)
  side k i = grind arith

  -- a search that ends between the lesser and the greater ones found nothing
  pub not_found : (ls : List (Bor Decl)) → AreSortedByPrefix (seen ls) → (i : ℕ)
      → (IsNonDecreasingBy (λ x. ordering_index (to_prefix x)) ls → IsPartitionPoint (λ x. to_prefix x ≡ Less) (λ x. to_prefix x ≡ Greater) ls i) → declared_uri (seen ls) p ≡ None
  not_found ls h i parts = missing ls (λ k d short is.
      let halves = parts (searchable ls h) in
      elim (side k i) [
        | inl before ↦ let both : Less ≡ Equal = sym (halves.0 k d (omega arith) before) ∙ is in cc
        | inr behind ↦ let both : Greater ≡ Equal = sym (halves.1 k d behind short) ∙ is in cc
      ])
