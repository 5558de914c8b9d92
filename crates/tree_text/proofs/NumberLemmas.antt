-- Numbers for namespaces: one more number, and what is stored for one more declaration.
use Rattle.std.proofs.Common.{◌≡◌, ℕ, ◌+◌, ◌<◌, Bool, true, false, cond, List, [], ◌∷◌, ◌++◌, map, Option, Some, None, bytes_eq, refl, sym, ap, ap₂, subst, ◌∙◌, arith}
use Rattle.std.proofs.lemmas.List.{map-append}
use Rattle.std.proofs.lemmas.Map.Text.{is_eq-slice_cmp}
use Rattle.std.specs.BTreeMap.{BTreeMap, Updates, btree_map_len}
use Rattle.std.specs.Cmp.Lexicographic.{slice_cmp, bytes_decides}
use Rattle.std.specs.Ordering.{nat_cmp}
use Rattle.std.specs.Global.{Vec}
use Rattle.std.specs.Option.{is_some}
use Rattle.std.specs.Prelude.{if◌then◌else◌}
use Rattle.xml_names.specs.Scopes.{xml_uri}
use Rattle.xml_names.specs.declared.names.Decl.{Decl}
use Rattle.tree_text.specs.readers.Bindings.{IsNumbering, RepresentsDecls, value_at_text, namespace_number, prefix_numbers, declared_numbers, declared_uris}
use Rattle.tree_text.specs.declared.namespaces.Namespaces.{Namespaces}
use Rattle.tree_text.proofs.StackLemmas.{declared_uris-append}

-- a text that had no number gets the number n
module _ (f g : List ℕ → Option ℕ) (k : List ℕ) (n : ℕ) (new : f k ≡ None) (adds : (q : List ℕ) → g q ≡ cond (bytes_eq k q) (Some n) (f q)) where
  adds_here : (u : List ℕ) → bytes_eq k u ≡ true → g u ≡ Some n
  adds_here u e = adds u ∙ ap (λ b. cond b (Some n) (f u)) e

  adds_there : (u : List ℕ) → bytes_eq k u ≡ false → g u ≡ f u
  adds_there u e = adds u ∙ ap (λ b. cond b (Some n) (f u)) e

  numbers_stay : (u : List ℕ) (m : ℕ) → f u ≡ Some m → g u ≡ Some m
  numbers_stay u m is = by (bytes_eq k u) refl
    where
      by : (b : Bool) → bytes_eq k u ≡ b → g u ≡ Some m
      by true e = let had : f k ≡ f u = ap f ((bytes_decides k u).0 e) in cc
      by false e = adds_there u e ∙ is

  module _ (below : (u : List ℕ) (m : ℕ) → f u ≡ Some m → m < n) where
    all_below : (u : List ℕ) (m : ℕ) → g u ≡ Some m → m < n + 1
    all_below u m is = by (bytes_eq k u) refl
      where
        by : (b : Bool) → bytes_eq k u ≡ b → m < n + 1
        by true e = let here : g u ≡ Some n = adds_here u e in let same : m ≡ n = cc in omega arith
        by false e = let less : m < n = below u m (sym (adds_there u e) ∙ is) in omega arith

    not_new : (u : List ℕ) (m : ℕ) → f u ≡ Some m → Some n ≡ Some m → ⊥
    not_new u m is same = let less : m < n = below u m is in let equal : n ≡ m = cc in omega arith

    still_apart : ((u v : List ℕ) (m : ℕ) → f u ≡ Some m → f v ≡ Some m → u ≡ v) → (u v : List ℕ) (m : ℕ) → g u ≡ Some m → g v ≡ Some m → u ≡ v
    still_apart were u v m here there = by (bytes_eq k u) refl (bytes_eq k v) refl
      where
        by : (a : Bool) → bytes_eq k u ≡ a → (b : Bool) → bytes_eq k v ≡ b → u ≡ v
        by true a true b = sym ((bytes_decides k u).0 a) ∙ (bytes_decides k v).0 b
        by true a false b = absurd (not_new v m (sym (adds_there v b) ∙ there) (sym (adds_here u a) ∙ here))
        by false a true b = absurd (not_new u m (sym (adds_there u a) ∙ here) (sym (adds_here v b) ∙ there))
        by false a false b = were u v m (sym (adds_there u a) ∙ here) (sym (adds_there v b) ∙ there)

-- a map into which such a text was inserted with its number
module _ (m m' : BTreeMap (List ℕ) ℕ) (k : List ℕ) (n : ℕ) (new : value_at_text m k ≡ None) (up : Updates (slice_cmp nat_cmp) m m' k (Some n)) where
  found_after : (q : List ℕ) → value_at_text m' q ≡ cond (bytes_eq k q) (Some n) (value_at_text m q)
  found_after q = up.0 q ∙ ap (λ b. cond b (Some n) (value_at_text m q)) (is_eq-slice_cmp k q)

  pub numbers-insert-grown : (u : List ℕ) (x : ℕ) → value_at_text m u ≡ Some x → value_at_text m' u ≡ Some x
  numbers-insert-grown = numbers_stay (value_at_text m) (value_at_text m') k n new found_after

  pub AreNumbers-insert : (old : Option ℕ) → old ≡ value_at_text m k → n ≡ btree_map_len m → btree_map_len m' ≡ btree_map_len m + (if is_some old then 0 else 1) → IsNumbering m → IsNumbering m'
  AreNumbers-insert old was is more are = record {
    apart = still_apart (value_at_text m) (value_at_text m') k n new found_after below are.apart;
    small = λ u x h. subst (λ l. x < l) (sym longer) (all_below (value_at_text m) (value_at_text m') k n new found_after below u x h);
  }
    where
      below : (u : List ℕ) (x : ℕ) → value_at_text m u ≡ Some x → x < n
      below u x h = subst (λ l. x < l) (sym is) (are.small u x h)

      longer : btree_map_len m' ≡ n + 1
      longer = more ∙ ap (λ o. btree_map_len m + (if is_some o then 0 else 1)) (was ∙ new) ∙ ap (λ l. l + 1) (sym is)

-- ---- nothing is declared
nothing_at : {X : Type 0} (m : BTreeMap (List ℕ) X) → m.entries ≡ [] → (u : List ℕ) → value_at_text m u ≡ None
nothing_at m empty u = rw empty refl

pub AreNumbers-empty : (m : BTreeMap (List ℕ) ℕ) → m.entries ≡ [] → IsNumbering m
AreNumbers-empty m empty = record {
  apart = λ u v n h g. let no = nothing_at m empty u in cc;
  small = λ u n h. let no = nothing_at m empty u in cc;
}

pub prefix_numbers-empty : (m : BTreeMap (List ℕ) (Vec ℕ)) → m.entries ≡ [] → (p : List ℕ) → prefix_numbers m p ≡ []
prefix_numbers-empty m empty p = rw (nothing_at m empty p) refl

-- ---- one more declaration
-- texts that have numbers keep them
kept_numbers : (f g : List ℕ → Option ℕ) → ((u : List ℕ) (n : ℕ) → f u ≡ Some n → g u ≡ Some n) → (us : List (List ℕ)) (ns : List ℕ) → map f us ≡ map Some ns → map g us ≡ map Some ns
kept_numbers f g grown [] [] is = refl
kept_numbers f g grown [] (n ∷ ns) is = cc
kept_numbers f g grown (u ∷ us) [] is = cc
kept_numbers f g grown (u ∷ us) (n ∷ ns) is =
    let first : f u ≡ Some n = cc in
    let rest : map f us ≡ map Some ns = cc in
    ap₂ (λ (x : Option ℕ) (xs : List (Option ℕ)). x ∷ xs) (grown u n first) (kept_numbers f g grown us ns rest)

map_one : (g : List ℕ → Option ℕ) (b : Bool) (u : List ℕ) (n : ℕ) → g u ≡ Some n → map g (cond b (u ∷ []) []) ≡ map Some (cond b (n ∷ []) [])
map_one g true u n is = ap (λ (x : Option ℕ). x ∷ []) is
map_one g false u n is = refl

-- s' has one more declaration than s, whose URI has the number n
module _ (s s' : Namespaces) (ds : List Decl) (d : Decl) (n : ℕ) (are : RepresentsDecls s ds) (found : namespace_number s' d.uri ≡ Some n)
    (grown : (u : List ℕ) (x : ℕ) → namespace_number s u ≡ Some x → namespace_number s' u ≡ Some x)
    (pushed : (p : List ℕ) → declared_numbers s' p ≡ declared_numbers s p ++ (if bytes_eq d.prefix p then n ∷ [] else [])) where
  declared_then : (p : List ℕ) → map (namespace_number s') (declared_uris (ds ++ d ∷ []) p) ≡ map Some (declared_numbers s' p)
  declared_then p =
      ap (map (namespace_number s')) (declared_uris-append ds (d ∷ []) p)
      ∙ map-append (namespace_number s') (declared_uris ds p) (if bytes_eq d.prefix p then d.uri ∷ [] else [])
      ∙ ap₂ (λ (xs ys : List (Option ℕ)). xs ++ ys) (kept_numbers (namespace_number s) (namespace_number s') grown (declared_uris ds p) (declared_numbers s p) (are.declared p)) (map_one (namespace_number s') (bytes_eq d.prefix p) d.uri n found)
      ∙ sym (map-append Some (declared_numbers s p) (if bytes_eq d.prefix p then n ∷ [] else []))
      ∙ ap (map Some) (sym (pushed p))

  pub AreOf-declare : IsNumbering s'.numbers → s'.none ≡ s.none → s'.xml ≡ s.xml → RepresentsDecls s' (ds ++ d ∷ [])
  AreOf-declare numbers none xml = record {
    numbers = numbers;
    none = grown [] s.none are.none ∙ ap Some (sym none);
    xml = grown xml_uri s.xml are.xml ∙ ap Some (sym xml);
    declared = declared_then;
  }
