-- The numbers of each prefix, as declarations are added and removed.
use Rattle.std.proofs.Common.{◌≡◌, ℕ, Bool, true, false, cond, List, [], ◌∷◌, ◌++◌, ◌+◌, ◌-◌, length, take, map, Option, Some, None, option_map, slice_get, bytes_eq, ◌≢◌, refl, sym, ap, ◌∙◌, arith, append-nil, append_assoc}
use Rattle.std.specs.BTreeMap.{BTreeMap, UpdatesBy}
use Rattle.std.specs.Cmp.Lexicographic.{slice_cmp, bytes_decides}
use Rattle.std.specs.Global.{Vec}
use Rattle.std.specs.Option.{option_map_or, option_or}
use Rattle.std.specs.Ordering.{nat_cmp}
use Rattle.std.proofs.lemmas.List.{length-append, length-map, map-append, take-map}
use Rattle.std.proofs.lemmas.Map.Text.{is_eq-slice_cmp}
use Rattle.std.proofs.Math.Seq.{take-append_seam}
use Rattle.xml_names.specs.declared.names.Decl.{Decl}
use Rattle.xml_names.specs.Scopes.{bound_uri, declared_uri, scope_decls, non_empty_uri, xml_prefix}
use Rattle.xml_names.proofs.ScopeLemmas.{option_or-none}
use Rattle.tree_text.specs.readers.Bindings.{RepresentsDecls, value_at_text, namespace_number, prefix_numbers, declared_numbers, declared_uris}
use Rattle.tree_text.specs.declared.namespaces.Namespaces.{Namespaces}

-- the numbers of a prefix, as the map has them
abbrev pub numbers_in : Option (Vec ℕ) → List ℕ
numbers_in o = option_map_or (λ v. v.items) o []

-- all but the last
abbrev pub front_of : List ℕ → List ℕ
front_of xs = take (length xs - 1) xs

-- the last, if there is one
abbrev pub last_in : List ℕ → Option ℕ
last_in xs = slice_get xs (length xs - 1)

-- ---- a map of stacks, with another stack at one prefix
module _ (m n : BTreeMap (List ℕ) (Vec ℕ)) (prefix : List ℕ) (w : Vec ℕ) (after : UpdatesBy (slice_cmp nat_cmp) (slice_cmp nat_cmp prefix) m n (Some w)) where
  numbers_written : (p : List ℕ) → prefix_numbers n p ≡ cond (bytes_eq prefix p) w.items (prefix_numbers m p)
  numbers_written p =
      ap numbers_in (after.0 p ∙ ap (λ b. cond b (Some w) (value_at_text m p)) (is_eq-slice_cmp prefix p)) ∙ by (bytes_eq prefix p)
    where
      by : (b : Bool) → numbers_in (cond b (Some w) (value_at_text m p)) ≡ cond b w.items (prefix_numbers m p)
      by true = refl
      by false = refl

  -- o is what the map had at the prefix
  module _ (o : Option (Vec ℕ)) (found : o ≡ value_at_text m prefix) where
    pub pushed : (k : ℕ) → w.items ≡ numbers_in o ++ k ∷ [] → (p : List ℕ) → prefix_numbers n p ≡ prefix_numbers m p ++ cond (bytes_eq prefix p) (k ∷ []) []
    pushed k made p = numbers_written p ∙ by (bytes_eq prefix p) refl
      where
        by : (b : Bool) → bytes_eq prefix p ≡ b → cond b w.items (prefix_numbers m p) ≡ prefix_numbers m p ++ cond b (k ∷ []) []
        by true is = made ∙ ap (λ a. numbers_in a ++ k ∷ []) (found ∙ ap (value_at_text m) ((bytes_decides prefix p).0 is))
        by false is = sym (append-nil (prefix_numbers m p))

    pub popped : w.items ≡ front_of (numbers_in o) → (p : List ℕ) → prefix_numbers n p ≡ cond (bytes_eq prefix p) (front_of (prefix_numbers m p)) (prefix_numbers m p)
    popped made p = numbers_written p ∙ by (bytes_eq prefix p) refl
      where
        by : (b : Bool) → bytes_eq prefix p ≡ b → cond b w.items (prefix_numbers m p) ≡ cond b (front_of (prefix_numbers m p)) (prefix_numbers m p)
        by true is = made ∙ ap (λ a. front_of (numbers_in a)) (found ∙ ap (value_at_text m) ((bytes_decides prefix p).0 is))
        by false is = refl

-- ---- one declaration fewer
pub declared_uris-append : (ds es : List Decl) (p : List ℕ) → declared_uris (ds ++ es) p ≡ declared_uris ds p ++ declared_uris es p
declared_uris-append [] es p = refl
declared_uris-append (d ∷ ds) es p = by (bytes_eq d.prefix p) (declared_uris-append ds es p)
  where
    by : (b : Bool) → declared_uris (ds ++ es) p ≡ declared_uris ds p ++ declared_uris es p → cond b (d.uri ∷ declared_uris (ds ++ es) p) (declared_uris (ds ++ es) p) ≡ cond b (d.uri ∷ declared_uris ds p) (declared_uris ds p) ++ declared_uris es p
    by true is = ap (λ (us : List (List ℕ)). d.uri ∷ us) is
    by false is = is

-- where a list is made of ys, all of it but the last is made of all of ys but the last
before_last_one : {A B : Type 0} (f : B → A) (xs : List A) (x : A) (ys : List B) → xs ++ x ∷ [] ≡ map f ys → xs ≡ map f (take (length ys - 1) ys)
before_last_one f xs x ys is =
    let count : length ys ≡ length xs + 1 = sym (length-map ys f) ∙ ap length (sym is) ∙ length-append xs (x ∷ []) in
    let less : length xs ≡ length ys - 1 = omega (arith, count) in
    sym (take-append_seam xs (x ∷ [])) ∙ ap (λ l. take (length xs) l) is ∙ ap (λ k. take k (map f ys)) less ∙ take-map f (length ys - 1) ys

module _ (s : Namespaces) (left : BTreeMap (List ℕ) (Vec ℕ)) (ds : List Decl) (d : Decl) (are : RepresentsDecls s (ds ++ d ∷ []))
    (step : (p : List ℕ) → prefix_numbers left p ≡ cond (bytes_eq d.prefix p) (front_of (declared_numbers s p)) (declared_numbers s p)) where
  stack_left : (p : List ℕ) → map (namespace_number s) (declared_uris ds p) ≡ map Some (prefix_numbers left p)
  stack_left p =
      by (bytes_eq d.prefix p) (sym (map-append (namespace_number s) (declared_uris ds p) (declared_uris (d ∷ []) p)) ∙ ap (map (namespace_number s)) (sym (declared_uris-append ds (d ∷ []) p)) ∙ are.declared p)
      ∙ ap (map Some) (sym (step p))
    where
      by : (b : Bool) → map (namespace_number s) (declared_uris ds p) ++ map (namespace_number s) (cond b (d.uri ∷ []) []) ≡ map Some (declared_numbers s p)
          → map (namespace_number s) (declared_uris ds p) ≡ map Some (cond b (front_of (declared_numbers s p)) (declared_numbers s p))
      by true e = before_last_one Some (map (namespace_number s) (declared_uris ds p)) (namespace_number s d.uri) (declared_numbers s p) e
      by false e = sym (append-nil (map (namespace_number s) (declared_uris ds p))) ∙ e

  pub one_less : RepresentsDecls (record { numbers = s.numbers; declared = left; none = s.none; xml = s.xml }) ds
  one_less = record { numbers = are.numbers; none = are.none; xml = are.xml; declared = stack_left }

-- ---- the nearest number of a prefix
module _ {A : Type 0} where
  abbrev last_of : List A → Option A
  last_of [] = None
  last_of (x ∷ xs) = option_or (last_of xs) (Some x)

  last_of-later : (x y : A) (xs : List A) → last_of (x ∷ y ∷ xs) ≡ last_of (y ∷ xs)
  last_of-later x y xs = by (last_of xs)
    where
      by : (o : Option A) → option_or (option_or o (Some y)) (Some x) ≡ option_or o (Some y)
      by None = refl
      by (Some z) = refl

  last_of-at : (x : A) (xs : List A) → last_of (x ∷ xs) ≡ slice_get (x ∷ xs) (length xs)
  last_of-at x [] = refl
  last_of-at x (y ∷ ys) = last_of-later x y ys ∙ last_of-at y ys

  last_of-get : (xs : List A) → last_of xs ≡ slice_get xs (length xs - 1)
  last_of-get [] = refl
  last_of-get (x ∷ xs) = let same : length xs ≡ length (x ∷ xs) - 1 = omega arith in last_of-at x xs ∙ ap (slice_get (x ∷ xs)) same

last_of-map : {A B : Type 0} (f : A → B) (xs : List A) → last_of (map f xs) ≡ option_map f (last_of xs)
last_of-map f [] = refl
last_of-map {B = B} f (x ∷ xs) = ap (λ (o : Option B). option_or o (Some (f x))) (last_of-map f xs) ∙ by (last_of xs)
  where
    by : (o : Option _) → option_or (option_map f o) (Some (f x)) ≡ option_map f (option_or o (Some x))
    by None = refl
    by (Some z) = refl

declared_last : (ds : List Decl) (p : List ℕ) → declared_uri ds p ≡ last_of (declared_uris ds p)
declared_last [] p = refl
declared_last (d ∷ ds) p = by (bytes_eq d.prefix p) (declared_last ds p)
  where
    by : (b : Bool) → declared_uri ds p ≡ last_of (declared_uris ds p) → option_or (declared_uri ds p) (cond b (Some d.uri) None) ≡ last_of (cond b (d.uri ∷ declared_uris ds p) (declared_uris ds p))
    by true is = ap (λ o. option_or o (Some d.uri)) is
    by false is = option_or-none (declared_uri ds p) ∙ is

module _ (s : Namespaces) (here : List (List Decl)) (are : RepresentsDecls s (scope_decls here)) (p : List ℕ) where
  pub bound_xml : bytes_eq p xml_prefix ≡ true → Some (Some s.xml) ≡ option_map (namespace_number s) (bound_uri here p)
  bound_xml is = rw is (ap Some (sym are.xml))

  module _ (plain : bytes_eq p xml_prefix ≡ false) (o : Option (Vec ℕ)) (found : o ≡ value_at_text s.declared p) where
    nearest_number : (k : Option ℕ) → k ≡ last_in (numbers_in o) → option_map (namespace_number s) (declared_uri (scope_decls here) p) ≡ option_map Some k
    nearest_number k is =
        ap (option_map (namespace_number s)) (declared_last (scope_decls here) p) ∙ sym (last_of-map (namespace_number s) (declared_uris (scope_decls here) p)) ∙ ap last_of (are.declared p)
        ∙ last_of-map Some (declared_numbers s p) ∙ ap (option_map Some) (last_of-get (declared_numbers s p) ∙ ap (λ a. last_in (numbers_in a)) (sym found) ∙ sym is)

    -- there is no number
    pub bound_nowhere : None ≡ last_in (numbers_in o) → None ≡ option_map (namespace_number s) (bound_uri here p)
    bound_nowhere is = rw plain (by (declared_uri (scope_decls here) p) (nearest_number None is))
      where
        by : (u : Option (List ℕ)) → option_map (namespace_number s) u ≡ None → None ≡ option_map (namespace_number s) (non_empty_uri u)
        by None e = refl
        by (Some u) e = cc

    -- the number is the number of the empty text
    pub bound_empty : (k : ℕ) → Some k ≡ last_in (numbers_in o) → k ≡ s.none → None ≡ option_map (namespace_number s) (bound_uri here p)
    bound_empty k is none = rw plain (by (declared_uri (scope_decls here) p) (nearest_number (Some k) is))
      where
        by : (u : Option (List ℕ)) → option_map (namespace_number s) u ≡ Some (Some k) → None ≡ option_map (namespace_number s) (non_empty_uri u)
        by None e = refl
        by (Some u) e =
            let its : namespace_number s u ≡ Some k = cc in
            ap (λ v. option_map (namespace_number s) (non_empty_uri (Some v))) (are.numbers.apart [] u k (are.none ∙ ap Some (sym none)) its)

    -- it is the number of another text
    pub bound_to : (k : ℕ) → Some k ≡ last_in (numbers_in o) → k ≢ s.none → Some (Some k) ≡ option_map (namespace_number s) (bound_uri here p)
    bound_to k is other = rw plain (by (declared_uri (scope_decls here) p) (nearest_number (Some k) is))
      where
        by : (u : Option (List ℕ)) → option_map (namespace_number s) u ≡ Some (Some k) → Some (Some k) ≡ option_map (namespace_number s) (non_empty_uri u)
        by None e = cc
        by (Some []) e = let its : namespace_number s [] ≡ Some k = cc in let same : k ≡ s.none = cc (its, are.none) in absurd (other same)
        by (Some (c ∷ cs)) e = sym e

-- ---- one more list of declarations
pub scope_decls-more : (c : List (List Decl)) (ds : List Decl) → scope_decls (c ++ ds ∷ []) ≡ scope_decls c ++ ds
scope_decls-more [] ds = append-nil ds
scope_decls-more (xs ∷ c) ds = ap (λ (l : List Decl). xs ++ l) (scope_decls-more c ds) ∙ sym (append_assoc xs (scope_decls c) ds)
