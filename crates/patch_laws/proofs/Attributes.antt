-- Where no two attributes of an element have one expanded name, the attribute that an operation's
-- selector means is the one of the written name.
use Rattle.std.proofs.Common.{◌≡◌, ◌≢◌, ℕ, Bool, true, false, cond, ◌&&◌, ◌||◌, not, List, [], ◌∷◌, ◌++◌, map, Option, Some, None, IsSome, is_some, is_none, bytes_eq, refl, sym, ap, ◌∙◌, subst, eqb-true, append_assoc, append-nil}
use Rattle.std.specs.Prelude.{unwrap_or, ◌==◌, option_and_then}
use Rattle.std.specs.List.{AllByRecursion, IsDistinct, find, list_all, list_any}
use Rattle.std.proofs.lemmas.Slice.Eq.{bytes_eq-Decides}
use Rattle.xml_names.specs.Attributes.{change_first, remove_first, with_new_value, with_attr, has_qname as is_named}
use Rattle.xml_names.specs.Characters.{is_name, is_name_start, is_name_char}
use Rattle.xml_names.specs.ExpandedNames.{ExpandedName, attr_name, same_expanded, same_uri}
use Rattle.xml_names.specs.Markup.{print_name}
use Rattle.xml_tree.specs.Proper.{IsProperAttr, IsProperName, is_prefix}
use Rattle.xml_names.specs.Scopes.{in_scope_bindings, bound_uri, declared_uri, scope_decls, non_empty_uri, xml_prefix, xml_uri, xmlns_prefix}
use Rattle.xml_names.specs.declared.names.Name.{Name}
use Rattle.xml_names.specs.declared.names.Decl.{Decl}
use Rattle.xml_names.specs.declared.names.Attr.{Attr}
use Rattle.xml_names.proofs.BindingWords.{bound_uri-in_scope_bindings}
use Rattle.tree_text.proofs.PrintedNames.{IsWritten}
use Rattle.tree_text.proofs.PrintedValues.{both as parts}
use Rattle.node_select.specs.Names.{attr_uri, has_unbound_prefix, prefix_uri, uri_or_empty}
use Rattle.node_select.specs.Selection.{is_attr_named}
use Rattle.patch_rules.proofs.NameCuts.{cut_from_front}
use Rattle.patch_rules.specs.PatchOperations.{attr_of, reject_xmlns, set_first_value, parse_attr_name, prefixed_name}
use Rattle.patch_rules.specs.inner.QNames.{cut_qname_from}
use Rattle.edit_ops.specs.DiffOperations.{attr_name_text}
use Rattle.patch_laws.specs.Premises.{BindsAlike}
use Rattle.patch_laws.proofs.Prefixes.{both, same_uri-refl}

-- ---- tests that agree

module _ (f g : Attr → Bool) where
  abbrev pub Agree : List Attr → Type 0
  Agree ats = AllByRecursion (λ a. f a ≡ g a) ats

  pub any_agree : (ats : List Attr) → Agree ats → list_any f ats ≡ list_any g ats
  any_agree [] h = refl
  any_agree (a ∷ ats) h = λ i. h.0 i || any_agree ats h.1 i

  pub removed_agree : (ats : List Attr) → Agree ats → remove_first f ats ≡ remove_first g ats
  removed_agree [] h = refl
  removed_agree (a ∷ ats) h = λ i. cond (h.0 i) ats (a ∷ removed_agree ats h.1 i)

  -- where some attribute passes
  pub rewritten_agree : (v : List ℕ) (x : Attr) (ats : List Attr) → Agree ats → IsSome (find g ats) → set_first_value f v ats ≡ change_first g (with_new_value v) x ats
  rewritten_agree v x [] h s = cc
  rewritten_agree v x (a ∷ ats) h s = by (g a) refl (λ k. rewritten_agree v x ats h.1 k)
    where
      by : (b : Bool) → g a ≡ b → (IsSome (find g ats) → set_first_value f v ats ≡ change_first g (with_new_value v) x ats) → set_first_value f v (a ∷ ats) ≡ change_first g (with_new_value v) x (a ∷ ats)
      by true e rest = rw (h.0, e) refl
      by false e rest = rw (h.0, e) (ap (λ l. a ∷ l) (rest (rw e at s)))

pub found_any : (g : Attr → Bool) (ats : List Attr) → IsSome (find g ats) → list_any g ats ≡ true
found_any g [] s = cc
found_any g (a ∷ ats) s = by (g a) refl (found_any g ats)
  where
    by : (b : Bool) → g a ≡ b → (IsSome (find g ats) → list_any g ats ≡ true) → list_any g (a ∷ ats) ≡ true
    by true e rest = rw e refl
    by false e rest = rw e (rest (rw e at s))

pub none_passes : (g : Attr → Bool) (ats : List Attr) → find g ats ≡ None → AllByRecursion (λ a. g a ≡ false) ats
none_passes g [] s = tt
none_passes g (a ∷ ats) s = by (g a) refl (none_passes g ats)
  where
    by : (b : Bool) → g a ≡ b → (find g ats ≡ None → AllByRecursion (λ x. g x ≡ false) ats) → AllByRecursion (λ x. g x ≡ false) (a ∷ ats)
    by true e rest = absurd (let z : Some a ≡ None = rw e at s in cc)
    by false e rest = (e, rest (rw e at s))

pub new_behind : (n : Name) (v : List ℕ) (ats : List Attr) → find (is_named n) ats ≡ None → ats ++ attr_of n v ∷ [] ≡ with_attr n v ats
new_behind n v ats s = by ats (none_passes (is_named n) ats s)
  where
    by : (ats : List Attr) → AllByRecursion (λ a. is_named n a ≡ false) ats → ats ++ attr_of n v ∷ [] ≡ with_attr n v ats
    by [] h = refl
    by (a ∷ ats) h = rw h.0 (ap (λ l. a ∷ l) (by ats h.1))

-- ---- expanded names

same_name : (n : Name) (a : Attr) → is_named n a ≡ true → a.name ≡ n
same_name n a h =
    let b = parts (bytes_eq a.name.prefix n.prefix) (bytes_eq a.name.local n.local) h in
    let p : a.name.prefix ≡ n.prefix = (bytes_eq-Decides a.name.prefix n.prefix).0 b.0 in
    let l : a.name.local ≡ n.local = (bytes_eq-Decides a.name.local n.local).0 b.1 in
    λ i. record { prefix = p i; local = l i }

same_uri-true : (a b : Option (List ℕ)) → same_uri a b ≡ true → a ≡ b
same_uri-true None None h = refl
same_uri-true None (Some u) h = cc
same_uri-true (Some t) None h = cc
same_uri-true (Some t) (Some u) h = ap (λ x. Some x) ((bytes_eq-Decides t u).0 h)

pub same_expanded-true : (x y : ExpandedName) → same_expanded x y ≡ true → x ≡ y
same_expanded-true x y h =
    let b = parts (same_uri x.uri y.uri) (bytes_eq x.local y.local) h in
    let u : x.uri ≡ y.uri = same_uri-true x.uri y.uri b.0 in
    let l : x.local ≡ y.local = (bytes_eq-Decides x.local y.local).0 b.1 in
    λ i. record { uri = u i; local = l i }

same_expanded-is : (x y : ExpandedName) → x ≡ y → same_expanded x y ≡ true
same_expanded-is x y e = subst (λ z. same_expanded x z ≡ true) e (both (same_uri x.uri x.uri) (bytes_eq x.local x.local) (same_uri-refl x.uri) ((bytes_eq-Decides x.local x.local).1 refl))

-- an attribute with the expanded name of n has the name n
abbrev pub Sole : List (List Decl) → Name → List Attr → Type 0
Sole c n ats = AllByRecursion (λ a. same_expanded (attr_name c a.name) (attr_name c n) ≡ true → is_named n a ≡ true) ats

abbrev names : List (List Decl) → List Attr → List ExpandedName
names c ats = map (λ a. attr_name c a.name) ats

later : (c : List (List Decl)) (n : Name) (a : Attr) (ats : List Attr) → a.name ≡ n → AllByRecursion (λ y. same_expanded (attr_name c a.name) y ≡ false) (names c ats) → Sole c n ats
later c n a [] e h = tt
later c n a (b ∷ ats) e h = (
  λ m. absurd (let same : attr_name c b.name ≡ attr_name c n = same_expanded-true (attr_name c b.name) (attr_name c n) m in
      let z : same_expanded (attr_name c a.name) (attr_name c b.name) ≡ true = same_expanded-is (attr_name c a.name) (attr_name c b.name) (ap (attr_name c) e ∙ sym same) in
      let w : true ≡ false = sym z ∙ h.0 in cc),
  later c n a ats e h.1,
)

earlier : (c : List (List Decl)) (n : Name) (a : Attr) (ats : List Attr) → AllByRecursion (λ y. same_expanded (attr_name c a.name) y ≡ false) (names c ats) → IsSome (find (is_named n) ats)
    → same_expanded (attr_name c a.name) (attr_name c n) ≡ true → ⊥
earlier c n a [] h there m = cc
earlier c n a (b ∷ ats) h there m = by (is_named n b) refl (earlier c n a ats h.1)
  where
    by : (w : Bool) → is_named n b ≡ w → (IsSome (find (is_named n) ats) → same_expanded (attr_name c a.name) (attr_name c n) ≡ true → ⊥) → ⊥
    by false e f = f (rw e at there) m
    by true e f =
        let back : same_expanded (attr_name c a.name) (attr_name c b.name) ≡ true = ap (λ x. same_expanded (attr_name c a.name) (attr_name c x)) (same_name n b e) ∙ m in
        let z : true ≡ false = sym back ∙ h.0 in cc

pub Sole-distinct : (c : List (List Decl)) (n : Name) (ats : List Attr) → IsDistinct same_expanded (names c ats) → IsSome (find (is_named n) ats) → Sole c n ats
unfolding IsDistinct
Sole-distinct c n [] h there = tt
Sole-distinct c n (a ∷ ats) h there = by (is_named n a) refl (Sole-distinct c n ats h.1)
  where
    by : (w : Bool) → is_named n a ≡ w → (IsSome (find (is_named n) ats) → Sole c n ats) → Sole c n (a ∷ ats)
    by true e f = (λ m. e, later c n a ats (same_name n a e) h.0)
    by false e f = let rest : IsSome (find (is_named n) ats) = rw e at there in (λ m. absurd (earlier c n a ats h.0 rest m), f rest)

pub Sole-front : (c : List (List Decl)) (n : Name) (xs ys : List Attr) → Sole c n (xs ++ ys) → Sole c n xs
Sole-front c n [] ys h = tt
Sole-front c n (x ∷ xs) ys h = (h.0, Sole-front c n xs ys h.1)

-- the name is the name of an attribute of the element
pub named_there : (c : List (List Decl)) (n : Name) (ats : List Attr) → AllByRecursion (IsProperAttr c) ats → IsSome (find (is_named n) ats) → IsProperName c n × (n.prefix ≡ [] → n.local ≢ xmlns_prefix)
named_there c n [] h there = cc
named_there c n (a ∷ ats) h there = by (is_named n a) refl (named_there c n ats h.1)
  where
    by : (b : Bool) → is_named n a ≡ b → (IsSome (find (is_named n) ats) → IsProperName c n × (n.prefix ≡ [] → n.local ≢ xmlns_prefix)) → IsProperName c n × (n.prefix ≡ [] → n.local ≢ xmlns_prefix)
    by true e g = subst (λ x. IsProperName c x × (x.prefix ≡ [] → x.local ≢ xmlns_prefix)) (same_name n a e) (h.0.named, h.0.other)
    by false e g = g (rw e at there)

-- ---- the test of a selector, which knows namespaces as texts

-- a namespace that isn't the empty text
abbrev Full : Option (List ℕ) → Type 0
Full None = Unit {0}
Full (Some []) = ⊥
Full (Some (c ∷ cs)) = Unit {0}

Full-xml : Full (Some xml_uri)
unfolding xml_uri
Full-xml = tt

Full-text : (o : Option (List ℕ)) → Full (non_empty_uri o)
Full-text None = tt
Full-text (Some []) = tt
Full-text (Some (c ∷ cs)) = tt

Full-bound_uri : (c : List (List Decl)) (p : List ℕ) → Full (bound_uri c p)
Full-bound_uri c p = by (bytes_eq p xml_prefix)
  where
    by : (b : Bool) → Full (cond b (Some xml_uri) (non_empty_uri (declared_uri (scope_decls c) p)))
    by true = Full-xml
    by false = Full-text (declared_uri (scope_decls c) p)

Full-attr : (c : List (List Decl)) (n : Name) → Full (attr_name c n).uri
Full-attr c n = by (bytes_eq n.prefix [])
  where
    by : (b : Bool) → Full (cond b None (bound_uri c n.prefix))
    by true = tt
    by false = Full-bound_uri c n.prefix

same_texts : (a b : Option (List ℕ)) → Full a → Full b → unwrap_or a [] ≡ unwrap_or b [] → a ≡ b
same_texts None None h k e = refl
same_texts None (Some []) h k e = absurd k
same_texts None (Some (c ∷ cs)) h k e = cc
same_texts (Some []) b h k e = absurd h
same_texts (Some (c ∷ cs)) None h k e = cc
same_texts (Some (c ∷ cs)) (Some u) h k e = ap (λ x. Some x) e

same_test : (a b : Bool) → (a ≡ true → b ≡ true) → (b ≡ true → a ≡ true) → a ≡ b
same_test true true f g = refl
same_test false false f g = refl
same_test true false f g = sym (f refl)
same_test false true f g = g refl

-- c is the scope of the element, uri the namespace that the selector has for the name
agrees_one : (c : List (List Decl)) (n : Name) (uri : List ℕ) (a : Attr) → uri ≡ uri_or_empty (attr_name c n) → (same_expanded (attr_name c a.name) (attr_name c n) ≡ true → is_named n a ≡ true)
    → is_attr_named c uri n.local a ≡ is_named n a
agrees_one c n uri a is sole = same_test (is_attr_named c uri n.local a) (is_named n a) to from
  where
    to : is_attr_named c uri n.local a ≡ true → is_named n a ≡ true
    to h =
        let b = parts (bytes_eq a.name.local n.local) (bytes_eq (uri_or_empty (attr_name c a.name)) uri) h in
        let u : uri_or_empty (attr_name c a.name) ≡ uri_or_empty (attr_name c n) = (bytes_eq-Decides (uri_or_empty (attr_name c a.name)) uri).0 b.1 ∙ is in
        let w : (attr_name c a.name).uri ≡ (attr_name c n).uri = same_texts (attr_name c a.name).uri (attr_name c n).uri (Full-attr c a.name) (Full-attr c n) u in
        let l : a.name.local ≡ n.local = (bytes_eq-Decides a.name.local n.local).0 b.0 in
        sole (same_expanded-is (attr_name c a.name) (attr_name c n) (λ i. record { uri = w i; local = l i }))

    from : is_named n a ≡ true → is_attr_named c uri n.local a ≡ true
    from h =
        let name : a.name ≡ n = same_name n a h in
        both (bytes_eq a.name.local n.local) (bytes_eq (uri_or_empty (attr_name c a.name)) uri) ((bytes_eq-Decides a.name.local n.local).1 (ap (λ (x : Name). x.local) name))
        ((bytes_eq-Decides (uri_or_empty (attr_name c a.name)) uri).1 (ap (λ x. uri_or_empty (attr_name c x)) name ∙ sym is))

pub agrees : (c : List (List Decl)) (n : Name) (uri : List ℕ) (ats : List Attr) → uri ≡ uri_or_empty (attr_name c n) → Sole c n ats → Agree (is_attr_named c uri n.local) (is_named n) ats
agrees c n uri [] is h = tt
agrees c n uri (a ∷ ats) is h = (agrees_one c n uri a is h.0, agrees c n uri ats is h.1)

-- c is the scope of the element, d the scope at the operation
pub not_xmlns : (d : List (List Decl)) (p : List ℕ) → p ≢ xmlns_prefix → prefix_uri (in_scope_bindings d) p ≡ bound_uri d p
not_xmlns d p ne = by (bytes_eq p xmlns_prefix) refl
  where
    by : (b : Bool) → bytes_eq p xmlns_prefix ≡ b → cond b None (bound_uri (in_scope_bindings d ∷ []) p) ≡ bound_uri d p
    by true e = absurd (ne ((bytes_eq-Decides p xmlns_prefix).0 e))
    by false e = bound_uri-in_scope_bindings d p

pub uri_is : (c d : List (List Decl)) (n : Name) → BindsAlike c d → IsProperName c n → n.prefix ≢ xmlns_prefix → attr_uri (in_scope_bindings d) n ≡ uri_or_empty (attr_name c n)
uri_is c d n m h ne = by (bytes_eq n.prefix [])
  where
    by : (b : Bool) → cond b [] (unwrap_or (prefix_uri (in_scope_bindings d) n.prefix) []) ≡ unwrap_or (cond b None (bound_uri c n.prefix)) []
    by true = refl
    by false = ap (λ (o : Option (List ℕ)). unwrap_or o []) (not_xmlns d n.prefix ne ∙ sym (m n.prefix h.known))

prefix_known : (c d : List (List Decl)) (n : Name) → BindsAlike c d → IsProperName c n → n.prefix ≢ xmlns_prefix → n.prefix ≢ [] → IsSome (prefix_uri (in_scope_bindings d) n.prefix)
prefix_known c d n m h ne some = subst (λ o. IsSome o) (m n.prefix h.known ∙ sym (not_xmlns d n.prefix ne)) (h.known some)

pub known_type : (c d : List (List Decl)) (n : Name) → BindsAlike c d → IsProperName c n → n.prefix ≢ xmlns_prefix → (bytes_eq n.prefix [] || is_some (prefix_uri (in_scope_bindings d) n.prefix)) ≡ true
known_type c d n m h ne = by (bytes_eq n.prefix []) refl
  where
    by : (b : Bool) → bytes_eq n.prefix [] ≡ b → (b || is_some (prefix_uri (in_scope_bindings d) n.prefix)) ≡ true
    by true e = refl
    by false e = prefix_known c d n m h ne (λ z. let w : true ≡ false = sym ((bytes_eq-Decides n.prefix []).1 z) ∙ e in absurd cc)

pub not_unbound : (c d : List (List Decl)) (n : Name) → BindsAlike c d → IsProperName c n → n.prefix ≢ xmlns_prefix → has_unbound_prefix (in_scope_bindings d) n ≡ false
not_unbound c d n m h ne = by (bytes_eq n.prefix []) refl
  where
    some : (o : Option (List ℕ)) → IsSome o → is_none o ≡ false
    some None s = cc
    some (Some u) s = refl

    by : (b : Bool) → bytes_eq n.prefix [] ≡ b → (not b && is_none (prefix_uri (in_scope_bindings d) n.prefix)) ≡ false
    by true e = refl
    by false e = some (prefix_uri (in_scope_bindings d) n.prefix) (prefix_known c d n m h ne (λ z. let w : true ≡ false = sym ((bytes_eq-Decides n.prefix []).1 z) ∙ e in absurd cc))

-- ---- the name as a type

no_colon : (c : ℕ) → is_name_char c ≡ true → c == 58 ≡ false
no_colon c h = by (c == 58) refl
  where
    by : (b : Bool) → c == 58 ≡ b → b ≡ false
    by true e = absurd (let z : is_name_char 58 ≡ true = subst (λ x. is_name_char x ≡ true) (eqb-true c 58 e) h in cc)
    by false e = refl

start_char : (c : ℕ) → is_name_start c ≡ true → is_name_char c ≡ true
start_char c h = rw h refl

name_chars : (n : List ℕ) → is_name n ≡ true → list_all is_name_char n ≡ true
name_chars [] h = cc
name_chars (c ∷ cs) h = let b = parts (is_name_start c) (list_all is_name_char cs) h in both (is_name_char c) (list_all is_name_char cs) (start_char c b.0) b.1

cut_colon : (cs seen l : List ℕ) → list_all is_name_char cs ≡ true → cut_qname_from seen (cs ++ 58 ∷ l) ≡ prefixed_name (seen ++ cs) l
cut_colon [] seen l h = ap (λ p. prefixed_name p l) (sym (append-nil seen))
cut_colon (c ∷ cs) seen l h =
    let b = parts (is_name_char c) (list_all is_name_char cs) h in
    rw (no_colon c b.0) (cut_colon cs (seen ++ c ∷ []) l b.1 ∙ ap (λ p. prefixed_name p l) (append_assoc seen (c ∷ []) cs))

abbrev plain_name : List ℕ → Option Name
plain_name l = cond (is_name l) (Some (record { prefix = []; local = l })) None

cut_plain : (cs seen : List ℕ) → list_all is_name_char cs ≡ true → cut_qname_from seen cs ≡ plain_name (seen ++ cs)
cut_plain [] seen h = ap plain_name (sym (append-nil seen))
cut_plain (c ∷ cs) seen h =
    let b = parts (is_name_char c) (list_all is_name_char cs) h in
    rw (no_colon c b.0) (cut_plain cs (seen ++ c ∷ []) b.1 ∙ ap plain_name (append_assoc seen (c ∷ []) cs))

cut_by : (p l : List ℕ) → is_prefix p ≡ true → is_name l ≡ true → cut_qname_from [] (print_name (record { prefix = p; local = l })) ≡ Some (record { prefix = p; local = l })
cut_by [] l h k = cut_plain l [] (name_chars l k) ∙ rw k refl
cut_by (c ∷ cs) l h k = cut_colon (c ∷ cs) [] l (name_chars (c ∷ cs) h) ∙ rw (h, k) refl

declares_not : (n : Name) → (n.prefix ≡ [] → n.local ≢ xmlns_prefix) → (bytes_eq n.prefix [] && bytes_eq n.local xmlns_prefix) ≡ false
declares_not n o = by (bytes_eq n.prefix []) refl (bytes_eq n.local xmlns_prefix) refl
  where
    by : (a : Bool) → bytes_eq n.prefix [] ≡ a → (b : Bool) → bytes_eq n.local xmlns_prefix ≡ b → (a && b) ≡ false
    by false e b f = refl
    by true e false f = refl
    by true e true f = absurd (o ((bytes_eq-Decides n.prefix []).0 e) ((bytes_eq-Decides n.local xmlns_prefix).0 f))

pub type_read : (n : Name) → IsWritten n → (n.prefix ≡ [] → n.local ≢ xmlns_prefix) → parse_attr_name (attr_name_text n) ≡ Some n
type_read n w o = ap (option_and_then reject_xmlns) (sym (cut_from_front (print_name n)) ∙ cut_by n.prefix n.local w.prefix w.local) ∙ rw (declares_not n o) refl

pub may_name : (n : Name) → (n.prefix ≡ [] → n.local ≢ xmlns_prefix) → not (bytes_eq n.prefix [] && bytes_eq n.local xmlns_prefix) ≡ true
may_name n o = rw (declares_not n o) refl
