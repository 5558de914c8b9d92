-- What an operation makes of a proper tree is proper and at most `MAX_LEVELS` levels deep, whoever
-- wrote the operation.
use Rattle.std.proofs.Common.{◌≡◌, ◌≢◌, ℕ, suc, ◌+◌, ◌-◌, ◌≤◌, Bool, true, false, cond, not, ◌&&◌, ◌||◌, List, [], ◌∷◌, ◌++◌, map, length, Option, Some, None, IsSome, is_some, option_and_then, option_map, slice_get, bytes_eq, Result, Ok, refl, sym, ap, ◌∙◌, subst, arith, if◌then◌else◌}
use Rattle.std.specs.Prelude.{unwrap_or, nat_le, ◌==◌}
use Rattle.std.specs.List.{AllByRecursion, IsDistinct, list_all, list_any}
use Rattle.std.proofs.lemmas.Bool.Decides.{nat_tests}
use Rattle.std.proofs.lemmas.Slice.Eq.{bytes_eq-Decides}
use Rattle.xml_names.specs.Attributes.{remove_first}
use Rattle.xml_names.specs.Characters.{has_only_chars, is_char, is_name}
use Rattle.xml_tree.specs.Edits.{change_at, parent_path, put_over}
use Rattle.xml_names.specs.ExpandedNames.{ExpandedName, attr_name, element_name, same_expanded}
use Rattle.xml_tree.specs.Nodes.{exchange_nodes, nodes_of, text_node}
use Rattle.xml_tree.specs.Proper.{IsProperAttr, IsProperName, IsProperTag, HoldsOfChars, HoldsOfNode, IsProperPart, IsProperTree, is_prefix}
use Rattle.xml_tree.specs.inner.Proper.{IsProperContent}
use Rattle.xml_names.specs.Scopes.{in_scope_bindings, bound_uri, xmlns_prefix}
use Rattle.xml_tree.specs.TreeScopes.{scope_around, scope_at}
use Rattle.xml_tree.specs.Tree.{Content, last, more, comment_node, Tree, at, height, tree_of}
use Rattle.xml_names.specs.declared.names.Name.{Name}
use Rattle.xml_names.specs.declared.names.Decl.{Decl}
use Rattle.xml_names.specs.declared.names.Attr.{Attr}
use Rattle.xml_tree.proofs.EverywhereLaws.{Letters-append, Throughout-change_at, nodes-Everywhere, scope_at-around}
use Rattle.xml_tree.proofs.Places.{content_of-nodes_of}
use Rattle.xml_tree.proofs.ProperEdits.{with-nodes, with-other}
use Rattle.tree_text.proofs.PrintedValues.{both as parts}
use Rattle.node_select.specs.Names.{prefix_uri}
use Rattle.patch_rules.specs.PatchOperations as words
use Rattle.patch_rules.proofs.NameCuts.{cut_from_front}
use Rattle.patch_rules.specs.PatchOperations.{Position, Append, Prepend, Before, After, Location, AtElement, AtAttr, AtText, PatchAction, OperationError, new_attr_result, attr_of, parse_qname, apply_action, require_some, is_type_prefix_bound, check_tree, names_agree, reject_xmlns, is_not_beside_root, location_path, put_nodes_at, put_result, remove_result, replace_result, set_first_value, scope_of_put, sole_element, require, parse_attr_name, content_value, with_attrs, prefixed_name, is_within_depth}
use Rattle.patch_rules.specs.inner.QNames.{cut_qname_from}
use Rattle.patch_laws.specs.Premises.{IsReplicaTree}
use Rattle.patch_laws.proofs.Attributes.{not_xmlns, same_expanded-true}
use Rattle.patch_laws.proofs.Prefixes.{both}

or_left : (a b : Bool) → (a || b) ≡ false → a ≡ false
or_left true b h = h
or_left false b h = refl

or_right : (a b : Bool) → (a || b) ≡ false → b ≡ false
or_right true b h = cc
or_right false b h = h

or_true : (a b : Bool) → b ≡ true → (a || b) ≡ true
or_true true b h = refl
or_true false b h = h

-- ---- from one scope to another

named_by : (c d : List (List Decl)) (n : Name) → (n.prefix ≢ [] → bound_uri c n.prefix ≡ bound_uri d n.prefix) → IsProperName c n → IsProperName d n
named_by c d n same h = record { prefix = h.prefix; local = h.local; known = λ ne. subst (λ o. IsSome o) (same ne) (h.known ne) }

attr_bound : (c d : List (List Decl)) (n : Name) → attr_name c n ≡ attr_name d n → n.prefix ≢ [] → bound_uri c n.prefix ≡ bound_uri d n.prefix
attr_bound c d n same ne = by (bytes_eq n.prefix []) refl (ap (λ (x : ExpandedName). x.uri) same)
  where
    by : (b : Bool) → bytes_eq n.prefix [] ≡ b → cond b None (bound_uri c n.prefix) ≡ cond b None (bound_uri d n.prefix) → bound_uri c n.prefix ≡ bound_uri d n.prefix
    by true e h = absurd (ne ((bytes_eq-Decides n.prefix []).0 e))
    by false e h = h

attributes_by : (c d : List (List Decl)) (ats : List Attr) → list_all (λ a. same_expanded (attr_name c a.name) (attr_name d a.name)) ats ≡ true → AllByRecursion (IsProperAttr c) ats
    → AllByRecursion (IsProperAttr d) ats × (map (λ a. attr_name c a.name) ats ≡ map (λ a. attr_name d a.name) ats)
attributes_by c d [] e h = (tt, refl)
attributes_by c d (a ∷ ats) e h =
    let b = parts (same_expanded (attr_name c a.name) (attr_name d a.name)) (list_all (λ x. same_expanded (attr_name c x.name) (attr_name d x.name)) ats) e in
    let same : attr_name c a.name ≡ attr_name d a.name = same_expanded-true (attr_name c a.name) (attr_name d a.name) b.0 in
    let rest = attributes_by c d ats b.1 h.1 in
    ((record { named = named_by c d a.name (attr_bound c d a.name same) h.0.named; other = h.0.other; value = h.0.value }, rest.0), λ i. same i ∷ rest.1 i)

pub Proper-alike : (c d : List (List Decl)) (k : Content) → names_agree c d k ≡ true → IsProperContent c k → IsProperContent d k
Proper-alike c d (last t) e h = h
Proper-alike c d (more t n ds ats k rest) e h =
    let c' = c ++ ds ∷ [] in
    let d' = d ++ ds ∷ [] in
    let attrs = list_all (λ a. same_expanded (attr_name c' a.name) (attr_name d' a.name)) ats in
    let e1 = parts (same_expanded (element_name c' n) (element_name d' n)) (attrs && (names_agree c' d' k && names_agree c d rest)) e in
    let e2 = parts attrs (names_agree c' d' k && names_agree c d rest) e1.1 in
    let e3 = parts (names_agree c' d' k) (names_agree c d rest) e2.1 in
    let name : element_name c' n ≡ element_name d' n = same_expanded-true (element_name c' n) (element_name d' n) e1.0 in
    let moved = attributes_by c' d' ats e2.0 h.1.attributes in (
      h.0,
      record {
        named = named_by c' d' n (λ _. ap (λ (x : ExpandedName). x.uri) name) h.1.named;
        declarations = h.1.declarations;
        attributes = moved.0;
        prefixes = h.1.prefixes;
        names = subst (λ l. IsDistinct same_expanded l) moved.1 h.1.names;
      },
      Proper-alike c' d' k e3.0 h.2,
      Proper-alike c d rest e3.1 h.3,
    )
Proper-alike c d (comment_node t x rest) e h = (h.0, h.1, Proper-alike c d rest e h.2)

-- ---- answers of tests

pub given_ok : {A : Type 0} (o : Option A) (w : OperationError) (k : A → Result Tree OperationError) (u : Tree) → require_some o w k ≡ Ok u → (x : A) × (o ≡ Some x) × (k x ≡ Ok u)
given_ok None w k u h = cc
given_ok (Some x) w k u h = (x, refl, h)

pub tested_ok : (b : Bool) (w : OperationError) (r : Result Tree OperationError) (u : Tree) → require b w r ≡ Ok u → (b ≡ true) × (r ≡ Ok u)
tested_ok true w r u h = (refl, h)
tested_ok false w r u h = cc

same_ok : (x u : Tree) → ◌≡◌ {A = Result Tree OperationError} (Ok x) (Ok u) → x ≡ u
same_ok x u h = cc

low : (n : ℕ) → nat_le n 64 ≡ true → n ≤ 64
low n h = grind (arith, nat_tests)

-- the new tree, whether names mean the same, and the result
pub made_ok : (new : Tree) (alike : Bool) (u : Tree) → check_tree new alike ≡ Ok u → (new ≡ u) × (alike ≡ true) × (height u ≤ 64)
made_ok new alike u h =
    let a = tested_ok (is_within_depth new) words.WrongNodes (require alike words.Prefix (Ok new)) u h in
    let b = tested_ok alike words.Prefix (Ok new) u a.1 in
    let same = same_ok new u b.1 in
    (same, b.0, subst (λ x. height x ≤ 64) same (low (height new) a.0))

made_sound : (new : Tree) (alike : Bool) (u : Tree) → check_tree new alike ≡ Ok u → (alike ≡ true → IsProperTree [] new) → IsReplicaTree u
made_sound new alike u h keeps = let m = made_ok new alike u h in (subst (IsProperTree []) m.0 (keeps m.1), m.2)

-- ---- content

nodes_proper : (c : List (List Decl)) (k : Content) → IsProperContent c k → AllByRecursion (HoldsOfNode IsProperPart c) (nodes_of k)
nodes_proper c k h = nodes-Everywhere IsProperPart c (nodes_of k) (subst (λ x. IsProperContent c x) (sym (content_of-nodes_of k)) h)

sole_proper : (c : List (List Decl)) (k : Content) (e : Tree) → sole_element k ≡ Some e → IsProperContent c k → IsProperTree c e
sole_proper c (last t) e is h = cc
sole_proper c (more t n ds ats k rest) e is h = by (words.is_white_space t && words.is_blank_content rest) is
  where
    by : (b : Bool) → cond b (Some (tree_of n ds ats k)) None ≡ Some e → IsProperTree c e
    by true s = let same : tree_of n ds ats k ≡ e = cc in subst (IsProperTree c) same (h.1, h.2)
    by false s = cc
sole_proper c (comment_node t x rest) e is h = by (words.is_white_space t) is (λ s. sole_proper c rest e s h.2)
  where
    by : (b : Bool) → cond b (sole_element rest) None ≡ Some e → (sole_element rest ≡ Some e → IsProperTree c e) → IsProperTree c e
    by true s f = f s
    by false s f = cc

value_proper : (c : List (List Decl)) (k : Content) (v : List ℕ) → content_value k ≡ Some v → IsProperContent c k → HoldsOfChars IsProperPart c v
value_proper c (last t) v is h = let same : t ≡ v = cc in subst (HoldsOfChars IsProperPart c) same h
value_proper c (more t n ds ats k rest) v is h = cc
value_proper c (comment_node t x rest) v is h = by (content_value rest) refl is (λ w s. value_proper c rest w s h.2)
  where
    by : (o : Option (List ℕ)) → content_value rest ≡ o → option_map (λ w. t ++ w) o ≡ Some v → ((w : List ℕ) → content_value rest ≡ Some w → HoldsOfChars IsProperPart c w) → HoldsOfChars IsProperPart c v
    by None e s f = cc
    by (Some w) e s f = let same : t ++ w ≡ v = cc in subst (HoldsOfChars IsProperPart c) same (Letters-append IsProperPart c t w h.0 (f w e))

chars_of : (c : List (List Decl)) (v : List ℕ) → HoldsOfChars IsProperPart c v → has_only_chars v ≡ true
chars_of c [] h = refl
chars_of c (x ∷ v) h = both (is_char x) (has_only_chars v) h.0 (chars_of c v h.1)

text_proper : (c d : List (List Decl)) (v : List ℕ) → HoldsOfChars IsProperPart c v → AllByRecursion (HoldsOfNode IsProperPart d) (text_node v)
text_proper c d [] h = tt
text_proper c d (x ∷ v) h = (h, tt)

-- ---- nodes

put_proper : (c : List (List Decl)) (pos : Position) (p : List ℕ) (k : Content) (t : Tree) → is_not_beside_root pos p ≡ true → IsProperContent (scope_of_put pos p t) k → IsProperTree [] t → IsProperTree [] (put_nodes_at pos p (nodes_of k) t)
put_proper c Append p k t off h g = with-nodes IsProperPart [] p (length (words.nodes_at p t)) (length (words.nodes_at p t)) (nodes_of k) t (nodes_proper (scope_at p t) k h) g
put_proper c Prepend p k t off h g = with-nodes IsProperPart [] p 0 0 (nodes_of k) t (nodes_proper (scope_at p t) k h) g
put_proper c Before [] k t off h g = cc
put_proper c Before (n ∷ p) k t off h g = with-nodes IsProperPart [] (parent_path (n ∷ p)) (words.index_in_parent (n ∷ p) t) (words.index_in_parent (n ∷ p) t) (nodes_of k) t (nodes_proper (scope_at (parent_path (n ∷ p)) t) k h) g
put_proper c After [] k t off h g = cc
put_proper c After (n ∷ p) k t off h g = with-nodes IsProperPart [] (parent_path (n ∷ p)) (suc (words.index_in_parent (n ∷ p) t)) (suc (words.index_in_parent (n ∷ p) t)) (nodes_of k) t (nodes_proper (scope_at (parent_path (n ∷ p)) t) k h) g

put_sound : (c : List (List Decl)) (pos : Position) (p : List ℕ) (k : Content) (t u : Tree) → IsProperContent c k → IsProperTree [] t → put_result c pos p k t ≡ Ok u → IsReplicaTree u
put_sound c pos p k t u h g is =
    let rest = check_tree (put_nodes_at pos p (nodes_of k) t) (names_agree c (scope_of_put pos p t) k) in
    let a = tested_ok (is_not_beside_root pos p) words.RootTouched (require (is_some (slice_get (nodes_of k) 0)) words.WrongNodes rest) u is in
    let b = tested_ok (is_some (slice_get (nodes_of k) 0)) words.WrongNodes rest u a.1 in
    made_sound (put_nodes_at pos p (nodes_of k) t) (names_agree c (scope_of_put pos p t) k) u b.1 (λ alike. put_proper c pos p k t a.0 (Proper-alike c (scope_of_put pos p t) k alike h) g)

-- ---- attributes

-- an element with its attributes changed, where they stay valid in a tag in the scope of the place
attrs_proper : (p : List ℕ) (f : List Attr → List Attr) (t : Tree)
    → ((e : Tree) → at p t ≡ Some e → IsProperTag (scope_at p t) e.name e.decls e.attrs → IsProperTag (scope_at p t) e.name e.decls (f e.attrs)) → IsProperTree [] t → IsProperTree [] (change_at p (with_attrs f) t)
attrs_proper p f t keeps h =
    Throughout-change_at IsProperPart p (with_attrs f) [] t
    (λ e there g. let own = scope_at-around p t e there in (subst (λ c. IsProperTag c e.name e.decls (f e.attrs)) own (keeps e there (subst (λ c. IsProperTag c e.name e.decls e.attrs) (sym own) g.0)), g.1)) h

rewritten_all : (c : List (List Decl)) (f : Attr → Bool) (v : List ℕ) (ats : List Attr) → has_only_chars v ≡ true → AllByRecursion (IsProperAttr c) ats → AllByRecursion (IsProperAttr c) (set_first_value f v ats)
rewritten_all c f v [] chars h = tt
rewritten_all c f v (a ∷ ats) chars h = by (f a) refl (rewritten_all c f v ats chars h.1)
  where
    by : (b : Bool) → f a ≡ b → AllByRecursion (IsProperAttr c) (set_first_value f v ats) → AllByRecursion (IsProperAttr c) (set_first_value f v (a ∷ ats))
    by true e rest = rw e (record { named = h.0.named; other = h.0.other; value = chars }, h.1)
    by false e rest = rw e (h.0, rest)

rewritten_names : (c : List (List Decl)) (f : Attr → Bool) (v : List ℕ) (ats : List Attr) → map (λ a. attr_name c a.name) ats ≡ map (λ a. attr_name c a.name) (set_first_value f v ats)
rewritten_names c f v [] = refl
rewritten_names c f v (a ∷ ats) = by (f a) refl (rewritten_names c f v ats)
  where
    by : (b : Bool) → f a ≡ b → map (λ x. attr_name c x.name) ats ≡ map (λ x. attr_name c x.name) (set_first_value f v ats) → map (λ x. attr_name c x.name) (a ∷ ats) ≡ map (λ x. attr_name c x.name) (set_first_value f v (a ∷ ats))
    by true e rest = rw e refl
    by false e rest = rw e (ap (λ l. attr_name c a.name ∷ l) rest)

rewritten_tag : (c : List (List Decl)) (f : Attr → Bool) (v : List ℕ) (n : Name) (ds : List Decl) (ats : List Attr) → has_only_chars v ≡ true → IsProperTag c n ds ats → IsProperTag c n ds (set_first_value f v ats)
rewritten_tag c f v n ds ats chars h = record {
  named = h.named;
  declarations = h.declarations;
  attributes = rewritten_all c f v ats chars h.attributes;
  prefixes = h.prefixes;
  names = subst (λ l. IsDistinct same_expanded l) (rewritten_names c f v ats) h.names;
}

removed_all : {A : Type 0} (P : A → Type 0) (f : A → Bool) (xs : List A) → AllByRecursion P xs → AllByRecursion P (remove_first f xs)
removed_all P f [] h = tt
removed_all P f (x ∷ xs) h = by (f x) refl (removed_all P f xs h.1)
  where
    by : (b : Bool) → f x ≡ b → AllByRecursion P (remove_first f xs) → AllByRecursion P (remove_first f (x ∷ xs))
    by true e rest = rw e h.1
    by false e rest = rw e (h.0, rest)

removed_apart : (x : ExpandedName) (c : List (List Decl)) (f : Attr → Bool) (ats : List Attr) → AllByRecursion (λ y. same_expanded x y ≡ false) (map (λ a. attr_name c a.name) ats)
    → AllByRecursion (λ y. same_expanded x y ≡ false) (map (λ a. attr_name c a.name) (remove_first f ats))
removed_apart x c f [] h = tt
removed_apart x c f (a ∷ ats) h = by (f a) refl (removed_apart x c f ats h.1)
  where
    by : (b : Bool) → f a ≡ b → AllByRecursion (λ y. same_expanded x y ≡ false) (map (λ z. attr_name c z.name) (remove_first f ats))
        → AllByRecursion (λ y. same_expanded x y ≡ false) (map (λ z. attr_name c z.name) (remove_first f (a ∷ ats)))
    by true e rest = rw e h.1
    by false e rest = rw e (h.0, rest)

removed_distinct : (c : List (List Decl)) (f : Attr → Bool) (ats : List Attr) → IsDistinct same_expanded (map (λ a. attr_name c a.name) ats) → IsDistinct same_expanded (map (λ a. attr_name c a.name) (remove_first f ats))
unfolding IsDistinct
removed_distinct c f [] h = tt
removed_distinct c f (a ∷ ats) h = by (f a) refl (removed_distinct c f ats h.1)
  where
    by : (b : Bool) → f a ≡ b → IsDistinct same_expanded (map (λ x. attr_name c x.name) (remove_first f ats)) → IsDistinct same_expanded (map (λ x. attr_name c x.name) (remove_first f (a ∷ ats)))
    by true e rest = rw e h.1
    by false e rest = rw e (removed_apart (attr_name c a.name) c f ats h.0, rest)

removed_tag : (c : List (List Decl)) (f : Attr → Bool) (n : Name) (ds : List Decl) (ats : List Attr) → IsProperTag c n ds ats → IsProperTag c n ds (remove_first f ats)
removed_tag c f n ds ats h = record {
  named = h.named;
  declarations = h.declarations;
  attributes = removed_all (IsProperAttr c) f ats h.attributes;
  prefixes = h.prefixes;
  names = removed_distinct c f ats h.names;
}

-- one attribute more, after the others
all_behind : {A : Type 0} (P : A → Type 0) (xs : List A) (x : A) → AllByRecursion P xs → P x → AllByRecursion P (xs ++ x ∷ [])
all_behind P [] x h k = (k, tt)
all_behind P (y ∷ ys) x h k = (h.0, all_behind P ys x h.1 k)

apart_behind : (x : ExpandedName) (c : List (List Decl)) (ats : List Attr) (a : Attr) → AllByRecursion (λ y. same_expanded x y ≡ false) (map (λ z. attr_name c z.name) ats) → same_expanded x (attr_name c a.name) ≡ false
    → AllByRecursion (λ y. same_expanded x y ≡ false) (map (λ z. attr_name c z.name) (ats ++ a ∷ []))
apart_behind x c [] a h k = (k, tt)
apart_behind x c (b ∷ ats) a h k = (h.0, apart_behind x c ats a h.1 k)

distinct_behind : (c : List (List Decl)) (ats : List Attr) (a : Attr) → IsDistinct same_expanded (map (λ z. attr_name c z.name) ats) → list_any (λ z. same_expanded (attr_name c z.name) (attr_name c a.name)) ats ≡ false
    → IsDistinct same_expanded (map (λ z. attr_name c z.name) (ats ++ a ∷ []))
unfolding IsDistinct
distinct_behind c [] a h k = (tt, tt)
distinct_behind c (b ∷ ats) a h k =
    let here : same_expanded (attr_name c b.name) (attr_name c a.name) ≡ false = or_left (same_expanded (attr_name c b.name) (attr_name c a.name)) (list_any (λ z. same_expanded (attr_name c z.name) (attr_name c a.name)) ats) k in (
      apart_behind (attr_name c b.name) c ats a h.0 here,
      distinct_behind c ats a h.1 (or_right (same_expanded (attr_name c b.name) (attr_name c a.name)) (list_any (λ z. same_expanded (attr_name c z.name) (attr_name c a.name)) ats) k),
    )

added_tag : (c : List (List Decl)) (n : Name) (ds : List Decl) (ats : List Attr) (a : Attr) → IsProperAttr c a → list_any (λ z. same_expanded (attr_name c z.name) (attr_name c a.name)) ats ≡ false → IsProperTag c n ds ats → IsProperTag c n ds (ats ++ a ∷ [])
added_tag c n ds ats a new gone h = record {
  named = h.named;
  declarations = h.declarations;
  attributes = all_behind (IsProperAttr c) ats a h.attributes new;
  prefixes = h.prefixes;
  names = distinct_behind c ats a h.names gone;
}

-- what the value of `type` names
parts_named : (p l : List ℕ) (n : Name) → prefixed_name p l ≡ Some n → (is_prefix n.prefix ≡ true) × (is_name n.local ≡ true)
parts_named p l n is = by (is_name p && is_name l) refl is
  where
    by : (b : Bool) → is_name p && is_name l ≡ b → cond b (Some (record { prefix = p; local = l })) None ≡ Some n → (is_prefix n.prefix ≡ true) × (is_name n.local ≡ true)
    by true e s =
        let same : record { prefix = p; local = l } ≡ n = cc in
        let b = parts (is_name p) (is_name l) e in
        subst (λ (x : Name). (is_prefix x.prefix ≡ true) × (is_name x.local ≡ true)) same (or_true (bytes_eq p []) (is_name p) b.0, b.1)
    by false e s = cc

cut_named : (cs seen : List ℕ) (n : Name) → cut_qname_from seen cs ≡ Some n → (is_prefix n.prefix ≡ true) × (is_name n.local ≡ true)
cut_named [] seen n is = by (is_name seen) refl is
  where
    by : (b : Bool) → is_name seen ≡ b → cond b (Some (record { prefix = []; local = seen })) None ≡ Some n → (is_prefix n.prefix ≡ true) × (is_name n.local ≡ true)
    by true e s = let same : record { prefix = []; local = seen } ≡ n = cc in subst (λ (x : Name). (is_prefix x.prefix ≡ true) × (is_name x.local ≡ true)) same (refl, e)
    by false e s = cc
cut_named (c ∷ cs) seen n is = by (c == 58) is (λ s. cut_named cs (seen ++ c ∷ []) n s)
  where
    by : (b : Bool) → cond b (prefixed_name seen cs) (cut_qname_from (seen ++ c ∷ []) cs) ≡ Some n → (cut_qname_from (seen ++ c ∷ []) cs ≡ Some n → (is_prefix n.prefix ≡ true) × (is_name n.local ≡ true))
        → (is_prefix n.prefix ≡ true) × (is_name n.local ≡ true)
    by true s f = parts_named seen cs n s
    by false s f = f s

-- what is known of the name of a new attribute, from the value of `type`
abbrev pub IsTyped : Name → Type 0
IsTyped n = (is_prefix n.prefix ≡ true) × (is_name n.local ≡ true) × (n.prefix ≡ [] → n.local ≢ xmlns_prefix)

declared_not : (m n : Name) → reject_xmlns m ≡ Some n → (is_prefix m.prefix ≡ true) × (is_name m.local ≡ true) → IsTyped n
declared_not m n is h = by (bytes_eq m.prefix [] && bytes_eq m.local xmlns_prefix) refl is
  where
    by : (b : Bool) → bytes_eq m.prefix [] && bytes_eq m.local xmlns_prefix ≡ b → cond b None (Some m) ≡ Some n → IsTyped n
    by true e s = cc
    by false e s =
        let same : m ≡ n = cc in
        subst IsTyped same (h.0, h.1, λ z w. let x : true ≡ false = sym (both (bytes_eq m.prefix []) (bytes_eq m.local xmlns_prefix) ((bytes_eq-Decides m.prefix []).1 z) ((bytes_eq-Decides m.local xmlns_prefix).1 w)) ∙ e in absurd cc)

type_named : (text : List ℕ) (n : Name) → parse_attr_name text ≡ Some n → IsTyped n
type_named [] n is = cc
type_named (c ∷ cs) n is = by (c == 64) is (parse_qname cs) refl
  where
    by : (b : Bool) → cond b (option_and_then reject_xmlns (parse_qname cs)) None ≡ Some n → (o : Option Name) → parse_qname cs ≡ o → IsTyped n
    by true s None e = let z : None ≡ Some n = ap (option_and_then reject_xmlns) (sym e) ∙ s in cc
    by true s (Some m) e = declared_not m n (ap (option_and_then reject_xmlns) (sym e) ∙ s) (cut_named cs [] m (cut_from_front cs ∙ e))
    by false s o e = cc

added_named : (pos type : Option (List ℕ)) (n : Name) → words.add_action pos type ≡ Some (words.NewAttr n) → IsTyped n
added_named None None n is = absurd (cc)
added_named (Some pos) None n is = by (words.parse_position pos) is
  where
    by : (o : Option Position) → option_map words.Put o ≡ Some (words.NewAttr n) → IsTyped n
    by None e = absurd (cc)
    by (Some x) e = absurd (cc)
added_named None (Some type) n is = by (parse_attr_name type) refl is
  where
    by : (o : Option Name) → parse_attr_name type ≡ o → option_map words.NewAttr o ≡ Some (words.NewAttr n) → IsTyped n
    by None e s = absurd (cc)
    by (Some m) e s = let same : m ≡ n = cc in type_named type n (e ∙ ap (λ x. Some x) same)
added_named (Some pos) (Some type) n is = absurd (cc)

pub task_named : (w : words.OperationName) (pos type ws : Option (List ℕ)) (n : Name) → words.action_by_name w pos type ws ≡ Some (words.NewAttr n) → IsTyped n
task_named words.Add pos type None n is = added_named pos type n is
task_named words.Add pos type (Some ws) n is = absurd (cc)
task_named words.Exchange pos type ws n is = by (is_some pos || (is_some type || is_some ws)) is
  where
    by : (b : Bool) → cond b None (Some words.Replace) ≡ Some (words.NewAttr n) → IsTyped n
    by true e = absurd (cc)
    by false e = absurd (cc)
task_named words.Cut pos type ws n is = by (is_some pos || is_some type) ws is
  where
    inner : (o : Option (Bool × Bool)) → option_map (λ s. words.Remove s.0 s.1) o ≡ Some (words.NewAttr n) → IsTyped n
    inner None e = absurd (cc)
    inner (Some x) e = absurd (cc)

    by : (b : Bool) (ws : Option (List ℕ)) → cond b None (words.remove_action ws) ≡ Some (words.NewAttr n) → IsTyped n
    by true ws e = absurd (cc)
    by false None e = absurd (cc)
    by false (Some ws) e = inner (words.parse_ws ws) e

known_there : (c : List (List Decl)) (p : List ℕ) → (bytes_eq p [] || is_some (prefix_uri (in_scope_bindings c) p)) ≡ true → p ≢ [] → IsSome (bound_uri c p)
known_there c p h ne = by (bytes_eq p xmlns_prefix) refl
  where
    some : is_some (prefix_uri (in_scope_bindings c) p) ≡ true
    some = out (bytes_eq p []) refl h
      where
        out : (b : Bool) → bytes_eq p [] ≡ b → (b || is_some (prefix_uri (in_scope_bindings c) p)) ≡ true → is_some (prefix_uri (in_scope_bindings c) p) ≡ true
        out true e k = absurd (ne ((bytes_eq-Decides p []).0 e))
        out false e k = k

    by : (b : Bool) → bytes_eq p xmlns_prefix ≡ b → IsSome (bound_uri c p)
    by true e = absurd (let z : is_some (cond true None (bound_uri (in_scope_bindings c ∷ []) p)) ≡ true = rw e at some in cc)
    by false e =
        let ne' : p ≢ xmlns_prefix = λ z. let w : true ≡ false = sym ((bytes_eq-Decides p xmlns_prefix).1 z) ∙ e in absurd cc in
        subst (λ o. IsSome o) (not_xmlns c p ne') some

not_false : (b : Bool) → not b ≡ true → b ≡ false
not_false true h = cc
not_false false h = refl

attr_sound : (c : List (List Decl)) (n : Name) (p : List ℕ) (k : Content) (t u : Tree) → IsTyped n → (bytes_eq n.prefix [] || is_some (prefix_uri (in_scope_bindings c) n.prefix)) ≡ true → IsProperContent c k → IsProperTree [] t
    → new_attr_result c n p k t ≡ Ok u → IsReplicaTree u
attr_sound c n p k t u typed known h g is =
    let place = scope_at p t in
    let there = unwrap_or (option_map (λ (e : Tree). e.attrs) (at p t)) [] in
    let gone = list_any (λ a. same_expanded (attr_name place a.name) (attr_name c n)) there in
    let alike = same_expanded (attr_name c n) (attr_name place n) in
    let new : List ℕ → Tree = λ v. change_at p (with_attrs (λ ats. ats ++ attr_of n v ∷ [])) t in
    let a = given_ok (content_value k) words.WrongNodes (λ v. require (not gone) words.WrongNodes (check_tree (new v) alike)) u is in
    let b = tested_ok (not gone) words.WrongNodes (check_tree (new a.0) alike) u a.2 in
    made_sound (new a.0) alike u b.1 (λ same.
    let names : attr_name c n ≡ attr_name place n = same_expanded-true (attr_name c n) (attr_name place n) same in
    let here : IsProperAttr place (attr_of n a.0) = record {
      named = record { prefix = typed.0; local = typed.1; known = λ ne. subst (λ o. IsSome o) (attr_bound c place n names ne) (known_there c n.prefix known ne) };
      other = typed.2;
      value = chars_of c a.0 (value_proper c k a.0 a.1 h);
    } in
    attrs_proper p (λ ats. ats ++ attr_of n a.0 ∷ []) t (λ e at_e tag.
    let same_attrs : there ≡ e.attrs = ap (λ (o : Option Tree). unwrap_or (option_map (λ (x : Tree). x.attrs) o) []) at_e in
    let none : list_any (λ x. same_expanded (attr_name place x.name) (attr_name place n)) e.attrs ≡ false =
    (λ i. list_any (λ x. same_expanded (attr_name place x.name) (sym names i)) (sym same_attrs i)) ∙ not_false gone b.0 in
    added_tag place e.name e.decls e.attrs (attr_of n a.0) here none tag) g)

-- ---- replacing and removing

replace_sound : (c : List (List Decl)) (location : Location) (k : Content) (t u : Tree) → IsProperContent c k → IsProperTree [] t → replace_result c location k t ≡ Ok u → IsReplicaTree u
replace_sound c (AtElement p) k t u h g is =
    let alike = names_agree c (scope_around p t) k in
    let a = given_ok (sole_element k) words.WrongNodes (λ e. check_tree (put_over p e t) alike) u is in
    made_sound (put_over p a.0 t) alike u a.2 (λ same. with-other IsProperPart [] p a.0 t (sole_proper (scope_around p t) k a.0 a.1 (Proper-alike c (scope_around p t) k same h)) g)
replace_sound c (AtAttr p f) k t u h g is =
    let a = given_ok (content_value k) words.WrongNodes (λ v. check_tree (change_at p (with_attrs (set_first_value f v)) t) true) u is in
    let chars = chars_of c a.0 (value_proper c k a.0 a.1 h) in
    made_sound (change_at p (with_attrs (set_first_value f a.0)) t) true u a.2 (λ _. attrs_proper p (set_first_value f a.0) t (λ e there tag. rewritten_tag (scope_at p t) f a.0 e.name e.decls e.attrs chars tag) g)
replace_sound c (AtText p i) k t u h g is =
    let a = given_ok (content_value k) words.WrongNodes (λ v. check_tree (change_at p (exchange_nodes i (suc i) (text_node v)) t) true) u is in
    made_sound (change_at p (exchange_nodes i (suc i) (text_node a.0)) t) true u a.2
    (λ _. with-nodes IsProperPart [] p i (suc i) (text_node a.0) t (text_proper c (scope_at p t) a.0 (value_proper c k a.0 a.1 h)) g)

remove_sound : (before after : Bool) (location : Location) (k : Content) (t u : Tree) → IsProperTree [] t → remove_result before after location k t ≡ Ok u → IsReplicaTree u
remove_sound before after (AtElement p) k t u g is =
    let new = words.cut_element before after p t in
    let a = tested_ok (words.is_below_root p) words.RootTouched (require (words.has_only_comments k) words.WrongNodes (require (words.has_requested_space before after p t) words.NoSpace (check_tree new true))) u is in
    let b = tested_ok (words.has_only_comments k) words.WrongNodes (require (words.has_requested_space before after p t) words.NoSpace (check_tree new true)) u a.1 in
    let d = tested_ok (words.has_requested_space before after p t) words.NoSpace (check_tree new true) u b.1 in
    made_sound new true u d.1 (λ _. with-nodes IsProperPart [] (parent_path p) (words.index_in_parent p t - (if before then 1 else 0)) (suc (words.index_in_parent p t) + (if after then 1 else 0)) [] t tt g)
remove_sound before after (AtAttr p f) k t u g is =
    let new = change_at p (with_attrs (remove_first f)) t in
    let a = tested_ok (words.has_only_comments k) words.WrongNodes (check_tree new true) u is in
    made_sound new true u a.1 (λ _. attrs_proper p (remove_first f) t (λ e there tag. removed_tag (scope_at p t) f e.name e.decls e.attrs tag) g)
remove_sound before after (AtText p i) k t u g is =
    let new = words.cut_nodes p i (suc i) t in
    let a = tested_ok (words.has_only_comments k) words.WrongNodes (check_tree new true) u is in
    made_sound new true u a.1 (λ _. with-nodes IsProperPart [] p i (suc i) [] t tt g)

-- ---- the whole operation

pub done_sound : (c : List (List Decl)) (task : PatchAction) (location : Location) (k : Content) (t u : Tree) → ((n : Name) → task ≡ words.NewAttr n → IsTyped n) → is_type_prefix_bound c task ≡ true → IsProperContent c k → IsProperTree [] t
    → apply_action c task location k t ≡ Ok u → IsReplicaTree u
done_sound c (words.Put pos) location k t u typed known h g is = put_sound c pos (location_path location) k t u h g is
done_sound c (words.NewAttr n) location k t u typed known h g is = attr_sound c n (location_path location) k t u (typed n refl) known h g is
done_sound c words.Replace location k t u typed known h g is = replace_sound c location k t u h g is
done_sound c (words.Remove before after) location k t u typed known h g is = remove_sound before after location k t u g is
