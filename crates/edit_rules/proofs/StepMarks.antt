-- The children that pass a key step are the ones that have its mark.
use Rattle.std.proofs.Common.{◌≡◌, ℕ, Bool, true, false, cond, List, [], ◌∷◌, map, Option, None, Some, find, IsTrue, IsSome, option_map, option_and_then, unwrap_or, refl, sym, ap, ap₂, ◌∙◌, subst}
use Rattle.std.specs.Prelude.{◌&&◌, ◌||◌}
use Rattle.std.specs.List.{AllByRecursion, IsDistinct, list_any}
use Rattle.std.specs.Str.{bytes_eq}
use Rattle.std.proofs.lemmas.Slice.Eq.{bytes_eq-Decides}
use Rattle.std.proofs.lemmas.Map.Keys.{IsDistinct-head, IsDistinct-tail}
use Rattle.std.proofs.lemmas.Option.{same_Some}
use Rattle.xml_tree.specs.Tree.{Tree}
use Rattle.xml_names.specs.ExpandedNames.{attr_name, element_name, same_expanded}
use Rattle.xml_tree.specs.Proper.{IsProperAttr, IsProperTag}
use Rattle.xml_names.specs.Scopes.{bound_uri, non_empty_uri, xml_uri}
use Rattle.xml_tree.specs.TreeScopes.{inside}
use Rattle.xml_names.specs.declared.names.Attr.{Attr}
use Rattle.node_select.specs.Names.{has_expanded_name, uri_or_empty}
use Rattle.node_select.specs.Selection.{some_attr_passes, passes_attr_test, is_attr_named, is_named, is_tested, passes_name_test}
use Rattle.node_select.specs.declared.selector.AttrTest.{AttrTest}
use Rattle.node_select.specs.declared.selector.NameTest.TheVariants.{Named}
use Rattle.node_select.specs.declared.selector.Step.{Step}
use Rattle.usage_docs.specs.declared.schema_table.ElementKind.{ElementKind}
use Rattle.usage_docs.specs.declared.schema_table.Key.{Key}
use Rattle.usage_docs.specs.SchemaTable.{Scope, kind_by_name, kind_of, element_namespace}
use Rattle.usage_docs.specs.KeyAttributes.{is_key_attribute, key_of, key_value, value_of, attribute_name}
use Rattle.usage_docs.specs.UniqueKeys.{SiblingKey, sibling_key, sibling_key_of}
use Rattle.edit_rules.proofs.Marks.{AsksFor}
use Rattle.edit_rules.proofs.KindWords.{kind_is_by, one_name}

-- ---- tests

both : (a b : Bool) → IsTrue (a && b) → IsTrue a × IsTrue b
both true b h = (refl, h)
both false b h = cc

and_true : (a b : Bool) → IsTrue a → IsTrue b → IsTrue (a && b)
and_true true b h g = g
and_true false b h g = cc

same_texts : (xs ys : List ℕ) → xs ≡ ys → IsTrue (bytes_eq xs ys)
same_texts xs ys e = (bytes_eq-Decides xs ys).1 e

-- ---- marks

mark_in : (o : Option ElementKind) (ats : List Attr) (m : SiblingKey) → option_and_then (λ kind. option_map (sibling_key kind) (key_value kind ats)) o ≡ Some m → (o ≡ Some m.kind) × (key_value m.kind ats ≡ Some m.value)
mark_in None ats m h = cc
mark_in (Some kind) ats m h = by (key_value kind ats) refl h
  where
    by : (v : Option (List ℕ)) → key_value kind ats ≡ v → option_map (sibling_key kind) v ≡ Some m → (Some kind ≡ Some m.kind) × (key_value m.kind ats ≡ Some m.value)
    by None e g = cc
    by (Some v) e g =
        let same = same_Some (sibling_key kind v) m g in
        subst (λ (x : SiblingKey). (Some kind ≡ Some x.kind) × (key_value x.kind ats ≡ Some x.value)) same (refl, e)

-- what an element's mark implies
pub mark_says : (row : ElementKind) (c : Scope) (e : Tree) (m : SiblingKey) → sibling_key_of row c e ≡ Some m → (kind_of row (inside c e) e.name ≡ Some m.kind) × (key_value m.kind e.attrs ≡ Some m.value)
unfolding sibling_key_of
mark_says row c e m h = mark_in (kind_of row (inside c e) e.name) e.attrs m h

pub mark_from : (row : ElementKind) (c : Scope) (e : Tree) (m : SiblingKey) → kind_of row (inside c e) e.name ≡ Some m.kind → key_value m.kind e.attrs ≡ Some m.value → sibling_key_of row c e ≡ Some m
unfolding sibling_key_of
mark_from row c e m k v = ap (option_and_then (λ kind. option_map (sibling_key kind) (key_value kind e.attrs))) k ∙ ap (option_map (sibling_key m.kind)) v

key_in : (kind : ElementKind) (key : Key) (ats : List Attr) → key_of kind ≡ Some key → key_value kind ats ≡ value_of key ats
unfolding key_value
key_in kind key ats k = rw k refl

-- ---- the attribute of a key

unprefixed : (key : Key) (a : Attr) → is_key_attribute key a ≡ true → (a.name.prefix ≡ []) × (a.name.local ≡ attribute_name key)
unprefixed key a h =
    let r = both (bytes_eq a.name.prefix []) (bytes_eq a.name.local (attribute_name key)) h in
    ((bytes_eq-Decides a.name.prefix []).0 r.0, (bytes_eq-Decides a.name.local (attribute_name key)).0 r.1)

-- an attribute without prefix is in no namespace
no_space : (c : Scope) (a : Attr) → a.name.prefix ≡ [] → attr_name c a.name ≡ record { uri = None; local = a.name.local }
no_space c a e = ap (λ b. record { uri = cond b None (bound_uri c a.name.prefix); local = a.name.local }) ((bytes_eq-Decides a.name.prefix []).1 e)

-- the key's attribute is the one that a test of the key finds
key_is_attr : (c : Scope) (key : Key) (a : Attr) → is_key_attribute key a ≡ true → IsTrue (is_attr_named c [] (attribute_name key) a)
key_is_attr c key a h =
    let u = unprefixed key a h in
    ap (has_expanded_name [] (attribute_name key)) (no_space c a u.0) ∙ and_true (bytes_eq a.name.local (attribute_name key)) true (same_texts a.name.local (attribute_name key) u.1) refl

xml_is_some : bytes_eq xml_uri [] ≡ true → ⊥
unfolding xml_uri
xml_is_some h = cc

text_is_some : (o : Option (List ℕ)) → IsSome (non_empty_uri o) → bytes_eq (unwrap_or (non_empty_uri o) []) [] ≡ true → ⊥
text_is_some None t h = cc
text_is_some (Some []) t h = cc
text_is_some (Some (x ∷ xs)) t h = cc

bound_if : (b : Bool) (o : Option (List ℕ)) → IsSome (cond b (Some xml_uri) (non_empty_uri o)) → bytes_eq (unwrap_or (cond b (Some xml_uri) (non_empty_uri o)) []) [] ≡ true → ⊥
bound_if true o t h = xml_is_some h
bound_if false o t h = text_is_some o t h

-- in a proper tag the attribute that a test of a key finds is unprefixed
bare_if : (b : Bool) (prefix : List ℕ) (o : Option (List ℕ)) → bytes_eq prefix [] ≡ b → (b ≡ false → IsSome o) → (IsSome o → bytes_eq (unwrap_or o []) [] ≡ true → ⊥) → bytes_eq (unwrap_or (cond b None o) []) [] ≡ true → bytes_eq prefix [] ≡ true
bare_if true prefix o is known some h = is
bare_if false prefix o is known some h = absurd (some (known refl) h)

other_prefix : (prefix : List ℕ) → bytes_eq prefix [] ≡ false → prefix ≡ [] → ⊥
other_prefix prefix f e = let t = (bytes_eq-Decides prefix []).1 e in let z : true ≡ false = sym t ∙ f in cc

attr_is_key : (c : Scope) (key : Key) (a : Attr) → IsProperAttr c a → IsTrue (is_attr_named c [] (attribute_name key) a) → is_key_attribute key a ≡ true
attr_is_key c key a proper h =
    let r = both (bytes_eq a.name.local (attribute_name key)) (bytes_eq (uri_or_empty (attr_name c a.name)) []) h in
    let p = bare_if (bytes_eq a.name.prefix []) a.name.prefix (bound_uri c a.name.prefix) refl (λ f. proper.named.known (other_prefix a.name.prefix f))
    (λ s t. bound_if _ _ s t) r.1 in
    and_true (bytes_eq a.name.prefix []) (bytes_eq a.name.local (attribute_name key)) p r.0

-- ---- among attributes

abbrev key_test : Key → List ℕ → AttrTest
key_test key v = record { uri = []; local = attribute_name key; value = v }

-- the value of a key is tested
found_any : (c : Scope) (key : Key) (ats : List Attr) (v : List ℕ) → option_map (λ (a : Attr). a.value) (find (is_key_attribute key) ats) ≡ Some v → IsTrue (list_any (passes_attr_test c (key_test key v)) ats)
found_any c key [] v h = cc
found_any c key (a ∷ ats) v h = by (is_key_attribute key a) refl (found_any c key ats v) h
  where
    or_left : (x y : Bool) → IsTrue x → IsTrue (x || y)
    or_left true y t = refl
    or_left false y t = cc

    or_right : (x y : Bool) → IsTrue y → IsTrue (x || y)
    or_right true y t = refl
    or_right false y t = t

    by : (b : Bool) → is_key_attribute key a ≡ b → (option_map (λ (x : Attr). x.value) (find (is_key_attribute key) ats) ≡ Some v → IsTrue (list_any (passes_attr_test c (key_test key v)) ats))
        → option_map (λ (x : Attr). x.value) (cond b (Some a) (find (is_key_attribute key) ats)) ≡ Some v → IsTrue (list_any (passes_attr_test c (key_test key v)) (a ∷ ats))
    by true e f g = or_left _ _ (and_true _ _ (same_texts a.value v (same_Some a.value v g)) (key_is_attr c key a e))
    by false e f g = or_right _ _ (f g)

-- two attributes of one key have the same expanded name
one_expanded : (c : Scope) (key : Key) (a b : Attr) → is_key_attribute key a ≡ true → is_key_attribute key b ≡ true → same_expanded (attr_name c a.name) (attr_name c b.name) ≡ true
one_expanded c key a b h g =
    let u = unprefixed key a h in
    let w = unprefixed key b g in
    ap₂ same_expanded (no_space c a u.0) (no_space c b w.0) ∙ same_texts a.name.local b.name.local (u.1 ∙ sym w.1)

-- so the tested attribute isn't among those after the key's own
not_behind : (c : Scope) (key : Key) (a : Attr) (ats : List Attr) (v : List ℕ) → is_key_attribute key a ≡ true → AllByRecursion (λ n. same_expanded (attr_name c a.name) n ≡ false) (map (λ (x : Attr). attr_name c x.name) ats) → AllByRecursion (IsProperAttr c) ats
    → IsTrue (list_any (passes_attr_test c (key_test key v)) ats) → ⊥
not_behind c key a [] v is apart proper h = cc
not_behind c key a (b ∷ ats) v is apart proper h = by (passes_attr_test c (key_test key v) b) refl (not_behind c key a ats v is apart.1 proper.1) h
  where
    by : (x : Bool) → passes_attr_test c (key_test key v) b ≡ x → (IsTrue (list_any (passes_attr_test c (key_test key v)) ats) → ⊥) → IsTrue (x || list_any (passes_attr_test c (key_test key v)) ats) → ⊥
    by true e f g =
        let asked = both (bytes_eq b.value v) (is_attr_named c [] (attribute_name key) b) e in
        let same = one_expanded c key a b is (attr_is_key c key b proper.0 asked.1) in
        let z : true ≡ false = sym same ∙ apart.0 in cc
    by false e f g = f g

any_found : (c : Scope) (key : Key) (ats : List Attr) (v : List ℕ) → AllByRecursion (IsProperAttr c) ats → IsDistinct same_expanded (map (λ (x : Attr). attr_name c x.name) ats)
    → IsTrue (list_any (passes_attr_test c (key_test key v)) ats) → option_map (λ (a : Attr). a.value) (find (is_key_attribute key) ats) ≡ Some v
any_found c key [] v proper distinct h = cc
any_found c key (a ∷ ats) v proper distinct h =
    by (passes_attr_test c (key_test key v) a) (is_key_attribute key a) refl refl (any_found c key ats v proper.1 (IsDistinct-tail same_expanded (attr_name c a.name) (map (λ (x : Attr). attr_name c x.name) ats) distinct)) h
  where
    by : (x b : Bool) → passes_attr_test c (key_test key v) a ≡ x → is_key_attribute key a ≡ b
        → (IsTrue (list_any (passes_attr_test c (key_test key v)) ats) → option_map (λ (y : Attr). y.value) (find (is_key_attribute key) ats) ≡ Some v) → IsTrue (x || list_any (passes_attr_test c (key_test key v)) ats)
        → option_map (λ (y : Attr). y.value) (cond b (Some a) (find (is_key_attribute key) ats)) ≡ Some v
    by true true e k f g = ap Some ((bytes_eq-Decides a.value v).0 (both (bytes_eq a.value v) (is_attr_named c [] (attribute_name key) a) e).0)
    by true false e k f g = let z : true ≡ false = sym (attr_is_key c key a proper.0 (both (bytes_eq a.value v) (is_attr_named c [] (attribute_name key) a) e).1) ∙ k in cc
    by false true e k f g =
        absurd (not_behind c key a ats v k (IsDistinct-head same_expanded (attr_name c a.name) (map (λ (x : Attr). attr_name c x.name) ats) distinct) proper.1 g)
    by false false e k f g = f g

value_asked : (c : Scope) (key : Key) (ats : List Attr) (v : List ℕ) → value_of key ats ≡ Some v → IsTrue (list_any (passes_attr_test c (key_test key v)) ats)
unfolding value_of
value_asked c key ats v h = found_any c key ats v h

asked_value : (c : Scope) (key : Key) (ats : List Attr) (v : List ℕ) → AllByRecursion (IsProperAttr c) ats → IsDistinct same_expanded (map (λ (x : Attr). attr_name c x.name) ats)
    → IsTrue (list_any (passes_attr_test c (key_test key v)) ats) → value_of key ats ≡ Some v
unfolding value_of
asked_value c key ats v proper distinct h = any_found c key ats v proper distinct h

-- ---- names

name_passes : (c : Scope) (step : Step) (child_element : Tree) (uri local : List ℕ) → step.name ≡ Named uri local → (element_namespace (inside c child_element) child_element.name ≡ uri) → (child_element.name.local ≡ local) → IsTrue (is_named c step child_element)
name_passes c step child_element uri local by_name space attribute_name =
    ap (λ t. passes_name_test t (element_name (inside c child_element) child_element.name)) by_name ∙ and_true (bytes_eq child_element.name.local local) (bytes_eq (element_namespace (inside c child_element) child_element.name) uri) (same_texts _ _ attribute_name) (same_texts _ _ space)

pub passed_name : (c : Scope) (step : Step) (child_element : Tree) (uri local : List ℕ) → step.name ≡ Named uri local → IsTrue (is_named c step child_element) → (element_namespace (inside c child_element) child_element.name ≡ uri) × (child_element.name.local ≡ local)
passed_name c step child_element uri local by_name h =
    let r = both (bytes_eq child_element.name.local local) (bytes_eq (element_namespace (inside c child_element) child_element.name) uri) (sym (ap (λ t. passes_name_test t (element_name (inside c child_element) child_element.name)) by_name) ∙ h) in
    ((bytes_eq-Decides (element_namespace (inside c child_element) child_element.name) uri).0 r.1, (bytes_eq-Decides child_element.name.local local).0 r.0)

-- ---- a step and a mark

pub mark_passes : (row : ElementKind) (c : Scope) (step : Step) (m : SiblingKey) (child_element : Tree) → AsksFor row step m → sibling_key_of row c child_element ≡ Some m → IsTrue (is_named c step child_element) × IsTrue (is_tested c step child_element)
mark_passes row c step m child_element asks is =
    let says = mark_says row c child_element m is in
    let name = one_name row (element_namespace (inside c child_element) child_element.name) child_element.name.local asks.uri asks.local m.kind (sym (kind_is_by row (inside c child_element) child_element.name) ∙ says.0) asks.of_kind in
    let value : value_of asks.key child_element.attrs ≡ Some m.value = sym (key_in m.kind asks.key child_element.attrs asks.of_key) ∙ says.1 in (
      name_passes c step child_element asks.uri asks.local asks.by_name name.0 name.1,
      ap (λ t. some_attr_passes (inside c child_element) t child_element.attrs) asks.by_key ∙ value_asked (inside c child_element) asks.key child_element.attrs m.value value,
    )

pub passes_mark : (row : ElementKind) (c : Scope) (step : Step) (m : SiblingKey) (child_element : Tree) → AsksFor row step m → IsProperTag (inside c child_element) child_element.name child_element.decls child_element.attrs → IsTrue (is_named c step child_element) → IsTrue (is_tested c step child_element) → sibling_key_of row c child_element ≡ Some m
passes_mark row c step m child_element asks proper named tested =
    let name = passed_name c step child_element asks.uri asks.local asks.by_name named in
    let kind : kind_of row (inside c child_element) child_element.name ≡ Some m.kind = kind_is_by row (inside c child_element) child_element.name ∙ ap (λ s. kind_by_name row s child_element.name.local) name.0 ∙ ap (kind_by_name row asks.uri) name.1 ∙ asks.of_kind in
    let asked : IsTrue (list_any (passes_attr_test (inside c child_element) (key_test asks.key m.value)) child_element.attrs) = sym (ap (λ t. some_attr_passes (inside c child_element) t child_element.attrs) asks.by_key) ∙ tested in
    mark_from row c child_element m kind (key_in m.kind asks.key child_element.attrs asks.of_key ∙ asked_value (inside c child_element) asks.key child_element.attrs m.value proper.attributes proper.names asked)
