-- In a valid document of services every child of the root is a service with an address; and what
-- edits of attributes do to it.
use Rattle.std.proofs.Common.{◌≡◌, ℕ, Bool, true, false, cond, ◌&&◌, List, [], ◌∷◌, map, find, Option, None, Some, is_some, IsTrue, option_map, option_and_then, inl, inr, refl, sym, ap, ap₂, ◌∙◌}
use Rattle.std.proofs.lemmas.Map.Keys.{IsDistinct-head, IsDistinct-tail}
use Rattle.std.proofs.lemmas.Slice.Eq.{bytes_eq-Decides}
use Rattle.std.specs.List.{AllByRecursion, IsDistinct}
use Rattle.std.specs.Option.{ForSome, option_map_or}
use Rattle.std.specs.Str.{bytes_eq}
use Rattle.doc_names.specs.declared.usages.Usage.TheVariants as usages
use Rattle.xml_names.specs.Attributes.{has_qname, with_new_value, with_attr, without_attr}
use Rattle.xml_names.specs.ExpandedNames.{ExpandedName, attr_name, same_expanded}
use Rattle.xml_names.specs.Scopes.{bound_uri}
use Rattle.xml_tree.specs.TreeScopes.{inside}
use Rattle.xml_tree.specs.Tree.{Content, last, more, comment_node, Tree, child_elements, child_elements_of}
use Rattle.xml_names.specs.declared.names.Attr.{Attr}
use Rattle.xml_names.specs.declared.names.Name.{Name}
use Rattle.usage_docs.specs.KeyAttributes.{attribute_of, are_attrs_allowed, is_key_attribute, value_of, attribute_name}
use Rattle.usage_docs.specs.SchemaTable.{Scope, Child, known, foreign, stray, ModelItem as Item, any, ends, takes, may_take, takes_none, takes_more, takes_no_more, IsOneOf, MatchesModel as Matches, child_class_of, item_children, is_foreign, items_in, kind_by_name, known_kind, kind_of, content_model_of, root_kind, element_namespace}
use Rattle.usage_docs.specs.Services.{service_uri}
use Rattle.usage_docs.specs.Validity.{AllMatchKinds, IsValidDocument}
use Rattle.usage_docs.specs.declared.schema_table.Key.TheVariants.{Uri}
use Rattle.usage_docs.specs.declared.schema_table.ElementKind.{ElementKind}
use Rattle.usage_docs.specs.declared.schema_table.ElementKind.TheVariants.{RlsServices, Service}
use Rattle.store_core.specs.inner.Addresses.{is_uri_name}
use Rattle.store_core.proofs.Entries.{each-unmapped}

both : (a b : Bool) → (a && b) ≡ true → (a ≡ true) × (b ≡ true)
both true b h = (refl, h)
both false b h = cc

-- ---- children that match a model

module _ (P : Child → Type 0) where
  abbrev Takes : Item → Type 0
  Takes item = (x : Child) → IsOneOf (item_children item) x → P x

  all-taken : (items : List Item) (xs : List Child) → Matches items xs → AllByRecursion Takes items → AllByRecursion P xs
  all-taken items xs ends a = tt
  all-taken items xs (takes {items = rest} {x = x} {xs = others} h m) a = (a.0 x h, all-taken rest others m a.1)
  all-taken items xs (may_take {items = rest} {x = x} {xs = others} h m) a = (a.0 x h, all-taken rest others m a.1)
  all-taken items xs (takes_none {items = rest} {xs = others} m) a = all-taken rest others m a.1
  all-taken items xs (takes_more {ys = ys} {items = rest} {x = x} {xs = others} h m) a = (a.0 x h, all-taken (any ys ∷ rest) others m a)
  all-taken items xs (takes_no_more {items = rest} {xs = others} m) a = all-taken rest others m a.1

abbrev IsKnown : Child → Type 0
IsKnown x = x ≡ known Service

services-alone : (xs : List Child) → Matches (items_in (content_model_of RlsServices)) xs → AllByRecursion IsKnown xs
unfolding content_model_of
services-alone xs m = all-taken IsKnown (any (known Service ∷ []) ∷ []) xs m (only, tt)
  where
    only : (x : Child) → IsOneOf (known Service ∷ []) x → x ≡ known Service
    only x (inl e) = sym e
    only x (inr h) = absurd h

known-kind : (o : Option ElementKind) (b : Bool) → option_map_or known o (cond b foreign stray) ≡ known Service → o ≡ Some Service
known-kind (Some k) b h = ap known_kind h
known-kind None true h = cc
known-kind None false h = cc

kind-of-known : (c : Scope) (n : Name) → child_class_of RlsServices c n ≡ known Service → kind_of RlsServices c n ≡ Some Service
unfolding child_class_of kind_of
kind-of-known c n h = known-kind (kind_by_name RlsServices (element_namespace c n) n.local) (is_foreign RlsServices (element_namespace c n)) h

-- ---- services

module _ (c : Scope) where
  -- it is a service that has an address
  abbrev pub Serves : Tree → Type 0
  Serves e = (kind_of RlsServices (inside c e) e.name ≡ Some Service) × ((uri : List ℕ) × (value_of Uri e.attrs ≡ Some uri))

  pub uri-of : (e : Tree) → Serves e → service_uri c e ≡ value_of Uri e.attrs
  unfolding service_uri
  uri-of e s = ap (option_and_then (λ _. value_of Uri e.attrs)) s.0

  abbrev HasAttrs : Tree → Type 0
  HasAttrs e = ForSome (kind_of RlsServices (inside c e) e.name) (λ kind. IsTrue (are_attrs_allowed kind (inside c e) e.attrs))

  have-attrs : (k : Content) → AllMatchKinds RlsServices c k → AllByRecursion HasAttrs (child_elements k)
  have-attrs (last t) h = tt
  have-attrs (comment_node t x rest) h = have-attrs rest h
  have-attrs (more t n ds ats k rest) h = ((λ kind is. (h.0 kind is).0.attributes), have-attrs rest h.1)

  there : (o : Option (List ℕ)) → is_some o ≡ true → (uri : List ℕ) × (o ≡ Some uri)
  there None h = cc
  there (Some uri) h = (uri, refl)

  has-uri : (d : Scope) (ats : List Attr) → IsTrue (are_attrs_allowed Service d ats) → (uri : List ℕ) × (value_of Uri ats ≡ Some uri)
  unfolding are_attrs_allowed attribute_of
  has-uri d ats h = there (value_of Uri ats) (both _ _ h).1

  abbrev IsOne : Tree → Type 0
  IsOne e = child_class_of RlsServices (inside c e) e.name ≡ known Service

  serve-all : (es : List Tree) → AllByRecursion IsOne es → AllByRecursion HasAttrs es → AllByRecursion Serves es
  serve-all [] a b = tt
  serve-all (e ∷ es) a b =
      let kind = kind-of-known (inside c e) e.name a.0 in
      ((kind, has-uri (inside c e) e.attrs (b.0 Service kind)), serve-all es a.1 b.1)

pub all-serve : (t : Tree) → IsValidDocument usages.RlsServices t → AllByRecursion (Serves (t.decls ∷ [])) (child_elements_of t)
unfolding root_kind
all-serve t schema =
    let c : Scope = t.decls ∷ [] in
    let child : Tree → Child = λ e. child_class_of RlsServices (inside c e) e.name in
    serve-all c (child_elements_of t) (each-unmapped IsKnown child (child_elements_of t) (services-alone (map child (child_elements_of t)) schema.valid.0.children)) (have-attrs c t.content schema.valid.1)

-- ---- attributes

-- an attribute of a name is the address's if the name is
tested : (n : Name) (a : Attr) → has_qname n a ≡ true → is_key_attribute Uri a ≡ is_uri_name n
tested n a h =
    let same = both (bytes_eq a.name.prefix n.prefix) (bytes_eq a.name.local n.local) h in
    let prefix = (bytes_eq-Decides a.name.prefix n.prefix).0 same.0 in
    let local = (bytes_eq-Decides a.name.local n.local).0 same.1 in
    ap₂ (λ (p l : List ℕ). bytes_eq p [] && bytes_eq l (attribute_name Uri)) prefix local

-- and else it isn't
same-test : (n : Name) (a : Attr) → is_uri_name n ≡ true → has_qname n a ≡ is_key_attribute Uri a
same-test n a h =
    let is = both (bytes_eq n.prefix []) (bytes_eq n.local (attribute_name Uri)) h in
    let prefix = (bytes_eq-Decides n.prefix []).0 is.0 in
    let local = (bytes_eq-Decides n.local (attribute_name Uri)).0 is.1 in
    ap₂ (λ (p l : List ℕ). bytes_eq a.name.prefix p && bytes_eq a.name.local l) prefix local

skip : (b : Bool) (a : Attr) (o : Option Attr) → b ≡ false → cond b (Some a) o ≡ o
skip true a o h = cc
skip false a o h = refl

hit : (b : Bool) (a : Attr) (o : Option Attr) → b ≡ true → cond b (Some a) o ≡ Some a
hit true a o h = refl
hit false a o h = cc

module _ (n : Name) (v : List ℕ) where
  abbrev new : Attr
  new = record { name = n; value = v }

  written-other : is_uri_name n ≡ false → (ats : List Attr) → find (is_key_attribute Uri) (with_attr n v ats) ≡ find (is_key_attribute Uri) ats
  written-other other [] = skip (is_key_attribute Uri new) new None other
  written-other other (a ∷ ats) = by (has_qname n a) refl (written-other other ats)
    where
      by : (b : Bool) → has_qname n a ≡ b → find (is_key_attribute Uri) (with_attr n v ats) ≡ find (is_key_attribute Uri) ats
          → find (is_key_attribute Uri) (cond b (with_new_value v a ∷ ats) (a ∷ with_attr n v ats)) ≡ find (is_key_attribute Uri) (a ∷ ats)
      by true e ih =
          let not-it = tested n a e ∙ other in
          skip (is_key_attribute Uri a) (with_new_value v a) (find (is_key_attribute Uri) ats) not-it ∙ sym (skip (is_key_attribute Uri a) a (find (is_key_attribute Uri) ats) not-it)
      by false e ih = ap (cond (is_key_attribute Uri a) (Some a)) ih

  abbrev value : Option Attr → Option (List ℕ)
  value o = option_map (λ (a : Attr). a.value) o

  written-so : is_uri_name n ≡ true → (ats : List Attr) → value (find (is_key_attribute Uri) (with_attr n v ats)) ≡ Some v
  written-so same [] = ap value (hit (is_key_attribute Uri new) new None same)
  written-so same (a ∷ ats) = by (has_qname n a) refl (written-so same ats)
    where
      by : (b : Bool) → has_qname n a ≡ b → value (find (is_key_attribute Uri) (with_attr n v ats)) ≡ Some v
          → value (find (is_key_attribute Uri) (cond b (with_new_value v a ∷ ats) (a ∷ with_attr n v ats))) ≡ Some v
      by true e ih = ap value (hit (is_key_attribute Uri a) (with_new_value v a) (find (is_key_attribute Uri) ats) (tested n a e ∙ same))
      by false e ih = ap value (skip (is_key_attribute Uri a) a (find (is_key_attribute Uri) (with_attr n v ats)) (sym (same-test n a same) ∙ e)) ∙ ih

  -- what is written as another attribute keeps the address, and what is written as this one is it
  pub other-written : is_uri_name n ≡ false → (ats : List Attr) → value_of Uri (with_attr n v ats) ≡ value_of Uri ats
  unfolding value_of
  other-written other ats = ap value (written-other other ats)

  pub uri-written : is_uri_name n ≡ true → (ats : List Attr) → value_of Uri (with_attr n v ats) ≡ Some v
  unfolding value_of
  uri-written same ats = written-so same ats

module _ (n : Name) where
  dropped-other : is_uri_name n ≡ false → (ats : List Attr) → find (is_key_attribute Uri) (without_attr n ats) ≡ find (is_key_attribute Uri) ats
  dropped-other other [] = refl
  dropped-other other (a ∷ ats) = by (has_qname n a) refl (dropped-other other ats)
    where
      by : (b : Bool) → has_qname n a ≡ b → find (is_key_attribute Uri) (without_attr n ats) ≡ find (is_key_attribute Uri) ats
          → find (is_key_attribute Uri) (cond b ats (a ∷ without_attr n ats)) ≡ find (is_key_attribute Uri) (a ∷ ats)
      by true e ih = sym (skip (is_key_attribute Uri a) a (find (is_key_attribute Uri) ats) (tested n a e ∙ other))
      by false e ih = ap (cond (is_key_attribute Uri a) (Some a)) ih

  pub other-dropped : is_uri_name n ≡ false → (ats : List Attr) → value_of Uri (without_attr n ats) ≡ value_of Uri ats
  unfolding value_of
  other-dropped other ats = ap (option_map (λ (a : Attr). a.value)) (dropped-other other ats)

-- ---- an address that is removed

module _ (c : Scope) where
  abbrev names : List Attr → List ExpandedName
  names ats = map (λ (a : Attr). attr_name c a.name) ats

  abbrev bare : ExpandedName
  bare = record { uri = None; local = attribute_name Uri }

  unprefixed : (a : Attr) → is_key_attribute Uri a ≡ true → attr_name c a.name ≡ bare
  unprefixed a h =
      let is = both (bytes_eq a.name.prefix []) (bytes_eq a.name.local (attribute_name Uri)) h in
      ap₂ (λ (b : Bool) (l : List ℕ). let x : ExpandedName = record { uri = cond b None (bound_uri c a.name.prefix); local = l } in x) is.0 ((bytes_eq-Decides a.name.local (attribute_name Uri)).0 is.1)

  one-name : (a b : Attr) → is_key_attribute Uri a ≡ true → is_key_attribute Uri b ≡ true → same_expanded (attr_name c a.name) (attr_name c b.name) ≡ true
  one-name a b h g = ap₂ same_expanded (unprefixed a h) (unprefixed b g) ∙ (bytes_eq-Decides (attribute_name Uri) (attribute_name Uri)).1 refl

  -- no other attribute is the address
  none-beside : (a : Attr) (ats : List Attr) → is_key_attribute Uri a ≡ true → AllByRecursion (λ m. same_expanded (attr_name c a.name) m ≡ false) (names ats) → find (is_key_attribute Uri) ats ≡ None
  none-beside a [] is apart = refl
  none-beside a (b ∷ ats) is apart = by (is_key_attribute Uri b) refl (none-beside a ats is apart.1)
    where
      by : (x : Bool) → is_key_attribute Uri b ≡ x → find (is_key_attribute Uri) ats ≡ None → cond x (Some b) (find (is_key_attribute Uri) ats) ≡ None
      by true e ih = let z : true ≡ false = sym (one-name a b is e) ∙ apart.0 in cc
      by false e ih = ih

  none-left : (n : Name) (ats : List Attr) → is_uri_name n ≡ true → IsDistinct same_expanded (names ats) → find (is_key_attribute Uri) (without_attr n ats) ≡ None
  none-left n [] same distinct = refl
  none-left n (a ∷ ats) same distinct =
      by (has_qname n a) refl (none-left n ats same (IsDistinct-tail same_expanded (attr_name c a.name) (names ats) distinct))
    where
      by : (b : Bool) → has_qname n a ≡ b → find (is_key_attribute Uri) (without_attr n ats) ≡ None → find (is_key_attribute Uri) (cond b ats (a ∷ without_attr n ats)) ≡ None
      by true e ih = none-beside a ats (tested n a e ∙ same) (IsDistinct-head same_expanded (attr_name c a.name) (names ats) distinct)
      by false e ih = skip (is_key_attribute Uri a) a (find (is_key_attribute Uri) (without_attr n ats)) (sym (same-test n a same) ∙ e) ∙ ih

  pub uri-dropped : (n : Name) (ats : List Attr) → is_uri_name n ≡ true → IsDistinct same_expanded (names ats) → value_of Uri (without_attr n ats) ≡ None
  unfolding value_of
  uri-dropped n ats same distinct = ap (option_map (λ (a : Attr). a.value)) (none-left n ats same distinct)
