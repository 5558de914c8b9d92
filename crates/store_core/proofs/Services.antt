-- The service addresses of documents: those of one document are distinct, and those of two that
-- the store's test lets pass.
use Rattle.std.proofs.Common.{◌≡◌, ◌≢◌, ℕ, zero, suc, ◌<◌, ◌+◌, Bool, true, false, cond, ◌||◌, List, [], ◌∷◌, ◌++◌, Option, None, Some, slice_get, option_map, option_and_then, codes, refl, sym, ap, ◌∙◌, arith}
use Rattle.std.proofs.lemmas.Iterator.Adapters.{position_from-zero}
use Rattle.std.proofs.lemmas.Option.{same_Some}
use Rattle.std.specs.List.{AllByRecursion, filter_map, list_any, position, position_from}
use Rattle.std.specs.Set.{is_member}
use Rattle.std.specs.Str.{bytes_eq}
use Rattle.std.proofs.lemmas.Slice.Eq.{bytes_eq-Decides}
use Rattle.xml_tree.specs.Tree.{Tree, child_elements_of}
use Rattle.xml_names.specs.declared.names.Attr.{Attr}
use Rattle.xml_tree.specs.TreeScopes.{inside}
use Rattle.usage_docs.specs.UniqueKeys.{HasUniqueKeys, sibling_key, sibling_key_of}
use Rattle.usage_docs.specs.KeyAttributes.{attribute_of, key_of, key_value, value_of}
use Rattle.usage_docs.specs.SchemaTable.{Scope, child_kind, kind_of, content_model_of, namespace_of_children, root_kind, element_namespace, local_name_of}
use Rattle.usage_docs.specs.Services.{service_uri, service_uris}
use Rattle.usage_docs.specs.declared.key_repeats.Clash.{Clash}
use Rattle.usage_docs.specs.declared.schema_table.ElementKind.{ElementKind}
use Rattle.usage_docs.specs.declared.schema_table.ElementKind.TheVariants.{RlsServices, Service}
use Rattle.usage_docs.specs.declared.schema_table.Key.TheVariants.{Uri}
use Rattle.doc_names.specs.declared.usages.Usage.TheVariants as usages
use Rattle.doc_names.specs.declared.doc_id.Auid.{Auid}
use Rattle.doc_names.specs.declared.doc_id.Auid.TheVariants.{ResourceLists, RlsServices as RlsUsage, XcapCaps}
use Rattle.store_core.specs.ValidStates.{AreDistinct, document_addresses}
use Rattle.doc_names.specs.Usages.{usage_of}
use Rattle.store_core.specs.ChangePreconditions.{MayBeDocumentFor}
use Rattle.store_core.specs.DocumentChanges.{first_taken_address}
use Rattle.store_core.proofs.DistinctItems.{each-append, each-left, each-right, apart-put}

-- ---- lists

module _ {X : Type 0} where
  pub apart-mix : (xs ys zs : List X) → AreDistinct (xs ++ zs) → AreDistinct ys → AllByRecursion (λ y. AllByRecursion (λ o. y ≢ o) (xs ++ zs)) ys → AreDistinct (xs ++ (ys ++ zs))
  apart-mix xs [] zs a b h = a
  apart-mix xs (y ∷ ys) zs a b h =
      apart-put xs (ys ++ zs) y (apart-mix xs ys zs a b.1 h.1)
      (each-append (λ o. y ≢ o) xs (ys ++ zs) (each-left (λ o. y ≢ o) xs zs h.0) (each-append (λ o. y ≢ o) ys zs b.0 (each-right (λ o. y ≢ o) xs zs h.0)))

module _ {X : Type 0} (p : X → Bool) where
  none-step : (n : ℕ) (x : X) (xs : List X) (b : Bool) → p x ≡ b → cond b (Some n) (position_from p (n + 1) xs) ≡ None → (position_from p (n + 1) xs ≡ None → AllByRecursion (λ y. p y ≡ false) xs) → AllByRecursion (λ y. p y ≡ false) (x ∷ xs)
  none-step n x xs true e h by = cc
  none-step n x xs false e h by = (e, by h)

  pub none-at : (n : ℕ) (xs : List X) → position_from p n xs ≡ None → AllByRecursion (λ y. p y ≡ false) xs
  none-at n [] h = tt
  none-at n (x ∷ xs) h = none-step n x xs (p x) refl h (none-at (n + 1) xs)

  any-step : (x : X) (xs : List X) (b : Bool) → p x ≡ b → (b || list_any p xs) ≡ false → (list_any p xs ≡ false → AllByRecursion (λ y. p y ≡ false) xs) → AllByRecursion (λ y. p y ≡ false) (x ∷ xs)
  any-step x xs true e h by = cc
  any-step x xs false e h by = (e, by h)

  pub not-any : (xs : List X) → list_any p xs ≡ false → AllByRecursion (λ y. p y ≡ false) xs
  not-any [] h = tt
  not-any (x ∷ xs) h = any-step x xs (p x) refl h (not-any xs)

other-bytes : (o uri : List ℕ) → bytes_eq uri o ≡ false → uri ≢ o
other-bytes o uri h e = let k : bytes_eq uri o ≡ true = (bytes_eq-Decides uri o).1 e in cc

others-apart : (uri : List ℕ) (others : List (List ℕ)) → AllByRecursion (λ o. bytes_eq uri o ≡ false) others → AllByRecursion (λ o. uri ≢ o) others
others-apart uri [] h = tt
others-apart uri (o ∷ os) h = (other-bytes o uri h.0, others-apart uri os h.1)

own-apart-others : (others own : List (List ℕ)) → AllByRecursion (λ uri. is_member bytes_eq others uri ≡ false) own → AllByRecursion (λ uri. AllByRecursion (λ o. uri ≢ o) others) own
own-apart-others others [] h = tt
own-apart-others others (uri ∷ uris) h = (others-apart uri others (not-any (bytes_eq uri) others h.0), own-apart-others others uris h.1)

pub none-mapped : {X Y : Type 0} (f : X → Y) (o : Option X) → option_map f o ≡ None → o ≡ None
none-mapped f None h = refl
none-mapped f (Some x) h = cc

-- where the test finds none, no address of the document is another's
pub none-first_taken_address : (others own : List (List ℕ)) → first_taken_address others own ≡ None → AllByRecursion (λ uri. AllByRecursion (λ o. uri ≢ o) others) own
none-first_taken_address others own h =
    let clash : ℕ → Clash = λ i. record { path = i ∷ []; key = Uri } in
    let test : List ℕ → Bool = λ uri. is_member bytes_eq others uri in
    own-apart-others others own (none-at test 0 own (sym (position_from-zero test own) ∙ none-mapped clash (position test own) h))

-- ---- the addresses of one document

module _ {X Y : Type 0} (f : X → Option Y) where
  abbrev At : List X → ℕ → Y → Type 0
  At xs i u = option_and_then f (slice_get xs i) ≡ Some u

  behind-step : (u : Y) (x : X) (xs : List X) (o : Option Y) → f x ≡ o → ((j : ℕ) → At (x ∷ xs) j u → ⊥) → AllByRecursion (λ y. u ≢ y) (filter_map f xs) → AllByRecursion (λ y. u ≢ y) (filter_map f (x ∷ xs))
  behind-step u x xs None e h by = rw e by
  behind-step u x xs (Some v) e h by = rw e ((λ same. h zero (e ∙ ap Some (sym same))), by)

  behind-one : (u : Y) (xs : List X) → ((j : ℕ) → At xs j u → ⊥) → AllByRecursion (λ y. u ≢ y) (filter_map f xs)
  behind-one u [] h = tt
  behind-one u (x ∷ xs) h = behind-step u x xs (f x) refl h (behind-one u xs (λ j g. h (suc j) g))

  found-step : (x : X) (xs : List X) (o : Option Y) → f x ≡ o → ((i j : ℕ) (u : Y) → i < j → At (x ∷ xs) i u → At (x ∷ xs) j u → ⊥) → AreDistinct (filter_map f xs) → AreDistinct (filter_map f (x ∷ xs))
  found-step x xs None e h by = rw e by
  found-step x xs (Some u) e h by = rw e (behind-one u xs (λ j g. h zero (suc j) u (omega arith) e g), by)

  pub found-apart : (xs : List X) → ((i j : ℕ) (u : Y) → i < j → At xs i u → At xs j u → ⊥) → AreDistinct (filter_map f xs)
  found-apart [] h = tt
  found-apart (x ∷ xs) h = found-step x xs (f x) refl h (found-apart xs (λ i j u l a b. h (suc i) (suc j) u (omega (arith, l)) a b))

child-of-root : (b : Bool) → (kind : ElementKind) → cond b (Some Service) None ≡ Some kind → kind ≡ Service
child-of-root true kind h = sym (same_Some Service kind h)
child-of-root false kind h = cc

of-space : (b s : Bool) (kind : ElementKind) → cond b (cond s (Some Service) None) None ≡ Some kind → kind ≡ Service
of-space true s kind h = child-of-root s kind h
of-space false s kind h = cc

kind-of-child : (c : Scope) (e : Tree) (kind : ElementKind) → kind_of RlsServices (inside c e) e.name ≡ Some kind → kind ≡ Service
unfolding kind_of child_kind content_model_of local_name_of
kind-of-child c e kind h = of-space (bytes_eq (element_namespace (inside c e) e.name) (namespace_of_children RlsServices)) (bytes_eq e.name.local (codes "service")) kind h

key-of-service : (ats : List Attr) → key_value Service ats ≡ value_of Uri ats
unfolding key_value key_of attribute_of
key-of-service ats = refl

marked-step : (o : Option ElementKind) (ats : List Attr) (u : List ℕ) → ((kind : ElementKind) → o ≡ Some kind → kind ≡ Service) → option_and_then (λ _. value_of Uri ats) o ≡ Some u → option_and_then (λ kind. option_map (sibling_key kind) (key_value kind ats)) o ≡ Some (sibling_key Service u)
marked-step None ats u k h = cc
marked-step (Some kind) ats u k h =
    ap (λ (x : ElementKind). option_map (sibling_key x) (key_value x ats)) (k kind refl) ∙ ap (λ (v : Option (List ℕ)). option_map (sibling_key Service) v) (key-of-service ats ∙ h)

service-sibling_key : (c : Scope) (e : Tree) (u : List ℕ) → service_uri c e ≡ Some u → sibling_key_of RlsServices c e ≡ Some (sibling_key Service u)
unfolding service_uri sibling_key_of
service-sibling_key c e u h = marked-step (kind_of RlsServices (inside c e) e.name) e.attrs u (kind-of-child c e) h

sibling_key-there : (c : Scope) (o : Option Tree) (u : List ℕ) → option_and_then (service_uri c) o ≡ Some u → option_and_then (sibling_key_of RlsServices c) o ≡ Some (sibling_key Service u)
sibling_key-there c None u h = cc
sibling_key-there c (Some e) u h = service-sibling_key c e u h

services-apart : (t : Tree) → HasUniqueKeys usages.RlsServices t → AreDistinct (service_uris t)
unfolding root_kind key_of attribute_of
services-apart t unique =
    let c : Scope = t.decls ∷ [] in
    found-apart (service_uri c) (child_elements_of t) (λ i j u l a b.
    unique (j ∷ []) Uri
    (record { shared = sibling_key Service u; earlier = i; comes_first = l; that = sibling_key-there c (slice_get (child_elements_of t) i) u a; this = sibling_key-there c (slice_get (child_elements_of t) j) u b; by_key = refl }))

-- the addresses of a document are distinct
pub own-apart : (auid : Auid) (t : Tree) → MayBeDocumentFor (usage_of auid) t → AreDistinct (document_addresses auid t)
own-apart ResourceLists t h = tt
own-apart RlsUsage t h = services-apart t h.faultless.2
own-apart XcapCaps t h = tt
