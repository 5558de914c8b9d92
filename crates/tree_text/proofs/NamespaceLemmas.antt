-- Two names that have numbers for their namespaces have the same number exactly when they have
-- the same namespace.
use Rattle.std.proofs.Common.{◌≡◌, ℕ, Bool, true, false, List, [], ◌∷◌, map, Option, None, Some, refl, ap, ◌∙◌}
use Rattle.std.specs.Prelude.{option_map, option_and_then, if◌then◌else◌}
use Rattle.std.specs.Cmp.{both_ways}
use Rattle.std.specs.Cmp.Lexicographic.{bytes_decides}
use Rattle.std.specs.Option.{option_or}
use Rattle.std.specs.Str.{bytes_eq}
use Rattle.std.proofs.lemmas.Bool.{eqb-true, eq-eqb}
use Rattle.xml_names.specs.ExpandedNames.{attr_name, same_uri}
use Rattle.xml_names.specs.Scopes.{bound_uri, declared_uri, scope_decls, non_empty_uri, xml_prefix, xml_uri}
use Rattle.xml_names.specs.declared.names.Decl.{Decl}
use Rattle.xml_names.specs.declared.names.Name.{Name}
use Rattle.tree_text.specs.readers.Bindings.{AreOpenNamespaces, lists, namespace_number, declared_numbers, declared_uris}
use Rattle.tree_text.specs.readers.Meanings.{attr_number, same_number}
use Rattle.tree_text.specs.declared.bindings.Bindings.{Bindings}

module _ (num : List ℕ → Option ℕ) where
  -- where there is a namespace, it has a number
  abbrev HasNumber : Option (List ℕ) → Type 0
  HasNumber None = Unit {0}
  HasNumber (Some u) = (n : ℕ) × (num u ≡ Some n)

  nearest_has : (a b : Option (List ℕ)) → HasNumber a → HasNumber b → HasNumber (option_or a b)
  nearest_has None b h k = k
  nearest_has (Some u) b h k = h

  uri_has : (t : Bool) (u : List ℕ) (us : List (List ℕ)) (o : Option (List ℕ)) (ns : List ℕ) → ((ms : List ℕ) → map num us ≡ map Some ms → HasNumber o)
      → map num (if t then u ∷ us else us) ≡ map Some ns → HasNumber (option_or o (if t then Some u else None))
  uri_has false u us o ns ih h = nearest_has o None (ih ns h) tt
  uri_has true u us o [] ih h = absurd (cc)
  uri_has true u us o (n ∷ ns) ih h = nearest_has o (Some u) (ih ns (cc)) (n, cc)

  declared_has : (ds : List Decl) (p ns : List ℕ) → map num (declared_uris ds p) ≡ map Some ns → HasNumber (declared_uri ds p)
  declared_has [] p ns h = tt
  declared_has (d ∷ ds) p ns h = uri_has (bytes_eq d.prefix p) d.uri (declared_uris ds p) (declared_uri ds p) ns (declared_has ds p) h

  text_has : (o : Option (List ℕ)) → HasNumber o → HasNumber (non_empty_uri o)
  text_has None h = tt
  text_has (Some []) h = tt
  text_has (Some (c ∷ cs)) h = h

  either_has : (t : Bool) (a b : Option (List ℕ)) → HasNumber a → HasNumber b → HasNumber (if t then a else b)
  either_has true a b h k = h
  either_has false a b h k = k

  -- a number that is given with the namespace is the number of the namespace
  pub number_of : (n : Option ℕ) (o : Option (List ℕ)) → option_map Some n ≡ option_map num o → n ≡ option_and_then num o
  number_of None None e = refl
  number_of None (Some u) e = absurd (cc)
  number_of (Some n) None e = absurd (cc)
  number_of (Some n) (Some u) e = cc

  one_number : (u v : List ℕ) (n m : ℕ) → num u ≡ Some n → num v ≡ Some m → u ≡ v → n ≡ m
  one_number u v n m h k e = cc

  numbers_same : ((u v : List ℕ) (n : ℕ) → num u ≡ Some n → num v ≡ Some n → u ≡ v) → (a b : Option (List ℕ)) → HasNumber a → HasNumber b
      → same_number (option_and_then num a) (option_and_then num b) ≡ same_uri a b
  numbers_same apart None None h k = refl
  numbers_same apart None (Some v) h k = rw (k.1) refl
  numbers_same apart (Some u) None h k = rw (h.1) refl
  numbers_same apart (Some u) (Some v) h k =
      rw (h.1, k.1)
      (both_ways _ _
      (λ e. (bytes_decides u v).1 (apart u v k.0 (h.1 ∙ ap Some (eqb-true h.0 k.0 e)) k.1))
      (λ e. eq-eqb h.0 k.0 (one_number u v h.0 k.0 h.1 k.1 ((bytes_decides u v).0 e))))

module _ (here : Bindings) (kept : AreOpenNamespaces here) where
  bound_has : (p : List ℕ) → HasNumber (namespace_number here.namespaces) (bound_uri (lists here) p)
  bound_has p =
      let num = namespace_number here.namespaces in
      either_has num (bytes_eq p xml_prefix) (Some xml_uri) (non_empty_uri (declared_uri (scope_decls (lists here)) p)) (here.namespaces.xml, kept.xml)
      (text_has num (declared_uri (scope_decls (lists here)) p) (declared_has num (scope_decls (lists here)) p (declared_numbers here.namespaces p) (kept.declared p)))

  attr_has : (n : Name) → HasNumber (namespace_number here.namespaces) (attr_name (lists here) n).uri
  attr_has n = either_has (namespace_number here.namespaces) (bytes_eq n.prefix []) None (bound_uri (lists here) n.prefix) tt (bound_has n.prefix)

  -- two attributes have the same number exactly when they have the same namespace
  pub attrs_same : (m n : Name) → same_number (attr_number here m) (attr_number here n) ≡ same_uri (attr_name (lists here) m).uri (attr_name (lists here) n).uri
  attrs_same m n =
      numbers_same (namespace_number here.namespaces) kept.numbers.apart (attr_name (lists here) m).uri (attr_name (lists here) n).uri (attr_has m) (attr_has n)
