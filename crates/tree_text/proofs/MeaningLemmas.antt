-- The set of the meanings of the names in a tag shows whether one of them is repeated.
use Rattle.std.proofs.Common.{◌≡◌, ℕ, Bool, true, false, cond, List, [], ◌∷◌, ◌++◌, Option, None, Some, encode_utf8_all, refl, sym, ap, ap₂, ◌∙◌}
use Rattle.std.specs.Prelude.{◌&&◌, ◌||◌, not}
use Rattle.std.specs.List.{list_any}
use Rattle.std.specs.Str.{bytes_eq}
use Rattle.std.specs.Ordering.{is_eq, nat_cmp}
use Rattle.std.specs.Option.{option_cmp}
use Rattle.std.specs.BTreeSet.{BTreeSet, Updates, contains}
use Rattle.std.specs.Cmp.{tied_then, unsigned_tied}
use Rattle.std.specs.Cmp.Lexicographic.{slice_cmp, texts_ties}
use Rattle.std.proofs.lemmas.List.Folds.{list_any-append}
use Rattle.xml_names.specs.ExpandedNames.{attr_name}
use Rattle.xml_names.proofs.ByteOrder.{order-encodes}
use Rattle.tree_text.specs.contracts.attribute_meanings.MeaningOrd.TheImpl.{cmp-value}
use Rattle.tree_text.specs.declared.bindings.Bindings.{Bindings}
use Rattle.tree_text.specs.declared.attribute_meanings.Meaning.{Meaning}
use Rattle.tree_text.specs.declared.attribute_meanings.Meaning.TheVariants.{Declared, Named}
use Rattle.tree_text.specs.declared.raw_attribute.RawAttribute.{RawAttribute}
use Rattle.tree_text.specs.readers.Bindings.{AreOpenNamespaces, lists, namespace_number}
use Rattle.tree_text.specs.readers.Meanings.{IsMeaningOf, HoldsMeaningsOf, has_meaning, attr_number, same_number}
use Rattle.tree_text.specs.Names.{repeats_name, is_repeated, raw_attribute_decl as decl_of, is_xmlns_attr_name as declares}
use Rattle.tree_text.proofs.NamespaceLemmas.{number_of, attrs_same}

and_swap : (a b : Bool) → a && b ≡ b && a
and_swap true true = refl
and_swap true false = refl
and_swap false true = refl
and_swap false false = refl

or_last : (b c : Bool) → cond b true c ≡ (c || (b || false))
or_last true true = refl
or_last true false = refl
or_last false true = refl
or_last false false = refl

numbers_tie : (n m : Option ℕ) → is_eq (option_cmp nat_cmp n m) ≡ same_number n m
numbers_tie None None = refl
numbers_tie None (Some m) = refl
numbers_tie (Some n) None = refl
numbers_tie (Some n) (Some m) = unsigned_tied n m

-- texts are equal exactly when their bytes are
bytes_eq-encodes : (a b : List ℕ) → bytes_eq (encode_utf8_all a) (encode_utf8_all b) ≡ bytes_eq a b
bytes_eq-encodes a b = texts_ties (encode_utf8_all a) (encode_utf8_all b) ∙ ap is_eq (order-encodes a b) ∙ sym (texts_ties a b)

module _ (here : Bindings) where
  -- another meaning compares as equal exactly when the two are the same
  ties : (s : RawAttribute) (m q : Meaning) → IsMeaningOf here s m → is_eq (cmp-value.it m q) ≡ has_meaning here q s
  ties s (Declared p) (Declared q) h = rw (h.0) (sym (texts_ties p.now q.now) ∙ ap (λ t. bytes_eq t q.now) h.1)
  ties s (Declared p) (Named l u) h = rw (h.0) refl
  ties s (Named l u) (Declared q) h = rw (h.0) refl
  ties s (Named l u) (Named k v) h =
      let locals = sym (texts_ties l.now k.now) ∙ ap (λ t. bytes_eq t k.now) h.1 in
      let numbers = numbers_tie u v ∙ ap (λ n. same_number n v) (number_of (namespace_number here.namespaces) u (attr_name (lists here) s.name).uri h.2) in
      rw (h.0)
      (sym (tied_then (slice_cmp nat_cmp l.now k.now) (option_cmp nat_cmp u v))
      ∙ ap₂ (λ (a b : Bool). a && b) locals numbers
      ∙ and_swap (bytes_eq s.name.local k.now) (same_number (attr_number here s.name) v))

  pub one_more : (es : List RawAttribute) (seen seen' : BTreeSet Meaning) (s : RawAttribute) (m : Meaning) → HoldsMeaningsOf here es seen → IsMeaningOf here s m
      → Updates cmp-value.it seen seen' m true → HoldsMeaningsOf here (es ++ s ∷ []) seen'
  one_more es seen seen' s m holds h up q =
      up.0 q
      ∙ ap₂ (λ (b c : Bool). cond b true c) (ties s m q h) (holds q)
      ∙ or_last (has_meaning here q s) (list_any (has_meaning here q) es)
      ∙ sym (list_any-append (has_meaning here q) es (s ∷ []))

module _ (here : Bindings) (kept : AreOpenNamespaces here) where
  -- a raw attribute has a meaning exactly when it means the same
  same_is : (e s : RawAttribute) (m : Meaning) → IsMeaningOf here s m → has_meaning here m e ≡ repeats_name (lists here) s e
  same_is e s (Declared p) h =
      rw (h.0)
      (ap (λ t. declares e.name && bytes_eq (encode_utf8_all (decl_of e).prefix) t) h.1
      ∙ ap (λ (b : Bool). declares e.name && b) (bytes_eq-encodes (decl_of e).prefix (decl_of s).prefix))
  same_is e s (Named l u) h =
      let numbers = ap (same_number (attr_number here e.name)) (number_of (namespace_number here.namespaces) u (attr_name (lists here) s.name).uri h.2) ∙ attrs_same here kept e.name s.name in
      rw (h.0) (ap₂ (λ (a b : Bool). not (declares e.name) && (a && b)) numbers (ap (bytes_eq e.name.local) h.1))

  any_is : (es : List RawAttribute) (s : RawAttribute) (m : Meaning) → IsMeaningOf here s m → list_any (has_meaning here m) es ≡ is_repeated (lists here) es s
  any_is [] s m h = refl
  any_is (e ∷ es) s m h = ap₂ (λ (a b : Bool). a || b) (same_is e s m h) (any_is es s m h)

  -- a set of the meanings of these finds exactly the repeated ones
  pub found_is : (es : List RawAttribute) (seen : BTreeSet Meaning) (s : RawAttribute) (m : Meaning) → HoldsMeaningsOf here es seen → IsMeaningOf here s m
      → contains cmp-value.it seen m ≡ is_repeated (lists here) es s
  found_is es seen s m holds h = holds m ∙ any_is es s m h
