-- A diff document of change records is proper and at most `MAX_LEVELS` + 3 levels deep, so its
-- print is read back as the same tree.
use Rattle.std.proofs.Common.{◌≡◌, ℕ, zero, suc, ◌+◌, ◌<◌, ◌≤◌, ◌^◌, Bool, true, false, ◌||◌, List, [], ◌∷◌, ◌++◌, map, bytes_eq, codes, decimal, refl, ap, ◌∙◌, arith}
use Rattle.std.specs.List.{AllByRecursion, IsDistinct, list_all}
use Rattle.std.specs.Int.Digits.{digits_of}
use Rattle.std.proofs.lemmas.Bool.Decides.{nat_tests}
use Rattle.std.proofs.lemmas.Fmt.{decimal-digits_of}
use Rattle.std.proofs.lemmas.Int.Digits.{all_below_base_digits_of}
use Rattle.xml_names.specs.Characters.{has_only_chars, is_name_char}
use Rattle.xml_names.specs.ExpandedNames.{ExpandedName, attr_name, same_expanded}
use Rattle.xml_tree.specs.Proper.{IsProperTree, is_proper_decl, is_prefix}
use Rattle.xml_tree.specs.inner.Proper.{IsProperContent}
use Rattle.xml_names.specs.Scopes.{xml_uri, xmlns_prefix, xmlns_uri}
use Rattle.xml_tree.specs.Tree.{Tree, content_height, height, content_of_children as listed}
use Rattle.xml_names.specs.declared.names.Decl.{Decl}
use Rattle.edit_ops.specs.Notes.{AreNotesOf, Note, tag_after}
use Rattle.patch_rules.specs.Notices.{aggregate_documents, candidate_prefix, declares_prefix, diff, diff_uri, document, patching_documents, operations}
use Rattle.edit_ops.specs.DiffOperations.{operation, plain_attr as plain}
use Rattle.patch_laws.specs.Premises.{AreDiffableTrees, scope_around_operations}
use Rattle.patch_laws.proofs.FreePrefixes.{candidate_prefix-other, candidate_prefix-some}
use Rattle.patch_laws.proofs.Numbers.{number_chars}
use Rattle.patch_laws.proofs.Prefixes.{both}
use Rattle.patch_laws.proofs.ProperOperations.{AreSound, IsDiffPrefix, chars-append, named_ours, notes_sound, plain_attribute}
use Rattle.patch_laws.proofs.Wholes.{bound_document, bound_notice, top}

-- ---- elements one after the other

listed_proper : (c : List (List Decl)) (es : List Tree) → AllByRecursion (IsProperTree c) es → IsProperContent c (listed es)
listed_proper c [] h = tt
listed_proper c (e ∷ es) h = (tt, h.0.0, h.0.1, listed_proper c es h.1)

listed_low : (k : ℕ) (es : List Tree) → AllByRecursion (λ e. height e ≤ k) es → content_height (listed es) ≤ k
listed_low k [] h = omega arith
listed_low k (e ∷ es) h = omega (arith, h.0, listed_low k es h.1)

split : (P Q : Tree → Type 0) (es : List Tree) → AllByRecursion (λ e. P e × Q e) es → AllByRecursion P es × AllByRecursion Q es
split P Q [] h = (tt, tt)
split P Q (e ∷ es) h = let r = split P Q es h.1 in ((h.0.0, r.0), (h.0.1, r.1))

three_names : (x y z : ExpandedName) → same_expanded x y ≡ false → same_expanded x z ≡ false → same_expanded y z ≡ false → IsDistinct same_expanded (x ∷ y ∷ z ∷ [])
unfolding IsDistinct
three_names x y z h k l = ((h, (k, tt)), ((l, tt), (tt, tt)))

pub two_names : (x y : ExpandedName) → same_expanded x y ≡ false → IsDistinct same_expanded (x ∷ y ∷ [])
unfolding IsDistinct
two_names x y h = ((h, tt), (tt, tt))

one_name : (x : ExpandedName) → IsDistinct same_expanded (x ∷ [])
unfolding IsDistinct
one_name x = (tt, tt)

pub no_prefixes : IsDistinct bytes_eq (map (λ (x : Decl). x.prefix) [])
unfolding IsDistinct
no_prefixes = tt

one_prefix : (b : Decl) → IsDistinct bytes_eq (map (λ (x : Decl). x.prefix) (b ∷ []))
unfolding IsDistinct
one_prefix b = (tt, tt)

ours_apart : (bytes_eq diff_uri xmlns_uri ≡ false) × (bytes_eq diff_uri xml_uri ≡ false)
unfolding xmlns_uri xml_uri
ours_apart = (refl, refl)

module _ (d : List ℕ) (p : IsDiffPrefix d) where
  declares_ours : is_proper_decl (record { prefix = d; uri = diff_uri }) ≡ true
  declares_ours = rw (p.name, p.apart, p.other, ours_apart.0, ours_apart.1) (last (bytes_eq d []))
    where
      last : (b : Bool) → (b || true) ≡ true
      last true = refl
      last false = refl

  -- ---- documents

  document_proper : (sel : List ℕ) (from to : ℕ) (os : List Tree) → has_only_chars sel ≡ true → AllByRecursion (IsProperTree (scope_around_operations d diff_uri)) os
      → IsProperTree (top d p.some p.other) (document d sel from to os)
  document_proper sel from to os chars h =
      let here = scope_around_operations d diff_uri in (
        record {
          named = named_ours d p here (codes "document") refl (bound_document d p.some p.other);
          declarations = tt;
          attributes = (
            plain_attribute here (codes "sel") sel refl (λ e. absurd cc) chars,
            (
              plain_attribute here (codes "new-etag") (decimal to) refl (λ e. absurd cc) (number_chars to),
              (plain_attribute here (codes "previous-etag") (decimal from) refl (λ e. absurd cc) (number_chars from), tt),
            ),
          );
          prefixes = no_prefixes;
          names = three_names (attr_name here (plain (codes "sel") sel).name) (attr_name here (plain (codes "new-etag") sel).name) (attr_name here (plain (codes "previous-etag") sel).name) refl refl refl;
        },
        listed_proper here os h,
      )

  pub document_sound : (sel : List ℕ) (from to : ℕ) (os : List Tree) → has_only_chars sel ≡ true → AreSound d p os
      → IsProperTree (top d p.some p.other) (document d sel from to os) × (height (document d sel from to os) ≤ 66)
  document_sound sel from to os chars h =
      let r = split (IsProperTree (scope_around_operations d diff_uri)) (λ o. height o ≤ 65) os h in
      (document_proper sel from to os chars r.0, omega (arith, listed_low 65 os r.1))

  abbrev pub AreDocuments : List Tree → Type 0
  AreDocuments ds = AllByRecursion (λ e. IsProperTree (top d p.some p.other) e × (height e ≤ 66)) ds

  one_by_one_sound : (sel : List ℕ) (ns : List Note) → has_only_chars sel ≡ true → AreSound d p (operations d ns) → AreDocuments (patching_documents d sel ns)
  one_by_one_sound sel [] chars h = tt
  one_by_one_sound sel (n ∷ ns) chars h = (document_sound sel n.previous n.next (operation d n ∷ []) chars (h.0, tt), one_by_one_sound sel ns chars h.1)

  at_once_sound : (sel : List ℕ) (tag : ℕ) (ns : List Note) → has_only_chars sel ≡ true → AreSound d p (operations d ns) → AreDocuments (aggregate_documents d sel tag ns)
  at_once_sound sel tag [] chars h = tt
  at_once_sound sel tag (n ∷ ns) chars h = (document_sound sel tag (tag_after tag (n ∷ ns)) (operations d (n ∷ ns)) chars h, tt)

  -- ---- diff documents

  pub diff_proper : (root : List ℕ) (ds : List Tree) → has_only_chars root ≡ true → AreDocuments ds → IsProperTree [] (diff d root ds) × (height (diff d root ds) ≤ 67)
  diff_proper root ds chars h =
      let here = top d p.some p.other in
      let r = split (IsProperTree here) (λ e. height e ≤ 66) ds h in (
        (
          record {
            named = named_ours d p here (codes "xcap-diff") refl (bound_notice d p.some p.other);
            declarations = (declares_ours, tt);
            attributes = (plain_attribute here (codes "xcap-root") (root ++ codes "/") refl (λ e. absurd cc) (chars-append root (codes "/") chars refl), tt);
            prefixes = one_prefix (record { prefix = d; uri = diff_uri });
            names = one_name (attr_name here (plain (codes "xcap-root") root).name);
          },
          listed_proper here ds r.0,
        ),
        omega (arith, listed_low 66 ds r.1),
      )

  pub proper_one_by_one : (root sel : List ℕ) (tag : ℕ) (t : Tree) (ns : List Note) → has_only_chars root ≡ true → has_only_chars sel ≡ true → AreNotesOf tag t ns → AreDiffableTrees t ns
      → AllByRecursion (λ n. declares_prefix d n.bindings ≡ false) ns → IsProperTree [] (diff d root (patching_documents d sel ns)) × (height (diff d root (patching_documents d sel ns)) ≤ 67)
  proper_one_by_one root sel tag t ns chars more h are free =
      diff_proper root (patching_documents d sel ns) chars (one_by_one_sound sel ns more (notes_sound d p tag t ns h are free))

  pub proper_at_once : (root sel : List ℕ) (tag : ℕ) (t : Tree) (ns : List Note) → has_only_chars root ≡ true → has_only_chars sel ≡ true → AreNotesOf tag t ns → AreDiffableTrees t ns
      → AllByRecursion (λ n. declares_prefix d n.bindings ≡ false) ns → IsProperTree [] (diff d root (aggregate_documents d sel tag ns)) × (height (diff d root (aggregate_documents d sel tag ns)) ≤ 67)
  proper_at_once root sel tag t ns chars more h are free =
      diff_proper root (aggregate_documents d sel tag ns) chars (at_once_sound sel tag ns more (notes_sound d p tag t ns h are free))

-- ---- candidates are prefixes for diff documents

named_digits : (ds : List ℕ) → AllByRecursion (λ x. x < 10) ds → list_all is_name_char (map (λ x. 48 + x) ds) ≡ true
named_digits [] h = refl
named_digits (x ∷ ds) h = both (is_name_char (48 + x)) (list_all is_name_char (map (λ k. 48 + k) ds)) (digit_named x h.0) (named_digits ds h.1)
  where
    digit_named : (x : ℕ) → x < 10 → is_name_char (48 + x) ≡ true
    digit_named x h = grind (arith, nat_tests)

named_number : (k : ℕ) → suc k < 2 ^ 64 → list_all is_name_char (decimal (suc k)) ≡ true
named_number k h = ap (list_all is_name_char) (decimal-digits_of (suc k) (omega arith) h) ∙ named_digits (digits_of 10 (suc k)) (all_below_base_digits_of 10 (suc k) (omega arith))

candidate_prefix-name : (k : ℕ) → k < 2 ^ 64 → is_prefix (candidate_prefix k) ≡ true
candidate_prefix-name zero h = refl
candidate_prefix-name (suc k) h = named_number k h

candidate_prefix-apart : (k : ℕ) → bytes_eq (candidate_prefix k) xmlns_prefix ≡ false
candidate_prefix-apart zero = refl
candidate_prefix-apart (suc k) = refl

pub IsDiffPrefix-candidate_prefix : (k : ℕ) → k < 2 ^ 64 → IsDiffPrefix (candidate_prefix k)
IsDiffPrefix-candidate_prefix k h = record { some = candidate_prefix-some k; other = candidate_prefix-other k; apart = candidate_prefix-apart k; name = candidate_prefix-name k h }
