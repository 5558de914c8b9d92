-- The operations of change records are proper in a diff document.
use Rattle.std.proofs.Common.{◌≡◌, ◌≢◌, ℕ, zero, suc, ◌≤◌, Bool, true, false, List, [], ◌∷◌, ◌++◌, length, Option, Some, None, IsSome, is_some, bytes_eq, codes, decimal, option_and_then, refl, sym, ap, ◌∙◌, subst, arith}
use Rattle.std.specs.List.{AllByRecursion, IsDistinct, find, list_all}
use Rattle.std.proofs.lemmas.Bool.Decides.{nat_tests}
use Rattle.xml_names.specs.Attributes.{with_new_value, with_attr, has_qname as is_named}
use Rattle.xml_names.specs.Characters.{has_only_chars, is_char, is_name, is_name_char, is_name_start}
use Rattle.xml_tree.specs.Edits.{put_over, set_attr_at, set_attr_value}
use Rattle.xml_names.specs.ExpandedNames.{ExpandedName, attr_name, same_expanded}
use Rattle.xml_names.specs.Markup.{print_name}
use Rattle.xml_tree.specs.Proper.{IsProperAttr, IsProperName, IsProperTag, HoldsOfChars, IsProperPart, IsProperTree, is_prefix}
use Rattle.xml_tree.specs.inner.Proper.{IsProperContent}
use Rattle.xml_names.specs.Scopes.{in_scope_bindings, bound_uri, xml_prefix, xmlns_prefix}
use Rattle.xml_tree.specs.TreeScopes.{scope_around, scope_at}
use Rattle.xml_tree.specs.Tree.{Tree, at, height, child_elements_of, content_of_children}
use Rattle.xml_names.specs.declared.names.Name.{Name}
use Rattle.xml_names.specs.declared.names.Decl.{Decl}
use Rattle.xml_names.specs.declared.names.Attr.{Attr}
use Rattle.xml_tree.proofs.HeightLaws.{height-put_in}
use Rattle.xml_tree.proofs.PlaceLaws.{height-at}
use Rattle.xml_tree.proofs.ProperEdits.{at-change_at, put-element, put-other}
use Rattle.tree_text.proofs.PrintedNames.{IsWritten}
use Rattle.tree_text.proofs.PrintedValues.{both as parts}
use Rattle.edit_ops.specs.Changes.{FitsTree, edited}
use Rattle.edit_ops.specs.declared.change.Change.{Change}
use Rattle.edit_ops.specs.declared.change.Change.TheVariants.{CreateDocument, Insert, Replace, Remove, SetAttr, DropAttr, RemoveDocument}
use Rattle.xml_tree.specs.PathTexts.{path_text, steps_text}
use Rattle.edit_ops.specs.Notes.{AreNotesOf, Note, note_of, scope_of_place}
use Rattle.patch_rules.specs.Notices.{declares_prefix, diff_uri, operations}
use Rattle.edit_ops.specs.DiffOperations.{attr_name_text, attr_path_text, operation, change_operation as told, plain_attr as plain}
use Rattle.patch_rules.proofs.Lengths.{HasPositions, HasPositions-short, path_positions}
use Rattle.patch_laws.specs.Premises.{AreReadablePositions, AreDiffableTrees, IsDiffableTree, scope_around_operations}
use Rattle.patch_laws.proofs.Changes.{first_told, name_after, name_before, tag_at, there_before, there_of}
use Rattle.patch_laws.proofs.AttributeOps.{NameAt, as_written}
use Rattle.patch_laws.proofs.Elements.{some_and, there_before_gap}
use Rattle.patch_laws.proofs.Numbers.{number_chars}
use Rattle.patch_laws.proofs.Prefixes.{Meets-told, both}
use Rattle.patch_laws.proofs.ScopedNames.{MayStand, ProperIn-Meets, bindings_declared, bindings_declared_around, bindings_distinct}
use Rattle.patch_laws.proofs.Wholes.{bound_operation}

-- ---- characters

pub name_char : (c : ℕ) → is_name_char c ≡ true → is_char c ≡ true
name_char c h = grind (arith, nat_tests)

start_char : (c : ℕ) → is_name_start c ≡ true → is_char c ≡ true
start_char c h = grind (arith, nat_tests)

pub chars-append : (xs ys : List ℕ) → has_only_chars xs ≡ true → has_only_chars ys ≡ true → has_only_chars (xs ++ ys) ≡ true
chars-append [] ys h k = k
chars-append (x ∷ xs) ys h k = let b = parts (is_char x) (has_only_chars xs) h in both (is_char x) (has_only_chars (xs ++ ys)) b.0 (chars-append xs ys b.1 k)

steps_chars : (p : List ℕ) → AreReadablePositions p → has_only_chars (steps_text p) ≡ true
steps_chars [] h = refl
steps_chars (n ∷ p) h = chars-append (decimal (suc n)) (93 ∷ steps_text p) (number_chars (suc n)) (steps_chars p h.1)

path_chars : (p : List ℕ) → AreReadablePositions p → has_only_chars (path_text p) ≡ true
path_chars p h = steps_chars p h

rest_chars : (cs : List ℕ) → list_all is_name_char cs ≡ true → has_only_chars cs ≡ true
rest_chars [] h = refl
rest_chars (c ∷ cs) h = let b = parts (is_name_char c) (list_all is_name_char cs) h in both (is_char c) (has_only_chars cs) (name_char c b.0) (rest_chars cs b.1)

name_chars : (n : List ℕ) → is_name n ≡ true → has_only_chars n ≡ true
name_chars [] h = absurd cc
name_chars (c ∷ cs) h = let b = parts (is_name_start c) (list_all is_name_char cs) h in both (is_char c) (has_only_chars cs) (start_char c b.0) (rest_chars cs b.1)

qname_chars : (p l : List ℕ) → is_prefix p ≡ true → is_name l ≡ true → has_only_chars (print_name (record { prefix = p; local = l })) ≡ true
qname_chars [] l h k = name_chars l k
qname_chars (c ∷ cs) l h k = chars-append (c ∷ cs) (58 ∷ l) (name_chars (c ∷ cs) h) (name_chars l k)

type_chars : (n : Name) → IsWritten n → has_only_chars (attr_name_text n) ≡ true
type_chars n w = qname_chars n.prefix n.local w.prefix w.local

attr_chars : (p : List ℕ) (n : Name) → AreReadablePositions p → IsWritten n → has_only_chars (attr_path_text p n) ≡ true
attr_chars p n h w = chars-append (path_text p) (47 ∷ 64 ∷ print_name n) (path_chars p h) (type_chars n w)

letters : (c : List (List Decl)) (t : List ℕ) → has_only_chars t ≡ true → HoldsOfChars IsProperPart c t
letters c [] h = tt
letters c (x ∷ t) h = let b = parts (is_char x) (has_only_chars t) h in (b.0, letters c t b.1)

-- the value of an attribute that is written
written_value : (c : List (List Decl)) (n : Name) (v : List ℕ) (ats : List Attr) → AllByRecursion (IsProperAttr c) (with_attr n v ats) → has_only_chars v ≡ true
written_value c n v [] h = h.0.value
written_value c n v (a ∷ ats) h = by (is_named n a) refl h (written_value c n v ats)
  where
    by : (b : Bool) → is_named n a ≡ b → AllByRecursion (IsProperAttr c) (with_attr n v (a ∷ ats)) → (AllByRecursion (IsProperAttr c) (with_attr n v ats) → has_only_chars v ≡ true) → has_only_chars v ≡ true
    by true e g rest = let z : AllByRecursion (IsProperAttr c) (with_new_value v a ∷ ats) = rw e at g in z.0.value
    by false e g rest = let z : AllByRecursion (IsProperAttr c) (a ∷ with_attr n v ats) = rw e at g in rest z.1

-- ---- tags

pub plain_attribute : (c : List (List Decl)) (local value : List ℕ) → is_name local ≡ true → local ≢ xmlns_prefix → has_only_chars value ≡ true → IsProperAttr c (plain local value)
plain_attribute c local value name ne chars = record {
  named = record { prefix = refl; local = name; known = λ z. absurd (z refl) };
  other = λ _. ne;
  value = chars;
}

one_name : (x : ExpandedName) → IsDistinct same_expanded (x ∷ [])
unfolding IsDistinct
one_name x = (tt, tt)

two_names : (x y : ExpandedName) → same_expanded x y ≡ false → IsDistinct same_expanded (x ∷ y ∷ [])
unfolding IsDistinct
two_names x y h = ((h, tt), (tt, tt))

no_sel : codes "sel" ≢ xmlns_prefix
no_sel = λ e. absurd cc

no_pos : codes "pos" ≢ xmlns_prefix
no_pos = λ e. absurd cc

no_type : codes "type" ≢ xmlns_prefix
no_type = λ e. absurd cc

-- a prefix for diff documents is an NCName of its own
pub record IsDiffPrefix (d : List ℕ) : Type 0 where
  pub some : d ≢ []
  pub other : bytes_eq d xml_prefix ≡ false
  pub apart : bytes_eq d xmlns_prefix ≡ false
  pub name : is_prefix d ≡ true

module _ (d : List ℕ) (p : IsDiffPrefix d) where
  abbrev pub own : List (List Decl) → List (List Decl)
  own place = scope_around_operations d diff_uri ++ in_scope_bindings place ∷ []

  pub named_ours : (c : List (List Decl)) (local : List ℕ) → is_name local ≡ true → bound_uri c d ≡ Some diff_uri → IsProperName c (record { prefix = d; local = local })
  named_ours c local name is = record { prefix = p.name; local = name; known = λ _. ap is_some is }

  -- an operation with one attribute or two
  sel_alone : (place : List (List Decl)) (word sel : List ℕ) → is_name word ≡ true → declares_prefix d (in_scope_bindings place) ≡ false → AllByRecursion MayStand (in_scope_bindings place) → has_only_chars sel ≡ true
      → IsProperTag (own place) (record { prefix = d; local = word }) (in_scope_bindings place) (plain (codes "sel") sel ∷ [])
  sel_alone place word sel name free stand chars = record {
    named = named_ours (own place) word name (bound_operation d p.some p.other (in_scope_bindings place) free);
    declarations = stand;
    attributes = (plain_attribute (own place) (codes "sel") sel refl no_sel chars, tt);
    prefixes = bindings_distinct place;
    names = one_name (attr_name (own place) (plain (codes "sel") sel).name);
  }

  sel_pos : (place : List (List Decl)) (sel pos : List ℕ) → declares_prefix d (in_scope_bindings place) ≡ false → AllByRecursion MayStand (in_scope_bindings place) → has_only_chars sel ≡ true → has_only_chars pos ≡ true
      → IsProperTag (own place) (record { prefix = d; local = codes "add" }) (in_scope_bindings place) (plain (codes "sel") sel ∷ plain (codes "pos") pos ∷ [])
  sel_pos place sel pos free stand chars more = record {
    named = named_ours (own place) (codes "add") refl (bound_operation d p.some p.other (in_scope_bindings place) free);
    declarations = stand;
    attributes = (plain_attribute (own place) (codes "sel") sel refl no_sel chars, (plain_attribute (own place) (codes "pos") pos refl no_pos more, tt));
    prefixes = bindings_distinct place;
    names = two_names (attr_name (own place) (plain (codes "sel") sel).name) (attr_name (own place) (plain (codes "pos") pos).name) refl;
  }

  sel_type : (place : List (List Decl)) (sel type : List ℕ) → declares_prefix d (in_scope_bindings place) ≡ false → AllByRecursion MayStand (in_scope_bindings place) → has_only_chars sel ≡ true → has_only_chars type ≡ true
      → IsProperTag (own place) (record { prefix = d; local = codes "add" }) (in_scope_bindings place) (plain (codes "sel") sel ∷ plain (codes "type") type ∷ [])
  sel_type place sel type free stand chars more = record {
    named = named_ours (own place) (codes "add") refl (bound_operation d p.some p.other (in_scope_bindings place) free);
    declarations = stand;
    attributes = (plain_attribute (own place) (codes "sel") sel refl no_sel chars, (plain_attribute (own place) (codes "type") type refl no_type more, tt));
    prefixes = bindings_distinct place;
    names = two_names (attr_name (own place) (plain (codes "sel") sel).name) (attr_name (own place) (plain (codes "type") type).name) refl;
  }

  alone_proper : (place : List (List Decl)) (e : Tree) → IsProperTree place e → IsProperContent (own place) (content_of_children (e ∷ []))
  alone_proper place e h = let g = ProperIn-Meets place (own place) e (Meets-told place d diff_uri p.some) h in (tt, g.0, g.1, tt)

  set_proper : (q : List ℕ) (n : Name) (v : List ℕ) (fresh : Bool) (t k : Tree) → at q t ≡ Some k → AreReadablePositions q → declares_prefix d (in_scope_bindings (scope_at q t)) ≡ false → AllByRecursion MayStand (in_scope_bindings (scope_at q t))
      → NameAt (scope_at q t) n k.attrs → has_only_chars v ≡ true → IsProperTree (scope_around_operations d diff_uri) (told d (in_scope_bindings (scope_at q t)) fresh (SetAttr q n v))
  set_proper q n v true t k there small free stand name chars =
      (sel_type (scope_at q t) (path_text q) (attr_name_text n) free stand (path_chars q small) (type_chars n (as_written (scope_at q t) n name.named)), letters (own (scope_at q t)) v chars)
  set_proper q n v false t k there small free stand name chars =
      (sel_alone (scope_at q t) (codes "replace") (attr_path_text q n) refl free stand (attr_chars q n small (as_written (scope_at q t) n name.named)), letters (own (scope_at q t)) v chars)

  name_of : (q : List ℕ) (n : Name) (v : List ℕ) (t k : Tree) → at q t ≡ Some k → IsProperTree [] t → IsProperTree [] (set_attr_at q n v t) → (o : Option Attr) → find (is_named n) k.attrs ≡ o → NameAt (scope_at q t) n k.attrs
  name_of q n v t k there before after None e = name_after q n v t k there before after e
  name_of q n v t k there before after (Some a) e = name_before q n t k there before (ap is_some e)

  pub proper_told : (t : Tree) (change : Change) (fresh : Bool) → FitsTree t change → IsProperTree [] t → HasPositions t → IsProperTree [] (edited t change) → declares_prefix d (in_scope_bindings (scope_of_place t change)) ≡ false
      → IsProperTree (scope_around_operations d diff_uri) (told d (in_scope_bindings (scope_of_place t change)) fresh change)
  proper_told t (CreateDocument root) fresh fits before small after free = absurd fits
  proper_told t (Insert q zero e) fresh fits before small after free =
      let k = some_and (at q t) (λ x. 0 ≤ length (child_elements_of x)) fits in (
        sel_pos (scope_at q t) (path_text q) (codes "prepend") free (bindings_declared q t before) (path_chars q (path_positions q t small (ap is_some k.1))) refl,
        alone_proper (scope_at q t) e (put-element IsProperPart [] q 0 e t k.0 k.1 k.2 after),
      )
  proper_told t (Insert q (suc j) e) fresh fits before small after free =
      let k = some_and (at q t) (λ x. suc j ≤ length (child_elements_of x)) fits in (
        sel_pos (scope_at q t) (path_text (q ++ j ∷ [])) (codes "after") free (bindings_declared q t before)
            (path_chars (q ++ j ∷ []) (path_positions (q ++ j ∷ []) t small (there_before_gap q j k.0 t k.1 k.2))) refl,
        alone_proper (scope_at q t) e (put-element IsProperPart [] q (suc j) e t k.0 k.1 k.2 after),
      )
  proper_told t (Replace q e) fresh fits before small after free =
      let k = there_of (at q t) fits in (
        sel_alone (scope_around q t) (codes "replace") (path_text q) refl free (bindings_declared_around q t before) (path_chars q (path_positions q t small fits)),
        alone_proper (scope_around q t) e (put-other IsProperPart [] q e t k.0 k.1 after),
      )
  proper_told t (Remove q) fresh fits before small after free =
      (sel_alone (scope_around q t) (codes "remove") (path_text q) refl free (bindings_declared_around q t before) (path_chars q (path_positions q t small fits.1)), tt)
  proper_told t (SetAttr q n v) fresh fits before small after free =
      let k = there_of (at q t) fits in
      let tag = tag_at q (set_attr_at q n v t) (set_attr_value n v k.0) (at-change_at q (set_attr_value n v) t k.0 k.1) after in
      set_proper q n v fresh t k.0 k.1 (path_positions q t small fits) free (bindings_declared q t before) (name_of q n v t k.0 k.1 before after (find (is_named n) k.0.attrs) refl)
      (written_value (scope_at q (set_attr_at q n v t)) n v k.0.attrs tag.attributes)
  proper_told t (DropAttr q n) fresh fits before small after free =
      let is = there_before (λ (e : Tree). find (is_named n) e.attrs) (at q t) fits in
      let k = there_of (at q t) is in
      let some : IsSome (find (is_named n) k.0.attrs) = subst (λ o. IsSome o) (ap (option_and_then (λ (e : Tree). find (is_named n) e.attrs)) k.1) fits in
      let name = name_before q n t k.0 k.1 before some in
      (sel_alone (scope_at q t) (codes "remove") (attr_path_text q n) refl free (bindings_declared q t before) (attr_chars q n (path_positions q t small is) (as_written (scope_at q t) n name.named)), tt)
  proper_told t RemoveDocument fresh fits before small after free = absurd fits

  -- ---- the height of operations

  pub low_told : (t : Tree) (bs : List Decl) (change : Change) (fresh : Bool) → FitsTree t change → height (edited t change) ≤ 64 → height (told d bs fresh change) ≤ 65
  low_told t bs (CreateDocument root) fresh fits low = absurd fits
  low_told t bs (Insert q j e) fresh fits low =
      let k = some_and (at q t) (λ x. j ≤ length (child_elements_of x)) fits in omega (arith, height-put_in q j e k.0 t k.1 k.2)
  low_told t bs (Replace q e) fresh fits low =
      let k = there_of (at q t) fits in omega (arith, height-at q e (put_over q e t) (at-change_at q (λ _. e) t k.0 k.1))
  low_told t bs (Remove q) fresh fits low = omega arith
  low_told t bs (SetAttr q n v) true fits low = omega arith
  low_told t bs (SetAttr q n v) false fits low = omega arith
  low_told t bs (DropAttr q n) fresh fits low = omega arith
  low_told t bs RemoveDocument fresh fits low = absurd fits

  -- ---- the operations of change records

  abbrev pub AreSound : List Tree → Type 0
  AreSound os = AllByRecursion (λ o. IsProperTree (scope_around_operations d diff_uri) o × (height o ≤ 65)) os

  note_sound : (tag : ℕ) (t : Tree) (n : Note) → FitsTree t n.change → n ≡ note_of tag n.next t n.change → IsDiffableTree t → IsDiffableTree (edited t n.change) → declares_prefix d n.bindings ≡ false
      → IsProperTree (scope_around_operations d diff_uri) (operation d n) × (height (operation d n) ≤ 65)
  note_sound tag t n fits is before after free =
      let bs : n.bindings ≡ in_scope_bindings (scope_of_place t n.change) = ap (λ (m : Note). m.bindings) is in (
        subst (λ l. IsProperTree (scope_around_operations d diff_uri) (told d l n.fresh n.change)) (sym bs)
            (proper_told t n.change n.fresh fits before.proper (HasPositions-short t before.short) after.proper (ap (declares_prefix d) (sym bs) ∙ free)),
        low_told t n.bindings n.change n.fresh fits after.low,
      )

  pub notes_sound : (tag : ℕ) (t : Tree) (ns : List Note) → AreNotesOf tag t ns → AreDiffableTrees t ns → AllByRecursion (λ n. declares_prefix d n.bindings ≡ false) ns → AreSound (operations d ns)
  notes_sound tag t [] h are free = tt
  notes_sound tag t (n ∷ ns) h are free =
      (note_sound tag t n h.0 h.1 are.0 (first_told d diff_uri p.some (edited t n.change) ns are.1) free.0, notes_sound n.next (edited t n.change) ns h.2 are.1 free.1)
