-- The printed tag of a proper element is read as what was printed, and nothing is wrong with its
-- names.
use Rattle.std.proofs.Common.{◌≡◌, ℕ, ◌+◌, ◌-◌, Bool, true, false, cond, List, [], ◌∷◌, ◌++◌, map, length, IsTrue, refl, sym, ap, subst, ◌∙◌, append_assoc, flat_map}
use Rattle.std.specs.Prelude.{◌&&◌, ◌||◌, ◌≢◌, not, Option, None, IsSome, is_some}
use Rattle.std.specs.List.{list_all, AllByRecursion, IsDistinct}
use Rattle.std.specs.Option.{option_or}
use Rattle.std.specs.Str.{bytes_eq}
use Rattle.std.proofs.lemmas.Slice.Eq.{bytes_eq-Decides}
use Rattle.std.proofs.lemmas.Map.Keys.{IsDistinct-head, IsDistinct-tail}
use Rattle.xml_names.specs.Characters.{is_char, is_space}
use Rattle.xml_names.specs.ExpandedNames.{ExpandedName, attr_name, same_expanded}
use Rattle.xml_names.specs.Markup.{tag_front, print_attr, print_name}
use Rattle.xml_tree.specs.Proper.{is_proper_decl, is_prefix, is_allowed_decl, IsProperAttr, IsProperName, IsProperTag}
use Rattle.xml_names.specs.Scopes.{bound_uri, declared_uri, scope_decls, non_empty_uri, xmlns_prefix}
use Rattle.xml_names.specs.declared.names.Name.{Name}
use Rattle.xml_names.specs.declared.names.Decl.{Decl}
use Rattle.xml_names.specs.declared.names.Attr.{Attr}
use Rattle.xml_tree.proofs.ScopesAlike.{bound_uri-inner}
use Rattle.xml_grammar.specs.TextReading.{Reader}
use Rattle.xml_grammar.specs.readers.RuleReaders.{read_with_value_marks}
use Rattle.xml_tokens.specs.readers.Literals.{less}
use Rattle.xml_tokens.specs.declared.fault_kind.FaultKind.{FaultKind}
use Rattle.tree_text.specs.declared.raw_attribute.RawAttribute.{RawAttribute}
use Rattle.tree_text.specs.Names.{decls_of, attrs_of, is_misnamed, repeats_name, is_repeated, raw_attribute_decl as decl_of, is_xmlns_attr_name as declares, is_prefix_unbound as is_unbound}
use Rattle.tree_text.specs.readers.TagNameFaults.{attribute_fault, first_attribute_fault, first_tag_fault, counted_from_end, tag_fault}
use Rattle.tree_text.specs.Names as names
use Rattle.tree_text.specs.ContentPieces.{StartTag}
use Rattle.tree_text.specs.readers.TagValues.{start_tag_of}
use Rattle.xml_tokens.specs.readers.Tokens.{read_spaces}
use Rattle.tree_text.specs.readers.Texts.{read_raw_attribute, raw_attribute_follows, read_tag_end, read_tag}
use Rattle.xml_tokens.proofs.ReadFronts.{Reads, reads_sequence, reads_valued, reads_before, reads_behind, reads_judged, sized_by, reads_word, reads_none, reads_many}
use Rattle.tree_text.proofs.PrintedValues.{not_true}
use Rattle.tree_text.proofs.PrintedNames.{EndsName, reads_qname, said_from, ArePrinted, reads_attrs, declared_name, attr_for, as_attrs, decl_printed}

-- ---- what a proper tag implies for its names

three_true : (a b c : Bool) → a && b && c ≡ true → (a ≡ true) × (b ≡ true) × (c ≡ true)
three_true true true true h = (refl, refl, refl)
three_true true true false h = absurd cc
three_true true false c h = absurd cc
three_true false b c h = absurd cc

first_true : (a b c d : Bool) → a && b && c && d ≡ true → a ≡ true
first_true true b c d h = refl
first_true false b c d h = absurd cc

not_same : (xs ys : List ℕ) → (xs ≡ ys → ⊥) → bytes_eq xs ys ≡ false
not_same xs ys n = by (bytes_eq xs ys) refl
  where
    by : (b : Bool) → bytes_eq xs ys ≡ b → bytes_eq xs ys ≡ false
    by true e = absurd (n ((bytes_eq-Decides xs ys).0 e))
    by false e = e

abbrev Declarations : List Decl → Type 0
Declarations ds = AllByRecursion (λ d. IsTrue (is_proper_decl d)) ds

decl_parts : (d : Decl) → IsTrue (is_proper_decl d) → (is_prefix d.prefix ≡ true) × (list_all is_char d.uri ≡ true) × (is_allowed_decl d ≡ true)
decl_parts d h = three_true (is_prefix d.prefix) (list_all is_char d.uri) (is_allowed_decl d) h

undeclared : (ds : List Decl) → Declarations ds → declared_uri ds xmlns_prefix ≡ None
undeclared [] h = refl
undeclared (d ∷ ds) h =
    let m = (decl_parts d h.0).2 in
    let other : bytes_eq d.prefix xmlns_prefix ≡ false = not_true (bytes_eq d.prefix xmlns_prefix) (first_true (not (bytes_eq d.prefix xmlns_prefix)) _ _ _ m) in
    rw (undeclared ds h.1) (rw other refl)

-- no proper declaration binds `xmlns`
pub still_unbound : (scope : List (List Decl)) (ds : List Decl) → bound_uri scope xmlns_prefix ≡ None → Declarations ds → bound_uri (scope ++ ds ∷ []) xmlns_prefix ≡ None
still_unbound scope ds h k = bound_uri-inner scope ds xmlns_prefix ∙ ap (λ (z : Option (List ℕ)). non_empty_uri (option_or z (declared_uri (scope_decls scope) xmlns_prefix))) (undeclared ds k) ∙ h

module _ (here : List (List Decl)) (unbound : bound_uri here xmlns_prefix ≡ None) where
  no_xmlns : (n : Name) → IsProperName here n → n.prefix ≡ xmlns_prefix → ⊥
  no_xmlns n h e =
      let some : IsSome (bound_uri here n.prefix) = h.known (λ (f : n.prefix ≡ []). (let k : xmlns_prefix ≡ [] = sym e ∙ f in absurd cc)) in
      let none : bound_uri here n.prefix ≡ None = ap (bound_uri here) e ∙ unbound in
      (let k : is_some {T = List ℕ} None ≡ true = subst (λ (z : Option (List ℕ)). is_some z ≡ true) none some in absurd cc)

  declares_by : (a b c : Bool) → (a ≡ true → b ≡ false) → c ≡ false → (a && b) || c ≡ false
  declares_by true true c f g = absurd (let k = f refl in cc)
  declares_by true false c f g = g
  declares_by false b c f g = g

  no_declaration : (a : Attr) → IsProperAttr here a → declares a.name ≡ false
  no_declaration a h = declares_by (bytes_eq a.name.prefix []) (bytes_eq a.name.local xmlns_prefix) (bytes_eq a.name.prefix xmlns_prefix)
      (λ e. not_same a.name.local xmlns_prefix (h.other ((bytes_eq-Decides a.name.prefix []).0 e)))
      (not_same a.name.prefix xmlns_prefix (no_xmlns a.name h.named))

  no_declarations : (ats : List Attr) → AllByRecursion (IsProperAttr here) ats → AllByRecursion (λ (a : Attr). declares a.name ≡ false) ats
  no_declarations [] h = tt
  no_declarations (a ∷ ats) h = (no_declaration a h.0, no_declarations ats h.1)

-- ---- the declarations and the attributes of the tag

prefix_back : (p : List ℕ) → cond (bytes_eq (declared_name p).prefix []) [] (declared_name p).local ≡ p
prefix_back [] = refl
prefix_back (c ∷ cs) = refl

declares_for : (p : List ℕ) → declares (declared_name p) ≡ true
declares_for [] = refl
declares_for (c ∷ cs) = refl

abbrev said_all : List Decl → List Attr → List RawAttribute
said_all ds ats = map said_from (map attr_for ds ++ ats)

decl_back : (d : Decl) → decl_of (said_from (attr_for d)) ≡ d
decl_back d = ap (λ (z : List ℕ). let w : Decl = record { prefix = z; uri = d.uri } in w) (prefix_back d.prefix)

abbrev Others : List Attr → Type 0
Others ats = AllByRecursion (λ (a : Attr). declares a.name ≡ false) ats

no_decls : (ats : List Attr) → Others ats → decls_of (map said_from ats) ≡ []
no_decls [] h = refl
no_decls (a ∷ ats) h = rw h.0 (no_decls ats h.1)

all_attrs : (ats : List Attr) → Others ats → attrs_of (map said_from ats) ≡ ats
all_attrs [] h = refl
all_attrs (a ∷ ats) h = rw h.0 (ap (λ (z : List Attr). a ∷ z) (all_attrs ats h.1))

pub decls_back : (ds : List Decl) (ats : List Attr) → Others ats → decls_of (said_all ds ats) ≡ ds
decls_back [] ats h = no_decls ats h
decls_back (d ∷ ds) ats h = rw (declares_for d.prefix) (ap (λ (z : Decl). z ∷ decls_of (said_all ds ats)) (decl_back d) ∙ ap (λ (z : List Decl). d ∷ z) (decls_back ds ats h))

pub attrs_back : (ds : List Decl) (ats : List Attr) → Others ats → attrs_of (said_all ds ats) ≡ ats
attrs_back [] ats h = all_attrs ats h
attrs_back (d ∷ ds) ats h = rw (declares_for d.prefix) (attrs_back ds ats h)

-- ---- nothing is wrong with the names

module _ (here : List (List Decl)) where
  -- no name repeats the meaning of an earlier one
  abbrev Apart : List RawAttribute → Type 0
  Apart [] = Unit {0}
  Apart (e ∷ ss) = AllByRecursion (λ (s : RawAttribute). repeats_name here s e ≡ false) ss × Apart ss

  abbrev WellNamed : List RawAttribute → Type 0
  WellNamed ss = AllByRecursion (λ (s : RawAttribute). is_misnamed here s ≡ false) ss

  at_place : (P : RawAttribute → Type 0) (front : List RawAttribute) (s : RawAttribute) (back : List RawAttribute) → AllByRecursion P (front ++ s ∷ back) → P s
  at_place P [] s back h = h.0
  at_place P (e ∷ front) s back h = at_place P front s back h.1

  none_before : (front : List RawAttribute) (s : RawAttribute) (back : List RawAttribute) → Apart (front ++ s ∷ back) → is_repeated here front s ≡ false
  none_before [] s back h = refl
  none_before (e ∷ front) s back h = rw (at_place (λ (z : RawAttribute). repeats_name here z e ≡ false) front s back h.0) (none_before front s back h.1)

  none_wrong : (front ss : List RawAttribute) (at : ℕ) → Apart (front ++ ss) → WellNamed ss → first_attribute_fault here front at ss ≡ None
  none_wrong front [] at h w = refl
  none_wrong front (s ∷ ss) at h w =
      let r = none_before front s ss h in
      let right : attribute_fault here front s ≡ None = rw w.0 (rw r refl) in
      let more = none_wrong (front ++ s ∷ []) ss (at + (s.gap + s.size)) (subst Apart (sym (append_assoc front (s ∷ []) ss)) h) w.1 in
      rw right more

  decl_apart : (e d : Decl) → bytes_eq e.prefix d.prefix ≡ false → repeats_name here (said_from (attr_for d)) (said_from (attr_for e)) ≡ false
  decl_apart e d h =
      let first = ap (λ (z : List ℕ). bytes_eq z (decl_of (said_from (attr_for d))).prefix) (prefix_back e.prefix) in
      let second = ap (λ (z : List ℕ). bytes_eq e.prefix z) (prefix_back d.prefix) in
      rw (declares_for d.prefix) (rw (declares_for e.prefix) (first ∙ second ∙ h))

  attr_apart : (e : Decl) (a : Attr) → declares a.name ≡ false → repeats_name here (said_from a) (said_from (attr_for e)) ≡ false
  attr_apart e a n = rw n (rw (declares_for e.prefix) refl)

  attrs_apart : (e a : Attr) → declares e.name ≡ false → declares a.name ≡ false → same_expanded (attr_name here e.name) (attr_name here a.name) ≡ false → repeats_name here (said_from a) (said_from e) ≡ false
  attrs_apart e a m n h = rw n (rw m h)

  apart_from_attr : (e : Attr) (ats : List Attr) → declares e.name ≡ false → Others ats → AllByRecursion (λ (x : ExpandedName). same_expanded (attr_name here e.name) x ≡ false) (map (λ (a : Attr). attr_name here a.name) ats)
      → AllByRecursion (λ (s : RawAttribute). repeats_name here s (said_from e) ≡ false) (map said_from ats)
  apart_from_attr e [] m n h = tt
  apart_from_attr e (a ∷ ats) m n h = (attrs_apart e a m n.0 h.0, apart_from_attr e ats m n.1 h.1)

  apart_attrs : (ats : List Attr) → Others ats → IsDistinct same_expanded (map (λ (a : Attr). attr_name here a.name) ats) → Apart (map said_from ats)
  apart_attrs [] n h = tt
  apart_attrs (a ∷ ats) n h =
      let x = attr_name here a.name in
      let xs = map (λ (z : Attr). attr_name here z.name) ats in
      (apart_from_attr a ats n.0 n.1 (IsDistinct-head same_expanded x xs h), apart_attrs ats n.1 (IsDistinct-tail same_expanded x xs h))

  attrs_from_decl : (e : Decl) (ats : List Attr) → Others ats → AllByRecursion (λ (s : RawAttribute). repeats_name here s (said_from (attr_for e)) ≡ false) (map said_from ats)
  attrs_from_decl e [] n = tt
  attrs_from_decl e (a ∷ ats) n = (attr_apart e a n.0, attrs_from_decl e ats n.1)

  apart_from_decl : (e : Decl) (ds : List Decl) (ats : List Attr) → Others ats → AllByRecursion (λ (p : List ℕ). bytes_eq e.prefix p ≡ false) (map (λ (d : Decl). d.prefix) ds)
      → AllByRecursion (λ (s : RawAttribute). repeats_name here s (said_from (attr_for e)) ≡ false) (said_all ds ats)
  apart_from_decl e [] ats n h = attrs_from_decl e ats n
  apart_from_decl e (d ∷ ds) ats n h = (decl_apart e d h.0, apart_from_decl e ds ats n h.1)

  apart_all : (ds : List Decl) (ats : List Attr) → Others ats → IsDistinct bytes_eq (map (λ (d : Decl). d.prefix) ds) → Apart (map said_from ats) → Apart (said_all ds ats)
  apart_all [] ats n h k = k
  apart_all (d ∷ ds) ats n h k =
      let ps = map (λ (z : Decl). z.prefix) ds in
      (apart_from_decl d ds ats n (IsDistinct-head bytes_eq d.prefix ps h), apart_all ds ats n (IsDistinct-tail bytes_eq d.prefix ps h) k)

  bound_by : (p : List ℕ) (o : Option (List ℕ)) → (p ≢ [] → IsSome o) → not (bytes_eq p []) && not (is_some o) ≡ false
  bound_by [] o h = refl
  bound_by (c ∷ cs) o h = ap not (h (λ (e : c ∷ cs ≡ []). absurd cc))

  is_bound : (n : Name) → IsProperName here n → is_unbound here n ≡ false
  is_bound n h = bound_by n.prefix (bound_uri here n.prefix) h.known

  attrs_named : (ats : List Attr) → Others ats → AllByRecursion (IsProperAttr here) ats → WellNamed (map said_from ats)
  attrs_named [] n h = tt
  attrs_named (a ∷ ats) n h = (rw n.0 (is_bound a.name h.0.named), attrs_named ats n.1 h.1)

  decl_named : (d : Decl) → is_allowed_decl d ≡ true → is_misnamed here (said_from (attr_for d)) ≡ false
  decl_named d h = rw (declares_for d.prefix) (ap (λ (z : Decl). not (is_allowed_decl z)) (decl_back d) ∙ ap not h)

  all_named : (ds : List Decl) (ats : List Attr) → Declarations ds → WellNamed (map said_from ats) → WellNamed (said_all ds ats)
  all_named [] ats h k = k
  all_named (d ∷ ds) ats h k = (decl_named d (decl_parts d h.0).2, all_named ds ats h.1 k)

-- ---- the tag as it is read

-- the tag of these raw attributes, with this many characters
abbrev pub tag_from : Name → List Decl → List Attr → Bool → ℕ → StartTag
tag_from n ds ats empty size = record { name = n; raw_attribute = said_all ds ats; is_empty = empty; size = size }

-- `/>` or `>`
abbrev pub tag_mark : Bool → List ℕ
tag_mark empty = cond empty (47 ∷ 62 ∷ []) (62 ∷ [])

first_none : (here : List (List Decl)) (n : Name) (ds : List Decl) (ats : List Attr) (empty : Bool) (size : ℕ) → Others ats → IsProperTag here n ds ats → first_tag_fault here (tag_from n ds ats empty size) ≡ None
first_none here n ds ats empty size others h =
    let named = is_bound here n h.named in
    let apart = apart_all here ds ats others h.prefixes (apart_attrs here ats others h.names) in
    let well = all_named here ds ats h.declarations (attrs_named here ats others h.attributes) in
    rw named (none_wrong here [] (said_all ds ats) (names.tag_front_size (tag_from n ds ats empty size)) apart well)

no_fault : (scope : List (List Decl)) (n : Name) (ds : List Decl) (ats : List Attr) (empty : Bool) (size : ℕ) → Others ats → IsProperTag (scope ++ ds ∷ []) n ds ats → tag_fault scope (tag_from n ds ats empty size) ≡ None
no_fault scope n ds ats empty size others h =
    ap (λ (z : List Decl). counted_from_end size (first_tag_fault (scope ++ z ∷ []) (tag_from n ds ats empty size))) (decls_back ds ats others)
    ∙ ap (counted_from_end size) (first_none (scope ++ ds ∷ []) n ds ats empty size others h)

printed_attrs : (here : List (List Decl)) (ats : List Attr) → AllByRecursion (IsProperAttr here) ats → ArePrinted ats
printed_attrs here [] h = tt
printed_attrs here (a ∷ ats) h = (record { name = record { prefix = h.0.named.prefix; local = h.0.named.local }; value = h.0.value }, printed_attrs here ats h.1)

pub printed_all : (here : List (List Decl)) (ds : List Decl) (ats : List Attr) → Declarations ds → AllByRecursion (IsProperAttr here) ats → ArePrinted (map attr_for ds ++ ats)
printed_all here [] ats h k = printed_attrs here ats k
printed_all here (d ∷ ds) ats h k = let p = decl_parts d h.0 in (decl_printed d p.0 p.1, printed_all here ds ats h.1 k)

ends_name : (ats : List Attr) (tail : List ℕ) → EndsName tail → EndsName (flat_map print_attr ats ++ tail)
ends_name [] tail h = h
ends_name (a ∷ ats) tail h = (refl, refl)

mark_ends : (empty : Bool) (rest : List ℕ) → EndsName (tag_mark empty ++ rest)
mark_ends true rest = (refl, refl)
mark_ends false rest = (refl, refl)

mark_follows : (empty : Bool) (rest : List ℕ) → raw_attribute_follows (tag_mark empty ++ rest) ≡ false
mark_follows true rest = refl
mark_follows false rest = refl

reads_mark : (empty : Bool) (rest : List ℕ) → Reads read_tag_end (tag_mark empty ++ rest) empty rest
reads_mark true rest = record { read = refl }
reads_mark false rest = record { read = refl }

no_space : (empty : Bool) (rest : List ℕ) → Reads read_spaces (tag_mark empty ++ rest) [] (tag_mark empty ++ rest)
no_space true rest = reads_none is_space (47 ∷ 62 ∷ rest) refl
no_space false rest = reads_none is_space (62 ∷ rest) refl

abbrev pub read_judged_tag : List (List Decl) → Reader FaultKind StartTag
read_judged_tag scope = read_with_value_marks (tag_fault scope) read_tag

abbrev tag_text : Name → List Decl → List Attr → Bool → List ℕ → List ℕ
tag_text n ds ats empty rest = tag_front n ds ats ++ (tag_mark empty ++ rest)

module _ (scope : List (List Decl)) (n : Name) (ds : List Decl) (ats : List Attr) (empty : Bool) (rest : List ℕ) (unbound : bound_uri (scope ++ ds ∷ []) xmlns_prefix ≡ None) (h : IsProperTag (scope ++ ds ∷ []) n ds ats) where
  others : Others ats
  others = no_declarations (scope ++ ds ∷ []) unbound ats h.attributes

  parts_read : Reads read_tag (60 ∷ (print_name n ++ (flat_map print_attr (map attr_for ds ++ ats) ++ (tag_mark empty ++ rest))))
      (tag_from n ds ats empty (length (60 ∷ (print_name n ++ (flat_map print_attr (map attr_for ds ++ ats) ++ (tag_mark empty ++ rest)))) - length rest)) rest
  parts_read =
      let all = map attr_for ds ++ ats in
      let mark = tag_mark empty ++ rest in
      let printed = printed_all (scope ++ ds ∷ []) ds ats h.declarations h.attributes in
      let raw_attribute = reads_many raw_attribute_follows read_raw_attribute (map said_from all) (flat_map print_attr all ++ mark) mark (reads_attrs all mark printed (mark_follows empty rest)) in
      let behind_name = reads_sequence (λ _. read_tag_end) (reads_before raw_attribute (no_space empty rest)) (reads_mark empty rest) in
      let name = reads_qname n (flat_map print_attr all ++ mark) (record { prefix = h.named.prefix; local = h.named.local }) (ends_name all mark (mark_ends empty rest)) in
      reads_valued start_tag_of (sized_by _ refl (reads_behind (reads_word less (print_name n ++ (flat_map print_attr all ++ mark))) (reads_sequence _ name behind_name)))

  text_is : tag_text n ds ats empty rest ≡ 60 ∷ (print_name n ++ (flat_map print_attr (map attr_for ds ++ ats) ++ (tag_mark empty ++ rest)))
  text_is = ap (λ (z : List ℕ). 60 ∷ ((print_name n ++ z) ++ (tag_mark empty ++ rest))) (as_attrs ds ats) ∙ ap (λ (z : List ℕ). 60 ∷ z) (append_assoc (print_name n) (flat_map print_attr (map attr_for ds ++ ats)) (tag_mark empty ++ rest))

  pub record TagRead : Type 0 where
    pub size : ℕ
    pub read : Reads (read_judged_tag scope) (tag_text n ds ats empty rest) (tag_from n ds ats empty size) rest
    pub decls : decls_of (said_all ds ats) ≡ ds
    pub attrs : attrs_of (said_all ds ats) ≡ ats

  pub tag_read : TagRead
  tag_read =
      let size = length (60 ∷ (print_name n ++ (flat_map print_attr (map attr_for ds ++ ats) ++ (tag_mark empty ++ rest)))) - length rest in
      let judged = reads_judged (tag_fault scope) (no_fault scope n ds ats empty size others h) parts_read in record {
        size = size;
        read = subst (λ (z : List ℕ). Reads (read_judged_tag scope) z (tag_from n ds ats empty size) rest) (sym text_is) judged;
        decls = decls_back ds ats others;
        attrs = attrs_back ds ats others;
      }
