-- The print of a proper tree consists of scalar values, so it can be written as UTF-8.
use Rattle.std.proofs.Common.{◌≡◌, ℕ, Bool, true, false, List, [], ◌∷◌, ◌++◌, map, refl, ap, ◌∙◌, flat_map, arith}
use Rattle.std.specs.Prelude.{◌&&◌, ◌==◌, not}
use Rattle.std.specs.List.{list_all, AllByRecursion}
use Rattle.std.proofs.lemmas.Bool.Decides.{nat_tests}
use lib.Utf8.{scalar, scalars}
use Rattle.xml_names.specs.Characters.{is_char, is_name_start, is_name_char, is_name}
use Rattle.xml_names.specs.Comments.{is_comment_char, has_no_double_hyphen, is_comment}
use Rattle.xml_names.specs.Markup.{tag_front, end_tag_text, print_attr, print_comment, print_decl, print_name, print_text, text_escape, value_escape, quoted_value as quoted}
use Rattle.xml_tree.specs.Print.{rest_of_element, is_empty, print, print_content, header, document_print}
use Rattle.xml_tree.specs.Proper.{is_prefix, IsProperTag, IsProperTree}
use Rattle.xml_tree.specs.inner.Proper.{IsProperContent}
use Rattle.xml_tree.specs.Tree.{Content, last, more, comment_node, Tree}
use Rattle.xml_names.specs.declared.names.Name.{Name}
use Rattle.xml_names.specs.declared.names.Decl.{Decl}
use Rattle.xml_names.specs.declared.names.Attr.{Attr}
use Rattle.tree_print.specs.AttributeBodyPrints.{body_escape, body_print}
use Rattle.tree_text.proofs.PrintedValues.{both}
use Rattle.tree_text.proofs.PrintedNames.{IsWritten, IsPrinted, ArePrinted, attr_for, as_attrs}
use Rattle.tree_text.proofs.PrintedTags.{printed_all}

-- ---- characters

scalar_char : (c : ℕ) → is_char c ≡ true → scalar c ≡ true
scalar_char c h = grind (arith, nat_tests)

scalar_start : (c : ℕ) → is_name_start c ≡ true → scalar c ≡ true
scalar_start c h = grind (arith, nat_tests)

scalar_name_char : (c : ℕ) → is_name_char c ≡ true → scalar c ≡ true
scalar_name_char c h = grind (arith, nat_tests)

one : (b : Bool) → b ≡ true → b && true ≡ true
one true h = refl
one false h = absurd cc

join : (a b : Bool) → a ≡ true → b ≡ true → a && b ≡ true
join true true h i = refl
join true false h i = absurd cc
join false b h i = absurd cc

scalars-append : (cs ds : List ℕ) → scalars cs ≡ true → scalars ds ≡ true → scalars (cs ++ ds) ≡ true
scalars-append [] ds h k = k
scalars-append (c ∷ cs) ds h k = let b = both (scalar c) (scalars cs) h in join (scalar c) (scalars (cs ++ ds)) b.0 (scalars-append cs ds b.1 k)

all_scalars : (p : ℕ → Bool) → ((c : ℕ) → p c ≡ true → scalar c ≡ true) → (cs : List ℕ) → list_all p cs ≡ true → scalars cs ≡ true
all_scalars p f [] h = refl
all_scalars p f (c ∷ cs) h = let b = both (p c) (list_all p cs) h in join (scalar c) (scalars cs) (f c b.0) (all_scalars p f cs b.1)

text_scalars : (c : ℕ) → is_char c ≡ true → scalars (text_escape c) ≡ true
text_scalars c char = by (c == 38) refl (c == 60) refl (c == 62) refl (c == 13) refl
  where
    by : (b38 : Bool) → c == 38 ≡ b38 → (b60 : Bool) → c == 60 ≡ b60 → (b62 : Bool) → c == 62 ≡ b62 → (b13 : Bool) → c == 13 ≡ b13 → scalars (text_escape c) ≡ true
    by true e b60 f b62 g b13 h = rw e refl
    by false e true f b62 g b13 h = rw (e, f) refl
    by false e false f true g b13 h = rw (e, f, g) refl
    by false e false f false g true h = rw (e, f, g, h) refl
    by false e false f false g false h = rw (e, f, g, h) (one (scalar c) (scalar_char c char))

value_scalars : (c : ℕ) → is_char c ≡ true → scalars (value_escape c) ≡ true
value_scalars c char = by (c == 38) refl (c == 60) refl (c == 34) refl (c == 9) refl (c == 10) refl (c == 13) refl
  where
    by : (b38 : Bool) → c == 38 ≡ b38 → (b60 : Bool) → c == 60 ≡ b60 → (b34 : Bool) → c == 34 ≡ b34 → (b9 : Bool) → c == 9 ≡ b9 → (b10 : Bool) → c == 10 ≡ b10 → (b13 : Bool) → c == 13 ≡ b13 → scalars (value_escape c) ≡ true
    by true e b60 f b34 g b9 h b10 i b13 j = rw e refl
    by false e true f b34 g b9 h b10 i b13 j = rw (e, f) refl
    by false e false f true g b9 h b10 i b13 j = rw (e, f, g) refl
    by false e false f false g true h b10 i b13 j = rw (e, f, g, h) refl
    by false e false f false g false h true i b13 j = rw (e, f, g, h, i) refl
    by false e false f false g false h false i true j = rw (e, f, g, h, i, j) refl
    by false e false f false g false h false i false j = rw (e, f, g, h, i, j) (one (scalar c) (scalar_char c char))

body_scalars : (c : ℕ) → is_char c ≡ true → scalars (body_escape c) ≡ true
body_scalars c char = by (c == 38) refl (c == 60) refl (c == 34) refl (c == 39) refl (c == 9) refl (c == 10) refl (c == 13) refl
  where
    by : (b38 : Bool) → c == 38 ≡ b38 → (b60 : Bool) → c == 60 ≡ b60 → (b34 : Bool) → c == 34 ≡ b34 → (b39 : Bool) → c == 39 ≡ b39 → (b9 : Bool) → c == 9 ≡ b9 → (b10 : Bool) → c == 10 ≡ b10 → (b13 : Bool) → c == 13 ≡ b13 → scalars (body_escape c) ≡ true
    by true e b60 f b34 g b39 h b9 i b10 j b13 k = rw e refl
    by false e true f b34 g b39 h b9 i b10 j b13 k = rw (e, f) refl
    by false e false f true g b39 h b9 i b10 j b13 k = rw (e, f, g) refl
    by false e false f false g true h b9 i b10 j b13 k = rw (e, f, g, h) refl
    by false e false f false g false h true i b10 j b13 k = rw (e, f, g, h, i) refl
    by false e false f false g false h false i true j b13 k = rw (e, f, g, h, i, j) refl
    by false e false f false g false h false i false j true k = rw (e, f, g, h, i, j, k) refl
    by false e false f false g false h false i false j false k = rw (e, f, g, h, i, j, k) (one (scalar c) (scalar_char c char))

escaped_scalars : (escape : ℕ → List ℕ) → ((c : ℕ) → is_char c ≡ true → scalars (escape c) ≡ true) → (cs : List ℕ) → list_all is_char cs ≡ true → scalars (flat_map escape cs) ≡ true
escaped_scalars escape f [] h = refl
escaped_scalars escape f (c ∷ cs) h = let b = both (is_char c) (list_all is_char cs) h in scalars-append (escape c) (flat_map escape cs) (f c b.0) (escaped_scalars escape f cs b.1)

-- ---- names and attributes

name_scalars : (n : List ℕ) → is_name n ≡ true → scalars n ≡ true
name_scalars [] h = absurd cc
name_scalars (c ∷ cs) h = let b = both (is_name_start c) (list_all is_name_char cs) h in join (scalar c) (scalars cs) (scalar_start c b.0) (all_scalars is_name_char scalar_name_char cs b.1)

qname_scalars : (p l : List ℕ) → is_prefix p ≡ true → is_name l ≡ true → scalars (print_name (record { prefix = p; local = l })) ≡ true
qname_scalars [] l h k = name_scalars l k
qname_scalars (c ∷ cs) l h k = scalars-append (c ∷ cs) (58 ∷ l) (name_scalars (c ∷ cs) h) (name_scalars l k)

written_scalars : (n : Name) → IsWritten n → scalars (print_name n) ≡ true
written_scalars n w = qname_scalars n.prefix n.local w.prefix w.local

attr_scalars : (a : Attr) → IsPrinted a → scalars (print_attr a) ≡ true
attr_scalars a p =
    let value = scalars-append (flat_map value_escape a.value) (34 ∷ []) (escaped_scalars value_escape value_scalars a.value p.value) refl in
    scalars-append (print_name a.name) (61 ∷ quoted a.value) (written_scalars a.name p.name) value

attrs_scalars : (ats : List Attr) → ArePrinted ats → scalars (flat_map print_attr ats) ≡ true
attrs_scalars [] h = refl
attrs_scalars (a ∷ ats) h = scalars-append (print_attr a) (flat_map print_attr ats) (attr_scalars a h.0) (attrs_scalars ats h.1)

opening_scalars : (here : List (List Decl)) (n : Name) (ds : List Decl) (ats : List Attr) → IsProperTag here n ds ats → scalars (tag_front n ds ats) ≡ true
opening_scalars here n ds ats h =
    let attrs = ap scalars (as_attrs ds ats) ∙ attrs_scalars (map attr_for ds ++ ats) (printed_all here ds ats h.declarations h.attributes) in
    scalars-append (print_name n) (flat_map print_decl ds ++ flat_map print_attr ats) (qname_scalars n.prefix n.local h.named.prefix h.named.local) attrs

closing_scalars : (n : Name) → scalars (print_name n) ≡ true → scalars (end_tag_text n) ≡ true
closing_scalars n h = scalars-append (print_name n) (62 ∷ []) h refl

ending_scalars : (n : Name) (empty : Bool) (inside : List ℕ) → scalars (print_name n) ≡ true → scalars inside ≡ true → scalars (rest_of_element n empty inside) ≡ true
ending_scalars n true inside h k = refl
ending_scalars n false inside h k = scalars-append inside (end_tag_text n) k (closing_scalars n h)

elem_scalars : (here : List (List Decl)) (n : Name) (ds : List Decl) (ats : List Attr) (empty : Bool) (inside : List ℕ) → IsProperTag here n ds ats → scalars inside ≡ true → scalars (tag_front n ds ats ++ rest_of_element n empty inside) ≡ true
elem_scalars here n ds ats empty inside h k = scalars-append (tag_front n ds ats) (rest_of_element n empty inside) (opening_scalars here n ds ats h) (ending_scalars n empty inside (qname_scalars n.prefix n.local h.named.prefix h.named.local) k)

-- ---- content

kept_char : (c : ℕ) → is_comment_char c ≡ true → scalar c ≡ true
kept_char c h = scalar_char c (both (is_char c) (not (c == 13)) h).0

comment_scalars : (x : List ℕ) → is_comment x ≡ true → scalars (print_comment x) ≡ true
comment_scalars x h = scalars-append x (45 ∷ 45 ∷ 62 ∷ []) (all_scalars is_comment_char kept_char x (both (list_all is_comment_char x) (has_no_double_hyphen x) h).0) refl

letters : (t : List ℕ) → AllByRecursion (λ (c : ℕ). is_char c ≡ true) t → scalars (print_text t) ≡ true
letters [] h = refl
letters (c ∷ t) h = scalars-append (text_escape c) (print_text t) (text_scalars c h.0) (letters t h.1)

content_scalars : (scope : List (List Decl)) (k : Content) → IsProperContent scope k → scalars (print_content k) ≡ true
content_scalars scope (last t) h = letters t h
content_scalars scope (more t n ds ats k rest) h =
    scalars-append (print_text t) _ (letters t h.0) (scalars-append (tag_front n ds ats ++ rest_of_element n (is_empty k) (print_content k)) (print_content rest)
    (elem_scalars (scope ++ ds ∷ []) n ds ats (is_empty k) (print_content k) h.1 (content_scalars (scope ++ ds ∷ []) k h.2)) (content_scalars scope rest h.3))
content_scalars scope (comment_node t x rest) h = scalars-append (print_text t) _ (letters t h.0) (scalars-append (print_comment x) (print_content rest) (comment_scalars x h.1) (content_scalars scope rest h.2))

pub print_scalars : (scope : List (List Decl)) (e : Tree) → IsProperTree scope e → scalars (print e) ≡ true
print_scalars scope e h = elem_scalars (scope ++ e.decls ∷ []) e.name e.decls e.attrs (is_empty e.content) (print_content e.content) h.0 (content_scalars (scope ++ e.decls ∷ []) e.content h.1)

pub document_scalars : (scope : List (List Decl)) (e : Tree) → IsProperTree scope e → scalars (document_print e) ≡ true
document_scalars scope e h = scalars-append header (print e) refl (print_scalars scope e h)

pub body_print_scalars : (value : List ℕ) → list_all is_char value ≡ true → scalars (body_print value) ≡ true
body_print_scalars value h = escaped_scalars body_escape body_scalars value h
