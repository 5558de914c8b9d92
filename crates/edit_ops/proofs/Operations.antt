-- The length of each operation's text, from the lengths of its parts.
use Rattle.std.proofs.Common.{◌≡◌, ℕ, zero, suc, ◌+◌, ◌-◌, Bool, true, false, codes, List, [], ◌∷◌, ◌++◌, flat_map, refl, ap, ◌∙◌, append-nil, min, arith}
use lib.Utf8.{encode}
use Rattle.xml_tree.specs.Tree.{last, Tree, content_of_children}
use Rattle.xml_names.specs.declared.names.Name.{Name}
use Rattle.xml_names.specs.declared.names.Decl.{Decl}
use Rattle.xml_names.specs.declared.names.Attr.{Attr}
use Rattle.xml_names.specs.Markup.{byte_len, print_attr, print_decl, print_name}
use Rattle.xml_tree.specs.Print.{print, print_content}
use Rattle.xml_names.proofs.PrintLengths.{ascii, byte_len-append, byte_len-attr, byte_len-end_tag_text, byte_len-tag_front}
use Rattle.xml_tree.proofs.PrintedNodes.{byte_len-bare, byte_len-whole}
use Rattle.xml_tree.specs.PathTexts.{path_text, steps_text}
use Rattle.xml_names.specs.ExpandedNames.{name_from_parts as in_diff}
use Rattle.edit_ops.specs.declared.change.Change.{Change}
use Rattle.edit_ops.specs.declared.change.Change.TheVariants.{CreateDocument, Insert, Replace, Remove, SetAttr, DropAttr, RemoveDocument}
use Rattle.edit_ops.specs.DiffOperations.{attr_name_text, attr_path_text, insertion_attrs, operation_of, sel_attr, weight_of, change_operation as told, plain_attr as plain}
use Rattle.edit_ops.specs.RecordParts.{IsDocumentChange}
use Rattle.edit_ops.specs.inner.OperationLengths.{empty_element_len, full_element_len, text_element_len, value_text_len}
use Rattle.edit_ops.proofs.Values.{written-append, written-path, written-quoted, written-steps}

-- ---- attributes

attr : (word v : List ℕ) → byte_len (print_attr (plain word v)) ≡ byte_len word + value_text_len v + 4
attr word v = omega (arith, byte_len-attr (plain word v), written-quoted v)

one : (a : Attr) → byte_len (flat_map print_attr (a ∷ [])) ≡ byte_len (print_attr a)
one a = ap byte_len (append-nil (print_attr a))

two : (a b : Attr) → byte_len (flat_map print_attr (a ∷ b ∷ [])) ≡ byte_len (print_attr a) + byte_len (print_attr b)
two a b = omega (arith, byte_len-append (print_attr a) (flat_map print_attr (b ∷ [])), one b)

sel : (v : List ℕ) → byte_len (print_attr (sel_attr v)) ≡ value_text_len v + 7
unfolding encode
sel v = let word : byte_len (codes "sel") ≡ 3 = refl in omega (arith, word, attr (codes "sel") v)

sel-alone : (v : List ℕ) → byte_len (flat_map print_attr (sel_attr v ∷ [])) ≡ value_text_len v + 7
sel-alone v = one (sel_attr v) ∙ sel v

prepend : byte_len (print_attr (plain (codes "pos") (codes "prepend"))) ≡ 14
unfolding encode
prepend = refl

after : byte_len (print_attr (plain (codes "pos") (codes "after"))) ≡ 12
unfolding encode
after = refl

type-of : (n : Name) → byte_len (print_attr (plain (codes "type") (attr_name_text n))) ≡ value_text_len (print_name n) + 9
unfolding encode
type-of n =
    let word : byte_len (codes "type") ≡ 4 = refl in
    let mark : value_text_len (codes "@") ≡ 1 = refl in
    omega (arith, word, mark, attr (codes "type") (attr_name_text n), written-append (codes "@") (print_name n))

pub attr-path : (p : List ℕ) (n : Name) → value_text_len (attr_path_text p n) ≡ value_text_len (path_text p) + value_text_len (print_name n) + 2
unfolding encode
attr-path p n =
    let slash : value_text_len (codes "/") ≡ 1 = refl in
    let mark : value_text_len (codes "@") ≡ 1 = refl in
    omega (arith, slash, mark, written-append (path_text p) (codes "/" ++ attr_name_text n), written-append (codes "/") (attr_name_text n), written-append (codes "@") (print_name n))

pub gap-first : (p : List ℕ) → byte_len (flat_map print_attr (insertion_attrs p zero)) ≡ value_text_len (path_text p) + 21
gap-first p = omega (arith, two (sel_attr (path_text p)) (plain (codes "pos") (codes "prepend")), sel (path_text p), prepend)

pub gap-behind : (p : List ℕ) (j : ℕ) → byte_len (flat_map print_attr (insertion_attrs p (suc j))) ≡ value_text_len (path_text p) + value_text_len (steps_text (j ∷ [])) + 19
gap-behind p j =
    let whole = written-path (p ++ j ∷ []) in
    let steps = written-steps p (j ∷ []) in
    omega (arith, two (sel_attr (path_text (p ++ j ∷ []))) (plain (codes "pos") (codes "after")), sel (path_text (p ++ j ∷ [])), after, whole, steps, written-path p)

pub gap-later : (p : List ℕ) (g : ℕ) → (g ≡ 0 → ⊥) → byte_len (flat_map print_attr (insertion_attrs p g)) ≡ value_text_len (path_text p) + value_text_len (steps_text ((g - 1) ∷ [])) + 19
gap-later p zero h = absurd (h refl)
gap-later p (suc j) h = let e : suc j - 1 ≡ j = omega arith in rw e (gap-behind p j)

-- ---- elements

tag : (w : List ℕ) → byte_len (print_name (in_diff (codes "d") w)) ≡ byte_len w + 2
tag w =
    let letter = ascii 100 (58 ∷ w) (omega arith) in
    let colon = ascii 58 w (omega arith) in
    omega (arith, letter, colon)

bare : (w : List ℕ) (ds : List Decl) (ats : List Attr)
    → byte_len (print (operation_of (codes "d") ds w ats (last []))) ≡ empty_element_len (byte_len w) (byte_len (flat_map print_decl ds)) (byte_len (flat_map print_attr ats))
bare w ds ats =
    let whole = byte_len-bare (operation_of (codes "d") ds w ats (last [])) refl in
    let begins = byte_len-tag_front (in_diff (codes "d") w) ds ats in
    omega (arith, whole, begins, tag w)

filled : (w : List ℕ) (ds : List Decl) (ats : List Attr) (e : Tree)
    → byte_len (print (operation_of (codes "d") ds w ats (content_of_children (e ∷ [])))) ≡ full_element_len (byte_len w) (byte_len (flat_map print_decl ds)) (byte_len (flat_map print_attr ats)) (byte_len (print e))
filled w ds ats e =
    let whole = byte_len-whole (operation_of (codes "d") ds w ats (content_of_children (e ∷ []))) refl in
    let begins = byte_len-tag_front (in_diff (codes "d") w) ds ats in
    let ends = byte_len-end_tag_text (in_diff (codes "d") w) in
    let inside : byte_len (print_content (content_of_children (e ∷ []))) ≡ byte_len (print e) = ap byte_len (append-nil (print e)) in
    omega (arith, whole, begins, ends, inside, tag w)

valued : (w : List ℕ) (ds : List Decl) (ats : List Attr) (v : List ℕ)
    → byte_len (print (operation_of (codes "d") ds w ats (last v))) ≡ text_element_len (byte_len w) (byte_len (flat_map print_decl ds)) (byte_len (flat_map print_attr ats)) v
valued w ds ats [] = bare w ds ats
valued w ds ats (c ∷ cs) =
    let whole = byte_len-whole (operation_of (codes "d") ds w ats (last (c ∷ cs))) refl in
    let begins = byte_len-tag_front (in_diff (codes "d") w) ds ats in
    let ends = byte_len-end_tag_text (in_diff (codes "d") w) in
    omega (arith, whole, begins, ends, tag w)

-- ---- the operation of each change

pub insertion : (ds : List Decl) (fresh : Bool) (p : List ℕ) (gap : ℕ) (e : Tree)
    → byte_len (print (told (codes "d") ds fresh (Insert p gap e))) ≡ full_element_len 3 (byte_len (flat_map print_decl ds)) (byte_len (flat_map print_attr (insertion_attrs p gap))) (byte_len (print e))
unfolding encode
insertion ds fresh p gap e = filled (codes "add") ds (insertion_attrs p gap) e

pub replacement : (ds : List Decl) (fresh : Bool) (p : List ℕ) (e : Tree)
    → byte_len (print (told (codes "d") ds fresh (Replace p e))) ≡ full_element_len 7 (byte_len (flat_map print_decl ds)) (value_text_len (path_text p) + 7) (byte_len (print e))
unfolding encode
replacement ds fresh p e =
    filled (codes "replace") ds (sel_attr (path_text p) ∷ []) e ∙ ap (λ n. full_element_len 7 (byte_len (flat_map print_decl ds)) n (byte_len (print e))) (sel-alone (path_text p))

pub removal : (ds : List Decl) (fresh : Bool) (p : List ℕ)
    → byte_len (print (told (codes "d") ds fresh (Remove p))) ≡ empty_element_len 6 (byte_len (flat_map print_decl ds)) (value_text_len (path_text p) + 7)
unfolding encode
removal ds fresh p = bare (codes "remove") ds (sel_attr (path_text p) ∷ []) ∙ ap (empty_element_len 6 (byte_len (flat_map print_decl ds))) (sel-alone (path_text p))

pub dropped : (ds : List Decl) (fresh : Bool) (p : List ℕ) (n : Name)
    → byte_len (print (told (codes "d") ds fresh (DropAttr p n))) ≡ empty_element_len 6 (byte_len (flat_map print_decl ds)) (value_text_len (attr_path_text p n) + 7)
unfolding encode
dropped ds fresh p n = bare (codes "remove") ds (sel_attr (attr_path_text p n) ∷ []) ∙ ap (empty_element_len 6 (byte_len (flat_map print_decl ds))) (sel-alone (attr_path_text p n))

pub rewriting : (ds : List Decl) (p : List ℕ) (n : Name) (v : List ℕ)
    → byte_len (print (told (codes "d") ds false (SetAttr p n v))) ≡ text_element_len 7 (byte_len (flat_map print_decl ds)) (value_text_len (attr_path_text p n) + 7) v
unfolding encode
rewriting ds p n v =
    valued (codes "replace") ds (sel_attr (attr_path_text p n) ∷ []) v ∙ ap (λ k. text_element_len 7 (byte_len (flat_map print_decl ds)) k v) (sel-alone (attr_path_text p n))

pub addition : (ds : List Decl) (p : List ℕ) (n : Name) (v : List ℕ)
    → byte_len (print (told (codes "d") ds true (SetAttr p n v))) ≡ text_element_len 3 (byte_len (flat_map print_decl ds)) (value_text_len (path_text p) + value_text_len (print_name n) + 16) v
unfolding encode
addition ds p n v =
    let attrs = two (sel_attr (path_text p)) (plain (codes "type") (attr_name_text n)) in
    let both : byte_len (flat_map print_attr (sel_attr (path_text p) ∷ plain (codes "type") (attr_name_text n) ∷ [])) ≡ value_text_len (path_text p) + value_text_len (print_name n) + 16
    = omega (arith, attrs, sel (path_text p), type-of n) in
    valued (codes "add") ds (sel_attr (path_text p) ∷ plain (codes "type") (attr_name_text n) ∷ []) v ∙ ap (λ k. text_element_len 3 (byte_len (flat_map print_decl ds)) k v) both

-- ---- sums capped at the greatest number m

module _ (m : ℕ) where
  pub bare_stops : (w d a x r t : ℕ) → r ≡ min (empty_element_len w d a) m → a ≡ min x m → t ≡ empty_element_len w d x → r ≡ min t m
  bare_stops w d a x r t made attrs whole = omega arith

  pub filled_stops : (w d a x i y r t : ℕ) → r ≡ min (full_element_len w d a i) m → a ≡ min x m → i ≡ min y m → t ≡ full_element_len w d x y → r ≡ min t m
  filled_stops w d a x i y r t made attrs inside whole = omega arith

  pub valued_stops : (w d a x : ℕ) (v : List ℕ) (r t : ℕ) → r ≡ min (text_element_len w d a v) m → a ≡ min x m → t ≡ text_element_len w d x v → r ≡ min t m
  valued_stops w d a x [] r t made attrs whole = omega arith
  valued_stops w d a x (c ∷ cs) r t made attrs whole = omega arith

-- ---- whole documents

-- a document that is created or removed has the weight 0
pub weightless : (ds : List Decl) (fresh : Bool) (change : Change) → IsDocumentChange change → weight_of ds fresh change ≡ 0
weightless ds fresh (CreateDocument root) h = refl
weightless ds fresh (Insert p gap e) h = absurd h
weightless ds fresh (Replace p e) h = absurd h
weightless ds fresh (Remove p) h = absurd h
weightless ds fresh (SetAttr p n v) h = absurd h
weightless ds fresh (DropAttr p n) h = absurd h
weightless ds fresh RemoveDocument h = refl
