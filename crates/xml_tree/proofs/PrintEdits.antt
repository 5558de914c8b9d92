-- The length of a print after an edit: what the edit takes off it and what it adds.
use Rattle.std.proofs.Common.{◌≡◌, ℕ, zero, suc, ◌+◌, ◌≤◌, Bool, true, false, ◌&&◌, cond, List, [], ◌∷◌, ◌++◌, length, flat_map, Option, Some, None, option_to_list, option_and_then, bytes_eq, refl, ap, ◌∙◌, arith}
use Rattle.std.specs.List.{slice_get, find}
use Rattle.std.specs.Cmp.Lexicographic.{bytes_decides}
use Rattle.xml_tree.specs.Tree.{Content, last, more, comment_node, more_of, Tree, tree_of, child_elements, child_elements_of, at}
use Rattle.xml_names.specs.Attributes.{with_new_value, with_attr, without_attr, has_qname as is_named}
use Rattle.xml_tree.specs.Edits.{with_text_prepended, change_element, change_at, change_child, cut, put}
use Rattle.xml_names.specs.Markup.{byte_len, tag_front, print_attr, print_comment, print_name, print_text}
use Rattle.xml_tree.specs.Print.{is_empty, print, print_content}
use Rattle.xml_names.specs.declared.names.Name.{Name}
use Rattle.xml_names.specs.declared.names.Attr.{Attr}
use Rattle.xml_tree.proofs.AttrLemmas.{tested}
use Rattle.xml_names.proofs.PrintLengths.{byte_len-append, byte_len-attr, byte_len-end_tag_text, byte_len-tag_front}
use Rattle.xml_tree.proofs.PrintedNodes.{byte_len-bare, byte_len-whole, print-before}

-- ---- the print of a content, part by part

content-more : (t : List ℕ) (e : Tree) (rest : Content)
    → byte_len (print_content (more_of t e rest)) ≡ byte_len (print_text t) + byte_len (print e) + byte_len (print_content rest)
content-more t e rest =
    let parts = byte_len-append (print_text t) (print e ++ print_content rest) in
    let behind = byte_len-append (print e) (print_content rest) in
    omega (arith, parts, behind)

content-comment_node : (t x : List ℕ) (rest : Content)
    → byte_len (print_content (comment_node t x rest)) ≡ byte_len (print_text t) + byte_len (print_comment x) + byte_len (print_content rest)
content-comment_node t x rest =
    let parts = byte_len-append (print_text t) (print_comment x ++ print_content rest) in
    let behind = byte_len-append (print_comment x) (print_content rest) in
    omega (arith, parts, behind)

content-before : (t : List ℕ) (c : Content) → byte_len (print_content (with_text_prepended t c)) ≡ byte_len (print_text t) + byte_len (print_content c)
content-before t c = ap byte_len (print-before t c) ∙ byte_len-append (print_text t) (print_content c)

-- ---- what follows the attributes, besides the nodes

-- `/>` where there are no nodes, else `>` and the end tag
abbrev pub ending_len : Name → Bool → ℕ
ending_len n empty = cond empty 2 (byte_len (print_name n) + 4)

nothing_inside : (c : Content) → is_empty c ≡ true → byte_len (print_content c) ≡ 0
nothing_inside (last []) h = refl
nothing_inside (last (x ∷ t)) h = cc
nothing_inside (more t n ds ats c rest) h = cc
nothing_inside (comment_node t x rest) h = cc

pub print-parts : (e : Tree) → byte_len (print e) ≡ byte_len (tag_front e.name e.decls e.attrs) + byte_len (print_content e.content) + ending_len e.name (is_empty e.content)
print-parts e = by (is_empty e.content) refl
  where
    by : (b : Bool) → is_empty e.content ≡ b → byte_len (print e) ≡ byte_len (tag_front e.name e.decls e.attrs) + byte_len (print_content e.content) + ending_len e.name (is_empty e.content)
    by true h = omega (arith, byte_len-bare e h, nothing_inside e.content h, ap (ending_len e.name) h)
    by false h = omega (arith, byte_len-whole e h, byte_len-end_tag_text e.name, ap (ending_len e.name) h)

-- ---- one child element

-- the child is replaced by the result of f
content-change_element : (n : ℕ) (f : Tree → Tree) (k : Tree) (c : Content) → slice_get (child_elements c) n ≡ Some k
    → byte_len (print_content (change_element n f c)) + byte_len (print k) ≡ byte_len (print_content c) + byte_len (print (f k))
content-change_element n f k (last t) is = absurd (cc)
content-change_element zero f k (more t m ds ats c rest) is =
    let same : tree_of m ds ats c ≡ k = cc in
    omega (arith, content-more t (f (tree_of m ds ats c)) rest, content-more t (tree_of m ds ats c) rest, ap (λ x. byte_len (print x)) same, ap (λ x. byte_len (print (f x))) same)
content-change_element (suc n) f k (more t m ds ats c rest) is =
    omega (arith, content-more t (tree_of m ds ats c) (change_element n f rest), content-more t (tree_of m ds ats c) rest, content-change_element n f k rest is)
content-change_element n f k (comment_node t x rest) is = omega (arith, content-comment_node t x (change_element n f rest), content-comment_node t x rest, content-change_element n f k rest is)

-- there are nodes before and after it
empty-change_element : (n : ℕ) (f : Tree → Tree) (c : Content) → is_empty (change_element n f c) ≡ is_empty c
empty-change_element n f (last t) = refl
empty-change_element zero f (more t m ds ats c rest) = refl
empty-change_element (suc n) f (more t m ds ats c rest) = refl
empty-change_element n f (comment_node t x rest) = refl

-- an element is inserted into a gap
pub content-put : (j : ℕ) (k : Tree) (c : Content) → j ≤ length (child_elements c) → byte_len (print_content (put j k c)) ≡ byte_len (print_content c) + byte_len (print k)
content-put zero k c h = omega (arith, content-more [] k c)
content-put (suc j) k (last t) h = absurd (omega arith)
content-put (suc j) k (more t n ds ats c rest) h =
    omega (arith, content-more t (tree_of n ds ats c) (put j k rest), content-more t (tree_of n ds ats c) rest, content-put j k rest (omega arith))
content-put (suc j) k (comment_node t x rest) h = omega (arith, content-comment_node t x (put (suc j) k rest), content-comment_node t x rest, content-put (suc j) k rest h)

pub full-put : (j : ℕ) (k : Tree) (c : Content) → j ≤ length (child_elements c) → is_empty (put j k c) ≡ false
full-put zero k c h = refl
full-put (suc j) k (last t) h = absurd (omega arith)
full-put (suc j) k (more t n ds ats c rest) h = refl
full-put (suc j) k (comment_node t x rest) h = refl

-- a child is removed
pub content-cut : (i : ℕ) (k : Tree) (c : Content) → slice_get (child_elements c) i ≡ Some k → byte_len (print_content (cut i c)) + byte_len (print k) ≡ byte_len (print_content c)
content-cut i k (last t) is = absurd (cc)
content-cut zero k (more t n ds ats c rest) is =
    let same : tree_of n ds ats c ≡ k = cc in omega (arith, content-before t rest, content-more t (tree_of n ds ats c) rest, ap (λ x. byte_len (print x)) same)
content-cut (suc i) k (more t n ds ats c rest) is =
    omega (arith, content-more t (tree_of n ds ats c) (cut i rest), content-more t (tree_of n ds ats c) rest, content-cut i k rest is)
content-cut i k (comment_node t x rest) is = omega (arith, content-comment_node t x (cut i rest), content-comment_node t x rest, content-cut i k rest is)

-- there are nodes where a child is
pub full-there : (i : ℕ) (k : Tree) (c : Content) → slice_get (child_elements c) i ≡ Some k → is_empty c ≡ false
full-there i k (last t) is = absurd (cc)
full-there i k (more t n ds ats c rest) is = refl
full-there i k (comment_node t x rest) is = refl

-- ---- a whole element, and the element at a path

pub print-change_child : (n : ℕ) (f : Tree → Tree) (k t : Tree) → slice_get (child_elements_of t) n ≡ Some k
    → byte_len (print (change_child n f t)) + byte_len (print k) ≡ byte_len (print t) + byte_len (print (f k))
print-change_child n f k t is =
    omega (arith, print-parts (change_child n f t), print-parts t, content-change_element n f k t.content is, ap (ending_len t.name) (empty-change_element n f t.content))

print-below : (o : Option Tree) (p : List ℕ) (f : Tree → Tree) (e : Tree) (l m : ℕ)
    → ((k : Tree) → o ≡ Some k → l + byte_len (print k) ≡ m + byte_len (print (change_at p f k)))
    → ((k : Tree) → at p k ≡ Some e → byte_len (print (change_at p f k)) + byte_len (print e) ≡ byte_len (print k) + byte_len (print (f e)))
    → option_and_then (at p) o ≡ Some e → l + byte_len (print e) ≡ m + byte_len (print (f e))
print-below None p f e l m a b is = absurd (cc)
print-below (Some k) p f e l m a b is = omega (arith, a k refl, b k is)

-- a change at a path takes off the print of the element there and adds the print of the result
pub print-change_at : (p : List ℕ) (f : Tree → Tree) (e t : Tree) → at p t ≡ Some e
    → byte_len (print (change_at p f t)) + byte_len (print e) ≡ byte_len (print t) + byte_len (print (f e))
print-change_at [] f e t is =
    let same : t ≡ e = cc in omega (arith, ap (λ x. byte_len (print x)) same, ap (λ x. byte_len (print (f x))) same)
print-change_at (n ∷ p) f e t is =
    print-below (slice_get (child_elements_of t) n) p f e (byte_len (print (change_at (n ∷ p) f t))) (byte_len (print t))
    (λ k there. print-change_child n (change_at p f) k t there) (λ k there. print-change_at p f e k there) is

print-child_element : (n : ℕ) (k t : Tree) → slice_get (child_elements_of t) n ≡ Some k → byte_len (print k) ≤ byte_len (print t)
print-child_element n k t is = omega (arith, print-parts t, content-cut n k t.content is)

shorter_below : (o : Option Tree) (p : List ℕ) (e : Tree) (m : ℕ) → ((k : Tree) → o ≡ Some k → byte_len (print k) ≤ m)
    → ((k : Tree) → at p k ≡ Some e → byte_len (print e) ≤ byte_len (print k)) → option_and_then (at p) o ≡ Some e → byte_len (print e) ≤ m
shorter_below None p e m a b is = absurd (cc)
shorter_below (Some k) p e m a b is = omega (arith, a k refl, b k is)

-- the print of the element at a path is no longer than the print of the tree
pub print-at : (p : List ℕ) (e t : Tree) → at p t ≡ Some e → byte_len (print e) ≤ byte_len (print t)
print-at [] e t is = let same : t ≡ e = cc in omega (arith, ap (λ x. byte_len (print x)) same)
print-at (n ∷ p) e t is = shorter_below (slice_get (child_elements_of t) n) p e (byte_len (print t)) (λ k there. print-child_element n k t there) (λ k there. print-at p e k there) is

-- ---- attributes

abbrev pub attrs_len : List Attr → ℕ
attrs_len ats = byte_len (flat_map print_attr ats)

attrs-cons : (a : Attr) (ats : List Attr) → attrs_len (a ∷ ats) ≡ byte_len (print_attr a) + attrs_len ats
attrs-cons a ats = byte_len-append (print_attr a) (flat_map print_attr ats)

-- equal names print alike
print-alike : (m n : Name) (a b : Bool) → bytes_eq m.prefix n.prefix ≡ a → bytes_eq m.local n.local ≡ b → (a && b) ≡ true → print_name m ≡ print_name n
print-alike m n true true p q h = λ i. print_name (record { prefix = (bytes_decides m.prefix n.prefix).0 p i; local = (bytes_decides m.local n.local).0 q i })
print-alike m n true false p q h = cc
print-alike m n false b p q h = cc

valued_len : (n : Name) (v : List ℕ) (a : Attr) → is_named n a ≡ true → byte_len (print_attr (with_new_value v a)) ≡ byte_len (print_attr (record { name = n; value = v }))
valued_len n v a h =
    let same = print-alike a.name n (bytes_eq a.name.prefix n.prefix) (bytes_eq a.name.local n.local) refl refl h in
    omega (arith, byte_len-attr (with_new_value v a), byte_len-attr (record { name = n; value = v }), ap byte_len same)

-- an attribute is written, in place of the old one if there is one
pub attrs-written : (n : Name) (v : List ℕ) (ats : List Attr)
    → attrs_len (with_attr n v ats) + attrs_len (option_to_list (find (is_named n) ats)) ≡ attrs_len ats + byte_len (print_attr (record { name = n; value = v }))
attrs-written n v [] = omega (arith, attrs-cons (record { name = n; value = v }) [])
attrs-written n v (a ∷ ats) =
    tested (is_named n) a
    (λ b. attrs_len (cond b (with_new_value v a ∷ ats) (a ∷ with_attr n v ats)) + attrs_len (option_to_list (cond b (Some a) (find (is_named n) ats)))
    ≡ attrs_len (a ∷ ats) + byte_len (print_attr (record { name = n; value = v })))
    (λ e. omega (arith, attrs-cons (with_new_value v a) ats, attrs-cons a ats, attrs-cons a [], valued_len n v a e))
    (λ e. omega (arith, attrs-cons a (with_attr n v ats), attrs-cons a ats, attrs-written n v ats))

-- an attribute is removed, if it is there
pub attrs-dropped : (n : Name) (ats : List Attr) → attrs_len (without_attr n ats) + attrs_len (option_to_list (find (is_named n) ats)) ≡ attrs_len ats
attrs-dropped n [] = refl
attrs-dropped n (a ∷ ats) =
    tested (is_named n) a
    (λ b. attrs_len (cond b ats (a ∷ without_attr n ats)) + attrs_len (option_to_list (cond b (Some a) (find (is_named n) ats))) ≡ attrs_len (a ∷ ats))
    (λ e. omega (arith, attrs-cons a ats, attrs-cons a []))
    (λ e. omega (arith, attrs-cons a (without_attr n ats), attrs-cons a ats, attrs-dropped n ats))

-- another list of attributes in a tag
pub print-attrs : (e : Tree) (ats : List Attr) → byte_len (print (record e { attrs = ats })) + attrs_len e.attrs ≡ byte_len (print e) + attrs_len ats
print-attrs e ats =
    omega (arith, print-parts (record e { attrs = ats }), print-parts e, byte_len-tag_front e.name e.decls ats, byte_len-tag_front e.name e.decls e.attrs)
