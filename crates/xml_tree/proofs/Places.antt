-- The nodes of an element, beside its content.
use Rattle.std.proofs.Common.{◌≡◌, ℕ, zero, suc, ◌<◌, ◌≤◌, List, [], ◌∷◌, ◌++◌, length, get_or, slice_set, insert, Some, IsSome, true, false, true≢false, refl, sym, ap, ◌∙◌, subst, arith, append_assoc, append-nil}
use Rattle.std.specs.List.{slice_get}
use Rattle.xml_tree.specs.Tree.{Content, last, more, comment_node, more_of, Tree, tree_of, child_elements, content_height}
use Rattle.xml_tree.specs.Edits.{with_text_prepended, put, change_element, with_comment, with_elem, with_text, IsNonEmpty}
use Rattle.xml_tree.specs.inner.Heights.{content_height-before}
use Rattle.xml_tree.specs.Nodes.{content_of, nodes_of, text_node, is_text, node_height, StartsWithoutText, AreNormalized, place, gap_place, elem_of}
use Rattle.xml_tree.specs.inner.Nodes.{ends_in_text, with_text_appended}
use Rattle.xml_tree.specs.declared.tree.Node.{Node}
use Rattle.xml_tree.specs.declared.tree.Node.TheVariants.{Elem, Chars, Comment}

-- ---- a text before a content

pub before-nil : (c : Content) → with_text_prepended [] c ≡ c
before-nil (last u) = refl
before-nil (more u n ds ats c rest) = refl
before-nil (comment_node u c rest) = refl

pub before-before : (t u : List ℕ) (c : Content) → with_text_prepended (t ++ u) c ≡ with_text_prepended t (with_text_prepended u c)
before-before t u (last v) = ap last (append_assoc t u v)
before-before t u (more v n ds ats c rest) = ap (λ x. more x n ds ats c rest) (append_assoc t u v)
before-before t u (comment_node v c rest) = ap (λ x. comment_node x c rest) (append_assoc t u v)

pub child_elements-before : (t : List ℕ) (c : Content) → child_elements (with_text_prepended t c) ≡ child_elements c
child_elements-before t (last u) = refl
child_elements-before t (more u n ds ats c rest) = refl
child_elements-before t (comment_node u c rest) = refl

pub change_element-before : (t : List ℕ) (c : Content) (i : ℕ) (f : Tree → Tree) → change_element i f (with_text_prepended t c) ≡ with_text_prepended t (change_element i f c)
change_element-before t (last u) i f = refl
change_element-before t (more u n ds ats c rest) zero f = refl
change_element-before t (more u n ds ats c rest) (suc i) f = refl
change_element-before t (comment_node u c rest) i f = refl

pub put-before : (t : List ℕ) (c : Content) (j : ℕ) (e : Tree) → put (suc j) e (with_text_prepended t c) ≡ with_text_prepended t (put (suc j) e c)
put-before t (last u) j e = refl
put-before t (more u n ds ats c rest) j e = refl
put-before t (comment_node u c rest) j e = refl

-- ---- the place of an element among the nodes

abbrev pub kids_in : List Node → List Tree
kids_in ns = child_elements (content_of ns)

-- an existing element has a place
pub place_there : (n : ℕ) (ns : List Node) → n < length (kids_in ns) → place n ns < length ns
place_there n [] h = absurd (omega arith)
place_there n (Chars t ∷ ns) h = omega (arith, place_there n ns (rw child_elements-before at h))
place_there n (Comment c ∷ ns) h = omega (arith, place_there n ns h)
place_there zero (Elem e ∷ ns) h = omega arith
place_there (suc n) (Elem e ∷ ns) h = omega (arith, place_there n ns (omega arith))

-- the node there is the element
pub elem_at_place : (n : ℕ) (ns : List Node) (d : Node) → n < length (kids_in ns) → elem_of (get_or ns (place n ns) d) ≡ slice_get (kids_in ns) n
elem_at_place n [] d h = absurd (omega arith)
elem_at_place n (Chars t ∷ ns) d h = elem_at_place n ns d (rw child_elements-before at h) ∙ rw child_elements-before
elem_at_place n (Comment c ∷ ns) d h = elem_at_place n ns d h
elem_at_place zero (Elem e ∷ ns) d h = refl
elem_at_place (suc n) (Elem e ∷ ns) d h = elem_at_place n ns d (omega arith)

pub elem_there : (n : ℕ) (ns : List Node) (d : Node) → n < length (kids_in ns) → IsSome (elem_of (get_or ns (place n ns) d))
elem_there n [] d h = absurd (omega arith)
elem_there n (Chars t ∷ ns) d h = elem_there n ns d (rw child_elements-before at h)
elem_there n (Comment c ∷ ns) d h = elem_there n ns d h
elem_there zero (Elem e ∷ ns) d h = refl
elem_there (suc n) (Elem e ∷ ns) d h = elem_there n ns d (omega arith)

-- ---- an element replaced

-- at its place is the result of f
pub content_of-child_element : (n : ℕ) (ns : List Node) (f : Tree → Tree) (k w : Tree) → slice_get (kids_in ns) n ≡ Some k → f k ≡ w
    → content_of (slice_set ns (place n ns) (Elem w)) ≡ change_element n f (content_of ns)
content_of-child_element n [] f k w is made = cc
content_of-child_element n (Chars t ∷ ns) f k w is made = ap (with_text_prepended t) (content_of-child_element n ns f k w (rw child_elements-before at is) made) ∙ sym (change_element-before t (content_of ns) n f)
content_of-child_element n (Comment c ∷ ns) f k w is made = ap (comment_node [] c) (content_of-child_element n ns f k w is made)
content_of-child_element zero (Elem e ∷ ns) f k w is made = ap (λ x. more_of [] x (content_of ns)) (sym made ∙ ap f (sym (cc)))
content_of-child_element (suc n) (Elem e ∷ ns) f k w is made = ap (more_of [] e) (content_of-child_element n ns f k w is made)

StartsApart-set : (n : ℕ) (ns : List Node) (w : Tree) → StartsWithoutText ns → StartsWithoutText (slice_set ns (place n ns) (Elem w))
StartsApart-set n [] w a = tt
StartsApart-set n (Chars t ∷ ns) w a = absurd a
StartsApart-set n (Comment c ∷ ns) w a = tt
StartsApart-set zero (Elem e ∷ ns) w a = tt
StartsApart-set (suc n) (Elem e ∷ ns) w a = tt

pub AreNormal-set : (n : ℕ) (ns : List Node) (w : Tree) → AreNormalized ns → AreNormalized (slice_set ns (place n ns) (Elem w))
AreNormal-set n [] w a = tt
AreNormal-set n (Chars t ∷ ns) w a = (a.0, StartsApart-set n ns w a.1, AreNormal-set n ns w a.2)
AreNormal-set n (Comment c ∷ ns) w a = AreNormal-set n ns w a
AreNormal-set zero (Elem e ∷ ns) w a = a
AreNormal-set (suc n) (Elem e ∷ ns) w a = AreNormal-set n ns w a

-- ---- an element inserted into a gap

content_of-insert_behind : (j : ℕ) (ns : List Node) (e : Tree) → j < length (kids_in ns) → content_of (insert ns (suc (place j ns)) (Elem e)) ≡ put (suc j) e (content_of ns)
content_of-insert_behind j [] e h = absurd (omega arith)
content_of-insert_behind j (Chars t ∷ ns) e h = ap (with_text_prepended t) (content_of-insert_behind j ns e (rw child_elements-before at h)) ∙ sym (put-before t (content_of ns) j e)
content_of-insert_behind j (Comment c ∷ ns) e h = ap (comment_node [] c) (content_of-insert_behind j ns e h)
content_of-insert_behind zero (Elem k ∷ ns) e h = refl
content_of-insert_behind (suc j) (Elem k ∷ ns) e h = ap (more_of [] k) (content_of-insert_behind j ns e (omega arith))

pub content_of-insert : (j : ℕ) (ns : List Node) (e : Tree) → j ≤ length (kids_in ns) → content_of (insert ns (gap_place j ns) (Elem e)) ≡ put j e (content_of ns)
content_of-insert zero ns e h = refl
content_of-insert (suc j) ns e h = content_of-insert_behind j ns e (omega arith)

StartsApart-insert : (i : ℕ) (ns : List Node) (e : Tree) → StartsWithoutText ns → StartsWithoutText (insert ns i (Elem e))
StartsApart-insert zero ns e a = tt
StartsApart-insert (suc i) [] e a = tt
StartsApart-insert (suc i) (Elem k ∷ ns) e a = tt
StartsApart-insert (suc i) (Chars t ∷ ns) e a = absurd a
StartsApart-insert (suc i) (Comment c ∷ ns) e a = tt

pub AreNormal-insert : (i : ℕ) (ns : List Node) (e : Tree) → AreNormalized ns → AreNormalized (insert ns i (Elem e))
AreNormal-insert zero ns e a = a
AreNormal-insert (suc i) [] e a = tt
AreNormal-insert (suc i) (Elem k ∷ ns) e a = AreNormal-insert i ns e a
AreNormal-insert (suc i) (Chars t ∷ ns) e a = (a.0, StartsApart-insert i ns e a.1, AreNormal-insert i ns e a.2)
AreNormal-insert (suc i) (Comment c ∷ ns) e a = AreNormal-insert i ns e a

pub gap_there : (j : ℕ) (ns : List Node) → j ≤ length (kids_in ns) → gap_place j ns ≤ length ns
gap_there zero ns h = omega arith
gap_there (suc j) ns h = omega (arith, place_there j ns (omega arith))

-- ---- nodes after nodes

ends-cons : (x : Node) (xs : List Node) → ends_in_text xs ≡ true → ends_in_text (x ∷ xs) ≡ true
ends-cons x [] h = absurd (true≢false (sym h))
ends-cons x (y ∷ ys) h = h

StartsApart-append : (x : Node) (xs ys : List Node) → StartsWithoutText (x ∷ xs) → StartsWithoutText (x ∷ (xs ++ ys))
StartsApart-append (Elem e) xs ys a = tt
StartsApart-append (Chars t) xs ys a = absurd a
StartsApart-append (Comment c) xs ys a = tt

-- normal nodes after normal nodes are normal, unless two texts meet between them
pub AreNormal-append : (xs ys : List Node) → AreNormalized xs → AreNormalized ys → (ends_in_text xs ≡ true → StartsWithoutText ys) → AreNormalized (xs ++ ys)
AreNormal-append [] ys a b apart = b
AreNormal-append (Elem e ∷ xs) ys a b apart = AreNormal-append xs ys a b (λ h. apart (ends-cons (Elem e) xs h))
AreNormal-append (Comment c ∷ xs) ys a b apart = AreNormal-append xs ys a b (λ h. apart (ends-cons (Comment c) xs h))
AreNormal-append (Chars t ∷ []) ys a b apart = (a.0, apart refl, b)
AreNormal-append (Chars t ∷ x ∷ xs) ys a b apart = (a.0, StartsApart-append x xs ys a.1, AreNormal-append (x ∷ xs) ys a.2 b apart)

-- ---- an element after all nodes

with_elem-before : (t : List ℕ) (c : Content) (e : Tree) → with_elem e (with_text_prepended t c) ≡ with_text_prepended t (with_elem e c)
with_elem-before t (last u) e = refl
with_elem-before t (more u n ds ats c rest) e = refl
with_elem-before t (comment_node u c rest) e = refl

pub content_of-push_elem : (ns : List Node) (e : Tree) → content_of (ns ++ Elem e ∷ []) ≡ with_elem e (content_of ns)
content_of-push_elem [] e = refl
content_of-push_elem (Chars t ∷ ns) e = ap (with_text_prepended t) (content_of-push_elem ns e) ∙ sym (with_elem-before t (content_of ns) e)
content_of-push_elem (Elem k ∷ ns) e = ap (more_of [] k) (content_of-push_elem ns e)
content_of-push_elem (Comment c ∷ ns) e = ap (comment_node [] c) (content_of-push_elem ns e)

pub AreNormal-push_elem : (ns : List Node) (e : Tree) → AreNormalized ns → AreNormalized (ns ++ Elem e ∷ [])
AreNormal-push_elem ns e a = AreNormal-append ns (Elem e ∷ []) a tt (λ h. tt)

-- ---- a comment after all nodes

with_comment-before : (t : List ℕ) (c : Content) (s : List ℕ) → with_comment s (with_text_prepended t c) ≡ with_text_prepended t (with_comment s c)
with_comment-before t (last u) s = refl
with_comment-before t (more u n ds ats c rest) s = refl
with_comment-before t (comment_node u c rest) s = refl

pub content_of-push_comment : (ns : List Node) (s : List ℕ) → content_of (ns ++ Comment s ∷ []) ≡ with_comment s (content_of ns)
content_of-push_comment [] s = refl
content_of-push_comment (Chars t ∷ ns) s = ap (with_text_prepended t) (content_of-push_comment ns s) ∙ sym (with_comment-before t (content_of ns) s)
content_of-push_comment (Elem k ∷ ns) s = ap (more_of [] k) (content_of-push_comment ns s)
content_of-push_comment (Comment c ∷ ns) s = ap (comment_node [] c) (content_of-push_comment ns s)

pub AreNormal-push_comment : (ns : List Node) (s : List ℕ) → AreNormalized ns → AreNormalized (ns ++ Comment s ∷ [])
AreNormal-push_comment ns s a = AreNormal-append ns (Comment s ∷ []) a tt (λ h. tt)

-- ---- a text after all nodes

with_text-before : (t : List ℕ) (c : Content) (s : List ℕ) → with_text s (with_text_prepended t c) ≡ with_text_prepended t (with_text s c)
with_text-before t (last u) s = ap last (append_assoc t u s)
with_text-before t (more u n ds ats c rest) s = refl
with_text-before t (comment_node u c rest) s = refl

-- the last node
pub is_text-last : (ns : List Node) (i : ℕ) (d : Node) → suc i ≡ length ns → is_text (get_or ns i d) ≡ ends_in_text ns
is_text-last [] i d h = absurd (omega arith)
is_text-last (x ∷ []) zero d h = refl
is_text-last (x ∷ []) (suc i) d h = absurd (omega arith)
is_text-last (x ∷ y ∷ ns) zero d h = absurd (omega arith)
is_text-last (x ∷ y ∷ ns) (suc i) d h = is_text-last (y ∷ ns) i d (omega arith)

pub ends_in-nothing : (ns : List Node) → length ns ≡ 0 → ends_in_text ns ≡ false
ends_in-nothing [] h = refl
ends_in-nothing (x ∷ ns) h = absurd (omega arith)

content_of-join_at : (ns : List Node) (i : ℕ) (s : List ℕ) (d : Node) → suc i ≡ length ns → is_text (get_or ns i d) ≡ true
    → content_of (slice_set ns i (with_text_appended s (get_or ns i d))) ≡ with_text s (content_of ns)
content_of-join_at [] i s d h e = absurd (omega arith)
content_of-join_at (Elem k ∷ ns) zero s d h e = cc
content_of-join_at (Comment c ∷ ns) zero s d h e = cc
content_of-join_at (Chars t ∷ []) zero s d h e = ap last (append-nil (t ++ s) ∙ ap (λ x. x ++ s) (sym (append-nil t)))
content_of-join_at (Chars t ∷ x ∷ ns) zero s d h e = absurd (omega arith)
content_of-join_at (Elem k ∷ ns) (suc i) s d h e = ap (more_of [] k) (content_of-join_at ns i s d (omega arith) e)
content_of-join_at (Comment c ∷ ns) (suc i) s d h e = ap (comment_node [] c) (content_of-join_at ns i s d (omega arith) e)
content_of-join_at (Chars t ∷ ns) (suc i) s d h e = ap (with_text_prepended t) (content_of-join_at ns i s d (omega arith) e) ∙ sym (with_text-before t (content_of ns) s)

-- a text that is the last node grows
pub content_of-join : (ns : List Node) (i : ℕ) (x y : Node) (s : List ℕ) → suc i ≡ length ns → x ≡ get_or ns i x → is_text x ≡ true → y ≡ with_text_appended s x
    → content_of (slice_set ns i y) ≡ with_text s (content_of ns)
content_of-join ns i x y s h is e made = ap (λ z. content_of (slice_set ns i z)) (made ∙ ap (with_text_appended s) is) ∙ content_of-join_at ns i s x h (ap is_text (sym is) ∙ e)

pub IsFull-append : (t s : List ℕ) → IsNonEmpty t → IsNonEmpty (t ++ s)
IsFull-append [] s f = absurd f
IsFull-append (c ∷ cs) s f = tt

StartsApart-join : (ns : List Node) (i : ℕ) (s : List ℕ) (d : Node) → StartsWithoutText ns → StartsWithoutText (slice_set ns i (with_text_appended s (get_or ns i d)))
StartsApart-join [] i s d a = tt
StartsApart-join (Chars t ∷ ns) i s d a = absurd a
StartsApart-join (Elem e ∷ ns) zero s d a = tt
StartsApart-join (Elem e ∷ ns) (suc i) s d a = tt
StartsApart-join (Comment c ∷ ns) zero s d a = tt
StartsApart-join (Comment c ∷ ns) (suc i) s d a = tt

AreNormal-join_at : (ns : List Node) (i : ℕ) (s : List ℕ) (d : Node) → AreNormalized ns → AreNormalized (slice_set ns i (with_text_appended s (get_or ns i d)))
AreNormal-join_at [] i s d a = tt
AreNormal-join_at (Chars t ∷ ns) zero s d a = (IsFull-append t s a.0, a.1, a.2)
AreNormal-join_at (Chars t ∷ ns) (suc i) s d a = (a.0, StartsApart-join ns i s d a.1, AreNormal-join_at ns i s d a.2)
AreNormal-join_at (Elem e ∷ ns) zero s d a = a
AreNormal-join_at (Elem e ∷ ns) (suc i) s d a = AreNormal-join_at ns i s d a
AreNormal-join_at (Comment c ∷ ns) zero s d a = a
AreNormal-join_at (Comment c ∷ ns) (suc i) s d a = AreNormal-join_at ns i s d a

pub AreNormal-join : (ns : List Node) (i : ℕ) (x y : Node) (s : List ℕ) → x ≡ get_or ns i x → y ≡ with_text_appended s x → AreNormalized ns → AreNormalized (slice_set ns i y)
AreNormal-join ns i x y s is made a = subst (λ z. AreNormalized (slice_set ns i z)) (sym (made ∙ ap (with_text_appended s) is)) (AreNormal-join_at ns i s x a)

same_node : (ns : List Node) (i : ℕ) (x : Node) → x ≡ get_or ns i x → i < length ns → slice_set ns i x ≡ ns
same_node [] i x is h = refl
same_node (y ∷ ns) zero x is h = ap (λ z. z ∷ ns) is
same_node (y ∷ ns) (suc i) x is h = ap (λ z. y ∷ z) (same_node ns i x is (omega arith))

-- a node that is written back unchanged changes nothing
pub content_of-unjoined : (ns : List Node) (i : ℕ) (x y : Node) → x ≡ get_or ns i x → i < length ns → y ≡ x → content_of (slice_set ns i y) ≡ content_of ns
content_of-unjoined ns i x y is h made = ap (λ z. content_of (slice_set ns i z)) made ∙ ap content_of (same_node ns i x is h)

pub AreNormal-unjoined : (ns : List Node) (i : ℕ) (x y : Node) → x ≡ get_or ns i x → i < length ns → y ≡ x → AreNormalized ns → AreNormalized (slice_set ns i y)
AreNormal-unjoined ns i x y is h made a = subst (λ z. AreNormalized (slice_set ns i z)) (sym made) (subst AreNormalized (sym (same_node ns i x is h)) a)

pub content_of-push_text : (ns : List Node) (s : List ℕ) → content_of (ns ++ Chars s ∷ []) ≡ with_text s (content_of ns)
content_of-push_text [] s = rw append-nil
content_of-push_text (Chars t ∷ ns) s = ap (with_text_prepended t) (content_of-push_text ns s) ∙ sym (with_text-before t (content_of ns) s)
content_of-push_text (Elem k ∷ ns) s = ap (more_of [] k) (content_of-push_text ns s)
content_of-push_text (Comment c ∷ ns) s = ap (comment_node [] c) (content_of-push_text ns s)

full : (s : List ℕ) → 0 < length s → IsNonEmpty s
full [] h = absurd (omega arith)
full (c ∷ cs) h = tt

pub AreNormal-push_text : (ns : List Node) (s : List ℕ) → 0 < length s → ends_in_text ns ≡ false → AreNormalized ns → AreNormalized (ns ++ Chars s ∷ [])
AreNormal-push_text ns s h e a = AreNormal-append ns (Chars s ∷ []) a (full s h, tt, tt) (λ yes. absurd (true≢false (sym yes ∙ e)))

nonempty : (s : List ℕ) → (s ≡ [] → ⊥) → IsNonEmpty s
nonempty [] h = absurd (h refl)
nonempty (c ∷ cs) h = tt

pub AreNormal-push_own : (ns : List Node) (s : List ℕ) → (s ≡ [] → ⊥) → ends_in_text ns ≡ false → AreNormalized ns → AreNormalized (ns ++ Chars s ∷ [])
AreNormal-push_own ns s h e a = AreNormal-append ns (Chars s ∷ []) a (nonempty s h, tt, tt) (λ yes. absurd (true≢false (sym yes ∙ e)))

pub with_text-nil : (c : Content) → with_text [] c ≡ c
with_text-nil (last t) = rw append-nil
with_text-nil (more t n ds ats c rest) = ap (more t n ds ats c) (with_text-nil rest)
with_text-nil (comment_node t c rest) = ap (comment_node t c) (with_text-nil rest)

-- ---- the nodes of a content

-- a content that doesn't start with a text
abbrev OpensApart : Content → Type 0
OpensApart (last []) = Unit {0}
OpensApart (last (c ∷ cs)) = ⊥
OpensApart (more [] n ds ats c rest) = Unit {0}
OpensApart (more (x ∷ xs) n ds ats c rest) = ⊥
OpensApart (comment_node [] c rest) = Unit {0}
OpensApart (comment_node (x ∷ xs) c rest) = ⊥

opens : (ns : List Node) → StartsWithoutText ns → OpensApart (content_of ns)
opens [] a = tt
opens (Elem e ∷ ns) a = tt
opens (Chars t ∷ ns) a = absurd a
opens (Comment c ∷ ns) a = tt

nodes_of-before : (t : List ℕ) (c : Content) → IsNonEmpty t → OpensApart c → nodes_of (with_text_prepended t c) ≡ Chars t ∷ nodes_of c
nodes_of-before [] c f o = absurd f
nodes_of-before (x ∷ xs) (last []) f o = ap (λ z. Chars (x ∷ z) ∷ []) (append-nil xs)
nodes_of-before (x ∷ xs) (last (c ∷ cs)) f o = absurd o
nodes_of-before (x ∷ xs) (more [] n ds ats c rest) f o = ap (λ z. Chars (x ∷ z) ∷ nodes_of (more [] n ds ats c rest)) (append-nil xs)
nodes_of-before (x ∷ xs) (more (y ∷ ys) n ds ats c rest) f o = absurd o
nodes_of-before (x ∷ xs) (comment_node [] c rest) f o = ap (λ z. Chars (x ∷ z) ∷ nodes_of (comment_node [] c rest)) (append-nil xs)
nodes_of-before (x ∷ xs) (comment_node (y ∷ ys) c rest) f o = absurd o

-- normal nodes are the nodes of their content
pub nodes_of-content_of : (ns : List Node) → AreNormalized ns → nodes_of (content_of ns) ≡ ns
nodes_of-content_of [] a = refl
nodes_of-content_of (Elem e ∷ ns) a = ap (λ x. Elem e ∷ x) (nodes_of-content_of ns a)
nodes_of-content_of (Comment c ∷ ns) a = ap (λ x. Comment c ∷ x) (nodes_of-content_of ns a)
nodes_of-content_of (Chars t ∷ ns) a = nodes_of-before t (content_of ns) a.0 (opens ns a.1) ∙ ap (λ x. Chars t ∷ x) (nodes_of-content_of ns a.2)

-- normal nodes of one content are equal
pub same_nodes : (ns ms : List Node) → AreNormalized ns → AreNormalized ms → content_of ns ≡ content_of ms → ns ≡ ms
same_nodes ns ms a b e = sym (nodes_of-content_of ns a) ∙ ap nodes_of e ∙ nodes_of-content_of ms b

text_content : (t : List ℕ) (ns : List Node) → content_of (text_node t ++ ns) ≡ with_text_prepended t (content_of ns)
text_content [] ns = sym (before-nil (content_of ns))
text_content (c ∷ cs) ns = refl

-- each content is the content of its nodes
pub content_of-nodes_of : (c : Content) → content_of (nodes_of c) ≡ c
content_of-nodes_of (last []) = refl
content_of-nodes_of (last (c ∷ cs)) = ap (λ x. last (c ∷ x)) (append-nil cs)
content_of-nodes_of (more t n ds ats c rest) = text_content t _ ∙ (λ i. more (append-nil t i) n ds ats c (content_of-nodes_of rest i))
content_of-nodes_of (comment_node t c rest) = text_content t _ ∙ (λ i. comment_node (append-nil t i) c (content_of-nodes_of rest i))

text_apart : (t : List ℕ) (ns : List Node) → StartsWithoutText ns → AreNormalized ns → AreNormalized (text_node t ++ ns)
text_apart [] ns s a = a
text_apart (c ∷ cs) ns s a = (tt, s, a)

-- the nodes of a content are normal
pub AreNormal-nodes_of : (c : Content) → AreNormalized (nodes_of c)
AreNormal-nodes_of (last []) = tt
AreNormal-nodes_of (last (c ∷ cs)) = (tt, tt, tt)
AreNormal-nodes_of (more t n ds ats c rest) = text_apart t (Elem (tree_of n ds ats c) ∷ nodes_of rest) tt (AreNormal-nodes_of rest)
AreNormal-nodes_of (comment_node t c rest) = text_apart t (Comment c ∷ nodes_of rest) tt (AreNormal-nodes_of rest)

-- each node has fewer levels than the element
pub node_height-le : (ns : List Node) (i : ℕ) (d : Node) → i < length ns → node_height (get_or ns i d) ≤ content_height (content_of ns)
node_height-le [] i d h = absurd (omega arith)
node_height-le (Elem e ∷ ns) zero d h = omega arith
node_height-le (Chars t ∷ ns) zero d h = omega arith
node_height-le (Comment c ∷ ns) zero d h = omega arith
node_height-le (Elem e ∷ ns) (suc i) d h = omega (arith, node_height-le ns i d (omega arith))
node_height-le (Chars t ∷ ns) (suc i) d h = rw content_height-before (node_height-le ns i d (omega arith))
node_height-le (Comment c ∷ ns) (suc i) d h = node_height-le ns i d (omega arith)

pub ruleset texts = (is_text-last, ends_in-nothing, content_of-unjoined, AreNormal-unjoined, content_of-join, AreNormal-join, content_of-push_text, AreNormal-push_text, with_text-nil)

pub ruleset places = (child_elements-before, place_there, gap_there, content_of-insert, AreNormal-insert, AreNormal-set, content_of-push_elem, AreNormal-push_elem, content_of-push_comment, AreNormal-push_comment)

pub ruleset pushes = (content_of-push_elem, content_of-push_comment, content_of-push_text)
