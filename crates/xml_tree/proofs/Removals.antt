-- A node removed, and the texts beside it joined.
use Rattle.std.proofs.Common.{◌≡◌, ℕ, zero, suc, ◌+◌, ◌<◌, List, [], ◌∷◌, length, slice_set, remove, Option, Some, None, IsSome, false, refl, sym, ap, ◌∙◌, subst, arith}
use Rattle.std.specs.List.{slice_get}
use Rattle.xml_tree.specs.Tree.{Content, last, more, comment_node, more_of, Tree}
use Rattle.xml_tree.specs.Edits.{with_text_prepended, cut, IsNonEmpty, first_text, TextsMeet}
use Rattle.xml_tree.specs.Nodes.{content_of, StartsWithoutText, AreNormalized, place, is_text, elem_of, text_of, text_at, joined_neighbor_texts, concat_texts as joined}
use Rattle.xml_tree.specs.inner.Nodes.{without_node}
use Rattle.xml_tree.specs.declared.tree.Node.{Node}
use Rattle.xml_tree.specs.declared.tree.Node.TheVariants.{Elem, Chars, Comment}
use Rattle.xml_tree.proofs.Places.{before-nil, before-before, child_elements-before, kids_in, IsFull-append}

pub cut-before : (t : List ℕ) (c : Content) (i : ℕ) → cut i (with_text_prepended t c) ≡ with_text_prepended t (cut i c)
cut-before t (last u) i = refl
cut-before t (more u n ds ats c rest) zero = before-before t u rest
cut-before t (more u n ds ats c rest) (suc i) = refl
cut-before t (comment_node u c rest) i = refl

-- removing the element from the nodes removes it from their content
pub content_of-remove : (n : ℕ) (ns : List Node) → n < length (kids_in ns) → content_of (remove ns (place n ns)) ≡ cut n (content_of ns)
content_of-remove n [] h = absurd (omega arith)
content_of-remove n (Chars t ∷ ns) h = ap (with_text_prepended t) (content_of-remove n ns (rw child_elements-before at h)) ∙ sym (cut-before t (content_of ns) n)
content_of-remove n (Comment c ∷ ns) h = ap (comment_node [] c) (content_of-remove n ns h)
content_of-remove zero (Elem e ∷ ns) h = sym (before-nil (content_of ns))
content_of-remove (suc n) (Elem e ∷ ns) h = ap (more_of [] e) (content_of-remove n ns (omega arith))

content_of-cons : (x : Node) (ns ms : List Node) → content_of ns ≡ content_of ms → content_of (x ∷ ns) ≡ content_of (x ∷ ms)
content_of-cons (Elem e) ns ms h = ap (more_of [] e) h
content_of-cons (Chars t) ns ms h = ap (with_text_prepended t) h
content_of-cons (Comment c) ns ms h = ap (comment_node [] c) h

-- two adjacent texts may be replaced by one
rejoined : (i : ℕ) (ns : List Node) (t : List ℕ) → joined (text_at i ns) (text_at (suc (suc i)) ns) ≡ Some t
    → content_of (slice_set (remove (remove ns (suc i)) (suc i)) i (Chars t)) ≡ content_of (remove ns (suc i))
rejoined i [] t is = cc
rejoined zero (x ∷ []) t is = absurd (none (text_of x) is)
  where
    none : (o : Option (List ℕ)) → joined o None ≡ Some t → ⊥
    none None h = cc
    none (Some u) h = cc
rejoined zero (x ∷ y ∷ []) t is = absurd (none (text_of x) is)
  where
    none : (o : Option (List ℕ)) → joined o None ≡ Some t → ⊥
    none None h = cc
    none (Some u) h = cc
rejoined zero (Chars a ∷ y ∷ Chars b ∷ ns) t is = ap (λ x. with_text_prepended x (content_of ns)) (sym (cc)) ∙ before-before a b (content_of ns)
rejoined zero (Chars a ∷ y ∷ Elem e ∷ ns) t is = cc
rejoined zero (Chars a ∷ y ∷ Comment c ∷ ns) t is = cc
rejoined zero (Elem e ∷ y ∷ z ∷ ns) t is = cc
rejoined zero (Comment c ∷ y ∷ z ∷ ns) t is = cc
rejoined (suc i) (x ∷ ns) t is = content_of-cons x _ _ (rejoined i ns t is)

some_or_none : (p : ℕ) (ns : List Node) (o : Option (List ℕ)) → joined_neighbor_texts p ns ≡ o → content_of (without_node p o ns) ≡ content_of (remove ns p)
some_or_none zero ns o is = refl
some_or_none (suc i) ns None is = refl
some_or_none (suc i) ns (Some t) is = rejoined i ns t is

pub content_of-without_node : (n : ℕ) (ns : List Node) → n < length (kids_in ns) → content_of (without_node (place n ns) (joined_neighbor_texts (place n ns) ns) ns) ≡ cut n (content_of ns)
content_of-without_node n ns h = some_or_none (place n ns) ns _ refl ∙ content_of-remove n ns h

-- ---- normal nodes stay normal

AreNormal-tail : (x : Node) (ns : List Node) → AreNormalized (x ∷ ns) → AreNormalized ns
AreNormal-tail (Elem e) ns a = a
AreNormal-tail (Chars t) ns a = a.2
AreNormal-tail (Comment c) ns a = a

without_node-cons : (x : Node) (i : ℕ) (o : Option (List ℕ)) (ns : List Node) → without_node (suc (suc i)) o (x ∷ ns) ≡ x ∷ without_node (suc i) o ns
without_node-cons x i None ns = refl
without_node-cons x i (Some t) ns = refl

StartsApart-removed : (i : ℕ) (ns : List Node) → StartsWithoutText ns → StartsWithoutText (without_node (suc i) (joined_neighbor_texts (suc i) ns) ns)
StartsApart-removed i [] a = tt
StartsApart-removed i (Chars t ∷ ns) a = absurd a
StartsApart-removed zero (Elem e ∷ ns) a = tt
StartsApart-removed (suc i) (Elem e ∷ ns) a = subst StartsWithoutText (sym (without_node-cons (Elem e) i (joined_neighbor_texts (suc i) ns) ns)) tt
StartsApart-removed zero (Comment c ∷ ns) a = tt
StartsApart-removed (suc i) (Comment c ∷ ns) a = subst StartsWithoutText (sym (without_node-cons (Comment c) i (joined_neighbor_texts (suc i) ns) ns)) tt

-- a first node, with the node after it removed
second_out : (x y : Node) (ns : List Node) → AreNormalized (x ∷ y ∷ ns) → AreNormalized (without_node 1 (joined_neighbor_texts 1 (x ∷ y ∷ ns)) (x ∷ y ∷ ns))
second_out (Elem e) y ns a = AreNormal-tail y ns a
second_out (Comment c) y ns a = AreNormal-tail y ns a
second_out (Chars t) y [] a = (a.0, tt, tt)
second_out (Chars t) y (Elem e ∷ ns) a = (a.0, tt, AreNormal-tail y (Elem e ∷ ns) a.2)
second_out (Chars t) y (Comment c ∷ ns) a = (a.0, tt, AreNormal-tail y (Comment c ∷ ns) a.2)
second_out (Chars t) y (Chars u ∷ ns) a = let b = AreNormal-tail y (Chars u ∷ ns) a.2 in (IsFull-append t u a.0, b.1, b.2)

AreNormal-removed : (i : ℕ) (ns : List Node) → AreNormalized ns → AreNormalized (without_node (suc i) (joined_neighbor_texts (suc i) ns) ns)
AreNormal-removed i [] a = tt
AreNormal-removed zero (x ∷ y ∷ ns) a = second_out x y ns a
AreNormal-removed zero (Elem e ∷ []) a = tt
AreNormal-removed zero (Chars t ∷ []) a = (a.0, tt, tt)
AreNormal-removed zero (Comment c ∷ []) a = tt
AreNormal-removed (suc i) (Elem e ∷ ns) a = subst AreNormalized (sym (without_node-cons (Elem e) i (joined_neighbor_texts (suc i) ns) ns)) (AreNormal-removed i ns a)
AreNormal-removed (suc i) (Comment c ∷ ns) a = subst AreNormalized (sym (without_node-cons (Comment c) i (joined_neighbor_texts (suc i) ns) ns)) (AreNormal-removed i ns a)
AreNormal-removed (suc i) (Chars t ∷ ns) a =
    subst AreNormalized (sym (without_node-cons (Chars t) i (joined_neighbor_texts (suc i) ns) ns)) (a.0, StartsApart-removed i ns a.1, AreNormal-removed i ns a.2)

pub AreNormal-without_node : (p : ℕ) (ns : List Node) → AreNormalized ns → AreNormalized (without_node p (joined_neighbor_texts p ns) ns)
AreNormal-without_node zero [] a = tt
AreNormal-without_node zero (x ∷ ns) a = AreNormal-tail x ns a
AreNormal-without_node (suc i) ns a = AreNormal-removed i ns a

-- ---- where texts meet

-- after a node that isn't a text, the texts beside a place are the ones without that node
later : (x : Node) (ns : List Node) (k : ℕ) → is_text x ≡ false → IsSome (joined_neighbor_texts (suc k) (x ∷ ns)) → IsSome (joined_neighbor_texts k ns)
later (Elem e) ns zero f h = cc
later (Comment c) ns zero f h = cc
later (Chars t) ns k f h = cc
later x ns (suc k) f h = h

texts_meet_behind : (t : List ℕ) (n : ℕ) (ns : List Node) → IsNonEmpty t → StartsWithoutText ns → n < length (kids_in ns)
    → ((k : ℕ) → k < length (kids_in ns) → AreNormalized ns → IsSome (joined_neighbor_texts (place k ns) ns) → TextsMeet k (content_of ns))
    → AreNormalized ns → IsSome (joined_neighbor_texts (suc (place n ns)) (Chars t ∷ ns)) → TextsMeet n (with_text_prepended t (content_of ns))
texts_meet_behind t n [] f s h ih a m = absurd (omega arith)
texts_meet_behind t zero (Elem e ∷ []) f s h ih a m = cc
texts_meet_behind t zero (Elem e ∷ Elem k ∷ ns) f s h ih a m = cc
texts_meet_behind t zero (Elem e ∷ Comment c ∷ ns) f s h ih a m = cc
texts_meet_behind t zero (Elem e ∷ Chars u ∷ ns) f s h ih a m = (IsFull-append t [] f, first_full u (content_of ns) a.0)
  where
    first_full : (x : List ℕ) (c : Content) → IsNonEmpty x → IsNonEmpty (first_text (with_text_prepended x c))
    first_full x (last y) g = IsFull-append x y g
    first_full x (more y n' ds ats c rest) g = IsFull-append x y g
    first_full x (comment_node y c rest) g = IsFull-append x y g
texts_meet_behind t (suc n) (Elem e ∷ ns) f s h ih a m = ih (suc n) h a m
texts_meet_behind t n (Chars u ∷ ns) f s h ih a m = absurd s
texts_meet_behind t n (Comment c ∷ ns) f s h ih a m = ih n h a m

-- there is a joined text only if texts meet
pub TextsMeet-joined : (n : ℕ) (ns : List Node) → n < length (kids_in ns) → AreNormalized ns → IsSome (joined_neighbor_texts (place n ns) ns) → TextsMeet n (content_of ns)
TextsMeet-joined n [] h a m = absurd (omega arith)
TextsMeet-joined zero (Elem e ∷ ns) h a m = cc
TextsMeet-joined (suc n) (Elem e ∷ ns) h a m = TextsMeet-joined n ns (omega arith) a (later (Elem e) ns (place n ns) refl m)
TextsMeet-joined n (Comment c ∷ ns) h a m = TextsMeet-joined n ns h a (later (Comment c) ns (place n ns) refl m)
TextsMeet-joined n (Chars t ∷ ns) h a m = let there = rw child_elements-before at h in
    texts_meet_behind t n ns a.0 a.1 there (λ k l b j. TextsMeet-joined k ns l b j) a.2 m

-- ---- the parts of the code

-- the node at an element's place is the element
pub elem_of-place : (n : ℕ) (ns : List Node) (x : Node) → n < length (kids_in ns) → slice_get ns (place n ns) ≡ Some x → elem_of x ≡ slice_get (kids_in ns) n
elem_of-place n [] x h is = absurd (omega arith)
elem_of-place n (Chars t ∷ ns) x h is = elem_of-place n ns x (rw child_elements-before at h) is ∙ rw child_elements-before
elem_of-place n (Comment c ∷ ns) x h is = elem_of-place n ns x h is
elem_of-place zero (Elem e ∷ ns) x h is = let same : x ≡ Elem e = cc in ap elem_of same
elem_of-place (suc n) (Elem e ∷ ns) x h is = elem_of-place n ns x (omega arith) is

there_within : {A : Type 0} (i : ℕ) (xs : List A) → i < length xs → IsSome (slice_get xs i)
there_within i [] h = absurd (omega arith)
there_within zero (x ∷ xs) h = refl
there_within (suc i) (x ∷ xs) h = there_within i xs (omega arith)

pub IsSome-place : (n : ℕ) (ns : List Node) (x : Node) → n < length (kids_in ns) → slice_get ns (place n ns) ≡ Some x → IsSome (elem_of x)
IsSome-place n ns x h is = subst (λ (o : Option Tree). IsSome o) (sym (elem_of-place n ns x h is)) (there_within n (kids_in ns) h)

none_behind : (o : Option (List ℕ)) → IsSome (joined o None) → ⊥
none_behind None h = cc
none_behind (Some t) h = cc

text_within : (i : ℕ) (ns : List Node) (o : Option (List ℕ)) → IsSome (joined o (text_at i ns)) → i < length ns
text_within i [] o h = absurd (none_behind o h)
text_within zero (x ∷ ns) o h = omega arith
text_within (suc i) (x ∷ ns) o h = omega (arith, text_within i ns o h)

-- texts beside a place are nodes beside it
pub beside_within : (p : ℕ) (ns : List Node) → IsSome (joined_neighbor_texts p ns) → (0 < p) × (p + 1 < length ns)
beside_within zero ns h = cc
beside_within (suc i) ns h = let far = text_within (suc (suc i)) ns (text_at i ns) h in (omega arith, omega arith)
