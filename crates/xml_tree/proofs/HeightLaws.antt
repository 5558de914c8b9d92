-- Numbers of levels after edits.
use Rattle.std.proofs.Common.{◌≡◌, ℕ, zero, suc, ◌+◌, ◌≤◌, max, List, [], ◌∷◌, length, Option, Some, None, option_and_then, refl, sym, ap, ◌∙◌, arith}
use Rattle.std.specs.List.{slice_get}
use Rattle.xml_tree.specs.Tree.{Content, last, more, comment_node, Tree, tree_of, child_elements, child_elements_of, at, height, content_height}
use Rattle.xml_tree.specs.Edits.{put, cut, change_element, change_at, put_in, put_kid, put_over, take_in, cut_child}
use Rattle.xml_tree.specs.inner.Heights.{content_height-before}
use Rattle.xml_tree.proofs.PlaceLaws.{height-at}

-- ---- of a content

pub content_height-put : (j : ℕ) (e : Tree) (c : Content) → j ≤ length (child_elements c) → content_height (put j e c) ≡ max (content_height c) (height e)
content_height-put zero e c h = omega arith
content_height-put (suc j) e (last t) h = absurd (omega arith)
content_height-put (suc j) e (more t n ds ats c rest) h = omega (arith, content_height-put j e rest (omega arith))
content_height-put (suc j) e (comment_node t c rest) h = content_height-put (suc j) e rest h

pub content_height-cut : (i : ℕ) (c : Content) → content_height (cut i c) ≤ content_height c
content_height-cut zero (last t) = omega arith
content_height-cut (suc i) (last t) = omega arith
content_height-cut zero (more t n ds ats c rest) = omega (arith, content_height-before t rest)
content_height-cut (suc i) (more t n ds ats c rest) = omega (arith, content_height-cut i rest)
content_height-cut zero (comment_node t c rest) = content_height-cut zero rest
content_height-cut (suc i) (comment_node t c rest) = content_height-cut (suc i) rest

-- an element grows to this many levels
grown : (n m : ℕ) (g : Tree → Tree) (c : Content) (k : Tree) → slice_get (child_elements c) n ≡ Some k → height (g k) ≡ max (height k) m → content_height (change_element n g c) ≡ max (content_height c) m
grown n m g (last t) k is h = absurd (cc)
grown zero m g (more t x ds ats c rest) k is h =
    let same : k ≡ tree_of x ds ats c = cc in
    let higher = sym (ap (λ (e : Tree). height (g e)) same) ∙ h ∙ ap (λ (e : Tree). max (height e) m) same in omega (arith, higher)
grown (suc n) m g (more t x ds ats c rest) k is h = omega (arith, grown n m g rest k is h)
grown n m g (comment_node t c rest) k is h = grown n m g rest k is h

-- or has at most this many
bounded : (n m : ℕ) (g : Tree → Tree) (c : Content) (k : Tree) → slice_get (child_elements c) n ≡ Some k → height (g k) ≤ max (height k) m → content_height (change_element n g c) ≤ max (content_height c) m
bounded n m g (last t) k is h = absurd (cc)
bounded zero m g (more t x ds ats c rest) k is h =
    let same : k ≡ tree_of x ds ats c = cc in
    let new = ap (λ (e : Tree). height (g e)) same in let old = ap height same in omega (arith, h, new, old)
bounded (suc n) m g (more t x ds ats c rest) k is h = omega (arith, bounded n m g rest k is h)
bounded n m g (comment_node t c rest) k is h = bounded n m g rest k is h

-- ---- at a path

first_kid : (o : Option Tree) (p : List ℕ) (e : Tree) → option_and_then (at p) o ≡ Some e → (k : Tree) × (o ≡ Some k) × (at p k ≡ Some e)
first_kid None p e is = absurd (cc)
first_kid (Some k) p e is = (k, refl, is)

pub height-grown : (p : List ℕ) (h : ℕ) (f : Tree → Tree) (e t : Tree) → at p t ≡ Some e → height (f e) ≡ max (height e) h → height (change_at p f t) ≡ max (height t) (length p + h)
height-grown [] h f e t is g =
    let same : e ≡ t = cc in
    let higher = sym (ap (λ (x : Tree). height (f x)) same) ∙ g ∙ ap (λ (x : Tree). max (height x) h) same in omega (arith, higher)
height-grown (n ∷ p) h f e t is g =
    let child_element = first_kid (slice_get (child_elements_of t) n) p e is in
    omega (arith, grown n (length p + h) (change_at p f) t.content child_element.0 child_element.1 (height-grown p h f e child_element.0 child_element.2 g))

pub height-bounded : (p : List ℕ) (h : ℕ) (f : Tree → Tree) (e t : Tree) → at p t ≡ Some e → height (f e) ≤ max (height e) h → height (change_at p f t) ≤ max (height t) (length p + h)
height-bounded [] h f e t is g =
    let same : e ≡ t = cc in
    let new = ap (λ (x : Tree). height (f x)) same in let old = ap height same in omega (arith, g, new, old)
height-bounded (n ∷ p) h f e t is g =
    let child_element = first_kid (slice_get (child_elements_of t) n) p e is in
    omega (arith, bounded n (length p + h) (change_at p f) t.content child_element.0 child_element.1 (height-bounded p h f e child_element.0 child_element.2 g))

pub height-put_in : (p : List ℕ) (j : ℕ) (k e t : Tree) → at p t ≡ Some e → j ≤ length (child_elements_of e) → height (put_in p j k t) ≡ max (height t) (length p + suc (height k))
height-put_in p j k e t is h = height-grown p (suc (height k)) (put_kid j k) e t is (omega (arith, content_height-put j k e.content h))

pub height-put_over : (p : List ℕ) (w e t : Tree) → at p t ≡ Some e → height (put_over p w t) ≤ max (height t) (length p + height w)
height-put_over p w e t is = height-bounded p (height w) (λ _. w) e t is (omega arith)

pub height-take_in : (p : List ℕ) (i : ℕ) (e t : Tree) → at p t ≡ Some e → height (take_in p i t) ≤ height t
height-take_in p i e t is =
    let there = height-bounded p 0 (cut_child i) e t is (omega (arith, content_height-cut i e.content)) in
    let short = height-at p e t is in omega (arith, there, short)
