-- Laws of places and edits, by induction on paths and contents.
use Rattle.std.proofs.Common.{◌≡◌, ◌≢◌, inl, inr, ℕ, zero, suc, ◌+◌, ◌≤◌, List, [], ◌∷◌, ◌++◌, length, insert, remove, Option, Some, None, IsSome, option_map, option_and_then, refl, sym, ap, ◌∙◌, arith}
use Rattle.std.specs.List.{slice_get, filter_map}
use Rattle.xml_tree.specs.Tree.{Content, last, more, comment_node, more_of, Tree, tree_of, child_elements, child_elements_of, at, height, content_height}
use Rattle.xml_names.specs.Attributes.{change_item}
use Rattle.xml_tree.specs.Edits.{put, cut, change_element, with_elem, with_text, with_comment, change_at, put_over}
use Rattle.xml_tree.specs.Nodes.{nodes_of, text_node, elem_of}
use Rattle.xml_tree.specs.declared.tree.Node.{Node}
use Rattle.xml_tree.specs.declared.tree.Node.TheVariants.{Elem, Comment}
use Rattle.xml_tree.specs.DivergingPaths.{AreDiverging}
use Rattle.xml_tree.proofs.Places.{child_elements-before}

-- ---- child elements

pub child_elements-put : (j : ℕ) (e : Tree) (c : Content) → j ≤ length (child_elements c) → child_elements (put j e c) ≡ insert (child_elements c) j e
child_elements-put zero e c h = refl
child_elements-put (suc j) e (last t) h = absurd (omega arith)
child_elements-put (suc j) e (more t n ds ats c rest) h = ap (λ l. tree_of n ds ats c ∷ l) (child_elements-put j e rest (omega arith))
child_elements-put (suc j) e (comment_node t c rest) h = child_elements-put (suc j) e rest h

pub child_elements-cut : (i : ℕ) (c : Content) → child_elements (cut i c) ≡ remove (child_elements c) i
child_elements-cut zero (last t) = refl
child_elements-cut (suc i) (last t) = refl
child_elements-cut zero (more t n ds ats c rest) = child_elements-before t rest
child_elements-cut (suc i) (more t n ds ats c rest) = ap (λ l. tree_of n ds ats c ∷ l) (child_elements-cut i rest)
child_elements-cut zero (comment_node t c rest) = child_elements-cut zero rest
child_elements-cut (suc i) (comment_node t c rest) = child_elements-cut (suc i) rest

pub child_elements-change_element : (i : ℕ) (f : Tree → Tree) (c : Content) → child_elements (change_element i f c) ≡ change_item i f (child_elements c)
child_elements-change_element i f (last t) = refl
child_elements-change_element zero f (more t n ds ats c rest) = refl
child_elements-change_element (suc i) f (more t n ds ats c rest) = ap (λ l. tree_of n ds ats c ∷ l) (child_elements-change_element i f rest)
child_elements-change_element i f (comment_node t c rest) = child_elements-change_element i f rest

pub child_elements-with_elem : (e : Tree) (c : Content) → child_elements (with_elem e c) ≡ child_elements c ++ e ∷ []
child_elements-with_elem e (last t) = refl
child_elements-with_elem e (more t n ds ats c rest) = ap (λ l. tree_of n ds ats c ∷ l) (child_elements-with_elem e rest)
child_elements-with_elem e (comment_node t c rest) = child_elements-with_elem e rest

pub child_elements-with_text : (s : List ℕ) (c : Content) → child_elements (with_text s c) ≡ child_elements c
child_elements-with_text s (last t) = refl
child_elements-with_text s (more t n ds ats c rest) = ap (λ l. tree_of n ds ats c ∷ l) (child_elements-with_text s rest)
child_elements-with_text s (comment_node t c rest) = child_elements-with_text s rest

pub child_elements-with_comment : (s : List ℕ) (c : Content) → child_elements (with_comment s c) ≡ child_elements c
child_elements-with_comment s (last t) = refl
child_elements-with_comment s (more t n ds ats c rest) = ap (λ l. tree_of n ds ats c ∷ l) (child_elements-with_comment s rest)
child_elements-with_comment s (comment_node t c rest) = child_elements-with_comment s rest

text_first : (t : List ℕ) (ns : List Node) → filter_map elem_of (text_node t ++ ns) ≡ filter_map elem_of ns
text_first [] ns = refl
text_first (c ∷ cs) ns = refl

text_alone : (t : List ℕ) → filter_map elem_of (text_node t) ≡ []
text_alone [] = refl
text_alone (c ∷ cs) = refl

-- the child elements are the elements among the nodes
pub child_elements-elements : (c : Content) → child_elements c ≡ filter_map elem_of (nodes_of c)
child_elements-elements (last t) = sym (text_alone t)
child_elements-elements (more t n ds ats c rest) = ap (λ l. tree_of n ds ats c ∷ l) (child_elements-elements rest) ∙ sym (text_first t (Elem (tree_of n ds ats c) ∷ nodes_of rest))
child_elements-elements (comment_node t c rest) = child_elements-elements rest ∙ sym (text_first t (Comment c ∷ nodes_of rest))

-- ---- items changed

other_item : {A : Type 0} (m n : ℕ) (f : A → A) (xs : List A) → m ≢ n → slice_get (change_item m f xs) n ≡ slice_get xs n
other_item m n f [] ne = refl
other_item zero zero f (x ∷ xs) ne = absurd (ne refl)
other_item zero (suc n) f (x ∷ xs) ne = refl
other_item (suc m) zero f (x ∷ xs) ne = refl
other_item (suc m) (suc n) f (x ∷ xs) ne = other_item m n f xs (λ e. ne (ap suc e))

this_item : {A : Type 0} (n : ℕ) (f : A → A) (xs : List A) → slice_get (change_item n f xs) n ≡ option_map f (slice_get xs n)
this_item n f [] = refl
this_item zero f (x ∷ xs) = refl
this_item (suc n) f (x ∷ xs) = this_item n f xs

-- the changed child, and the others
pub other_kid : (m n : ℕ) (f : Tree → Tree) (c : Content) → m ≢ n → slice_get (child_elements (change_element m f c)) n ≡ slice_get (child_elements c) n
other_kid m n f c ne = ap (λ l. slice_get l n) (child_elements-change_element m f c) ∙ other_item m n f (child_elements c) ne

pub this_kid : (n : ℕ) (f : Tree → Tree) (c : Content) → slice_get (child_elements (change_element n f c)) n ≡ option_map f (slice_get (child_elements c) n)
this_kid n f c = ap (λ l. slice_get l n) (child_elements-change_element n f c) ∙ this_item n f (child_elements c)

-- ---- longer paths

through : (o : Option Tree) (p q : List ℕ) → ((e : Tree) → at (p ++ q) e ≡ option_and_then (at q) (at p e)) → option_and_then (at (p ++ q)) o ≡ option_and_then (at q) (option_and_then (at p) o)
through None p q h = refl
through (Some e) p q h = h e

pub at-append : (p q : List ℕ) (t : Tree) → at (p ++ q) t ≡ option_and_then (at q) (at p t)
at-append [] q t = refl
at-append (n ∷ p) q t = through (slice_get (child_elements_of t) n) p q (at-append p q)

same_change : (n : ℕ) (f g : Tree → Tree) (c : Content) → ((k : Tree) → f k ≡ g k) → change_element n f c ≡ change_element n g c
same_change n f g (last t) h = refl
same_change zero f g (more t m ds ats c rest) h = ap (λ x. more_of t x rest) (h _)
same_change (suc n) f g (more t m ds ats c rest) h = ap (more t m ds ats c) (same_change n f g rest h)
same_change n f g (comment_node t c rest) h = ap (comment_node t c) (same_change n f g rest h)

pub change_at-append : (p q : List ℕ) (f : Tree → Tree) (t : Tree) → change_at (p ++ q) f t ≡ change_at p (change_at q f) t
change_at-append [] q f t = refl
change_at-append (n ∷ p) q f t =
    ap (λ (x : Content). record t { content = x }) (same_change n (change_at (p ++ q) f) (change_at p (change_at q f)) t.content (λ k. change_at-append p q f k))

-- ---- what is at a place after a change

changed_below : (o : Option Tree) (p q : List ℕ) (f : Tree → Tree) → ((e : Tree) → at q (change_at p f e) ≡ at q e) → option_and_then (at q) (option_map (change_at p f) o) ≡ option_and_then (at q) o
changed_below None p q f h = refl
changed_below (Some e) p q f h = h e

pub at-change_at : (p q : List ℕ) (f : Tree → Tree) (t : Tree) → AreDiverging p q → at q (change_at p f t) ≡ at q t
at-change_at [] q f t a = absurd a
at-change_at (m ∷ p) [] f t a = absurd a
at-change_at (m ∷ p) (n ∷ q) f t (inl ne) = ap (option_and_then (at q)) (other_kid m n (change_at p f) t.content ne)
at-change_at (m ∷ p) (n ∷ q) f t (inr a) =
    rw (← a.0)
    (ap (option_and_then (at q)) (this_kid m (change_at p f) t.content) ∙ changed_below (slice_get (child_elements_of t) m) p q f (λ e. at-change_at p q f e a.1))

made_below : (o : Option Tree) (p : List ℕ) (f : Tree → Tree) → ((e : Tree) → at p (change_at p f e) ≡ option_map f (at p e))
    → option_and_then (at p) (option_map (change_at p f) o) ≡ option_map f (option_and_then (at p) o)
made_below None p f h = refl
made_below (Some e) p f h = h e

pub at-changed : (p : List ℕ) (f : Tree → Tree) (t : Tree) → at p (change_at p f t) ≡ option_map f (at p t)
at-changed [] f t = refl
at-changed (n ∷ p) f t = ap (option_and_then (at p)) (this_kid n (change_at p f) t.content) ∙ made_below (slice_get (child_elements_of t) n) p f (λ e. at-changed p f e)

put_there : (o : Option Tree) (w : Tree) → IsSome o → option_map (λ (e : Tree). w) o ≡ Some w
put_there None w h = cc
put_there (Some e) w h = refl

pub at-put_over : (p : List ℕ) (w t : Tree) → IsSome (at p t) → at p (put_over p w t) ≡ Some w
at-put_over p w t h = at-changed p (λ _. w) t ∙ put_there (at p t) w h

-- ---- heights

kid_lower : (n : ℕ) (c : Content) (k : Tree) → slice_get (child_elements c) n ≡ Some k → height k ≤ content_height c
kid_lower n (last t) k is = absurd (cc)
kid_lower zero (more t m ds ats c rest) k is = let same : tree_of m ds ats c ≡ k = cc in omega (arith, ap height same)
kid_lower (suc n) (more t m ds ats c rest) k is = omega (arith, kid_lower n rest k is)
kid_lower n (comment_node t c rest) k is = kid_lower n rest k is

lower_below : (o : Option Tree) (p : List ℕ) (e : Tree) (h : ℕ) → ((k : Tree) → o ≡ Some k → height k ≤ h) → ((k : Tree) → at p k ≡ Some e → length p + height e ≤ height k)
    → option_and_then (at p) o ≡ Some e → length p + height e ≤ h
lower_below None p e h a b is = absurd (cc)
lower_below (Some k) p e h a b is = omega (arith, a k refl, b k is)

-- an element has fewer levels than the root, by at least the length of its path
pub height-at : (p : List ℕ) (e t : Tree) → at p t ≡ Some e → length p + height e ≤ height t
height-at [] e t is = let same : t ≡ e = cc in omega (arith, ap height same)
height-at (n ∷ p) e t is =
    let below = lower_below (slice_get (child_elements_of t) n) p e (content_height t.content) (λ k s. kid_lower n t.content k s) (λ k s. height-at p e k s) is in omega arith
