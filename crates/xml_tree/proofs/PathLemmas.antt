-- The element at a path, after a change there.
use Rattle.std.proofs.Common.{◌≡◌, ℕ, zero, suc, List, [], ◌∷◌, ◌++◌, Option, Some, None, IsSome, IsSomeAnd, option_and_then, refl, sym, ap, ◌∙◌, subst, ◌<◌, length, arith}
use Rattle.std.specs.List.{slice_get}
use Rattle.xml_tree.specs.Tree.{Content, last, more, comment_node, more_of, Tree, child_elements, child_elements_of, at}
use Rattle.xml_tree.specs.Edits.{change_element, change_at, put_over, parent_path, last_number}

-- functions with equal results on the element change it alike
change_element-agree : (n : ℕ) (f g : Tree → Tree) (c : Content) → ((k : Tree) → slice_get (child_elements c) n ≡ Some k → f k ≡ g k) → change_element n f c ≡ change_element n g c
change_element-agree n f g (last t) h = refl
change_element-agree zero f g (more t m ds ats c rest) h = ap (λ x. more_of t x rest) (h _ refl)
change_element-agree (suc n) f g (more t m ds ats c rest) h = ap (more t m ds ats c) (change_element-agree n f g rest h)
change_element-agree n f g (comment_node t c rest) h = ap (comment_node t c) (change_element-agree n f g rest h)

at_step : (o : Option Tree) (p : List ℕ) (k e : Tree) → option_and_then (at p) o ≡ Some k → o ≡ Some e → at p e ≡ Some k
at_step (Some x) p k e is there = ap (at p) (sym (cc)) ∙ is
at_step None p k e is there = cc

-- putting f's result for the element there is changing the element by f
pub put_over-made : (p : List ℕ) (f : Tree → Tree) (k t : Tree) → at p t ≡ Some k → put_over p (f k) t ≡ change_at p f t
put_over-made [] f k t is = ap f (sym (cc))
put_over-made (n ∷ p) f k t is =
    ap (λ (x : Content). record t { content = x })
    (change_element-agree n (put_over p (f k)) (change_at p f) t.content (λ e there. put_over-made p f k e (at_step (slice_get (child_elements_of t) n) p k e is there)))

-- what an edit left there is f's result for the element
pub made_at : (p : List ℕ) (f : Tree → Tree) (here left t new : Tree) → at p t ≡ Some here → left ≡ f here → new ≡ put_over p left t → new ≡ change_at p f t
made_at p f here left t new there made put = put ∙ ap (λ w. put_over p w t) made ∙ put_over-made p f here t there

change_element-nothing : (n : ℕ) (f : Tree → Tree) (c : Content) → ((k : Tree) → f k ≡ k) → change_element n f c ≡ c
change_element-nothing n f (last t) h = refl
change_element-nothing zero f (more t m ds ats c rest) h = ap (λ x. more_of t x rest) (h _)
change_element-nothing (suc n) f (more t m ds ats c rest) h = ap (more t m ds ats c) (change_element-nothing n f rest h)
change_element-nothing n f (comment_node t c rest) h = ap (comment_node t c) (change_element-nothing n f rest h)

change_at-nothing : (p : List ℕ) (t : Tree) → change_at p (λ e. e) t ≡ t
change_at-nothing [] t = refl
change_at-nothing (n ∷ p) t = ap (λ (x : Content). record t { content = x }) (change_element-nothing n (change_at p (λ e. e)) t.content (λ k. change_at-nothing p k))

-- an edit that left the element as it was
pub same_at : (p : List ℕ) (here left t new : Tree) → at p t ≡ Some here → left ≡ here → new ≡ put_over p left t → new ≡ t
same_at p here left t new there same put = made_at p (λ e. e) here left t new there same put ∙ change_at-nothing p t

-- ---- the last number of a path

pub front-snoc : (p : List ℕ) (n : ℕ) → parent_path (p ++ n ∷ []) ≡ p
front-snoc [] n = refl
front-snoc (m ∷ []) n = refl
front-snoc (m ∷ k ∷ p) n = ap (λ x. m ∷ x) (front-snoc (k ∷ p) n)

pub final-snoc : (p : List ℕ) (n : ℕ) → last_number (p ++ n ∷ []) ≡ n
final-snoc [] n = refl
final-snoc (m ∷ []) n = refl
final-snoc (m ∷ k ∷ p) n = final-snoc (k ∷ p) n

-- the element at a path with one more number is a child of the element at the path
pub at-snoc : (p : List ℕ) (n : ℕ) (t : Tree) → at (p ++ n ∷ []) t ≡ option_and_then (λ e. slice_get (child_elements_of e) n) (at p t)
at-snoc [] n t = some_last (slice_get (child_elements_of t) n)
  where
    some_last : (o : Option Tree) → option_and_then (at []) o ≡ o
    some_last None = refl
    some_last (Some e) = refl
at-snoc (m ∷ p) n t = through (slice_get (child_elements_of t) m) (at-snoc p n)
  where
    through : (o : Option Tree) → ((e : Tree) → at (p ++ n ∷ []) e ≡ option_and_then (λ k. slice_get (child_elements_of k) n) (at p e))
        → option_and_then (at (p ++ n ∷ [])) o ≡ option_and_then (λ e. slice_get (child_elements_of e) n) (option_and_then (at p) o)
    through None h = refl
    through (Some e) h = h e

there_below : {X : Type 0} (n : ℕ) (xs : List X) → IsSome (slice_get xs n) → n < length xs
there_below n [] h = cc
there_below zero (y ∷ xs) h = omega arith
there_below (suc n) (y ∷ xs) h = omega (arith, there_below n xs h)

-- an existing child
pub kid_there : (o : Option Tree) (n : ℕ) → IsSome (option_and_then (λ e. slice_get (child_elements_of e) n) o) → IsSomeAnd o (λ e. n < length (child_elements_of e))
kid_there None n h = cc
kid_there (Some e) n h = there_below n (child_elements_of e) h

pub kid_is : (o : Option Tree) (n : ℕ) (k : Tree) → IsSomeAnd o (λ e. slice_get (child_elements_of e) n ≡ Some k) → option_and_then (λ e. slice_get (child_elements_of e) n) o ≡ Some k
kid_is None n k h = absurd h
kid_is (Some e) n k h = h

-- a fact about an existing element
pub with_there : (o : Option Tree) (P : Tree → Type 0) (e : Tree) → o ≡ Some e → P e → IsSomeAnd o P
with_there None P e is h = absurd (cc)
with_there (Some x) P e is h = let same : e ≡ x = cc in subst P same h

pub from_there : (o : Option Tree) (P : Tree → Type 0) (e : Tree) → IsSomeAnd o P → o ≡ Some e → P e
from_there None P e h is = absurd (cc)
from_there (Some x) P e h is = let same : x ≡ e = cc in subst P same h
