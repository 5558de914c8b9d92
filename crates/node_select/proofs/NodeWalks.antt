-- A walk over the nodes of an element, whose elements are its children.
use Rattle.std.proofs.Common.{◌≡◌, ◌↔◌, ℕ, zero, suc, ◌+◌, ◌<◌, ◌≤◌, Bool, true, false, is_some, cond, List, [], ◌∷◌, length, take, drop, get_or, refl, sym, ap, ◌∙◌, Option, Some, None, slice_get, count_by, IsTrue, arith, length-drop}
use Rattle.std.proofs.Math.Seq.{drop-cons}
use Rattle.std.proofs.lemmas.List.{drop_all}
use Rattle.std.proofs.lemmas.List.Sums.{count_by_more_yes, count_by_more_no}
use Rattle.std.proofs.lemmas.Option.{get_or_from_slice_get}
use Rattle.node_select.specs.StepSelection.{StepTests, Matches, child_matches, matches}
use Rattle.node_select.proofs.OnePass.{OnlyBelow, only_first, only_more}
use Rattle.node_select.proofs.SelectionAgreement.{matches_is}
use Rattle.xml_tree.specs.Tree.{Content, last, more, comment_node, Tree, child_elements, child_elements_of, height, content_height}
use Rattle.xml_tree.specs.Nodes.{content_of, elem_of}
use Rattle.xml_tree.specs.declared.tree.Node.{Node}
use Rattle.xml_tree.specs.declared.tree.Node.TheVariants.{Elem, Chars, Comment}
use Rattle.xml_tree.proofs.Places.{child_elements-before}

-- a child has fewer levels than its parent
kid_falls : (c : Content) (i : ℕ) (k : Tree) → slice_get (child_elements c) i ≡ Some k → suc (content_height k.content) ≤ content_height c
kid_falls (last t) i k h = cc
kid_falls (more t n ds ats c rest) zero k h = let e : content_height k.content ≡ content_height c = cc in omega arith
kid_falls (more t n ds ats c rest) (suc i) k h = let f = kid_falls rest i k h in omega arith
kid_falls (comment_node t c rest) i k h = kid_falls rest i k h

pub kid_lower : (e : Tree) (i : ℕ) (k : Tree) → slice_get (child_elements_of e) i ≡ Some k → height k < height e
kid_lower e i k h = let f = kid_falls e.content i k h in omega arith

-- ---- the remaining children
head_of : {A : Type 0} (xs : List A) (i : ℕ) (x : A) (ys : List A) → drop i xs ≡ x ∷ ys → (slice_get xs i ≡ Some x) × (i < length xs) × (drop (suc i) xs ≡ ys)
head_of [] zero x ys h = cc
head_of [] (suc i) x ys h = cc
head_of (y ∷ xs) zero x ys h = (cc, omega arith, cc)
head_of (y ∷ xs) (suc i) x ys h = let r = head_of xs i x ys h in (r.0, (let lt = r.1 in omega arith), r.2)

step : (ns : List Node) (n i : ℕ) (xs : List Tree) (x : Node) → drop i xs ≡ child_elements (content_of (drop n ns)) → n < length ns → get_or ns n x ≡ x → drop i xs ≡ child_elements (content_of (x ∷ drop (suc n) ns))
step ns n i xs x h lt is = h ∙ ap (λ l. child_elements (content_of l)) (drop-cons ns n x lt) ∙ ap (λ y. child_elements (content_of (y ∷ drop (suc n) ns))) is

pub at_elem : (ns : List Node) (n i : ℕ) (xs : List Tree) (e : Tree) (x : Node) → drop i xs ≡ child_elements (content_of (drop n ns)) → n < length ns → x ≡ get_or ns n x → x ≡ Elem e
    → (slice_get xs i ≡ Some e) × (i < length xs) × (drop (suc i) xs ≡ child_elements (content_of (drop (suc n) ns)))
at_elem ns n i xs e x h lt there is = head_of xs i e (child_elements (content_of (drop (suc n) ns))) (step ns n i xs x h lt (sym there) ∙ ap (λ y. child_elements (content_of (y ∷ drop (suc n) ns))) is)

passed : (x : Node) (ns : List Node) → elem_of x ≡ None → child_elements (content_of (x ∷ ns)) ≡ child_elements (content_of ns)
passed (Elem e) ns h = cc
passed (Chars t) ns h = child_elements-before t (content_of ns)
passed (Comment c) ns h = refl

pub at_other : (ns : List Node) (n i : ℕ) (xs : List Tree) (x : Node) → drop i xs ≡ child_elements (content_of (drop n ns)) → n < length ns → x ≡ get_or ns n x → elem_of x ≡ None → drop i xs ≡ child_elements (content_of (drop (suc n) ns))
at_other ns n i xs x h lt there none = step ns n i xs x h lt (sym there) ∙ passed x (drop (suc n) ns) none

pub at_end : (ns : List Node) (n i : ℕ) (xs : List Tree) → drop i xs ≡ child_elements (content_of (drop n ns)) → length ns ≤ n → i ≤ length xs → i ≡ length xs
at_end ns n i xs h le within =
    let none = ap length (h ∙ ap (λ l. child_elements (content_of l)) (drop_all n ns le)) in
    omega (arith, length-drop i xs, none)

-- ---- the count, and the only match so far
counted_by : {A : Type 0} (p : A → Bool) (xs : List A) (i : ℕ) (x : A) (b : Bool) → p x ≡ b → slice_get xs i ≡ Some x → i < length xs → ◌≡◌ {A = ℕ} (count_by p (take i xs) + cond b 1 0) (count_by p (take (i + 1) xs))
counted_by p xs i x true is there lt = let y = count_by_more_yes p xs i x lt (ap p (get_or_from_slice_get xs i x x there) ∙ is) in omega arith
counted_by p xs i x false is there lt = let y = count_by_more_no p xs i x lt (ap p (get_or_from_slice_get xs i x x there) ∙ is) in omega arith

pub count_next : {A : Type 0} (p : A → Bool) (xs : List A) (i i' before before' : ℕ) (x : A) → slice_get xs i ≡ Some x → i < length xs → before ≡ count_by p (take i xs) → i' ≡ i + 1 → before' ≡ before + cond (p x) 1 0 → before' ≡ count_by p (take i' xs)
count_next p xs i i' before before' x there lt same next counted =
    let y = counted_by p xs i x (p x) refl there lt in
    let z : before' ≡ count_by p (take (i + 1) xs) = omega arith in
    rw next z

-- the test of the current child
pub here : {A : Type 0} (step : StepTests A) (xs : List A) (i before : ℕ) (x : A) → slice_get xs i ≡ Some x → before ≡ count_by step.named (take i xs) → IsTrue (child_matches step before (Some x)) ↔ Matches step xs i
here step xs i before x there same =
    let m = matches_is step xs i in
    let e : child_matches step before (Some x) ≡ matches step xs i = ap (λ n. child_matches step n (Some x)) same ∙ ap (child_matches step (count_by step.named (take i xs))) (sym there) in (
      λ h. m.0 (sym e ∙ h),
      λ x. e ∙ m.1 x,
    )

not_both : (b : Bool) → b ≡ true → b ≡ false → ⊥
not_both b p q = cc

pub only_hit : (P : ℕ → Type 0) (i i' : ℕ) (found found' : Option ℕ) → i' ≡ i + 1 → found' ≡ Some i → is_some found ≡ false → OnlyBelow P i found → P i → OnlyBelow P i' found'
only_hit P i i' found found' next is none h this = rw (next, is) (only_first P i found none h this)

pub only_miss : (P : ℕ → Type 0) (i i' : ℕ) (found found' : Option ℕ) (b : Bool) → i' ≡ i + 1 → found' ≡ found → OnlyBelow P i found → (IsTrue b ↔ P i) → b ≡ false → OnlyBelow P i' found'
only_miss P i i' found found' b next is h iff fails = rw (next, is) (only_more P i found h (λ p. not_both b (iff.1 p) fails))

pub at_most_one : (b : Bool) → cond b 1 0 ≤ 1
at_most_one true = omega arith
at_most_one false = omega arith

pub no_element : (x : Node) → ((e : Tree) → x ≡ Elem e → ⊥) → elem_of x ≡ None
no_element (Elem e) h = absurd (h e refl)
no_element (Chars t) h = refl
no_element (Comment c) h = refl
