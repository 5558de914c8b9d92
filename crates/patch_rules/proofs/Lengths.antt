-- An element has fewer children than the print of a tree around it has bytes.
use Rattle.std.proofs.Common.{◌≡◌, ℕ, zero, suc, ◌+◌, ◌<◌, ◌≤◌, Bool, true, false, List, [], ◌∷◌, ◌++◌, length, Option, Some, None, IsSome, option_and_then, slice_get, refl, ap, ◌∙◌, arith}
use Rattle.std.specs.List.{AllByRecursion}
use Rattle.xml_names.specs.Markup.{byte_len, end_tag_text, tag_front, print_text, print_comment}
use Rattle.xml_tree.specs.Print.{rest_of_element, is_empty, print, print_content}
use Rattle.xml_tree.specs.Tree.{Content, last, more, comment_node, Tree, tree_of, at, child_elements, child_elements_of}
use Rattle.xml_names.proofs.PrintLengths.{byte_len-append, byte_len-tag_front}
use Rattle.node_select.specs.declared.steps.TheConstants.{MAX_POSITION}

-- no element has more children than there are positions
abbrev pub HasPositions : Tree → Type 0
HasPositions t = (p : List ℕ) (e : Tree) → at p t ≡ Some e → length (child_elements_of e) ≤ 4294967295

-- an element of a content and what follows it
pub parts : (t : List ℕ) (e : Tree) (rest : Content) → byte_len (print_text t ++ (print e ++ print_content rest)) ≡ byte_len (print_text t) + (byte_len (print e) + byte_len (print_content rest))
parts t e rest = byte_len-append (print_text t) (print e ++ print_content rest) ∙ ap (λ n. byte_len (print_text t) + n) (byte_len-append (print e) (print_content rest))

pub opened : (e : Tree) → byte_len (print e) ≡ byte_len (tag_front e.name e.decls e.attrs) + byte_len (rest_of_element e.name (is_empty e.content) (print_content e.content))
opened e = byte_len-append (tag_front e.name e.decls e.attrs) (rest_of_element e.name (is_empty e.content) (print_content e.content))

some_bytes : (e : Tree) → 1 ≤ byte_len (print e)
some_bytes e = omega (arith, opened e, byte_len-tag_front e.name e.decls e.attrs)

pub commented : (t x : List ℕ) (rest : Content) → byte_len (print_text t ++ (print_comment x ++ print_content rest)) ≡ byte_len (print_text t) + (byte_len (print_comment x) + byte_len (print_content rest))
commented t x rest = byte_len-append (print_text t) (print_comment x ++ print_content rest) ∙ ap (λ n. byte_len (print_text t) + n) (byte_len-append (print_comment x) (print_content rest))

few_kids : (c : Content) → length (child_elements c) ≤ byte_len (print_content c)
few_kids (last t) = omega arith
few_kids (more t n ds ats c rest) = omega (arith, parts t (tree_of n ds ats c) rest, some_bytes (tree_of n ds ats c), few_kids rest)
few_kids (comment_node t x rest) = omega (arith, commented t x rest, few_kids rest)

pub kid_shorter : (c : Content) (n : ℕ) (k : Tree) → slice_get (child_elements c) n ≡ Some k → byte_len (print k) ≤ byte_len (print_content c)
kid_shorter (last t) n k h = cc
kid_shorter (more t m ds ats c rest) zero k h =
    let same : tree_of m ds ats c ≡ k = cc in
    let e : byte_len (print (tree_of m ds ats c)) ≡ byte_len (print k) = ap (λ x. byte_len (print x)) same in
    omega (arith, parts t (tree_of m ds ats c) rest, e)
kid_shorter (more t m ds ats c rest) (suc n) k h = omega (arith, parts t (tree_of m ds ats c) rest, kid_shorter rest n k h)
kid_shorter (comment_node t x rest) n k h = omega (arith, commented t x rest, kid_shorter rest n k h)

pub inside_shorter : (n : ℕ) (b : Bool) (e : Tree) → is_empty e.content ≡ b → n ≤ byte_len (print_content e.content) → n ≤ byte_len (print e)
inside_shorter n true e is h = omega (arith, opened e, nothing e.content is)
  where
    nothing : (c : Content) → is_empty c ≡ true → byte_len (print_content c) ≡ 0
    nothing (last []) z = refl
    nothing (last (x ∷ t)) z = cc
    nothing (more t m ds ats c rest) z = cc
    nothing (comment_node t x rest) z = cc
inside_shorter n false e is h =
    let end : byte_len (rest_of_element e.name (is_empty e.content) (print_content e.content)) ≡ byte_len (62 ∷ (print_content e.content ++ end_tag_text e.name)) = ap (λ b. byte_len (rest_of_element e.name b (print_content e.content))) is in
    omega (arith, opened e, end, byte_len-append (62 ∷ []) (print_content e.content ++ end_tag_text e.name), byte_len-append (print_content e.content) (end_tag_text e.name))

pub place_shorter : (p : List ℕ) (t e : Tree) → at p t ≡ Some e → byte_len (print e) ≤ byte_len (print t)
place_shorter [] t e h = let same : t ≡ e = cc in let z : byte_len (print t) ≡ byte_len (print e) = ap (λ x. byte_len (print x)) same in omega arith
place_shorter (n ∷ p) t e h = by (slice_get (child_elements_of t) n) refl h (λ k. place_shorter p k e)
  where
    by : (o : Option Tree) → slice_get (child_elements_of t) n ≡ o → option_and_then (at p) o ≡ Some e → ((k : Tree) → at p k ≡ Some e → byte_len (print e) ≤ byte_len (print k)) → byte_len (print e) ≤ byte_len (print t)
    by None is g f = cc
    by (Some k) is g f =
        let z = inside_shorter (byte_len (print k)) (is_empty t.content) t refl (kid_shorter t.content n k is) in omega (arith, f k g)

pub HasPositions-short : (t : Tree) → byte_len (print t) ≤ 4294967295 → HasPositions t
HasPositions-short t short p e there =
    let fewer = inside_shorter (length (child_elements_of e)) (is_empty e.content) e refl (few_kids e.content) in
    omega (arith, fewer, place_shorter p t e there)

-- ---- the numbers of paths

within : {A : Type 0} (xs : List A) (n : ℕ) (x : A) → slice_get xs n ≡ Some x → n < length xs
within [] n x h = cc
within (y ∷ xs) zero x h = omega arith
within (y ∷ xs) (suc n) x h = omega (arith, within xs n x h)

child_of : (o : Option Tree) (p : List ℕ) → IsSome (option_and_then (at p) o) → (k : Tree) × (o ≡ Some k) × IsSome (at p k)
child_of None p h = cc
child_of (Some k) p h = (k, refl, h)

pub path_positions : (p : List ℕ) (t : Tree) → HasPositions t → IsSome (at p t) → AllByRecursion (λ m. m < MAX_POSITION) p
path_positions [] t h there = tt
path_positions (n ∷ p) t h there =
    let k = child_of (slice_get (child_elements_of t) n) p there in
    (omega (arith, within (child_elements_of t) n k.0 k.1, h [] t refl), path_positions p k.0 (λ q e is. h (n ∷ q) e (ap (option_and_then (at q)) k.1 ∙ is)) k.2)
