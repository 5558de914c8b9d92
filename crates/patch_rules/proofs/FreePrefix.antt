-- The first candidate that isn't declared.
use Rattle.std.proofs.Common.{◌≡◌, ◌≢◌, ℕ, zero, suc, ◌+◌, ◌<◌, ◌≤◌, ◌^◌, Bool, true, false, cond, ◌||◌, List, [], ◌∷◌, ◌++◌, length, length-append, bytes_eq, decimal, refl, sym, ap, ◌∙◌, nat_eq, eqb-true, eq-eqb, arith}
use Rattle.std.proofs.lemmas.Cmp.{nat_list_eq_equiv}
use Rattle.std.proofs.lemmas.Fmt.{decimal_injective, decimal_nonempty}
use Rattle.std.proofs.lemmas.Slice.Eq.{bytes_eq-Decides}
use Rattle.std.specs.Set.{is_member}
use Rattle.xml_tree.specs.Tree.{Content, last, more, comment_node, Tree}
use Rattle.xml_names.specs.declared.names.Decl.{Decl}
use Rattle.patch_rules.specs.inner.DeclaredPrefixes.{declared_prefixes, content_prefixes}
use Rattle.patch_rules.specs.Notices.{IsFirstFreeCandidate, candidate_prefix, count_declarations, count_content_declarations, declares_prefix, first_free_candidate, content_declares_prefix, is_prefix_declared}

-- ---- candidates

not_empty : (k : ℕ) → suc k < 2 ^ 64 → [] ≡ decimal (suc k) → ⊥
not_empty k h e = let n = decimal_nonempty (suc k) h in let z : length (decimal (suc k)) ≡ 0 = ap length (sym e) in absurd (omega arith)

pub candidate_prefix-one : (i k : ℕ) → i < 2 ^ 64 → k < 2 ^ 64 → candidate_prefix i ≡ candidate_prefix k → i ≡ k
candidate_prefix-one zero zero h g e = refl
candidate_prefix-one zero (suc k) h g e = absurd (not_empty k g (cc))
candidate_prefix-one (suc i) zero h g e = absurd (not_empty i h (cc))
candidate_prefix-one (suc i) (suc k) h g e = decimal_injective (suc i) (suc k) h g (cc)

-- ---- what is declared, as a list

or_assoc : (a b c : Bool) → (a || (b || c)) ≡ ((a || b) || c)
or_assoc true b c = refl
or_assoc false b c = refl

pub among-append : (p : List ℕ) (xs ys : List (List ℕ)) → is_member bytes_eq (xs ++ ys) p ≡ (is_member bytes_eq xs p || is_member bytes_eq ys p)
among-append p [] ys = refl
among-append p (x ∷ xs) ys = ap (λ b. bytes_eq p x || b) (among-append p xs ys) ∙ or_assoc (bytes_eq p x) (is_member bytes_eq xs p) (is_member bytes_eq ys p)

-- the prefixes that operations declare
abbrev pub whole : List Tree → List (List ℕ)
whole [] = []
whole (o ∷ os) = (declared_prefixes o.decls ++ content_prefixes o.content) ++ whole os

declared_here : (p : List ℕ) (ds : List Decl) → declares_prefix p ds ≡ is_member bytes_eq (declared_prefixes ds) p
declared_here p [] = refl
declared_here p (d ∷ ds) = λ i. nat_list_eq_equiv.symm d.prefix p i || declared_here p ds i

declared_within : (p : List ℕ) (k : Content) → content_declares_prefix p k ≡ is_member bytes_eq (content_prefixes k) p
declared_within p (last t) = refl
declared_within p (more t n ds ats c rest) =
    (λ i. declared_here p ds i || (declared_within p c i || declared_within p rest i))
    ∙ ap (λ b. is_member bytes_eq (declared_prefixes ds) p || b) (sym (among-append p (content_prefixes c) (content_prefixes rest))) ∙ sym (among-append p (declared_prefixes ds) (content_prefixes c ++ content_prefixes rest))
declared_within p (comment_node t x rest) = declared_within p rest

pub taken_whole : (os : List Tree) (p : List ℕ) → is_prefix_declared os p ≡ is_member bytes_eq (whole os) p
taken_whole [] p = refl
taken_whole (o ∷ os) p =
    (λ i. (declared_here p o.decls i || declared_within p o.content i) || taken_whole os p i)
    ∙ ap (λ b. b || is_member bytes_eq (whole os) p) (sym (among-append p (declared_prefixes o.decls) (content_prefixes o.content))) ∙ sym (among-append p (declared_prefixes o.decls ++ content_prefixes o.content) (whole os))

length-declared_prefixes : (ds : List Decl) → length (declared_prefixes ds) ≡ length ds
length-declared_prefixes [] = refl
length-declared_prefixes (d ∷ ds) = ap suc (length-declared_prefixes ds)

length-within : (k : Content) → length (content_prefixes k) ≡ count_content_declarations k
length-within (last t) = refl
length-within (more t n ds ats c rest) =
    omega (arith, length-append (declared_prefixes ds) (content_prefixes c ++ content_prefixes rest), length-append (content_prefixes c) (content_prefixes rest), length-declared_prefixes ds, length-within c, length-within rest)
length-within (comment_node t x rest) = length-within rest

pub length-whole : (os : List Tree) → length (whole os) ≡ count_declarations os
length-whole [] = refl
length-whole (o ∷ os) =
    omega (arith, length-append (declared_prefixes o.decls ++ content_prefixes o.content) (whole os), length-append (declared_prefixes o.decls) (content_prefixes o.content), length-declared_prefixes o.decls, length-within o.content, length-whole os)

-- ---- the first of several candidates

abbrev pub without : List ℕ → List (List ℕ) → List (List ℕ)
without p [] = []
without p (q ∷ qs) = cond (bytes_eq p q) qs (q ∷ without p qs)

pub length-without : (p : List ℕ) (qs : List (List ℕ)) → is_member bytes_eq qs p ≡ true → suc (length (without p qs)) ≡ length qs
length-without p [] h = cc
length-without p (q ∷ qs) h = by (bytes_eq p q) refl (length-without p qs)
  where
    by : (b : Bool) → bytes_eq p q ≡ b → (is_member bytes_eq qs p ≡ true → suc (length (without p qs)) ≡ length qs) → suc (length (without p (q ∷ qs))) ≡ suc (length qs)
    by true e f = rw e refl
    by false e f = rw e (omega (arith, f (rw e at h)))

pub among-without : (p r : List ℕ) (qs : List (List ℕ)) → p ≢ r → is_member bytes_eq qs r ≡ true → is_member bytes_eq (without p qs) r ≡ true
among-without p r [] ne h = h
among-without p r (q ∷ qs) ne h = by (bytes_eq p q) (bytes_eq r q) refl refl (among-without p r qs ne)
  where
    by : (b c : Bool) → bytes_eq p q ≡ b → bytes_eq r q ≡ c → (is_member bytes_eq qs r ≡ true → is_member bytes_eq (without p qs) r ≡ true) → is_member bytes_eq (without p (q ∷ qs)) r ≡ true
    by true true e f g = absurd (ne ((bytes_eq-Decides p q).0 e ∙ sym ((bytes_eq-Decides r q).0 f)))
    by true false e f g = rw e (rw f at h)
    by false true e f g = rw (e, f) refl
    by false false e f g = rw (e, f) (g (rw f at h))

is_none : (left : List (List ℕ)) (p : List ℕ) → length left ≤ 0 → is_member bytes_eq left p ≡ true → ⊥
is_none [] p le h = cc
is_none (q ∷ qs) p le h = omega arith

module _ (taken : List ℕ → Bool) (bound : ℕ) (room : bound < 2 ^ 64) where
  free_from : (f k : ℕ) (left : List (List ℕ)) → length left ≤ f → k + f ≤ bound → ((i : ℕ) → k ≤ i → i ≤ bound → taken (candidate_prefix i) ≡ true → is_member bytes_eq left (candidate_prefix i) ≡ true)
      → (b : Bool) → taken (candidate_prefix k) ≡ b → taken (candidate_prefix (first_free_candidate taken f k)) ≡ false
  free_from zero k left le low h false e = e
  free_from zero k left le low h true e = absurd (is_none left (candidate_prefix k) le (h k (omega arith) (omega arith) e))
  free_from (suc f) k left le low h false e = rw e e
  free_from (suc f) k left le low h true e =
      let there : is_member bytes_eq left (candidate_prefix k) ≡ true = h k (omega arith) (omega arith) e in
      let shorter : suc (length (without (candidate_prefix k) left)) ≡ length left = length-without (candidate_prefix k) left there in
      rw e (free_from f (suc k) (without (candidate_prefix k) left) (omega arith) (omega arith)
      (λ i le' high m. among-without (candidate_prefix k) (candidate_prefix i) left (λ s. absurd (omega (arith, candidate_prefix-one k i (omega arith) (omega arith) s))) (h i (omega arith) high m))
      (taken (candidate_prefix (suc k))) refl)

first_from : (taken : List ℕ → Bool) (f k j : ℕ) → k ≤ j → j < first_free_candidate taken f k → taken (candidate_prefix j) ≡ true
first_from taken zero k j le lt = absurd (omega arith)
first_from taken (suc f) k j le lt = by (taken (candidate_prefix k)) refl (first_from taken f (suc k) j)
  where
    here : (n m : ℕ) → n ≤ m → (n ≡ m → ⊥) → suc n ≤ m
    here n m a b = omega (arith, b)

    eq : (b : Bool) → nat_eq k j ≡ b → taken (candidate_prefix k) ≡ true → (suc k ≤ j → taken (candidate_prefix j) ≡ true) → taken (candidate_prefix j) ≡ true
    eq true s e rest = ap (λ x. taken (candidate_prefix x)) (sym (eqb-true k j s)) ∙ e
    eq false s e rest = rest (here k j le (λ z. let w : true ≡ false = sym (eq-eqb k j z) ∙ s in absurd cc))

    by : (b : Bool) → taken (candidate_prefix k) ≡ b → (suc k ≤ j → j < first_free_candidate taken f (suc k) → taken (candidate_prefix j) ≡ true) → taken (candidate_prefix j) ≡ true
    by true e rest = eq (nat_eq k j) refl e (λ more. rest more (rw e at lt))
    by false e rest = absurd (let z : j < k = rw e at lt in omega arith)

pub is_first_free : (os : List Tree) → count_declarations os < 2 ^ 64 → IsFirstFreeCandidate (is_prefix_declared os) (first_free_candidate (is_prefix_declared os) (count_declarations os) 0)
is_first_free os room = record {
  free = free_from (is_prefix_declared os) (count_declarations os) room (count_declarations os) 0 (whole os) (omega (arith, length-whole os)) (omega arith)
      (λ i _ _ m. sym (taken_whole os (candidate_prefix i)) ∙ m) (is_prefix_declared os (candidate_prefix 0)) refl;
  first = λ j lt. first_from (is_prefix_declared os) (count_declarations os) 0 j (omega arith) lt;
}
