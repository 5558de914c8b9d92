-- The numbers and the lengths of the documents of each home, before and after a change.
use Rattle.std.proofs.Common.{◌≡◌, ℕ, ◌+◌, ◌≤◌, nat_lt, nat_le, Bool, true, false, cond, List, [], ◌∷◌, ◌++◌, length, filter, sum_by, Option, None, Some, refl, sym, ap, subst, ◌∙◌, arith}
use Rattle.std.proofs.lemmas.Bool.Decides.{nat_tests}
use Rattle.std.proofs.lemmas.List.{append-nil}
use Rattle.std.proofs.lemmas.List.Sums.{sum_by-append}
use Rattle.usage_docs.specs.Services.{document_len}
use Rattle.doc_names.specs.NameEquality.{same_home}
use Rattle.doc_names.specs.declared.doc_id.DocId.{DocId}
use Rattle.doc_names.specs.declared.doc_id.Home.{Home}
use Rattle.store_core.specs.declared.limits.Limits.{Limits}
use Rattle.store_core.specs.HomeLimits.{IsWithin, documents_of_home, is_above}
use Rattle.store_core.specs.State.{Document}
use Rattle.store_core.specs.ValidStates.{AreHomesWithinLimits}
use Rattle.store_core.proofs.HomeKeys.{home_exact, home_self}

-- ---- a limit

pub within-of : (l : Option ℕ) (n : ℕ) → is_above l n ≡ false → IsWithin l n
within-of None n h = tt
within-of (Some most) n h = grind (arith, nat_tests)

pub not-above : (l : Option ℕ) (n : ℕ) → IsWithin l n → is_above l n ≡ false
not-above None n h = refl
not-above (Some most) n h = grind (arith, nat_tests)

within-less : (l : Option ℕ) (m n : ℕ) → m ≤ n → IsWithin l n → IsWithin l m
within-less None m n le h = tt
within-less (Some most) m n le h = omega (arith, le, h)

-- one more than these is too many where these fill the limit
full-more : (most others : ℕ) → nat_le most others ≡ true → nat_lt most (others + 1) ≡ true
full-more most others h = grind (arith, nat_tests)

full-less : (most others : ℕ) → nat_le most others ≡ false → nat_lt most (others + 1) ≡ false
full-less most others h = grind (arith, nat_tests)

full-by : (most others : ℕ) (b : Bool) → nat_le most others ≡ b → b ≡ nat_lt most (others + 1)
full-by most others true e = sym (full-more most others e)
full-by most others false e = sym (full-less most others e)

pub full_is_above : (most others : ℕ) → nat_le most others ≡ nat_lt most (others + 1)
full_is_above most others = full-by most others (nat_le most others) refl

-- ---- sums over those of a list that pass a test

swap : (a b c : ℕ) → a ≡ b + c → a ≡ c + b
swap a b c h = omega (arith, h)

grown : (a b x y k z : ℕ) → a ≡ z + x → b ≡ z + y → x ≡ y + k → a ≡ b + k
grown a b x y k z first second h = omega (arith, first, second, h)

module _ {X : Type 0} (f : X → ℕ) where
  pub sum-cons : (x : X) (xs : List X) → sum_by f (x ∷ xs) ≡ f x + sum_by f xs
  sum-cons x xs = omega (arith, sum_by-append f (x ∷ []) xs)

  pub sum-kept : (x : X) (xs : List X) (b : Bool) → sum_by f (cond b (x ∷ xs) xs) ≡ cond b (f x) 0 + sum_by f xs
  sum-kept x xs true = sum-cons x xs
  sum-kept x xs false = omega arith

module _ {X : Type 0} (p : X → Bool) (f : X → ℕ) where
  sum-passed : (x : X) (xs : List X) → sum_by f (filter p (x ∷ xs)) ≡ cond (p x) (f x) 0 + sum_by f (filter p xs)
  sum-passed x xs = sum-kept f x (filter p xs) (p x)

  pub sum-among : (xs : List X) (x : X) (ys : List X) → sum_by f (filter p (xs ++ x ∷ ys)) ≡ sum_by f (filter p (xs ++ ys)) + cond (p x) (f x) 0
  sum-among [] x ys = swap (sum_by f (filter p (x ∷ ys))) (cond (p x) (f x) 0) (sum_by f (filter p ys)) (sum-passed x ys)
  sum-among (z ∷ xs) x ys =
      grown (sum_by f (filter p (z ∷ (xs ++ x ∷ ys)))) (sum_by f (filter p (z ∷ (xs ++ ys)))) (sum_by f (filter p (xs ++ x ∷ ys))) (sum_by f (filter p (xs ++ ys))) (cond (p x) (f x) 0) (cond (p z) (f z) 0)
      (sum-passed z (xs ++ x ∷ ys)) (sum-passed z (xs ++ ys)) (sum-among xs x ys)

-- a number of items is a sum of ones
module _ {X : Type 0} where
  pub ones : (xs : List X) → length xs ≡ sum_by (λ (x : X). 1) xs
  ones [] = refl
  ones (x ∷ xs) = omega (arith, sum-cons (λ (y : X). 1) x xs, ones xs)

-- ---- sums over the documents of a home

abbrev home_of : Document → DocId
home_of d = d.id

abbrev pub home_sum : (Document → ℕ) → List Document → Home → ℕ
home_sum f ds home = sum_by f (documents_of_home home_of ds home)

-- each document counts as one
abbrev pub one : Document → ℕ
one d = 1

abbrev pub length_of : Document → ℕ
length_of d = document_len d.now.tree

abbrev at_home : Home → Document → Bool
at_home home d = same_home home d.id.home

-- the documents of a home, in a list where one stands among others
among : (f : Document → ℕ) (home : Home) (before : List Document) (d : Document) (behind : List Document) → home_sum f (before ++ d ∷ behind) home ≡ home_sum f (before ++ behind) home + cond (at_home home d) (f d) 0
among f home before d behind = sum-among (at_home home) f before d behind

pub less-edited : (f : Document → ℕ) (old before behind : List Document) (d : Document) → old ≡ before ++ d ∷ behind → (home : Home) → home_sum f (before ++ behind) home ≤ home_sum f old home
less-edited f old before behind d parts home = omega (arith, ap (λ (ds : List Document). home_sum f ds home) parts, among f home before d behind)

pub less-made : (f : Document → ℕ) (ds : List Document) (home : Home) → home_sum f (ds ++ []) home ≤ home_sum f ds home
less-made f ds home = omega (arith, ap (λ (xs : List Document). home_sum f xs home) (append-nil ds))

each-home : (l : Option ℕ) (own home : Home) (n : ℕ) (old rest : Home → ℕ) → ((h : Home) → IsWithin l (old h)) → ((h : Home) → rest h ≤ old h) → IsWithin l (rest own + n) → (b : Bool) → same_home home own ≡ b → IsWithin l (rest home + cond b n 0)
each-home l own home n old rest within less fits true e = subst (λ (h : Home). IsWithin l (rest h + n)) (sym (home_exact home own e)) fits
each-home l own home n old rest within less fits false e = within-less l (rest home + 0) (old home) (omega (arith, less home)) (within home)

within-put : (l : Option ℕ) (f : Document → ℕ) (docs old before behind : List Document) (d : Document) → docs ≡ before ++ d ∷ behind → ((h : Home) → IsWithin l (home_sum f old h)) → ((h : Home) → home_sum f (before ++ behind) h ≤ home_sum f old h)
    → IsWithin l (home_sum f (before ++ behind) d.id.home + f d) → (home : Home) → IsWithin l (home_sum f docs home)
within-put l f docs old before behind d parts within less fits home =
    subst (λ (n : ℕ). IsWithin l n) (sym (ap (λ (ds : List Document). home_sum f ds home) parts ∙ among f home before d behind))
    (each-home l d.id.home home (f d) (home_sum f old) (home_sum f (before ++ behind)) within less fits (same_home home d.id.home) refl)

few-sum : (limits : Limits) (ds : List Document) → AreHomesWithinLimits limits ds → (h : Home) → IsWithin limits.home_documents (home_sum one ds h)
few-sum limits ds k h = subst (λ (n : ℕ). IsWithin limits.home_documents n) (ones (documents_of_home home_of ds h)) (k h).few

-- the homes are within the limits where those of the other documents were, and the document's own
-- home is with it
pub homes-put : (limits : Limits) (docs old before behind : List Document) (d : Document) → docs ≡ before ++ d ∷ behind → AreHomesWithinLimits limits old → ((f : Document → ℕ) (h : Home) → home_sum f (before ++ behind) h ≤ home_sum f old h)
    → IsWithin limits.home_documents (home_sum one (before ++ behind) d.id.home + 1) → IsWithin limits.home_bytes (home_sum length_of (before ++ behind) d.id.home + length_of d) → AreHomesWithinLimits limits docs
homes-put limits docs old before behind d parts k less few room home =
    record {
      few =
          subst (λ (n : ℕ). IsWithin limits.home_documents n) (sym (ones (documents_of_home home_of docs home)))
          (within-put limits.home_documents one docs old before behind d parts (few-sum limits old k) (less one) few home);
      room = within-put limits.home_bytes length_of docs old before behind d parts (λ h. (k h).room) (less length_of) room home;
    }

pub homes-removed : (limits : Limits) (docs old before behind : List Document) (d : Document) → old ≡ before ++ d ∷ behind → docs ≡ before ++ behind → AreHomesWithinLimits limits old → AreHomesWithinLimits limits docs
homes-removed limits docs old before behind d parts rest k home =
    let less : (f : Document → ℕ) → home_sum f docs home ≤ home_sum f old home = λ f. omega (arith, ap (λ (ds : List Document). home_sum f ds home) rest, less-edited f old before behind d parts home) in
    record {
      few =
          subst (λ (n : ℕ). IsWithin limits.home_documents n) (sym (ones (documents_of_home home_of docs home)))
          (within-less limits.home_documents (home_sum one docs home) (home_sum one old home) (less one) (few-sum limits old k home));
      room = within-less limits.home_bytes (home_sum length_of docs home) (home_sum length_of old home) (less length_of) (k home).room;
    }

-- the document's own home
own-sum : (f : Document → ℕ) (docs before behind : List Document) (d : Document) → docs ≡ before ++ d ∷ behind → home_sum f docs d.id.home ≡ home_sum f (before ++ behind) d.id.home + f d
own-sum f docs before behind d parts =
    ap (λ (ds : List Document). home_sum f ds d.id.home) parts ∙ among f d.id.home before d behind ∙ ap (λ (b : Bool). home_sum f (before ++ behind) d.id.home + cond b (f d) 0) (home_self d.id.home)

pub own-few : (limits : Limits) (docs before behind : List Document) (d : Document) → docs ≡ before ++ d ∷ behind → AreHomesWithinLimits limits docs → IsWithin limits.home_documents (home_sum one (before ++ behind) d.id.home + 1)
own-few limits docs before behind d parts k = subst (λ (n : ℕ). IsWithin limits.home_documents n) (own-sum one docs before behind d parts) (few-sum limits docs k d.id.home)

pub own-room : (limits : Limits) (docs before behind : List Document) (d : Document) → docs ≡ before ++ d ∷ behind → AreHomesWithinLimits limits docs → IsWithin limits.home_bytes (home_sum length_of (before ++ behind) d.id.home + length_of d)
own-room limits docs before behind d parts k = subst (λ (n : ℕ). IsWithin limits.home_bytes n) (own-sum length_of docs before behind d parts) (k d.id.home).room

-- ---- a document for another one

exchanged-sum : (f : Document → ℕ) (home : Home) (before : List Document) (d e : Document) (behind : List Document) → at_home home d ≡ at_home home e → f d ≡ f e → home_sum f (before ++ d ∷ behind) home ≡ home_sum f (before ++ e ∷ behind) home
exchanged-sum f home before d e behind same equal =
    among f home before d behind
    ∙ ap (λ (b : Bool). home_sum f (before ++ behind) home + cond b (f d) 0) same
    ∙ ap (λ (n : ℕ). home_sum f (before ++ behind) home + cond (at_home home e) n 0) equal
    ∙ sym (among f home before e behind)

-- the homes are within the limits with a document in the place of one of the same name and length
pub homes-exchanged : (limits : Limits) (before : List Document) (d e : Document) (behind : List Document) → d.id ≡ e.id → length_of d ≡ length_of e → AreHomesWithinLimits limits (before ++ d ∷ behind) → AreHomesWithinLimits limits (before ++ e ∷ behind)
homes-exchanged limits before d e behind names lengths k home =
    let same : at_home home d ≡ at_home home e = ap (λ (id : DocId). same_home home id.home) names in
    record {
      few =
          subst (λ (n : ℕ). IsWithin limits.home_documents n)
          (exchanged-sum one home before d e behind same refl ∙ sym (ones (documents_of_home home_of (before ++ e ∷ behind) home)))
          (few-sum limits (before ++ d ∷ behind) k home);
      room = subst (λ (n : ℕ). IsWithin limits.home_bytes n) (exchanged-sum length_of home before d e behind same lengths) (k home).room;
    }
