-- How the moments of a log go on.
use Rattle.std.proofs.Common.{◌≡◌, ℕ, List, [], ◌∷◌, ◌++◌, refl, sym, ap, ◌∙◌, append_assoc}
use Rattle.std.specs.List.{AllByRecursion}
use Rattle.change_log.specs.LogContents.{Contents}
use Rattle.change_log.specs.LogHistories.{History, Moment, MayBeFound, HoldsAtEachMoment}

abbrev FindsOnly : (Contents → Type 0) → Moment → Type 0
FindsOnly P m = (c : Contents) → MayBeFound m c → P c

all_of_both : {A : Type 0} (P : A → Type 0) (xs ys : List A) → AllByRecursion P xs → AllByRecursion P ys → AllByRecursion P (xs ++ ys)
all_of_both P [] ys first second = second
all_of_both P (x ∷ xs) ys first second = (first.0, all_of_both P xs ys first.1 second)

all_weaker : {A : Type 0} (P Q : A → Type 0) → ((x : A) → P x → Q x) → (xs : List A) → AllByRecursion P xs → AllByRecursion Q xs
all_weaker P Q le [] all = tt
all_weaker P Q le (x ∷ xs) all = (le x all.0, all_weaker P Q le xs all.1)

-- no call was made
pub no_call : (P : Contents → Type 0) (h : History) → HoldsAtEachMoment P h h
no_call P h = record { moments = []; split = refl; each = tt }

-- one call was made
pub one_call : (P : Contents → Type 0) (old new : History) (m : Moment) → new.now ∷ new.past ≡ m ∷ old.now ∷ old.past
    → ((c : Contents) → MayBeFound m c → P c) → HoldsAtEachMoment P old new
one_call P old new m is finds = record { moments = m ∷ []; split = is; each = (finds, tt) }

-- calls were made, and then others
pub and_then : (P : Contents → Type 0) (old mid new : History) → HoldsAtEachMoment P old mid → HoldsAtEachMoment P mid new → HoldsAtEachMoment P old new
and_then P old mid new first second = record {
  moments = second.moments ++ first.moments;
  split = second.split ∙ ap (λ (l : List Moment). second.moments ++ l) first.split ∙ sym (append_assoc second.moments first.moments (old.now ∷ old.past));
  each = all_of_both (FindsOnly P) second.moments first.moments second.each first.each;
}

pub weaker : (P Q : Contents → Type 0) → ((c : Contents) → P c → Q c) → (old new : History) → HoldsAtEachMoment P old new → HoldsAtEachMoment Q old new
weaker P Q le old new run = record {
  moments = run.moments;
  split = run.split;
  each = all_weaker (FindsOnly P) (FindsOnly Q) (λ m finds c may. le c (finds c may)) run.moments run.each;
}
