-- Taking back an earlier change, and then appending one.
use Rattle.std.proofs.Common.{◌≡◌, inl, inr, ◌⊎◌, ℕ, List, sym, ap, subst, ◌∙◌}
use Rattle.change_log.specs.LogContents.{Contents, with_change}
use Rattle.change_log.specs.LogStates.{FailsToAppend}
use Rattle.change_log.specs.LogHistories.{Moment, History, MayBeFound, IsFoundBeforeOr, HoldsAtEachMoment, settled_moment, without_open_change, with_open_change}
use Rattle.change_log.proofs.Passing.{and_then, weaker}
use Rattle.folder_log.proofs.Healing.{fewer}

pub not_appended_after : (change : List ℕ) (old mid new : Moment) → mid ≡ without_open_change old → FailsToAppend change mid new → FailsToAppend change old new
not_appended_after change old mid new is (inl none) = inl (none ∙ ap (λ (m : Moment). without_open_change m) is)
not_appended_after change old mid new is (inr (inl same)) = inl (same ∙ is)
not_appended_after change old mid new is (inr (inr one)) = inr (inr (one ∙ ap (λ (m : Moment). with_open_change change m) is))

pub appended_after : (change : List ℕ) (old mid new : Moment) → mid ≡ without_open_change old → new ≡ settled_moment (with_change change mid.kept) → new ≡ settled_moment (with_change change old.kept)
appended_after change old mid new is new_is = new_is ∙ ap (λ (m : Moment). settled_moment (with_change change m.kept)) is

found_after : (old mid : History) (change : List ℕ) (c : Contents) → mid.now ≡ without_open_change old.now → IsFoundBeforeOr mid (with_change change mid.now.kept) c → IsFoundBeforeOr old (with_change change old.now.kept) c
found_after old mid change c is (inl may) = inl (fewer old.now c (subst (λ (m : Moment). MayBeFound m c) is may))
found_after old mid change c is (inr found) = inr (found ∙ ap (λ (m : Moment). with_change change m.kept) is)

pub healed_only : (old new : History) (change : List ℕ) → HoldsAtEachMoment (MayBeFound old.now) old new → HoldsAtEachMoment (IsFoundBeforeOr old (with_change change old.now.kept)) old new
healed_only old new change passes = weaker (MayBeFound old.now) (IsFoundBeforeOr old (with_change change old.now.kept)) (λ c may. inl may) old new passes

pub healed_then : (old mid new : History) (change : List ℕ) → mid.now ≡ without_open_change old.now → HoldsAtEachMoment (MayBeFound old.now) old mid → HoldsAtEachMoment (IsFoundBeforeOr mid (with_change change mid.now.kept)) mid new
    → HoldsAtEachMoment (IsFoundBeforeOr old (with_change change old.now.kept)) old new
healed_then old mid new change is first second =
    and_then (IsFoundBeforeOr old (with_change change old.now.kept)) old mid new (healed_only old mid change first)
    (weaker (IsFoundBeforeOr mid (with_change change mid.now.kept)) (IsFoundBeforeOr old (with_change change old.now.kept)) (λ c found. found_after old mid change c is found) mid new second)
