-- One call on a journal after another.
use Rattle.std.proofs.Common.{◌≡◌, ◌⊎◌, inl, inr, refl, ◌∙◌, arith}
use Rattle.xcap_io.specs.StreamStates.{CountRises}
use Rattle.edit_journal.specs.Journals.{JournalState, IsJournalProgress}

pub goes_none : (journal : JournalState) → IsJournalProgress journal journal
goes_none journal = record {
  later = omega arith;
  later_beneath = omega arith;
  cause = λ none. inl none;
  same_before = refl;
  same_holds = refl;
  same_aside = refl;
}

cause_on : (old mid new : JournalState) → IsJournalProgress old mid → IsJournalProgress mid new → (mid.faults ≡ 0) ⊎ CountRises old.beneath mid.beneath → (new.faults ≡ 0) ⊎ CountRises old.beneath new.beneath
cause_on old mid new first next (inl none) = elim (next.cause none) [ inl none' ↦ inl none' | inr rose ↦ inr (omega (arith, first.later_beneath, rose)) ]
cause_on old mid new first next (inr rose) = inr (omega (arith, next.later_beneath, rose))

pub goes_on : (old mid new : JournalState) → IsJournalProgress old mid → IsJournalProgress mid new → IsJournalProgress old new
goes_on old mid new first next = record {
  later = omega (arith, first.later, next.later);
  later_beneath = omega (arith, first.later_beneath, next.later_beneath);
  cause = λ none. cause_on old mid new first next (first.cause none);
  same_before = next.same_before ∙ first.same_before;
  same_holds = next.same_holds ∙ first.same_holds;
  same_aside = next.same_aside ∙ first.same_aside;
}

pub ruleset going = (goes_none, goes_on)
