use Rattle.std.proofs.Common.{false, refl}
use Rattle.edit_plans.proofs.ParentAnswers.{true_false}
use Rattle.edit_plans.proofs.insertion_points.takes_last_gap.Goals as goal

pub returns-in-None : goal.returns-in-None
returns-in-None c = record { fits_any_order = λ h. (c.in-None.is, c.fits_after_last.ensures.exact.0 h) }

pub returns-in-Some : goal.returns-in-Some
returns-in-Some c = record { fits_any_order = λ h. absurd (true_false false h refl) }
