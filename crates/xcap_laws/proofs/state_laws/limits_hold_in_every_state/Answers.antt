use Rattle.xcap_laws.proofs.Limited.{limits_hold, limits_hold_within}
use Rattle.xcap_laws.proofs.state_laws.limits_hold_in_every_state.Goals as goal

pub returns : goal.returns
returns c = record { limits_hold = limits_hold; given_limits_hold = limits_hold_within }
