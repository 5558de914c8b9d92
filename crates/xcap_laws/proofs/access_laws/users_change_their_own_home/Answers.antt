use Rattle.xcap_laws.proofs.Homes.{own_change, own_step}
use Rattle.xcap_laws.proofs.access_laws.users_change_their_own_home.Goals as goal

pub returns : goal.returns
returns c = record { own_home = own_change; own_versions = own_step }
