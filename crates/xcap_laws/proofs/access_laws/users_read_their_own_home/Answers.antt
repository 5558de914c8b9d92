use Rattle.xcap_laws.proofs.HomeReads.{reads_alike, user_reads_alike}
use Rattle.xcap_laws.proofs.access_laws.users_read_their_own_home.Goals as goal

pub returns : goal.returns
returns c = record { same_answer = reads_alike; own_or_global = user_reads_alike }
