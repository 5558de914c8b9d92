use Rattle.xcap_laws.proofs.FetchedVersions.{fetched}
use Rattle.xcap_laws.proofs.feed_laws.what_is_fetched_is_a_version.Goals as goal

pub returns : goal.returns
returns x = record { sends_version = fetched }
