use Rattle.patch_laws.proofs.OtherNotices.{gone_read, gone_replayed, same_replayed, tags_read, tags_replayed}
use Rattle.patch_laws.proofs.laws.other_notices_are_replayed.Goals as goal

pub returns : goal.returns
returns c = record { gone_is_dropped = gone_replayed; tags_need_fetch = tags_replayed; same_version_stays = same_replayed; gone_read = gone_read; tags_read = tags_read }
