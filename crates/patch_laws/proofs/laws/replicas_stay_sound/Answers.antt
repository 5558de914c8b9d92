use Rattle.std.proofs.Common.{sym}
use Rattle.patch_laws.proofs.OnwardNotices.{applied_sound, replayed_sound}
use Rattle.patch_laws.proofs.laws.replicas_stay_sound.Goals as goal

pub returns : goal.returns
returns c = record {
  of_one_operation = applied_sound;
  whole_diff = λ is_mine notice held new answer proper sound stated. replayed_sound stated.0 is_mine notice held new answer proper sound (sym stated.2);
}
