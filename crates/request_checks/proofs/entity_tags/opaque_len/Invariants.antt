use Rattle.std.proofs.Common.{◌≡◌, ℕ, ◌<◌, true, get_or}
use Rattle.request_checks.specs.Tags.{is_tag_byte}
use Rattle.request_checks.proofs.entity_tags.opaque_len.Given as goal

abbrev pub invariant-loop-len : goal.invariant-loop-len
invariant-loop-len l = (k : ℕ) → k < l.len → is_tag_byte (get_or l.text k 0) ≡ true
