use Rattle.std.proofs.Common.{◌≡◌, ◌≤◌, length}
use Rattle.request_checks.specs.readers.Fields.{after_blanks}
use Rattle.request_checks.proofs.entity_tags.after_blanks.Given as goal

abbrev pub invariant-blanks : goal.invariant-blanks
invariant-blanks l = record {
  same : after_blanks l.text ≡ after_blanks l.fn.text;
  shorter : length l.text ≤ length l.fn.text;
}

abbrev pub decreases-blanks : goal.decreases-blanks
decreases-blanks l = length l.text
