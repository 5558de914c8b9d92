use Rattle.std.proofs.Common.{◌≡◌, length}
use Rattle.request_checks.specs.readers.Fields.{Before, tags_from, with_tags}
use Rattle.request_checks.proofs.entity_tags.read_tags.Given as goal

abbrev pub invariant-parts : goal.invariant-parts
invariant-parts l = with_tags l.tags.items (tags_from Before l.rest) ≡ tags_from Before l.text

abbrev pub decreases-parts : goal.decreases-parts
decreases-parts l = length l.rest
