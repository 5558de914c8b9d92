use Rattle.std.proofs.Common.{◌≡◌, length}
use Rattle.xcap_uri.specs.readers.Targets.{parsed_path}
use Rattle.xcap_uri.proofs.SegmentLemmas.{with_segments}
use Rattle.xcap_uri.proofs.segments.read_path.Given as goal

abbrev pub invariant-segments : goal.invariant-segments
invariant-segments l = parsed_path l.path ≡ with_segments l.segments.items (parsed_path l.rest)

abbrev pub decreases-segments : goal.decreases-segments
decreases-segments l = length l.rest
