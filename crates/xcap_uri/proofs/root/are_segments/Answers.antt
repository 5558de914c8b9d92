use Rattle.std.proofs.Common.{sym}
use Rattle.xcap_uri.specs.Roots.{slash}
use Rattle.xcap_uri.proofs.Pieces.{behind_shorter}
use Rattle.xcap_uri.proofs.root.are_segments.Goals as goal

pub segments-smaller : goal.segments-smaller
segments-smaller c = behind_shorter slash c.segments.rest.now c.in-Some.tail.now (sym (rw c.in-Some.is at c.cut.ensures.rest_after_stop))
