use Rattle.std.proofs.Common.{◌≡◌, length}
use Rattle.std.specs.List.{list_all}
use Rattle.xcap_uri.specs.Delimiters.{pieces}
use Rattle.xcap_uri.specs.Roots.{is_one_or_more, is_segment_char, slash}
use Rattle.xcap_uri.proofs.root.are_segments.Given as goal

abbrev pub invariant-segments : goal.invariant-segments
invariant-segments l = list_all (is_one_or_more is_segment_char) (pieces slash l.rest) ≡ list_all (is_one_or_more is_segment_char) (pieces slash l.text)

abbrev pub decreases-segments : goal.decreases-segments
decreases-segments l = length l.rest
