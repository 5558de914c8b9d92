use Rattle.std.proofs.Common.{◌≡◌, ◌+◌, ◌≤◌, length}
use Rattle.xcap_uri.specs.readers.Queries.{parse_uri_chars}
use Rattle.xcap_uri.specs.readers.UriSteps.{with_chars}
use Rattle.xcap_uri.proofs.query.parse_uri_chars.Given as goal

abbrev pub invariant-chars : goal.invariant-chars
invariant-chars l = record { read : parse_uri_chars 0 l.text ≡ with_chars l.uri (parse_uri_chars l.depth l.rest); fits : l.depth + length l.rest ≤ length l.text }

abbrev pub decreases-chars : goal.decreases-chars
decreases-chars l = length l.rest
