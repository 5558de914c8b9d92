-- Whether the conditions of a request hold. RFC 9110, sections 8.8.3.2 (comparison), 13.1.1,
-- 13.1.2 and 13.2.2 (order).
use Rattle.std.specs.Prelude.{ℕ, Bool, true, false, not, ◌&&◌, if◌then◌else◌, Option, decimal}
use Rattle.std.specs.List.{list_any}
use Rattle.std.specs.Option.{option_map_or}
use Rattle.std.specs.Str.{bytes_eq}
use Rattle.request_checks.specs.declared.entity_tags.EntityTag.{EntityTag}
use Rattle.request_checks.specs.declared.verdicts.Verdict.{Verdict}
use Rattle.request_checks.specs.declared.verdicts.Verdict.TheVariants.{Go, Same, Failed}
use Rattle.request_checks.specs.Fields.{FieldValue, Missing, Star, Tags, Preconditions}

-- the tag is the document's etag, a number in decimal; a document that isn't stored has none
unfoldable pub matches_etag_weakly : Option ℕ → EntityTag → Bool
matches_etag_weakly own t = option_map_or (λ number. bytes_eq t.opaque (decimal number)) own false

-- both are strong and equal
unfoldable pub matches_etag_strongly : Option ℕ → EntityTag → Bool
matches_etag_strongly own t = not t.weak && matches_etag_weakly own t

-- If-Match: the resource exists, or one of the tags is the document's etag by the strong
-- comparison
abbrev pub if_match_holds : Option ℕ → Bool → FieldValue → Bool
if_match_holds own exists Missing = true
if_match_holds own exists Star = exists
if_match_holds own exists (Tags tags) = list_any (matches_etag_strongly own) tags

-- If-None-Match: the resource doesn't exist, or none of the tags is the document's etag by the
-- weak comparison
abbrev pub if_none_match_holds : Option ℕ → Bool → FieldValue → Bool
if_none_match_holds own exists Missing = true
if_none_match_holds own exists Star = not exists
if_none_match_holds own exists (Tags tags) = not (list_any (matches_etag_weakly own) tags)

-- `If-Match` is evaluated first; an `If-None-Match` that doesn't hold means 304 for a reading
-- request
abbrev pub precondition_verdict : Preconditions → Option ℕ → Bool → Bool → Verdict
precondition_verdict c own exists reading =
    if not (if_match_holds own exists c.if_match) then Failed
    else if if_none_match_holds own exists c.if_none_match then Go
    else if reading then Same else Failed
