use Rattle.std.proofs.Common.{sym, subst, List, ℕ}
use Rattle.request_checks.specs.readers.Fields.{IsTrimmed, entity_tag as tag_of}
use Rattle.request_checks.proofs.Fronts.{part-none, part-some, trimmed}
use Rattle.request_checks.proofs.entity_tags.read_list_part.Goals as goal

pub returns-in-None-clause-reads_rule : goal.returns-in-None-clause-reads_rule
returns-in-None-clause-reads_rule c =
    part-none c.args.tags.now.items c.args.text.now c.after_blanks-text.result.now c.after_blanks-text.ensures.exact c.in-None.ensures.tag_and_rest

pub returns-in-None-clause-no_leading_blank : goal.returns-in-None-clause-no_leading_blank
returns-in-None-clause-no_leading_blank c =
    subst (λ (s : List ℕ). IsTrimmed s) (sym c.after_blanks-text.ensures.exact) (trimmed c.args.text.now)

pub returns-in_ok-push_etag-in-Some-clause-reads_rule : goal.returns-in_ok-push_etag-in-Some-clause-reads_rule
returns-in_ok-push_etag-in-Some-clause-reads_rule c =
    part-some c.args.tags.now.items c.push_etag.new.tags.items c.args.text.now c.after_blanks-text.result.now c.in-Some.front.rest.now c.after_blanks.result.now (tag_of c.in-Some.front.weak c.in-Some.front.opaque.now)
    c.after_blanks-text.ensures.exact c.in-Some.ensures.tag_and_rest.0 c.after_blanks.ensures.exact c.in_ok-push_etag-in-Some.ensures.appended

pub returns-in_ok-push_etag-in-Some-clause-no_leading_blank : goal.returns-in_ok-push_etag-in-Some-clause-no_leading_blank
returns-in_ok-push_etag-in-Some-clause-no_leading_blank c =
    subst (λ (s : List ℕ). IsTrimmed s) (sym c.after_blanks.ensures.exact) (trimmed c.in-Some.front.rest.now)
