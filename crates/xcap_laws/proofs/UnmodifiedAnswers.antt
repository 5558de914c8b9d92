-- An answer 304 shows a document whose present tag the request names.
use Rattle.std.proofs.Common.{◌≡◌, ℕ, ◌==◌, Bool, true, false, not, List, codes, Option, None, Some, refl, sym, ap, ◌∙◌}
use Rattle.std.specs.List.{list_any}
use Rattle.std.specs.Option.{option_map_or}
use Rattle.std.specs.Prelude.{if◌then◌else◌}
use Rattle.http_wire.specs.declared.request.Request.{Request}
use Rattle.request_checks.specs.Conditions.{outcome_of_verdict}
use Rattle.request_checks.specs.Fields.{IsConditionsReading, FieldValue, Missing, Preconditions, HasFieldValue, Star, Tags}
use Rattle.request_checks.specs.Rights.{fields_named}
use Rattle.request_checks.specs.Verdicts.{if_match_holds, if_none_match_holds, matches_etag_weakly, precondition_verdict}
use Rattle.request_checks.specs.declared.conditions.Outcome.TheVariants.{Unreadable, Go, NotModified, Failed}
use Rattle.request_checks.specs.declared.verdicts.Verdict.TheVariants as verdicts
use Rattle.store_core.specs.Contents.{StoreContents as Content}
use Rattle.xcap_laws.proofs.AnswerKinds.{Kind, kind_of, shows, unmodified, untagged, writes}
use Rattle.xcap_laws.specs.NotModifiedReplies.{IsUnmodified, FieldNamesTag}
use Rattle.xcap_machine.specs.Answers.{Answer}
use Rattle.xcap_machine.specs.Requests.{IsAnswer}

second_fails : (x y : Bool) → NotModified ≡ outcome_of_verdict (if not x then verdicts.Failed else if y then verdicts.Go else if true then verdicts.Same else verdicts.Failed) → y ≡ false
second_fails true true h = let z : NotModified ≡ Go = h in cc
second_fails true false h = refl
second_fails false y h = let z : NotModified ≡ Failed = h in cc

is_listed : (b : Bool) → not b ≡ false → b ≡ true
is_listed true h = refl
is_listed false h = let z : true ≡ false = h in cc

named : (tag : ℕ) (value : FieldValue) → if_none_match_holds (Some tag) true value ≡ false → FieldNamesTag tag value
named tag Missing h = let z : true ≡ false = h in absurd cc
named tag Star h = tt
named tag (Tags tags) h = is_listed (list_any (matches_etag_weakly (Some tag)) tags) h

-- what If-None-Match says names the tag
record SaysTag (request : Request) (tag : ℕ) : Type 0 where
  value : FieldValue
  says : HasFieldValue (fields_named (codes "if-none-match") request.fields) value
  names : FieldNamesTag tag value

says_tag : (request : Request) (tag : ℕ) (said : Option Preconditions) → IsConditionsReading (fields_named (codes "if-match") request.fields) (fields_named (codes "if-none-match") request.fields) said
    → NotModified ≡ option_map_or (λ conditions. outcome_of_verdict (precondition_verdict conditions (Some tag) true true)) said Unreadable → SaysTag request tag
says_tag request tag None reads h = let z : NotModified ≡ Unreadable = h in absurd cc
says_tag request tag (Some s) reads h = record {
  value = s.if_none_match;
  says = reads.1;
  names = named tag s.if_none_match (second_fails (if_match_holds (Some tag) true s.if_match) (if_none_match_holds (Some tag) true s.if_none_match) h);
}

another : (n : ℕ) → (n == 304) ≡ false → n ≡ 304 → ⊥
another n other is = let z : true ≡ false = sym (ap (λ (k : ℕ). k == 304) is) ∙ other in cc

by_kind : (root : List ℕ) (c : Content) (request : Request) (a : Answer) → Kind root c request a → a.reply.status ≡ 304 → IsUnmodified root c request a
by_kind root c request a (untagged fields body whole none other is) h = absurd (another fields.status other (sym (ap (λ (x : Answer). x.reply.status) is) ∙ h))
by_kind root c request a (shows fields body tag whole some other is shown) h = absurd (another fields.status other (sym (ap (λ (x : Answer). x.reply.status) is) ∙ h))
by_kind root c request a (writes fields body made whole some other is) h = absurd (another fields.status other (sym (ap (λ (x : Answer). x.reply.status) is) ∙ h))
by_kind root c request a (unmodified tag is shown has) h =
    let s = says_tag request tag has.0 has.1 has.2 in
    record {
      reads = shown.reads;
      target = shown.target;
      means = shown.means;
      id = shown.id;
      of_document = shown.names;
      tree = shown.tree;
      tag = tag;
      held = shown.held;
      value = s.value;
      says = s.says;
      names = s.names;
      answers = is;
    }

pub unmodified_only : (root : List ℕ) (c : Content) (request : Request) (a : Answer) → IsAnswer root c request a → a.reply.status ≡ 304 → IsUnmodified root c request a
unmodified_only root c request a is h = by_kind root c request a (kind_of root c request a is) h
