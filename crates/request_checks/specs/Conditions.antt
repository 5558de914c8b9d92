-- The outcome of a request's conditions. RFC 9110, section 13.2.2: If-Match is evaluated first;
-- sections 13.1.1 and 13.1.2 define the replies where a condition doesn't hold.
use Rattle.std.specs.Prelude.{◌≡◌, ℕ, Bool, List, [], codes, Option, None, Some}
use Rattle.std.specs.Option.{option_map_or}
use Rattle.http_wire.specs.declared.request.Field.{Field}
use Rattle.http_wire.specs.declared.request.Request.{Request}
use Rattle.request_checks.specs.Fields.{IsConditionsReading, Preconditions}
use Rattle.request_checks.specs.Verdicts.{precondition_verdict}
use Rattle.request_checks.specs.declared.verdicts.Verdict.{Verdict}
use Rattle.request_checks.specs.declared.verdicts.Verdict.TheVariants.{Go, Same, Failed}
use Rattle.reply_text.specs.ReplyHeads.{SentReply, sent_reply, plain_reply}
use Rattle.request_checks.specs.declared.conditions.Outcome.{Outcome}
use Rattle.request_checks.specs.declared.conditions.Outcome.TheVariants as outcomes
use Rattle.request_checks.specs.Rights.{fields_named}

abbrev pub outcome_of_verdict : Verdict → Outcome
outcome_of_verdict Go = outcomes.Go
outcome_of_verdict Same = outcomes.NotModified
outcome_of_verdict Failed = outcomes.Failed

-- the outcome of a request's fields, by what If-Match and If-None-Match say, if they can be read:
-- the document's etag, whether the selected resource exists, and whether the request reads
abbrev pub HasOutcome : List Field → Option ℕ → Bool → Bool → Outcome → Type 0
HasOutcome fields tag exists reading outcome =
    (said : Option Preconditions)
    × IsConditionsReading (fields_named (codes "if-match") fields)
    (fields_named (codes "if-none-match") fields) said
    × (outcome
    ≡ option_map_or
    (λ conditions. outcome_of_verdict (precondition_verdict conditions tag exists reading)) said
    outcomes.Unreadable)

-- the reply of an outcome: of a condition that can't be read, one that says that the client
-- already has the document with this etag, or one that doesn't hold; None where the request goes
-- on
abbrev pub outcome_reply : Outcome → Option ℕ → Bool → Option SentReply
outcome_reply outcomes.Unreadable tag closes = Some (plain_reply 400 closes)
outcome_reply outcomes.Go tag closes = None
outcome_reply outcomes.NotModified tag closes =
    Some (sent_reply
    (record { status = 304; tag = tag; read_only = None; media = None; size = 0; closes = closes })
    [])
outcome_reply outcomes.Failed tag closes = Some (plain_reply 412 closes)

-- the reply that the conditions of a request give in place of what it asks, if they do
abbrev pub IsConditionReply : Request → Option ℕ → Bool → Bool → Option SentReply → Type 0
IsConditionReply request tag exists reading condition_reply =
    (outcome : Outcome) × HasOutcome request.fields tag exists reading outcome
    × (condition_reply ≡ outcome_reply outcome tag request.closes)
