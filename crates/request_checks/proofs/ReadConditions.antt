-- The outcome of a request's conditions, and that there is only one.
use Rattle.std.proofs.Common.{◌≡◌, ℕ, Bool, List, [], Option, None, Some, codes, refl, sym, ap, ◌∙◌}
use Rattle.std.specs.Option.{option_map_or}
use Rattle.http_wire.specs.declared.request.Field.{Field}
use Rattle.http_wire.specs.declared.request.Request.{Request}
use Rattle.request_checks.specs.Fields.{IsConditionsReading, Missing, Preconditions, HaveFieldValues}
use Rattle.request_checks.specs.Verdicts.{precondition_verdict}
use Rattle.request_checks.proofs.Values.{one_conditions, some_conditions}
use Rattle.reply_text.specs.ReplyHeads.{SentReply}
use Rattle.request_checks.specs.Conditions.{HasOutcome, IsConditionReply, outcome_of_verdict, outcome_reply}
use Rattle.request_checks.specs.Rights.{fields_named}
use Rattle.request_checks.specs.declared.conditions.Outcome.{Outcome}
use Rattle.request_checks.specs.declared.conditions.Outcome.TheVariants.{Go, Unreadable}

-- the outcome of conditions, if they can be read
abbrev by_conditions : Option Preconditions → Option ℕ → Bool → Bool → Outcome
by_conditions said tag exists reading = option_map_or (λ conditions. outcome_of_verdict (precondition_verdict conditions tag exists reading)) said Unreadable

-- the outcome of the lines of the two fields
abbrev pub LinesMake : List (List ℕ) → List (List ℕ) → Option ℕ → Bool → Bool → Outcome → Type 0
LinesMake ms ns tag exists reading o = (said : Option Preconditions) × IsConditionsReading ms ns said × (o ≡ by_conditions said tag exists reading)

pub read_outcome : (ms ns : List (List ℕ)) (conditions : Preconditions) (tag : Option ℕ) (exists reading : Bool) (o : Outcome) → HaveFieldValues ms ns conditions → o ≡ outcome_of_verdict (precondition_verdict conditions tag exists reading)
    → LinesMake ms ns tag exists reading o
read_outcome ms ns conditions tag exists reading o said is = (Some conditions, said, is)

pub bad_outcome : (ms ns : List (List ℕ)) (tag : Option ℕ) (exists reading : Bool) → IsConditionsReading ms ns None → LinesMake ms ns tag exists reading Unreadable
bad_outcome ms ns tag exists reading nothing = (None, nothing, refl)

-- ---- there is an outcome

pub some_outcome : (fields : List Field) (tag : Option ℕ) (exists reading : Bool) → (o : Outcome) × HasOutcome fields tag exists reading o
some_outcome fields tag exists reading =
    let said = some_conditions (fields_named (codes "if-match") fields) (fields_named (codes "if-none-match") fields) in
    (by_conditions said.0 tag exists reading, (said.0, said.1, refl))

pub one_outcome : (fields : List Field) (tag : Option ℕ) (exists reading : Bool) (o p : Outcome) → HasOutcome fields tag exists reading o → HasOutcome fields tag exists reading p → o ≡ p
one_outcome fields tag exists reading o p x y =
    let same : x.0 ≡ y.0 = one_conditions (fields_named (codes "if-match") fields) (fields_named (codes "if-none-match") fields) x.0 y.0 x.1 y.1 in
    x.2 ∙ ap (λ (said : Option Preconditions). by_conditions said tag exists reading) same ∙ sym y.2

-- ---- there is one reply

module _ (request : Request) (tag : Option ℕ) (exists reading : Bool) where
  pub some_stop : (condition_reply : Option SentReply) × IsConditionReply request tag exists reading condition_reply
  some_stop = let o = some_outcome request.fields tag exists reading in (outcome_reply o.0 tag request.closes, (o.0, o.1, refl))

  pub one_stop : (condition_reply other : Option SentReply) → IsConditionReply request tag exists reading condition_reply → IsConditionReply request tag exists reading other → condition_reply ≡ other
  one_stop condition_reply other x y =
      let same : x.0 ≡ y.0 = one_outcome request.fields tag exists reading x.0 y.0 x.1 y.1 in
      x.2 ∙ ap (λ (o : Outcome). outcome_reply o tag request.closes) same ∙ sym y.2

  -- without condition fields the request goes on
  pub no_stop : fields_named (codes "if-match") request.fields ≡ [] → fields_named (codes "if-none-match") request.fields ≡ [] → IsConditionReply request tag exists reading None
  no_stop no_match no_none_match = (Go, (Some (record { if_match = Missing; if_none_match = Missing }), (no_match, no_none_match), refl), refl)
