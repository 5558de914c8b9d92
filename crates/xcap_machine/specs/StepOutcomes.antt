-- Definitions for the machine's laws: which statuses report a change of a document (RFC 4825,
-- sections 8.2 on PUT and 8.4 on DELETE), and what it is to change nothing, and to do exactly one
-- thing.
use Rattle.std.specs.Prelude.{◌≡◌, ℕ, Bool, false, ◌||◌, ◌==◌, List, Option, None}
use Rattle.edit_ops.specs.declared.edit.Edit.{Edit}
use Rattle.reply_text.specs.ReplyHeads.{SentReply}
use Rattle.http_wire.specs.declared.request.Request.{Request}
use Rattle.request_checks.specs.declared.method.Method.{Method}
use Rattle.request_checks.specs.declared.method.Method.TheVariants.{Get, Head, Put, Delete, Other}
use Rattle.store_core.specs.State.{State}
use Rattle.xcap_machine.specs.Machine.{StandardStep, Step}

-- what was put is new (201) or replaced something (200); what was deleted is gone (200); all other
-- replies report no change
abbrev pub reports_change : Method → ℕ → Bool
reports_change Get status = false
reports_change Head status = false
reports_change Put status = (status == 200) || (status == 201)
reports_change Delete status = status == 200
reports_change Other status = false

-- all documents with their versions, tags and change records, and the next number, are unchanged,
-- and there is no edit
abbrev pub ChangesNothing : State → State → Option Edit → Type 0
ChangesNothing m next edit = (next ≡ m) × (edit ≡ None)

-- the relation allows one reply, one state after it, and one edit or none
abbrev pub IsDeterministic : {Reply Next : Type 0} → (Reply → Next → Option Edit → Type 0) → Type 0
IsDeterministic {Reply} {Next} Is =
    (reply other : Reply) (next after : Next) (edit told : Option Edit) → Is reply next edit
    → Is other after told → (reply ≡ other) × (next ≡ after) × (edit ≡ told)

-- a step of the machine from a state, on a request
pub record HasStep (root : List ℕ) (m : State) (request : Request) : Type 0 where
  pub reply : SentReply
  pub next : State
  pub edit : Option Edit
  pub step : Step root m request reply next edit

-- a step of the standards' machine from a state, on a request
pub record HasStandardStep (root : List ℕ) (m : State) (request : Request) : Type 0 where
  pub reply : SentReply
  pub next : State
  pub edit : Option Edit
  pub step : StandardStep root m request reply next edit
