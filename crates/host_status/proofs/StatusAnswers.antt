-- The answers of the server of `host`, on each state that its contents represent.
use Rattle.std.proofs.Common.{◌≡◌, ℕ, List, Option, None, Result, IfOk, true, false, refl, ap, subst, sym, ◌∙◌}
use Rattle.std.proofs.lemmas.Result.{IfOk-weaker}
use Rattle.edit_ops.specs.declared.edit.Edit.{Edit}
use Rattle.reply_text.specs.ReplyHeads.{SentReply}
use Rattle.http_wire.specs.declared.request.Request.{Request}
use Rattle.http_serve.specs.declared.machine.MachineReply.{MachineReply}
use Rattle.request_checks.specs.Methods.{method_of, reply_for_method}
use Rattle.request_checks.specs.declared.method.Method.{Method}
use Rattle.request_checks.specs.declared.method.Method.TheVariants.{Get, Head, Put, Delete, Other}
use Rattle.store_core.specs.Contents.{Represents, StoreContents, contents_of}
use Rattle.store_core.specs.State.{State}
use Rattle.store_core.specs.ValidStates.{IsValidState}
use Rattle.xcap_machine.specs.Machine.{ValidStep}
use Rattle.xcap_machine.specs.ServerStates.{ServerState}
use Rattle.host_status.specs.HostSteps.{HostStep, asks_for_status, other, status, status_reply}
use Rattle.host_status.specs.declared.answer_counts.AnswerCounts.{AnswerCounts}
use Rattle.host_status.specs.inner.StatusServers.{AnswersAsHost}

-- a reply has the status of the one that GET gets, and closes as that
status_of : (method : Method) (reply : SentReply) → (reply_for_method method reply).status ≡ reply.status
status_of Get reply = refl
status_of Head reply = refl
status_of Put reply = refl
status_of Delete reply = refl
status_of Other reply = refl

closes_of : (method : Method) (reply : SentReply) → (reply_for_method method reply).closes ≡ reply.closes
closes_of Get reply = refl
closes_of Head reply = refl
closes_of Put reply = refl
closes_of Delete reply = refl
closes_of Other reply = refl

-- the server `now`, which is `s`
module _ (s now : ServerState) (same : s ≡ now) (request : Request) where
  -- the status is answered, and nothing changes
  pub status_step : (reply : SentReply) (counts : AnswerCounts) → asks_for_status now.root request ≡ true → reply ≡ status_reply s.content counts request → AnswersAsHost now request reply now None
  status_step reply counts asks is = record {
    same_root = refl;
    steps = λ m kept stands.
        let here : s.content ≡ contents_of m = ap (λ (x : ServerState). x.content) same ∙ stands in
        (m, status counts asks kept (is ∙ ap (λ (c : StoreContents). status_reply c counts request) here) refl refl, stands);
  }

  pub status_closes : (reply : SentReply) (counts : AnswerCounts) → reply ≡ status_reply s.content counts request → reply.closes ≡ request.closes
  status_closes reply counts is = ap (λ (r : SentReply). r.closes) is ∙ closes_of (method_of request.method) _

  -- another request is answered by the machine
  pub other_step : {E : Type 0} (new : ServerState) (r : Result (MachineReply Edit) E) → asks_for_status now.root request ≡ false → new.root ≡ s.root
      → IfOk r (λ a. (m : State) → IsValidState m → Represents s.content m → (next : State) × ValidStep s.root m request a.reply next a.edit × Represents new.content next)
      → IfOk r (λ a. AnswersAsHost now request a.reply new a.edit)
  other_step new r asks stays steps =
      let each : IfOk r (λ a. (m : State) → IsValidState m → Represents now.content m → (next : State) × ValidStep now.root m request a.reply next a.edit × Represents new.content next) =
      subst (λ (x : ServerState). IfOk r (λ a. (m : State) → IsValidState m → Represents x.content m → (next : State) × ValidStep x.root m request a.reply next a.edit × Represents new.content next)) same steps in
      IfOk-weaker r _ _ (λ a does. record {
        same_root = stays ∙ ap (λ (x : ServerState). x.root) same;
        steps = λ m kept stands. let t = does m kept stands in (t.0, other asks t.1, t.2);
      }) each

-- ---- the laws of a step

module _ {root : List ℕ} {m next : State} {request : Request} {reply : SentReply} {edit : Option Edit} where
  pub by_machine : HostStep root m request reply next edit → asks_for_status root request ≡ false → ValidStep root m request reply next edit
  by_machine (status counts asks kept is same none) unasked = let never : ⊥ = cc in absurd never
  by_machine (other asks step) unasked = step

  pub next_valid : HostStep root m request reply next edit → IsValidState next
  next_valid (status counts asks kept is same none) = subst (λ (s : State). IsValidState s) (sym same) kept
  next_valid (other asks step) = step.2

module _ {root : List ℕ} {m next : State} {request : Request} {reply : SentReply} {edit : Option Edit} where
  pub status_stays : HostStep root m request reply next edit → asks_for_status root request ≡ true → (reply.status ≡ 200) × (next ≡ m) × (edit ≡ None)
  status_stays (status counts asks kept is same none) asked = (ap (λ (r : SentReply). r.status) is ∙ status_of (method_of request.method) _, same, none)
  status_stays (other asks step) asked = let never : ⊥ = cc in absurd never
