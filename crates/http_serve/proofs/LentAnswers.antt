-- Replies to a request that was read, as answers to what the reader returned.
use Rattle.std.proofs.Common.{◌≡◌, ℕ, List, inl, inr, refl, sym, subst, Option, None, Some, IfSome}
use Rattle.reply_text.specs.ReplyHeads.{SentReply}
use Rattle.http_wire.specs.declared.request.Request.{Request}
use Rattle.http_wire.specs.declared.request.Asked.{Asked}
use Rattle.http_wire.specs.declared.request.Asked.TheVariants.{Request as Requested}
use Rattle.http_wire.specs.declared.close_reason.CloseReason.{CloseReason}
use Rattle.http_serve.specs.ReplyBytes.{StepsInBytes}
use Rattle.http_serve.specs.ItemAnswers.{AnswersNextRequest, IsFixedReply}
use Rattle.http_serve.specs.inner.AskedRequests.{HasRequest}
use Rattle.http_serve.specs.inner.SentReplies.{SendsAnswer}

module _ {M E : Type 0} (Step : M → Request → SentReply → M → Option E → Type 0) (machine : M) (request : Request) (asked : Asked) (is : asked ≡ Requested request) where
  -- the machine's step
  pub step_answer : (next : M) (reply : SentReply) (edit : Option E) → Step machine request reply next edit → reply.closes ≡ request.closes → AnswersNextRequest (StepsInBytes Step) machine asked reply edit next
  step_answer next reply edit step closes =
      subst (λ (a : Asked). AnswersNextRequest (StepsInBytes Step) machine a reply edit next) (sym is) (inl (record { reply = reply; written = refl; step = step }, closes))

  pub lent_answer : (lent : Option SentReply) → IfSome lent (λ reply. Step machine request reply machine None) → IfSome lent (λ reply. reply.closes ≡ request.closes)
      → IfSome lent (λ reply. AnswersNextRequest (StepsInBytes Step) machine asked reply None machine)
  lent_answer None steps closes = tt
  lent_answer (Some reply) step closes = step_answer machine reply None step closes

module _ {M E : Type 0} (Step : M → Request → List ℕ → M → Option E → Type 0) (machine next : M) (asked : Asked) where
  -- the fixed 503
  pub fixed_answer : (reply : SentReply) (edit : Option E) → HasRequest asked → IsFixedReply 503 machine reply edit next → AnswersNextRequest Step machine asked reply edit next
  fixed_answer reply edit has fix = subst (λ (a : Asked). AnswersNextRequest Step machine a reply edit next) (sym has.1) (inr fix)

  -- a reply that was sent after the machine had no memory
  pub unanswered : (ending : Option CloseReason) (old new : List ℕ) (s : SendsAnswer Step next asked ending old new) → next ≡ machine → AnswersNextRequest Step machine asked s.reply None next
  unanswered ending old new s is = subst (λ (m : M). AnswersNextRequest Step m asked s.reply None next) is s.answers

-- a machine that didn't change can answer one more request
pub same_takes : {M : Type 0} (takes : M → ℕ → Type 0) (machine next : M) → next ≡ machine → takes machine 1 → takes next 1
same_takes takes machine next is can = subst (λ m. takes m 1) (sym is) can
