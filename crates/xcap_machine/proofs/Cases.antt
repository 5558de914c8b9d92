-- The cases of a test, of a reply that stops a request, and of a usage.
use Rattle.std.proofs.Common.{◌≡◌, ℕ, Bool, true, false, Option, None, Some, refl, subst, sym}
use Rattle.std.specs.Bool.{MatchBool}
use Rattle.doc_names.specs.declared.usages.Usage.{Usage}
use Rattle.http_wire.specs.declared.request.Request.{Request}
use Rattle.reply_text.specs.ReplyHeads.{SentReply, plain_reply}
use Rattle.request_checks.specs.Conditions.{IsConditionReply}
use Rattle.xcap_machine.specs.Answers.{Answer, AppliesConditions, reply_only}
use Rattle.xcap_machine.specs.inner.AnswerCases.{AnswersUnlessStopped}
use Rattle.xcap_machine.specs.DocumentWrites.{WritesIfStored}
use Rattle.xcap_machine.specs.inner.RecordValues.{representation}

-- either case of a test
pub either : {X : Type 0} (b : Bool) (P Q : Type 0) → (b ≡ true → P → X) → (b ≡ false → Q → X) → MatchBool b P Q → X
either true P Q p q h = p refl h
either false P Q p q h = q refl h

-- a test that holds, and one that doesn't
pub at_true : (b : Bool) (P Q : Type 0) → b ≡ true → P → MatchBool b P Q
at_true b P Q is p = subst (λ (t : Bool). MatchBool t P Q) (sym is) p

pub at_false : (b : Bool) (P Q : Type 0) → b ≡ false → Q → MatchBool b P Q
at_false b P Q is q = subst (λ (t : Bool). MatchBool t P Q) (sym is) q

-- a reply that stops the request is the answer; without one, what follows counts
module _ (request : Request) (tag : Option ℕ) (exists reading : Bool) (stop : Option SentReply) (is : IsConditionReply request tag exists reading stop) where
  pub stopped : (reply : SentReply) (P : Type 0) → stop ≡ Some reply → AppliesConditions request (representation tag exists) reading (reply_only reply) P
  stopped reply P so = (stop, is, subst (λ (s : Option SentReply). AnswersUnlessStopped s (reply_only reply) P) (sym so) refl)

  pub unstopped : (a : Answer) (P : Type 0) → stop ≡ None → P → AppliesConditions request (representation tag exists) reading a P
  unstopped a P so p = (stop, is, subst (λ (s : Option SentReply). AnswersUnlessStopped s a P) (sym so) p)

-- a usage that stores documents, and one that doesn't
pub stored : (u : Option Usage) (request : Request) (a : Answer) (P : Usage → Type 0) (usage : Usage) → u ≡ Some usage → P usage → WritesIfStored u request a P
stored u request a P usage is p = subst (λ (x : Option Usage). WritesIfStored x request a P) (sym is) p

pub not_stored : (u : Option Usage) (request : Request) (P : Usage → Type 0) → u ≡ None → WritesIfStored u request (reply_only (plain_reply 403 request.closes)) P
not_stored u request P is = subst (λ (x : Option Usage). WritesIfStored x request (reply_only (plain_reply 403 request.closes)) P) (sym is) refl
