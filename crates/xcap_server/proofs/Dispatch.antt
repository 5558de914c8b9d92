-- One line of the table after the other: each decision is the one that the previous lines call
-- for.
use Rattle.std.proofs.Common.{◌≡◌, ◌⊎◌, inl, inr, ℕ, Bool, true, false, not, if◌then◌else◌, List, Option, None, Some, Result, Ok, Err, IfOk, refl, sym, ap, subst, ◌∙◌}
use Rattle.doc_names.specs.Usages.{usage_of}
use Rattle.doc_names.specs.declared.doc_id.Auid.{Auid}
use Rattle.doc_names.specs.declared.doc_id.Home.{Home}
use Rattle.doc_names.specs.declared.doc_id.Home.TheVariants.{Global, User}
use Rattle.doc_names.specs.declared.usages.Usage.{Usage}
use Rattle.xml_names.specs.ReadErrors.{ResultSatisfies}
use Rattle.xml_names.specs.declared.read_error.ReadError.{ReadError}
use Rattle.xml_names.specs.declared.read_error.ReadError.TheVariants.{Fault}
use Rattle.xcap_uri.specs.Targets.{IsTargetResult}
use Rattle.xcap_uri.specs.declared.fault.UriFault.{UriFault}
use Rattle.xcap_uri.specs.declared.target.Target.{Target}
use Rattle.reply_text.specs.ReplyHeads.{SentReply, plain_reply}
use Rattle.http_wire.specs.declared.request.Field.{Field}
use Rattle.http_wire.specs.declared.request.Request.{Request}
use Rattle.request_checks.specs.Methods.{method_of, is_reading}
use Rattle.request_checks.specs.Rights.{is_allowed}
use Rattle.request_checks.specs.declared.method.Method.{Method}
use Rattle.request_checks.specs.declared.method.Method.TheVariants.{Get, Head, Put, Delete, Other}
use Rattle.store_core.specs.StoreViews.{StoreView}
use Rattle.store_core.specs.ValidStates.{IsUserHome}
use Rattle.store_core.specs.Contents.{StoreContents as Content}
use Rattle.xcap_machine.specs.Answers.{Answer, not_allowed_reply, reply_only}
use Rattle.xcap_machine.specs.Requests.{AnswersByTarget, IsAnswer, fault_status}
use Rattle.xcap_machine.specs.inner.AnswerCases.{AnswersByMethod, ReadsTarget as Reads}
use Rattle.xcap_machine.specs.StandardRequests.{DeletesTarget, PutsTarget, auid_of, home_of, is_read_only, allows_method}
use Rattle.xcap_machine.specs.ServerStates.{ServerState}
use Rattle.xcap_machine.specs.inner.RecordValues.{read_request, server_state}
use Rattle.xcap_machine.proofs.Cases.{at_false, at_true, not_stored, stored}
use Rattle.xcap_put.specs.Decisions.{DecidesAnswer}
use Rattle.xcap_put.specs.declared.decision.Decision.{Decision}
use Rattle.xcap_put.specs.declared.decision.Decision.TheVariants.{Stays}
use Rattle.xcap_put.proofs.DecisionAnswers.{all_so, stays}
use Rattle.xcap_server.specs.inner.WritableTargets.{IsWriting, usage_to_write}

-- the methods that write, and those that read
writes : (method : Method) → IsWriting method → is_reading method ≡ false
writes Get w = absurd w
writes Head w = absurd w
writes Put w = refl
writes Delete w = refl
writes Other w = absurd w

pub reads_either : (method : Method) → (method ≡ Get) ⊎ (method ≡ Head) → is_reading method ≡ true
reads_either method (inl is) = ap is_reading is
reads_either method (inr is) = ap is_reading is

-- only users write, each in a home of their own
owned_home : (auid : Auid) (home : Home) (fields : List Field) → is_allowed true auid home fields ≡ true → IsUserHome home
owned_home auid Global fields is = let no : ⊥ = cc in absurd no
owned_home auid (User xui) fields is = tt

-- what a test and an option behind it give
both_some : (b : Bool) (o : Option Usage) (usage : Usage) → (if b then o else None) ≡ Some usage → (b ≡ true) × (o ≡ Some usage)
both_some true o usage is = (refl, is)
both_some false o usage is = let no : ⊥ = cc in absurd no

either_none : (b : Bool) (o : Option Usage) → (if b then o else None) ≡ None → (b ≡ false) ⊎ ((b ≡ true) × (o ≡ None))
either_none true o is = inr (refl, is)
either_none false o is = inl refl

module _ (server : ServerState) (target : Target) (request : Request) where
  -- the methods that the target allows
  takes_reading : (method : Method) → is_reading method ≡ true → allows_method target method ≡ true
  takes_reading Get is = refl
  takes_reading Head is = refl
  takes_reading Put is = let no : ⊥ = cc in absurd no
  takes_reading Delete is = let no : ⊥ = cc in absurd no
  takes_reading Other is = let no : ⊥ = cc in absurd no

  takes_writing : (method : Method) → IsWriting method → allows_method target method ≡ not (is_read_only target)
  takes_writing Get w = absurd w
  takes_writing Head w = absurd w
  takes_writing Put w = refl
  takes_writing Delete w = refl
  takes_writing Other w = absurd w

  -- the user's right, by the method
  right_to_read : (method : Method) (b : Bool) → is_reading method ≡ true → is_allowed false (auid_of target) (home_of target) request.fields ≡ b → is_allowed (not (is_reading method)) (auid_of target) (home_of target) request.fields ≡ b
  right_to_read method b is so = ap (λ (r : Bool). is_allowed (not r) (auid_of target) (home_of target) request.fields) is ∙ so

  right_to_write : (method : Method) (b : Bool) → IsWriting method → is_allowed true (auid_of target) (home_of target) request.fields ≡ b → is_allowed (not (is_reading method)) (auid_of target) (home_of target) request.fields ≡ b
  right_to_write method b w so = ap (λ (r : Bool). is_allowed (not r) (auid_of target) (home_of target) request.fields) (writes method w) ∙ so

  -- the target doesn't allow the method
  not_taken : (method : Method) (reply : SentReply) → allows_method target method ≡ false → reply ≡ not_allowed_reply (is_read_only target) request.closes → AnswersByTarget server target method request (reply_only reply)
  not_taken method reply is so = at_false _ _ _ is (ap reply_only so)

  pub other_refused : (method : Method) (reply : SentReply) → method ≡ Other → reply ≡ not_allowed_reply (is_read_only target) request.closes → AnswersByTarget server target method request (reply_only reply)
  other_refused method reply is so = not_taken method reply (ap (allows_method target) is) so

  pub read_only_refused : (method : Method) (reply : SentReply) → IsWriting method → is_read_only target ≡ true → reply ≡ not_allowed_reply true request.closes → AnswersByTarget server target method request (reply_only reply)
  read_only_refused method reply w is so =
      not_taken method reply (takes_writing method w ∙ ap not is) (so ∙ ap (λ (b : Bool). not_allowed_reply b request.closes) (sym is))

  -- the user isn't allowed to ask
  user_refused : (method : Method) (reply : SentReply) → allows_method target method ≡ true → is_allowed (not (is_reading method)) (auid_of target) (home_of target) request.fields ≡ false → reply ≡ plain_reply 403 request.closes
      → AnswersByTarget server target method request (reply_only reply)
  user_refused method reply taken is so = at_true _ _ _ taken (at_false _ _ _ is (ap reply_only so))

  pub reading_refused : (method : Method) (reply : SentReply) → is_reading method ≡ true → is_allowed false (auid_of target) (home_of target) request.fields ≡ false → reply ≡ plain_reply 403 request.closes
      → AnswersByTarget server target method request (reply_only reply)
  reading_refused method reply reading is so = user_refused method reply (takes_reading method reading) (right_to_read method false reading is) so

  -- the usage stores no documents
  unstored : (method : Method) → IsWriting method → usage_of (auid_of target) ≡ None → AnswersByMethod server target method request (reply_only (plain_reply 403 request.closes))
  unstored Get w is = absurd w
  unstored Head w is = absurd w
  unstored Put w is = not_stored (usage_of (auid_of target)) request (λ u. PutsTarget server target u request (reply_only (plain_reply 403 request.closes))) is
  unstored Delete w is = not_stored (usage_of (auid_of target)) request (λ u. DeletesTarget server.content target u request (reply_only (plain_reply 403 request.closes))) is
  unstored Other w is = absurd w

  refused_by : (method : Method) (reply : SentReply) → IsWriting method → allows_method target method ≡ true → reply ≡ plain_reply 403 request.closes
      → (is_allowed true (auid_of target) (home_of target) request.fields ≡ false) ⊎ ((is_allowed true (auid_of target) (home_of target) request.fields ≡ true) × (usage_of (auid_of target) ≡ None)) → AnswersByTarget server target method request (reply_only reply)
  refused_by method reply w taken so (inl denied) = user_refused method reply taken (right_to_write method false w denied) so
  refused_by method reply w taken so (inr (allowed, unkept)) =
      let is : AnswersByTarget server target method request (reply_only (plain_reply 403 request.closes)) = at_true _ _ _ taken (at_true _ _ _ (right_to_write method true w allowed) (unstored method w unkept)) in
      subst (λ (r : SentReply). AnswersByTarget server target method request (reply_only r)) (sym so) is

  pub writing_refused : (method : Method) (reply : SentReply) → IsWriting method → is_read_only target ≡ false → usage_to_write target request ≡ None → reply ≡ plain_reply 403 request.closes → AnswersByTarget server target method request (reply_only reply)
  writing_refused method reply w is none so =
      refused_by method reply w (takes_writing method w ∙ ap not is) so (either_none (is_allowed true (auid_of target) (home_of target) request.fields) (usage_of (auid_of target)) none)

module _ (root : List ℕ) (c : Content) (target : Target) (request : Request) (s : StoreView) where
  -- a decision that is a reply
  pub turned : (method : Method) (d : Decision) (reply : SentReply) → d ≡ Stays reply → AnswersByTarget (server_state root c) target method request (reply_only reply) → DecidesAnswer (AnswersByTarget (server_state root c) target method request) s d
  turned method d reply so is =
      subst (λ (x : Decision). DecidesAnswer (AnswersByTarget (server_state root c) target method request) s x) (sym so) (stays (AnswersByTarget (server_state root c) target method request) s reply is)

  -- ---- by method

  method_reads : (method : Method) (reply : SentReply) → is_reading method ≡ true → Reads (server_state root c) target (read_request method request) (reply_only reply) → AnswersByMethod (server_state root c) target method request (reply_only reply)
  method_reads Get reply is so = so
  method_reads Head reply is so = so
  method_reads Put reply is so = let no : ⊥ = cc in absurd no
  method_reads Delete reply is so = let no : ⊥ = cc in absurd no
  method_reads Other reply is so = let no : ⊥ = cc in absurd no

  pub decides_reading : (method : Method) (reply : SentReply) → is_reading method ≡ true → is_allowed false (auid_of target) (home_of target) request.fields ≡ true → Reads (server_state root c) target (read_request method request) (reply_only reply)
      → DecidesAnswer (AnswersByTarget (server_state root c) target method request) s (Stays reply)
  decides_reading method reply is allowed so =
      stays (AnswersByTarget (server_state root c) target method request) s reply
      (at_true _ _ _ (takes_reading (server_state root c) target request method is) (at_true _ _ _ (right_to_read (server_state root c) target request method true is allowed) (method_reads method reply is so)))

  -- a target in a usage that stores documents, where the user may write
  module _ (t : Target) (usage : Usage) (same : t ≡ target) (some : usage_to_write target request ≡ Some usage) where
    rights : (is_allowed true (auid_of target) (home_of target) request.fields ≡ true) × (usage_of (auid_of target) ≡ Some usage)
    rights = both_some (is_allowed true (auid_of target) (home_of target) request.fields) (usage_of (auid_of target)) usage some

    pub user_home : IsUserHome (home_of t)
    user_home = subst (λ (x : Target). IsUserHome (home_of x)) (sym same) (owned_home (auid_of target) (home_of target) request.fields rights.0)

    pub usage_is : usage_of (auid_of t) ≡ Some usage
    usage_is = ap (λ (x : Target). usage_of (auid_of x)) same ∙ rights.1

    pub decides_put : {E : Type 0} (r : Result Decision E) → is_read_only target ≡ false → IfOk r (λ d. DecidesAnswer (PutsTarget (server_state root c) t usage request) s d)
        → IfOk r (λ d. DecidesAnswer (AnswersByTarget (server_state root c) target Put request) s d)
    decides_put r is decides =
        all_so (PutsTarget (server_state root c) t usage request) s (AnswersByTarget (server_state root c) target Put request)
        (λ a so. at_true _ _ _ (ap not is) (at_true _ _ _ rights.0 (stored (usage_of (auid_of target)) request a (λ u. PutsTarget (server_state root c) target u request a) usage rights.1
        (subst (λ (x : Target). PutsTarget (server_state root c) x usage request a) same so)))) r decides

    pub decides_delete : {E : Type 0} (r : Result Decision E) → is_read_only target ≡ false → IfOk r (λ d. DecidesAnswer (DeletesTarget c t usage request) s d)
        → IfOk r (λ d. DecidesAnswer (AnswersByTarget (server_state root c) target Delete request) s d)
    decides_delete r is decides =
        all_so (DeletesTarget c t usage request) s (AnswersByTarget (server_state root c) target Delete request)
        (λ a so. at_true _ _ _ (ap not is) (at_true _ _ _ rights.0 (stored (usage_of (auid_of target)) request a (λ u. DeletesTarget c target u request a) usage rights.1
        (subst (λ (x : Target). DeletesTarget c x usage request a) same so)))) r decides

module _ (root : List ℕ) (c : Content) (request : Request) (s : StoreView) where
  target_so : (target : Target) (method : Method) (a : Answer) → IsTargetResult root request.target (Ok target) → method ≡ method_of request.method → AnswersByTarget (server_state root c) target method request a → IsAnswer root c request a
  target_so target method a answers is so = (Ok target, answers, subst (λ (m : Method). AnswersByTarget (server_state root c) target m request a) is so)

  -- a target that was read is decided
  pub target_decided : {E : Type 0} (target : Target) (method : Method) (r : Result Decision E) → IsTargetResult root request.target (Ok target) → method ≡ method_of request.method
      → IfOk r (λ d. DecidesAnswer (AnswersByTarget (server_state root c) target method request) s d) → IfOk r (λ d. DecidesAnswer (IsAnswer root c request) s d)
  target_decided target method r answers is decides = all_so (AnswersByTarget (server_state root c) target method request) s (IsAnswer root c request) (λ a so. target_so target method a answers is so) r decides

  -- the answer to a target with a fault
  pub fault_decided : (target : List ℕ) (read : Result Target (ReadError UriFault)) (error : ReadError UriFault) (fault : UriFault) (d : Decision) → target ≡ request.target → read ≡ Err error → error ≡ Fault fault → ResultSatisfies (IsTargetResult root target) read
      → d ≡ Stays (plain_reply (fault_status fault) request.closes) → DecidesAnswer (IsAnswer root c request) s d
  fault_decided target read error fault d same is told_so answers told =
      let of_error : ResultSatisfies (IsTargetResult root target) (Err error) = subst (λ (r : Result Target (ReadError UriFault)). ResultSatisfies (IsTargetResult root target) r) is answers in
      let of_fault : IsTargetResult root target (Err fault) = subst (λ (e : ReadError UriFault). ResultSatisfies (IsTargetResult root target) (Err e)) told_so of_error in
      let of_request : IsTargetResult root request.target (Err fault) = subst (λ (t : List ℕ). IsTargetResult root t (Err fault)) same of_fault in
      subst (λ (x : Decision). DecidesAnswer (IsAnswer root c request) s x) (sym told) (stays (IsAnswer root c request) s (plain_reply (fault_status fault) request.closes) (Err fault, of_request, refl))
