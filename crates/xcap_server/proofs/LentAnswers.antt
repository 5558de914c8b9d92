-- Answers whose body is lent: exactly where the machine gives one.
use Rattle.std.proofs.Common.{◌≡◌, IfSome, ℕ, Bool, true, false, not, List, Option, None, Some, Result, Ok, Err, IfOk, refl, sym, ap, ◌∙◌, subst, arith}
use Rattle.std.specs.Prelude.{if◌then◌else◌}
use Rattle.std.proofs.lemmas.Result.{IfOk-weaker}
use Rattle.xml_names.specs.ReadErrors.{ResultSatisfies}
use Rattle.xml_names.specs.declared.read_error.ReadError.{ReadError}
use Rattle.xml_names.specs.declared.read_error.ReadError.TheVariants.{Fault}
use Rattle.xcap_uri.specs.Targets.{IsTargetResult, is_element_end}
use Rattle.xcap_uri.specs.declared.fault.UriFault.{UriFault}
use Rattle.xcap_uri.specs.declared.target.Target.{Target}
use Rattle.xcap_uri.specs.declared.target.Target.TheVariants.{Document, Node}
use Rattle.doc_names.specs.declared.doc_id.DocId.{DocId}
use Rattle.node_select.specs.declared.selector.Selector.{Selector}
use Rattle.xcap_uri.proofs.TargetAnswers.{one_target}
use Rattle.reply_text.specs.ReplyHeads.{SentReply, plain_reply}
use Rattle.http_wire.specs.declared.request.Request.{Request}
use Rattle.request_checks.specs.Methods.{method_of, is_reading}
use Rattle.request_checks.specs.Rights.{is_allowed}
use Rattle.request_checks.specs.declared.method.Method.{Method}
use Rattle.request_checks.specs.declared.method.Method.TheVariants.{Get, Head, Put, Delete, Other}
use Rattle.store_core.specs.Contents.{StoreContents}
use Rattle.xcap_machine.specs.Answers.{Answer, reply_only}
use Rattle.xcap_machine.specs.ReadRequests.{ReadsDocument, ReadsNode}
use Rattle.xcap_machine.specs.Requests.{AnswersByTarget, IsAnswer}
use Rattle.xcap_machine.specs.StandardRequests.{auid_of, home_of}
use Rattle.xcap_machine.specs.inner.AnswerCases.{ReadsTarget}
use Rattle.xcap_machine.specs.ServerStates.{ServerState}
use Rattle.xcap_machine.specs.inner.RecordValues.{read_request, server_state}
use Rattle.xcap_machine.proofs.Cases.{at_false, at_true}
use Rattle.xcap_machine.proofs.OneAnswer.{one_answer}
use Rattle.xcap_machine.proofs.Steps.{answer_closes}
use Rattle.xcap_server.specs.inner.ServerSteps.{AnswersRequest}
use Rattle.xcap_get.specs.LentReplies.{LendsFound, LendsFoundReply, LendsIf, is_get, is_lendable, is_stored_home}

forbidden_status : (status : ℕ) → status ≡ 403 → status ≡ 200 → ⊥
forbidden_status status forbidden found = omega (arith, forbidden, found)

-- ---- the target

module _ (target : Target) (doc : DocId) (c : StoreContents) (request : Request) where
  pub lends_target_document : {E : Type 0} (r : Result (Option SentReply) E) → target ≡ Document doc → IfOk r (λ lent. LendsIf (is_stored_home doc.home) (ReadsDocument c doc (read_request Get request)) lent)
      → IfOk r (λ lent. (root : List ℕ) → LendsIf (is_lendable target) (ReadsTarget (server_state root c) target (read_request Get request)) lent)
  lends_target_document r is lends =
      subst (λ (t : Target). IfOk r (λ lent. (root : List ℕ) → LendsIf (is_lendable t) (ReadsTarget (server_state root c) t (read_request Get request)) lent)) (sym is)
      (IfOk-weaker r _ _ (λ lent so root. so) lends)

  pub lends_target_node : {E : Type 0} (selector : Selector) (r : Result (Option SentReply) E) → target ≡ Node doc selector → IfOk r (λ lent. LendsIf (if is_element_end selector.end then is_stored_home doc.home else false) (ReadsNode c doc selector (read_request Get request)) lent)
      → IfOk r (λ lent. (root : List ℕ) → LendsIf (is_lendable target) (ReadsTarget (server_state root c) target (read_request Get request)) lent)
  lends_target_node selector r is lends =
      subst (λ (t : Target). IfOk r (λ lent. (root : List ℕ) → LendsIf (is_lendable t) (ReadsTarget (server_state root c) t (read_request Get request)) lent)) (sym is)
      (IfOk-weaker r _ _ (λ lent so root. so) lends)

-- ---- the user

module _ (target : Target) (c : StoreContents) (request : Request) where
  -- nothing is lent to a user who may not read
  pub lends_refused : is_allowed (not (is_reading Get)) (auid_of target) (home_of target) request.fields ≡ false → (root : List ℕ) → LendsIf (is_lendable target) (AnswersByTarget (server_state root c) target Get request) None
  lends_refused refused root = by (is_lendable target)
    where
      by : (b : Bool) → LendsIf b (AnswersByTarget (server_state root c) target Get request) None
      by true = (plain_reply 403 request.closes, at_false _ _ _ refused refl, forbidden_status 403 refl)
      by false = refl

  wider : (Narrow Wide : Answer → Type 0) → ((a : Answer) → Narrow a → Wide a) → (lent : Option SentReply) → LendsFound Narrow lent → LendsFound Wide lent
  wider Narrow Wide up None lends = (lends.0, up (reply_only lends.0) lends.1, lends.2)
  wider Narrow Wide up (Some reply) lends = (up (reply_only reply) lends.0, lends.1)

  wider_if : (b : Bool) (Narrow Wide : Answer → Type 0) → ((a : Answer) → Narrow a → Wide a) → (lent : Option SentReply) → LendsIf b Narrow lent → LendsIf b Wide lent
  wider_if true Narrow Wide up lent lends = wider Narrow Wide up lent lends
  wider_if false Narrow Wide up lent lends = lends

  -- a user who may read gets what the target gives
  pub lends_allowed : {E : Type 0} (r : Result (Option SentReply) E) → is_allowed (not (is_reading Get)) (auid_of target) (home_of target) request.fields ≡ true
      → IfOk r (λ lent. (root : List ℕ) → LendsIf (is_lendable target) (ReadsTarget (server_state root c) target (read_request Get request)) lent)
      → IfOk r (λ lent. (root : List ℕ) → LendsIf (is_lendable target) (AnswersByTarget (server_state root c) target Get request) lent)
  lends_allowed r allowed lends =
      IfOk-weaker r _ _ (λ lent so root. wider_if (is_lendable target) (ReadsTarget (server_state root c) target (read_request Get request)) (AnswersByTarget (server_state root c) target Get request)
      (λ a read. at_true _ _ _ allowed read) lent (so root)) lends

-- ---- the request

module _ (root : List ℕ) (c : StoreContents) (request : Request) where
  -- another method
  pub lends_no_other_method : is_get (method_of request.method) ≡ false → LendsFoundReply root c request None
  lends_no_other_method other reply found = let gets = found.gets in let no : ⊥ = cc in no

  -- a target that can't be read
  pub lends_no_fault : (target : List ℕ) (read : Result Target (ReadError UriFault)) (error : ReadError UriFault) (fault : UriFault) → target ≡ request.target → read ≡ Err error → error ≡ Fault fault → ResultSatisfies (IsTargetResult root target) read
      → LendsFoundReply root c request None
  lends_no_fault target read error fault same is faulty answers reply found =
      let of_error : ResultSatisfies (IsTargetResult root target) (Err error) = subst (λ (r : Result Target (ReadError UriFault)). ResultSatisfies (IsTargetResult root target) r) is answers in
      let of_fault : IsTargetResult root target (Err fault) = subst (λ (e : ReadError UriFault). ResultSatisfies (IsTargetResult root target) (Err e)) faulty of_error in
      let of_request : IsTargetResult root request.target (Err fault) = subst (λ (t : List ℕ). IsTargetResult root t (Err fault)) same of_fault in
      let both = one_target root request.target (Err fault) (Ok found.target) of_request found.means in
      let no : ⊥ = cc in no

  module _ (target : Target) (means : IsTargetResult root request.target (Ok target)) (gets : is_get (method_of request.method) ≡ true) where
    get_is : (m : Method) → is_get m ≡ true → m ≡ Get
    get_is Get is = refl
    get_is Head is = let no : ⊥ = cc in absurd no
    get_is Put is = let no : ⊥ = cc in absurd no
    get_is Delete is = let no : ⊥ = cc in absurd no
    get_is Other is = let no : ⊥ = cc in absurd no

    answer : (reply : SentReply) → AnswersByTarget (server_state root c) target Get request (reply_only reply) → IsAnswer root c request (reply_only reply)
    answer reply so = (Ok target, means, subst (λ (m : Method). AnswersByTarget (server_state root c) target m request (reply_only reply)) (sym (get_is (method_of request.method) gets)) so)

    same_target : (t : Target) → IsTargetResult root request.target (Ok t) → t ≡ target
    same_target t is = same_ok t target (one_target root request.target (Ok t) (Ok target) is means)
      where
        same_ok : (a b : Target) → (let x : Result Target UriFault = Ok a in x) ≡ Ok b → a ≡ b
        same_ok a b e = cc

    by_lendable : (b : Bool) (lent : Option SentReply) → is_lendable target ≡ b → LendsIf b (AnswersByTarget (server_state root c) target Get request) lent → LendsFoundReply root c request lent
    by_lendable true None is lends = λ reply found.
        let same : reply_only lends.0 ≡ reply_only reply = one_answer root c request (reply_only lends.0) (reply_only reply) (answer lends.0 lends.1) found.answers in
        lends.2 (ap (λ (a : Answer). a.reply.status) same ∙ found.found)
    by_lendable true (Some reply) is lends = record { target = target; means = means; lendable = is; gets = gets; answers = answer reply lends.0; found = lends.1 }
    by_lendable false None is lends = λ reply found.
        let yes : is_lendable target ≡ true = ap (λ (t : Target). is_lendable t) (sym (same_target found.target found.means)) ∙ found.lendable in
        let no : ⊥ = cc in no
    by_lendable false (Some reply) is lends = let no : ⊥ = cc in absurd no

    -- what the target lends
    pub lends_found : {E : Type 0} (r : Result (Option SentReply) E) → IfOk r (λ lent. (root : List ℕ) → LendsIf (is_lendable target) (AnswersByTarget (server_state root c) target Get request) lent)
        → IfOk r (λ lent. LendsFoundReply root c request lent)
    lends_found r lends = IfOk-weaker r _ _ (λ lent so. by_lendable (is_lendable target) lent refl (so root)) lends

-- ---- the server's step

-- a lent reply is a step of the server that changes nothing
lends_one : (server : ServerState) (request : Request) (lent : Option SentReply) → LendsFoundReply server.root server.content request lent → IfSome lent (λ reply. AnswersRequest server request reply server None)
lends_one server request None lends = tt
lends_one server request (Some reply) lends = record { does = record { answers = lends.answers; goes_on = refl }; same_root = refl }

pub lends_step : {E : Type 0} (server : ServerState) (request : Request) (r : Result (Option SentReply) E) → IfOk r (λ lent. LendsFoundReply server.root server.content request lent)
    → IfOk r (λ lent. IfSome lent (λ reply. AnswersRequest server request reply server None))
lends_step server request r lends = IfOk-weaker r _ _ (λ lent so. lends_one server request lent so) lends

lends_closes_one : (server : ServerState) (request : Request) (lent : Option SentReply) → LendsFoundReply server.root server.content request lent → IfSome lent (λ reply. reply.closes ≡ request.closes)
lends_closes_one server request None lends = tt
lends_closes_one server request (Some reply) lends = answer_closes server.root server.content request (reply_only reply) lends.answers

pub lends_closing : {E : Type 0} (server : ServerState) (request : Request) (r : Result (Option SentReply) E) → IfOk r (λ lent. LendsFoundReply server.root server.content request lent) → IfOk r (λ lent. IfSome lent (λ reply. reply.closes ≡ request.closes))
lends_closing server request r lends = IfOk-weaker r _ _ (λ lent so. lends_closes_one server request lent so) lends
