-- A feed whose changes are known isn't answered with 410.
use Rattle.std.proofs.Common.{◌≡◌, ℕ, false, List, Result, Ok, sym, ap, ◌∙◌, subst, arith}
use Rattle.doc_names.specs.declared.doc_id.DocId.{DocId}
use Rattle.edit_ops.specs.Notes.{Note}
use Rattle.http_wire.specs.declared.request.Request.{Request}
use Rattle.reply_text.specs.ReplyHeads.{plain_reply}
use Rattle.request_checks.specs.Methods.{method_of}
use Rattle.request_checks.specs.Rights.{is_allowed}
use Rattle.request_checks.specs.declared.method.Method.{Method}
use Rattle.request_checks.specs.declared.method.Method.TheVariants.{Get, Head, Put, Delete, Other}
use Rattle.store_core.specs.Contents.{StoreContents}
use Rattle.store_core.specs.Since.{ChangesSince, ReportedChanges, since}
use Rattle.xcap_uri.specs.Targets.{IsTargetResult}
use Rattle.xcap_uri.specs.declared.fault.UriFault.{UriFault}
use Rattle.xcap_uri.specs.declared.target.Mode.{Mode}
use Rattle.xcap_uri.specs.declared.target.Target.{Target}
use Rattle.xcap_uri.specs.declared.target.Target.TheVariants.{Feed}
use Rattle.xcap_uri.proofs.TargetAnswers.{one_target}
use Rattle.xcap_machine.specs.Answers.{Answer, reply_only}
use Rattle.xcap_machine.specs.Feeds.{changes_since_answer}
use Rattle.xcap_machine.specs.Requests.{AnswersByTarget, IsAnswer}
use Rattle.xcap_machine.specs.inner.AnswerCases.{AnswersByMethod}
use Rattle.xcap_machine.specs.StandardRequests.{auid_of, home_of}
use Rattle.xcap_machine.specs.inner.AnswerCases.{IsAnswerByTarget}
use Rattle.xcap_machine.specs.inner.RecordValues.{feed_query, read_request, server_state}
use Rattle.xcap_machine.proofs.Cases.{either}

module _ (root : List ℕ) (c : StoreContents) (request : Request) (a : Answer) (mode : Mode) (tag : ℕ) (id : DocId) (ns : List Note) (known : since c id tag ≡ ReportedChanges ns) where
  read_status : (method : Method) → a ≡ changes_since_answer root (feed_query mode tag id) (ReportedChanges ns) (read_request method request) → a.reply.status ≡ 200
  read_status Get is = ap (λ (x : Answer). x.reply.status) is
  read_status Head is = ap (λ (x : Answer). x.reply.status) is
  read_status Put is = ap (λ (x : Answer). x.reply.status) is
  read_status Delete is = ap (λ (x : Answer). x.reply.status) is
  read_status Other is = ap (λ (x : Answer). x.reply.status) is

  read_known : (method : Method) → a ≡ changes_since_answer root (feed_query mode tag id) (since c id tag) (read_request method request) → a.reply.status ≡ 410 → ⊥
  read_known method is gone =
      let ok : a.reply.status ≡ 200 = read_status method (is ∙ ap (λ (s : ChangesSince). changes_since_answer root (feed_query mode tag id) s (read_request method request)) known) in
      absurd (omega (arith, ok, gone))

  other_status : (status : ℕ) → a.reply.status ≡ status → (status ≡ 410 → ⊥) → a.reply.status ≡ 410 → ⊥
  other_status status is other gone = other (sym is ∙ gone)

  by_method : (method : Method) → AnswersByTarget (server_state root c) (Feed mode tag id) method request a → a.reply.status ≡ 410 → ⊥
  by_method Get is =
      either (is_allowed false (auid_of (Feed mode tag id)) (home_of (Feed mode tag id)) request.fields) (AnswersByMethod (server_state root c) (Feed mode tag id) Get request a) (a ≡ reply_only (plain_reply 403 request.closes)) (λ _. read_known Get)
      (λ _ s. other_status 403 (ap (λ (x : Answer). x.reply.status) s) (λ e. omega (arith, e))) is
  by_method Head is =
      either (is_allowed false (auid_of (Feed mode tag id)) (home_of (Feed mode tag id)) request.fields) (AnswersByMethod (server_state root c) (Feed mode tag id) Head request a) (a ≡ reply_only (plain_reply 403 request.closes)) (λ _. read_known Head)
      (λ _ s. other_status 403 (ap (λ (x : Answer). x.reply.status) s) (λ e. omega (arith, e))) is
  by_method Put is = other_status 405 (ap (λ (x : Answer). x.reply.status) is) (λ e. omega (arith, e))
  by_method Delete is = other_status 405 (ap (λ (x : Answer). x.reply.status) is) (λ e. omega (arith, e))
  by_method Other is = other_status 405 (ap (λ (x : Answer). x.reply.status) is) (λ e. omega (arith, e))

  pub known_is_answered : IsAnswer root c request a → IsTargetResult root request.target (Ok (Feed mode tag id)) → a.reply.status ≡ 410 → ⊥
  known_is_answered is target =
      let same : is.0 ≡ Ok (Feed mode tag id) = one_target root request.target is.0 (Ok (Feed mode tag id)) is.1 target in
      by_method (method_of request.method) (subst (λ (read : Result Target UriFault). IsAnswerByTarget root c read request a) same is.2)
