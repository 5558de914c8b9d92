-- A forbidden request has one answer, whatever is stored.
use Rattle.std.proofs.Common.{◌≡◌, ℕ, Bool, true, false, not, List, Option, None, Some, option_map, if◌then◌else◌, refl, sym, ap, ◌∙◌}
use Rattle.std.specs.Bool.{MatchBool}
use Rattle.edit_ops.specs.declared.edit.Edit.{Edit}
use Rattle.http_wire.specs.declared.request.Request.{Request}
use Rattle.reply_text.specs.ReplyHeads.{SentReply, plain_reply}
use Rattle.request_checks.specs.Methods.{is_reading, method_of}
use Rattle.request_checks.specs.Rights.{is_allowed}
use Rattle.store_core.specs.Contents.{StoreContents, contents_of}
use Rattle.store_core.specs.State.{State}
use Rattle.xcap_uri.specs.declared.target.Target.{Target}
use Rattle.xcap_machine.specs.Answers.{Answer, MadeChange, not_allowed_reply, reply_only}
use Rattle.xcap_machine.specs.StepOutcomes.{ChangesNothing}
use Rattle.xcap_machine.specs.Machine.{Step, state_after_answer, answer_with_edit, change_from_edit}
use Rattle.xcap_machine.specs.Requests.{IsAnswer}
use Rattle.xcap_machine.specs.inner.AnswerCases.{AnswersByMethod}
use Rattle.xcap_machine.specs.StandardRequests.{auid_of, home_of, is_read_only, allows_method}
use Rattle.xcap_machine.specs.inner.RecordValues.{server_state}
use Rattle.xcap_machine.proofs.AcceptedRequests.{by_target}
use Rattle.xcap_laws.specs.HomeAccess.{IsForbiddenRequest, forbidden_reply}

refused_by : (taken allowed : Bool) (P : Type 0) (a : Answer) (forbidden untaken : SentReply) → allowed ≡ false
    → MatchBool taken (MatchBool allowed P (a ≡ reply_only forbidden)) (a ≡ reply_only untaken) → a ≡ reply_only (if taken then forbidden else untaken)
refused_by true true P a forbidden untaken refused h = let z : true ≡ false = refused in cc
refused_by true false P a forbidden untaken refused h = h
refused_by false allowed P a forbidden untaken refused h = h

pub forbidden_answer : (root : List ℕ) (c : StoreContents) (request : Request) (target : Target) (a : Answer) → IsForbiddenRequest root request target → IsAnswer root c request a → a ≡ reply_only (forbidden_reply target request)
forbidden_answer root c request target a f is =
    let method = method_of request.method in
    refused_by (allows_method target method) (is_allowed (not (is_reading method)) (auid_of target) (home_of target) request.fields) (AnswersByMethod (server_state root c) target method request a) a
    (plain_reply 403 request.closes) (not_allowed_reply (is_read_only target) request.closes) f.refused (by_target root c request a target method f.means refl is)

pub forbidden_alike : (root : List ℕ) (c d : StoreContents) (request : Request) (target : Target) (a b : Answer) → IsForbiddenRequest root request target → IsAnswer root c request a → IsAnswer root d request b → a ≡ b
forbidden_alike root c d request target a b f is other = forbidden_answer root c request target a f is ∙ sym (forbidden_answer root d request target b f other)

unmade : (m next : State) (edit : Option Edit) (reply r : SentReply) → answer_with_edit reply edit ≡ reply_only r → next ≡ state_after_answer m (option_map change_from_edit edit) → ChangesNothing m next edit
unmade m next None reply r same goes = (goes, refl)
unmade m next (Some e) reply r same goes = let z : ◌≡◌ {A = Option MadeChange} (Some (change_from_edit e)) None = ap (λ (x : Answer). x.made) same in absurd cc

pub forbidden_unchanged : (root : List ℕ) (m next : State) (request : Request) (target : Target) (reply : SentReply) (edit : Option Edit) → IsForbiddenRequest root request target → Step root m request reply next edit → ChangesNothing m next edit
forbidden_unchanged root m next request target reply edit f s = unmade m next edit reply (forbidden_reply target request) (forbidden_answer root (contents_of m) request target (answer_with_edit reply edit) f s.answers) s.goes_on
