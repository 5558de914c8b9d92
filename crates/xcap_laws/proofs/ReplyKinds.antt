-- Each whole reply is sent with fields that have its body's length as their size.
use Rattle.std.proofs.Common.{◌≡◌, ℕ, ◌<◌, ◌≤◌, ◌==◌, Bool, true, false, List, [], ◌++◌, length, None, Some, Err, refl, sym, ap, subst, ◌∙◌}
use Rattle.std.proofs.lemmas.Bool.{true≢false}
use Rattle.http_wire.specs.declared.request.Request.{Request}
use Rattle.reply_text.specs.ReplyHeads.{HeadFields, SentReply, reply_bytes, sent_reply}
use Rattle.request_checks.specs.Methods.{method_of}
use Rattle.request_checks.specs.declared.method.Method.TheVariants.{Get, Head}
use Rattle.store_core.specs.Contents.{StoreContents}
use Rattle.xcap_client.specs.declared.body_length.TheConstants.{MAX_RESPONSE_BODY_BYTES}
use Rattle.xcap_client.specs.Responses.{IsResponseOf}
use Rattle.xcap_client.specs.declared.response_fault.ResponseFault.TheVariants.{TooLong}
use Rattle.xcap_laws.proofs.AnswerKinds.{Kind, kind_of, plain_fields, shows, unmodified, untagged, writes}
use Rattle.xcap_laws.proofs.HeadOfGet.{head_is_get}
use Rattle.xcap_laws.proofs.ReplyLines.{tree_of}
use Rattle.xcap_laws.proofs.ReplyReadings.{IsFramedBy, begins_reply, code_is, longer, read_back}
use Rattle.xcap_laws.specs.HeadRequests.{with_method, without_body}
use Rattle.xcap_laws.specs.ReadReplies.{IsCountableReply, IsHeadOnlyReply, IsReadBackReply, IsCompleteReply, answer, fixed}
use Rattle.xcap_machine.specs.Answers.{Answer}
use Rattle.xcap_machine.specs.Requests.{IsAnswer}

-- a reply by the fields and the body that it is sent with
pub record IsFramedReply (reply : SentReply) : Type 0 where
  pub fields : HeadFields
  pub body : List ℕ
  pub is_sent : reply ≡ sent_reply fields body
  pub framed : IsFramedBy fields body

never_304 : (b : Bool) (body : List ℕ) → b ≡ false → b ≡ true → body ≡ []
never_304 b body other is = absurd (true≢false (sym is ∙ other))

by_kind : (root : List ℕ) (c : StoreContents) (request : Request) (a : Answer) → (method_of request.method ≡ Head → ⊥) → Kind root c request a → IsFramedReply a.reply
by_kind root c request a never (untagged fields body whole none other is) = record {
  fields = fields;
  body = body;
  is_sent = ap (λ (x : Answer). x.reply) is;
  framed = record { lawful = whole.lawful; size = whole.size never; bodiless = never_304 (fields.status == 304) body other };
}
by_kind root c request a never (shows fields body tag whole some other is shown) = record {
  fields = fields;
  body = body;
  is_sent = ap (λ (x : Answer). x.reply) is;
  framed = record { lawful = whole.lawful; size = whole.size never; bodiless = never_304 (fields.status == 304) body other };
}
by_kind root c request a never (unmodified tag is shown has) = record {
  fields = record { status = 304; tag = Some tag; read_only = None; media = None; size = 0; closes = request.closes };
  body = [];
  is_sent = ap (λ (x : Answer). x.reply) is;
  framed = record { lawful = refl; size = refl; bodiless = λ _. refl };
}
by_kind root c request a never (writes fields body made whole some other is) = record {
  fields = fields;
  body = body;
  is_sent = ap (λ (x : Answer). x.reply) is;
  framed = record { lawful = whole.lawful; size = whole.size never; bodiless = never_304 (fields.status == 304) body other };
}

pub framed_reply : (reply : SentReply) → IsCompleteReply reply → IsFramedReply reply
framed_reply reply (answer root c request a is never same) = subst (λ (r : SentReply). IsFramedReply r) (sym same) (by_kind root c request a never (kind_of root c request a is))
framed_reply reply (fixed status closes lawful same) = record {
  fields = plain_fields status closes;
  body = [];
  is_sent = same;
  framed = record { lawful = lawful; size = refl; bodiless = λ _. refl };
}

pub is_read_back : (reply : SentReply) → IsCompleteReply reply → length reply.body ≤ MAX_RESPONSE_BODY_BYTES → IsReadBackReply reply
is_read_back reply whole short =
    let r = framed_reply reply whole in
    let within = subst (λ (x : SentReply). length x.body ≤ MAX_RESPONSE_BODY_BYTES) r.is_sent short in
    subst (λ (x : SentReply). IsReadBackReply x) (sym r.is_sent) (read_back r.fields r.body r.framed within)

pub is_refused : (reply : SentReply) (more : List ℕ) → IsCountableReply reply → MAX_RESPONSE_BODY_BYTES < length reply.body → IsResponseOf (reply_bytes reply ++ more) (Err (TooLong (length reply.body)))
is_refused reply more counted long =
    let r = framed_reply reply counted.whole in
    let beyond = subst (λ (x : SentReply). MAX_RESPONSE_BODY_BYTES < length x.body) r.is_sent long in
    let countable = subst (λ (x : SentReply). length x.body < 18446744073709551616) r.is_sent counted.countable in
    subst (λ (x : SentReply). IsResponseOf (reply_bytes x ++ more) (Err (TooLong (length x.body)))) (sym r.is_sent) (longer r.fields r.body more r.framed beyond countable)

-- ---- HEAD

alone : (f : HeadFields) (body : List ℕ) → IsFramedBy f body → IsHeadOnlyReply (sent_reply f [])
alone f body framed = record {
  head = tree_of f;
  begins = λ more. begins_reply f [] more framed.lawful;
  same_status = code_is f framed.lawful;
}

get_alone : (root : List ℕ) (c : StoreContents) (request : Request) (a : Answer) → method_of request.method ≡ Get → IsAnswer root c request a → IsHeadOnlyReply (without_body a).reply
get_alone root c request a get is =
    let never : method_of request.method ≡ Head → ⊥ = λ head. let z : Get ≡ Head = sym get ∙ head in cc in
    let r = by_kind root c request a never (kind_of root c request a is) in
    subst (λ (x : SentReply). IsHeadOnlyReply (record x { body = [] })) (sym r.is_sent) (alone r.fields r.body r.framed)

pub head_alone : (root : List ℕ) (c : StoreContents) (request : Request) (name : List ℕ) (a b : Answer) → method_of request.method ≡ Get → method_of name ≡ Head → IsAnswer root c request a → IsAnswer root c (with_method name request) b → IsHeadOnlyReply b.reply
head_alone root c request name a b get is_head is other =
    subst (λ (x : Answer). IsHeadOnlyReply x.reply) (sym (head_is_get root c request name a b get is_head is other)) (get_alone root c request a get is)
