-- A request as the record of its change gives it makes the same change.
use Rattle.std.proofs.Common.{◌≡◌, ℕ, Bool, true, false, List, Option, None, Some, refl, sym, ap, subst, ◌∙◌}
use Rattle.http_wire.specs.declared.request.Field.{Field}
use Rattle.http_wire.specs.declared.request.Request.{Request}
use Rattle.reply_text.specs.ReplyHeads.{SentReply}
use Rattle.request_checks.specs.Methods.{is_reading, method_of}
use Rattle.request_checks.specs.declared.method.Method.{Method}
use Rattle.request_checks.specs.declared.method.Method.TheVariants.{Get, Head, Put, Delete, Other}
use Rattle.change_records.specs.ReadFields.{kept_fields}
use Rattle.change_records.specs.Records.{kept_request}
use Rattle.change_records.specs.declared.read_fields.ReadField.TheVariants.{User, IfMatch, IfNoneMatch, ContentType, ContentEncoding}
use Rattle.change_records.proofs.KeptFields.{same_values}
use Rattle.store_core.specs.Contents.{StoreContents}
use Rattle.xcap_machine.specs.Answers.{Answer, MadeChange}
use Rattle.xcap_machine.specs.Requests.{IsAnswer}
use Rattle.xcap_machine.specs.StepOutcomes.{reports_change}
use Rattle.xcap_machine.proofs.Ways.{Way, changes, stays, way_of}
use Rattle.unread_parts.proofs.SameChanges.{ReadAlike, makes_too}

kept_alike : (fields : List Field) → ReadAlike fields (kept_fields fields)
kept_alike fields = record {
  user = same_values User fields;
  if_match = same_values IfMatch fields;
  if_none_match = same_values IfNoneMatch fields;
  content_type = same_values ContentType fields;
  content_encoding = same_values ContentEncoding fields;
}

tells_none : (method : Method) (status : ℕ) → reports_change method status ≡ true → is_reading method ≡ false
tells_none Get status h = let no : ⊥ = cc in absurd no
tells_none Head status h = let no : ⊥ = cc in absurd no
tells_none Put status h = refl
tells_none Delete status h = refl
tells_none Other status h = refl

-- a request that makes a change doesn't only read
pub changes_by : (method : Method) (closes : Bool) (c : StoreContents) (a : Answer) (made : MadeChange) → a.made ≡ Some made → Way method closes c a → is_reading method ≡ false
changes_by method closes c a made makes (stays reply tells same is) = let no : ◌≡◌ {A = Option MadeChange} None (Some made) = sym (ap (λ (x : Answer). x.made) is) ∙ makes in absurd (let f : ⊥ = cc in f)
changes_by method closes c a made makes (changes reply tells same id change note next asks did is) = tells_none method reply.status tells

pub recorded_changes : (root : List ℕ) (c : StoreContents) (request : Request) (reply : SentReply) (made : MadeChange) → IsAnswer root c request (record { reply = reply; made = Some made })
    → (again : SentReply) × IsAnswer root c (kept_request request) (record { reply = again; made = Some made })
recorded_changes root c request reply made is =
    let answer : Answer = record { reply = reply; made = Some made } in
    let reads = changes_by (method_of request.method) request.closes c answer made refl (way_of root c request answer is) in
    let other = makes_too made request false (kept_fields request.fields) (kept_alike request.fields) answer refl root c reads is in
    (other.0.reply, subst (λ (o : Option MadeChange). IsAnswer root c (kept_request request) (record { reply = other.0.reply; made = o })) other.2 other.1)
