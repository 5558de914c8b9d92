-- Key addresses keep selecting their elements through the changes that the machine makes.
use Rattle.std.proofs.Common.{ℕ, ◌≡◌, List, Option, None, Some, sym, ap, subst, ◌∙◌}
use Rattle.std.proofs.lemmas.Option.{same_Some}
use Rattle.doc_names.specs.declared.doc_id.DocId.{DocId}
use Rattle.edit_ops.specs.declared.change.Change.{Change}
use Rattle.edit_ops.specs.declared.edit.Edit.{Edit}
use Rattle.reply_text.specs.ReplyHeads.{SentReply}
use Rattle.http_wire.specs.declared.request.Request.{Request}
use Rattle.request_checks.specs.Methods.{method_of}
use Rattle.request_checks.specs.declared.method.Method.{Method}
use Rattle.store_core.specs.ChangePreconditions.{MayRequest}
use Rattle.store_core.specs.Contents.{Represents, StoreContents as Content}
use Rattle.store_core.specs.ValidStates.{IsValidState}
use Rattle.store_core.specs.State.{State}
use Rattle.store_core.proofs.SoundHeld.{AllSound, all_sound}
use Rattle.xcap_machine.specs.Answers.{Answer, MadeChange}
use Rattle.xcap_machine.specs.WriteEffects.{EditKeepsKeyAddresses}
use Rattle.xcap_machine.specs.KeyAddresses.{ChangeKeepsKeyAddresses}
use Rattle.xcap_machine.specs.Machine.{ContentStep, answer_with_edit, change_from_edit}
use Rattle.xcap_machine.proofs.KeyAddresses.{asked_stays}
use Rattle.xcap_machine.proofs.Steps.{made_change}
use Rattle.xcap_machine.proofs.Ways.{Way, changes, stays, way_of}

module _ (root : List ℕ) (c next : Content) (request : Request) (reply : SentReply) (edit : Edit) where
  by_way : (method : Method) → Way method request.closes c (answer_with_edit reply (Some edit)) → AllSound c → MayRequest c edit.doc edit.note.change
  by_way method (stays same tells closes is) all = let z : Some (change_from_edit edit) ≡ None = ap (λ (a : Answer). a.made) is in cc
  by_way method (changes same tells closes id change note held asks made is) all =
      let so : change_from_edit edit ≡ (id, note) = same_Some (change_from_edit edit) (id, note) (ap (λ (a : Answer). a.made) is) in
      let of_change : edit.note.change ≡ change = ap (λ (x : MadeChange). x.1.change) so ∙ made_change c id change note held made in
      let of_document : edit.doc ≡ id = ap (λ (x : MadeChange). x.0) so in
      subst (λ (d : DocId). MayRequest c d edit.note.change) (sym of_document) (subst (λ (x : Change). MayRequest c id x) (sym of_change) (asks all))

  edit_stays_so : (m : State) → IsValidState m → Represents c m → ContentStep root c request reply next (Some edit) → ChangeKeepsKeyAddresses c edit.doc edit.note.change next
  edit_stays_so m kept stands does =
      let all = all_sound c m stands kept in
      let asks = by_way (method_of request.method) (way_of root c request (answer_with_edit reply (Some edit)) does.answers) all in
      subst (λ (x : Content). ChangeKeepsKeyAddresses c edit.doc edit.note.change x) (sym does.goes_on) (asked_stays c edit.doc edit.note.change all asks)

pub addresses_stay : (root : List ℕ) (c next : Content) (request : Request) (reply : SentReply) (edit : Option Edit) (m : State) → IsValidState m → Represents c m → ContentStep root c request reply next edit → EditKeepsKeyAddresses c edit next
addresses_stay root c next request reply None m kept stands does = tt
addresses_stay root c next request reply (Some edit) m kept stands does = edit_stays_so root c next request reply edit m kept stands does
