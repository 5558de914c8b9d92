-- A document that is sent is the current version, by its tag and the text of its tree.
use Rattle.std.proofs.Common.{◌≡◌, ℕ, Bool, false, List, [], Option, None, Some, option_map, Result, Ok, encode_utf8_all, refl, sym, ap, ◌∙◌, subst, arith, cond}
use Rattle.std.specs.Option.{option_map_or}
use Rattle.std.proofs.lemmas.Bool.{eq-eqb}
use Rattle.xml_tree.specs.Tree.{Tree}
use Rattle.xml_tree.specs.Print.{document_print}
use Rattle.tree_text.specs.Faults.{IsTextResult}
use Rattle.tree_text.proofs.PrintedTexts.{document_is_read}
use Rattle.tree_text.proofs.ReadAnswers.{text_answer}
use Rattle.doc_names.specs.NameEquality.{same_id}
use Rattle.doc_names.specs.Usages.{usage_of}
use Rattle.doc_names.specs.declared.doc_id.DocId.{DocId}
use Rattle.doc_names.specs.declared.doc_id.Home.{Home}
use Rattle.doc_names.specs.declared.doc_id.Home.TheVariants.{Global, User}
use Rattle.doc_names.specs.declared.usages.Usage.{Usage}
use Rattle.http_wire.specs.declared.request.Request.{Request}
use Rattle.reply_text.specs.ReplyHeads.{SentReply, plain_reply}
use Rattle.request_checks.specs.Conditions.{outcome_reply}
use Rattle.request_checks.specs.MediaTypes.{document_media_type}
use Rattle.request_checks.specs.Methods.{method_of}
use Rattle.request_checks.specs.Rights.{is_allowed}
use Rattle.request_checks.specs.declared.conditions.Outcome.{Outcome}
use Rattle.request_checks.specs.declared.conditions.Outcome.TheVariants as outcomes
use Rattle.request_checks.specs.declared.method.Method.{Method}
use Rattle.request_checks.specs.declared.method.Method.TheVariants.{Get}
use Rattle.store_core.specs.Contents.{Represents, StoredDocument, StoreContents, stored_document}
use Rattle.store_core.specs.DocumentChanges.{find_document, document_id, stored_id}
use Rattle.store_core.specs.Since.{ReportedChanges, notes_from}
use Rattle.store_core.specs.inner.ChangesSince.{stored_changes_since, changes_since_of}
use Rattle.store_core.specs.State.{Document, State}
use Rattle.store_core.specs.ValidStates.{IsValidHistory, IsSoundDocumentFor, IsUserHome, IsValidState}
use Rattle.xcap_uri.specs.Targets.{IsTargetResult}
use Rattle.xcap_uri.specs.declared.fault.UriFault.{UriFault}
use Rattle.xcap_uri.specs.declared.target.Target.{Target}
use Rattle.xcap_uri.specs.declared.target.Target.TheVariants.{Document as a_document}
use Rattle.xcap_uri.proofs.TargetAnswers.{one_target}
use Rattle.xcap_machine.specs.Answers.{Answer, found_reply, reply_only}
use Rattle.xcap_machine.specs.ReadRequests.{SendsDocument}
use Rattle.xcap_machine.specs.Requests.{AnswersByTarget, IsAnswer}
use Rattle.xcap_machine.specs.inner.AnswerCases.{AnswersByMethod}
use Rattle.xcap_machine.specs.StandardRequests.{auid_of, home_of}
use Rattle.xcap_machine.specs.Resources.{IsResourceInHome, Resource, absent, there}
use Rattle.xcap_machine.specs.inner.AnswerCases.{AnswersUnlessStopped, IsAnswerByTarget}
use Rattle.xcap_machine.specs.inner.RecordValues.{read_request, server_state}
use Rattle.xcap_machine.proofs.Cases.{either}
use Rattle.xcap_machine.proofs.OneVersion.{found_all, held_there}
use Rattle.xcap_laws.specs.FetchedVersions.{SendsVersion}

-- ---- the text of a sound tree is read back

sound_text : (usage : Option Usage) (t : Tree) → IsSoundDocumentFor usage t → IsTextResult 64 [] (encode_utf8_all (document_print t)) (Ok t)
sound_text None t h = absurd h
sound_text (Some usage) t h =
    let bytes = encode_utf8_all (document_print t) in
    subst (IsTextResult 64 [] bytes) (document_is_read 64 [] t refl h.proper h.low).read (text_answer 64 [] bytes)

-- ---- the stored document

stored_as : (o : Option Document) (h : StoredDocument) → option_map stored_document o ≡ Some h → (d : Document) × (o ≡ Some d) × (stored_document d ≡ h)
stored_as None h is = absurd cc
stored_as (Some d) h is = let same : stored_document d ≡ h = cc in (d, refl, same)

-- ---- the reply

differs : (a : Answer) (n : ℕ) (reply : SentReply) → a ≡ reply_only reply → reply.status ≡ n → (n ≡ 200 → ⊥) → a.reply.status ≡ 200 → ⊥
differs a n reply is status other ok = other (sym status ∙ ap (λ (x : Answer). x.reply.status) (sym is) ∙ ok)

same_status : (x y : SentReply) → Some x ≡ Some y → x.status ≡ y.status
same_status x y is = let same : x ≡ y = cc in ap (λ (z : SentReply). z.status) same

module _ (c : StoreContents) (m : State) (id : DocId) (request : Request) (a : Answer) (kept : IsValidState m) (stands : Represents c m) (ok : a.reply.status ≡ 200) where
  sent_version : (h : StoredDocument) → find_document stored_id c.documents id ≡ Some h → a ≡ reply_only (found_reply (Some h.tag) (document_media_type id.auid) (encode_utf8_all (document_print h.tree)) request.closes) → SendsVersion c m id a.reply
  sent_version h held is =
      let mapped : option_map stored_document (find_document document_id m.documents id) ≡ Some h = sym (held_there m.documents id) ∙ ap (λ (x : StoreContents). find_document stored_id x.documents id) (sym stands) ∙ held in
      let r = stored_as (find_document document_id m.documents id) h mapped in
      let d = r.0 in
      let kept_so : IsValidHistory m.next d = found_all (IsValidHistory m.next) (λ x. same_id id x.id) m.documents d kept.documents r.1 in
      let here : a ≡ reply_only (found_reply (Some d.now.tag) (document_media_type id.auid) (encode_utf8_all (document_print d.now.tree)) request.closes) =
      is ∙ ap (λ (x : StoredDocument). reply_only (found_reply (Some x.tag) (document_media_type id.auid) (encode_utf8_all (document_print x.tree)) request.closes)) (sym r.2) in
      let body : a.reply.body ≡ encode_utf8_all (document_print d.now.tree) = ap (λ (x : Answer). x.reply.body) here in
      let closes : a.reply.closes ≡ request.closes = ap (λ (x : Answer). x.reply.closes) here in record {
        document = d;
        there = r.1;
        tagged = ap (λ (x : Answer). x.reply) here ∙ (λ i. found_reply (Some d.now.tag) (document_media_type id.auid) (sym body i) (sym closes i));
        text = subst (λ (b : List ℕ). IsTextResult 64 [] b (Ok d.now.tree)) (sym body) (sound_text (usage_of d.id.auid) d.now.tree kept_so.sound.0);
        starts = ap (stored_changes_since d.now.tag) (held ∙ ap Some (sym r.2)) ∙ ap (λ (b : Bool). cond b (ReportedChanges []) (changes_since_of (notes_from d.now.tag (stored_document d).notes))) (eq-eqb d.now.tag d.now.tag refl);
      }

  unstopped : (h : StoredDocument) → find_document stored_id c.documents id ≡ Some h → (outcome : Outcome) (stop : Option SentReply) → stop ≡ outcome_reply outcome (Some h.tag) request.closes
      → AnswersUnlessStopped stop a (a ≡ reply_only (found_reply (Some h.tag) (document_media_type id.auid) (encode_utf8_all (document_print h.tree)) request.closes)) → SendsVersion c m id a.reply
  unstopped h held outcome None stopped is = sent_version h held is
  unstopped h held outcomes.Unreadable (Some reply) stopped is = absurd (differs a 400 reply is (let same : reply ≡ plain_reply 400 request.closes = cc in ap (λ (x : SentReply). x.status) same) (λ e. omega (arith, e)) ok)
  unstopped h held outcomes.Go (Some reply) stopped is = absurd cc
  unstopped h held outcomes.NotModified (Some reply) stopped is = absurd (differs a 304 reply is (same_status reply _ stopped) (λ e. omega (arith, e)) ok)
  unstopped h held outcomes.Failed (Some reply) stopped is = absurd (differs a 412 reply is (let same : reply ≡ plain_reply 412 request.closes = cc in ap (λ (x : SentReply). x.status) same) (λ e. omega (arith, e)) ok)

  by_held : (o : Option StoredDocument) → find_document stored_id c.documents id ≡ o → (r : Resource) → r ≡ option_map_or (λ held. there held.0 held.1) (option_map {U = Tree × ℕ} (λ (h : StoredDocument). (h.tree, h.tag)) o) absent
      → SendsDocument r (document_media_type id.auid) (read_request Get request) a → SendsVersion c m id a.reply
  by_held None held r leads sends = absurd (differs a 404 (plain_reply 404 request.closes) (subst (λ (x : Resource). SendsDocument x (document_media_type id.auid) (read_request Get request) a) leads sends) refl (λ e. omega (arith, e)) ok)
  by_held (Some h) held r leads sends =
      let is = subst (λ (x : Resource). SendsDocument x (document_media_type id.auid) (read_request Get request) a) leads sends in
      unstopped h held is.1.0 is.0 is.1.2 is.2

  by_home : (home : Home) → IsUserHome home → (r : Resource) → IsResourceInHome c id home r → SendsDocument r (document_media_type id.auid) (read_request Get request) a → SendsVersion c m id a.reply
  by_home Global user r leads sends = absurd user
  by_home (User xui) user r leads sends = by_held (find_document stored_id c.documents id) refl r leads sends

  by_target : (root : List ℕ) → IsUserHome id.home → AnswersByTarget (server_state root c) (a_document id) Get request a → SendsVersion c m id a.reply
  by_target root user is =
      either (is_allowed false (auid_of (a_document id)) (home_of (a_document id)) request.fields) (AnswersByMethod (server_state root c) (a_document id) Get request a) (a ≡ reply_only (plain_reply 403 request.closes))
      (λ _ reads. by_home id.home user reads.0 reads.1 reads.2) (λ _ s. absurd (differs a 403 (plain_reply 403 request.closes) s refl (λ e. omega (arith, e)) ok)) is

pub fetched : (root : List ℕ) (c : StoreContents) (m : State) (request : Request) (a : Answer) (id : DocId) → IsValidState m → Represents c m → IsAnswer root c request a → IsTargetResult root request.target (Ok (a_document id)) → IsUserHome id.home
    → method_of request.method ≡ Get → a.reply.status ≡ 200 → SendsVersion c m id a.reply
fetched root c m request a id kept stands is target user method ok =
    let same : is.0 ≡ Ok (a_document id) = one_target root request.target is.0 (Ok (a_document id)) is.1 target in
    let here : IsAnswerByTarget root c (Ok (a_document id)) request a = subst (λ (read : Result Target UriFault). IsAnswerByTarget root c read request a) same is.2 in
    by_target c m id request a kept stands ok root user (subst (λ (x : Method). AnswersByTarget (server_state root c) (a_document id) x request a) method here)
