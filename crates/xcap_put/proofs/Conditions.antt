-- How the conditions of a request on a document decide its answer.
use Rattle.std.proofs.Common.{◌≡◌, ℕ, Bool, true, false, is_some, Option, None, Some, refl, sym, ap, subst, ◌∙◌}
use Rattle.store_core.specs.Contents.{StoreContents as Content}
use Rattle.xml_tree.specs.Tree.{Tree}
use Rattle.edit_ops.specs.declared.change.Change.TheVariants.{RemoveDocument}
use Rattle.doc_names.specs.declared.doc_id.DocId.{DocId}
use Rattle.http_wire.specs.declared.request.Request.{Request}
use Rattle.reply_text.specs.ReplyHeads.{SentReply, plain_reply}
use Rattle.request_checks.specs.Conditions.{IsConditionReply}
use Rattle.xcap_machine.specs.Answers.{Answer, AppliesConditions, reply_only}
use Rattle.xcap_machine.specs.Resources.{version_of}
use Rattle.xcap_machine.specs.DocumentWrites.{DeletesDocument, change_answer, delete_reply}
use Rattle.xcap_machine.specs.inner.AnswerCases.{DeletesDocumentIfStored, version_tag as tag_of}
use Rattle.xcap_machine.specs.inner.RecordValues.{representation}
use Rattle.xcap_machine.proofs.Cases.{stopped, unstopped}

-- there is a tag where there is a document
pub tagged_where_held : (v : Option (Tree × ℕ)) → is_some (tag_of v) ≡ is_some v
tagged_where_held None = refl
tagged_where_held (Some (t, tag)) = refl

-- ---- PUT

module _ (request : Request) (v : Option (Tree × ℕ)) (tag : Option ℕ) (exists : Bool) (tagged : tag ≡ tag_of v) (known : exists ≡ is_some tag) (stop : Option SentReply) (is : IsConditionReply request tag exists false stop) where
  is_its_stop : IsConditionReply request (tag_of v) (is_some v) false stop
  is_its_stop =
      subst (λ (b : Bool). IsConditionReply request (tag_of v) b false stop) (known ∙ ap (λ (x : Option ℕ). is_some x) tagged ∙ tagged_where_held v)
      (subst (λ (x : Option ℕ). IsConditionReply request x exists false stop) tagged is)

  pub put_stops : (reply : SentReply) (P : Type 0) → stop ≡ Some reply → AppliesConditions request (representation (tag_of v) (is_some v)) false (reply_only reply) P
  put_stops reply P so = stopped request (tag_of v) (is_some v) false stop is_its_stop reply P so

  pub put_goes_on : (a : Answer) (P : Type 0) → stop ≡ None → P → AppliesConditions request (representation (tag_of v) (is_some v)) false a P
  put_goes_on a P so p = unstopped request (tag_of v) (is_some v) false stop is_its_stop a P so p

-- ---- DELETE

with_tag : (v : Option (Tree × ℕ)) (tag : ℕ) → Some tag ≡ tag_of v → (t : Tree) × (v ≡ Some (t, tag))
with_tag None tag is = cc
with_tag (Some (t, n)) tag is =
    let same : n ≡ tag = cc in
    let version : ℕ → Option (Tree × ℕ) = λ m. Some (t, m) in
    (t, ap version same)

pub untagged : (v : Option (Tree × ℕ)) → None ≡ tag_of v → v ≡ None
untagged None is = refl
untagged (Some (t, tag)) is = cc

module _ (c : Content) (id : DocId) (request : Request) where
  pub delete_absent : (reply : SentReply) → None ≡ tag_of (version_of c id) → reply ≡ plain_reply 404 request.closes → DeletesDocument c id request (reply_only reply)
  delete_absent reply absent is = subst (λ (v : Option (Tree × ℕ)). DeletesDocumentIfStored c id v request (reply_only reply)) (sym (untagged (version_of c id) absent)) (ap reply_only is)

  module _ (tag : ℕ) (tagged : Some tag ≡ tag_of (version_of c id)) where
    abbrev Removed : Answer → Type 0
    Removed a = a ≡ change_answer c id RemoveDocument request.closes (delete_reply request.closes)

    held_so : (a : Answer) → AppliesConditions request (representation (Some tag) true) false a (Removed a) → DeletesDocument c id request a
    held_so a is =
        let t = with_tag (version_of c id) tag tagged in
        subst (λ (v : Option (Tree × ℕ)). DeletesDocumentIfStored c id v request a) (sym t.1) is

    module _ (stop : Option SentReply) (is : IsConditionReply request (Some tag) true false stop) where
      pub delete_stops : (reply : SentReply) → stop ≡ Some reply → DeletesDocument c id request (reply_only reply)
      delete_stops reply so = held_so (reply_only reply) (stopped request (Some tag) true false stop is reply (Removed (reply_only reply)) so)

      pub delete_goes_on : stop ≡ None → (a : Answer) → Removed a → DeletesDocument c id request a
      delete_goes_on so a removed = held_so a (unstopped request (Some tag) true false stop is a (Removed a) so removed)

    pub asked_to_delete : (Asked : Type 0) → ((t : Tree) → ◌≡◌ {A = Option (Tree × ℕ)} (version_of c id) (Some (t, tag)) → Asked) → Asked
    asked_to_delete Asked so = let t = with_tag (version_of c id) tag tagged in so t.0 t.1
