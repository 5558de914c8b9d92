-- Neither whether the connection ends after a request, nor any field that the machine doesn't read,
-- has influence on the change that it makes.
use Rattle.std.proofs.Common.{◌≡◌, ℕ, Bool, true, false, not, List, is_some, codes, encode_utf8_all, Option, None, Some, Result, Ok, Err, refl, sym, ap, subst, ◌∙◌}
use Rattle.std.specs.Prelude.{◌&&◌}
use Rattle.std.specs.Bool.{MatchBool}
use Rattle.xml_tree.specs.Tree.{Tree}
use Rattle.tree_text.specs.declared.fault.TextFault.{TextFault}
use Rattle.tree_text.specs.declared.fault.ValueFault.{ValueFault}
use Rattle.usage_docs.specs.declared.validation.Fault.{Fault}
use Rattle.doc_names.specs.Usages.{usage_of}
use Rattle.doc_names.specs.declared.usages.Usage.{Usage}
use Rattle.doc_names.specs.declared.doc_id.DocId.{DocId}
use Rattle.node_select.specs.declared.selector.Selector.{Selector}
use Rattle.edit_ops.specs.declared.change.Change.{Change}
use Rattle.edit_ops.specs.declared.change.Change.TheVariants.{RemoveDocument}
use Rattle.edit_ops.specs.Notes.{Note}
use Rattle.edit_rules.specs.declared.edit_refusal.EditRefusal.{EditRefusal}
use Rattle.edit_rules.specs.declared.spot.NoParent.{NoParent}
use Rattle.edit_rules.specs.declared.spot.Spot.{Spot}
use Rattle.edit_rules.specs.declared.spot.Spot.TheVariants.{Over, Under, Beside, Value}
use Rattle.reply_text.specs.ReplyHeads.{SentReply, plain_reply}
use Rattle.http_wire.specs.declared.request.Field.{Field}
use Rattle.http_wire.specs.declared.request.Request.{Request}
use Rattle.std.specs.List.{list_all}
use Rattle.doc_names.specs.declared.doc_id.Auid.{Auid}
use Rattle.doc_names.specs.declared.doc_id.Home.{Home}
use Rattle.doc_names.specs.declared.doc_id.Home.TheVariants.{Global, User}
use Rattle.http_wire.specs.Fields.{same_ignoring_case}
use Rattle.reply_text.specs.MediaTypes.{media_type}
use Rattle.reply_text.specs.declared.media_types.MediaType.{MediaType}
use Rattle.request_checks.specs.Conditions.{HasOutcome, outcome_reply}
use Rattle.request_checks.specs.Fields.{IsConditionsReading}
use Rattle.request_checks.specs.declared.conditions.Outcome.{Outcome}
use Rattle.request_checks.specs.declared.conditions.Outcome.TheVariants.{Unreadable, Go, NotModified, Failed}
use Rattle.request_checks.specs.MediaTypes.{document_media_type, has_media_type, is_single_type}
use Rattle.request_checks.specs.Methods.{is_reading, method_of}
use Rattle.request_checks.specs.Rights.{fields_named, is_allowed, is_fixed_usage, is_only_value, is_from_user}
use Rattle.request_checks.specs.declared.method.Method.{Method}
use Rattle.request_checks.specs.declared.method.Method.TheVariants.{Get, Head, Put, Delete, Other}
use Rattle.reply_bodies.specs.Nodes.{node_media_type}
use Rattle.xcap_uri.specs.declared.fault.UriFault.{UriFault}
use Rattle.xcap_uri.specs.declared.target.Target.{Target}
use Rattle.xcap_uri.specs.declared.target.Target.TheVariants.{Document, Node, Deep, Feed, ElementFeed, Flat}
use Rattle.store_core.specs.DocumentChanges.{change_result}
use Rattle.store_core.specs.Contents.{StoreContents}
use Rattle.store_core.specs.declared.refusal.StoreRefusal.{StoreRefusal}
use Rattle.xcap_machine.specs.Answers.{Answer, AppliesConditions, MadeChange, reply_only}
use Rattle.xcap_machine.specs.Requests.{AnswersByTarget, IsAnswer}
use Rattle.xcap_machine.specs.inner.AnswerCases.{AnswersByMethod, AnswersByUser}
use Rattle.xcap_machine.specs.StandardRequests.{DeletesTarget, PutsTarget, auid_of, home_of, allows_method}
use Rattle.xcap_machine.specs.Resources.{version_of}
use Rattle.xcap_machine.specs.NodeWrites.{RemovesNode, PutsAtEditTarget, PutsElement, PutsFragment, PutsByEditTarget, node_delete_reply, node_exists, plan_answer}
use Rattle.xcap_machine.specs.DocumentWrites.{WritesIfStored, PutsBody, PutsDocument, PutsParsedBody, change_answer, delete_reply, put_answer, put_change, put_reply}
use Rattle.xcap_machine.specs.inner.AnswerCases.{DeletesDocumentIfStored, DeletesNodeIfStored, PutsElementText, PutsNodeIfStored, PutsValueText, IsAnswerByTarget, PutsParsedText, judgement_answer, version_tag, AnswersUnlessStopped}
use Rattle.xcap_machine.specs.inner.RecordValues.{representation, server_state, node_write}
use Rattle.xcap_machine.proofs.AcceptedRequests.{stopped_never}
use Rattle.xcap_machine.proofs.ChangeAnswers.{as_the_store, told_by_store}

-- the other fields have the same values under each name that the machine reads
pub record ReadAlike (fields others : List Field) : Type 0 where
  pub user : fields_named (codes "x-xcap-user") others ≡ fields_named (codes "x-xcap-user") fields
  pub if_match : fields_named (codes "if-match") others ≡ fields_named (codes "if-match") fields
  pub if_none_match : fields_named (codes "if-none-match") others ≡ fields_named (codes "if-none-match") fields
  pub content_type : fields_named (codes "content-type") others ≡ fields_named (codes "content-type") fields
  pub content_encoding : fields_named (codes "content-encoding") others ≡ fields_named (codes "content-encoding") fields

pub same_fields : (fields : List Field) → ReadAlike fields fields
same_fields fields = record { user = refl; if_match = refl; if_none_match = refl; content_type = refl; content_encoding = refl }

module _ (fields others : List Field) (alike : ReadAlike fields others) where
  allowed_alike : (writes : Bool) (auid : Auid) (home : Home) → is_allowed writes auid home others ≡ is_allowed writes auid home fields
  unfolding is_from_user
  allowed_alike writes auid Global = refl
  allowed_alike writes auid (User xui) = ap (λ (values : List (List ℕ)). not (writes && is_fixed_usage auid) && is_only_value (encode_utf8_all xui) values) alike.user

  type_alike : (media : MediaType) → has_media_type media others ≡ has_media_type media fields
  unfolding has_media_type
  type_alike media =
      ap (λ (values : List (List ℕ)). list_all (λ v. same_ignoring_case v (codes "identity")) values && is_single_type (media_type media) (fields_named (codes "content-type") others)) alike.content_encoding
      ∙ ap (λ (values : List (List ℕ)). list_all (λ v. same_ignoring_case v (codes "identity")) (fields_named (codes "content-encoding") fields) && is_single_type (media_type media) values) alike.content_type

  outcome_alike : (tag : Option ℕ) (exists reading : Bool) (o : Outcome) → HasOutcome fields tag exists reading o → HasOutcome others tag exists reading o
  outcome_alike tag exists reading o has = (
    has.0,
    subst (λ (values : List (List ℕ)). IsConditionsReading values (fields_named (codes "if-none-match") others) has.0) (sym alike.if_match)
        (subst (λ (values : List (List ℕ)). IsConditionsReading (fields_named (codes "if-match") fields) values has.0) (sym alike.if_none_match) has.1),
    has.2,
  )

-- The change, the request, and the other request's `closes` and fields.
module _ (made : MadeChange) (request : Request) (closes : Bool) (fields : List Field) (alike : ReadAlike request.fields fields) where
  abbrev other : Request
  other = record request { closes = closes; fields = fields }

  -- some answer of this kind makes the change
  abbrev Makes : (Answer → Type 0) → Type 0
  Makes Is = (b : Answer) × Is b × (b.made ≡ Some made)

  module _ (a : Answer) (makes : a.made ≡ Some made) where
    never : {X : Type 0} (reply : SentReply) → a ≡ reply_only reply → X
    never reply is = absurd (stopped_never a reply made makes is)

    by_test : (test : Bool) (P : Type 0) (Q : Answer → Type 0) (reply reply' : SentReply) → (P → Makes Q) → MatchBool test P (a ≡ reply_only reply) → Makes (λ b. MatchBool test (Q b) (b ≡ reply_only reply'))
    by_test true P Q reply reply' so is = so is
    by_test false P Q reply reply' so is = never reply is

    when : (test test' : Bool) → test' ≡ test → (P : Type 0) (Q : Answer → Type 0) (reply reply' : SentReply) → (P → Makes Q) → MatchBool test P (a ≡ reply_only reply) → Makes (λ b. MatchBool test' (Q b) (b ≡ reply_only reply'))
    when test test' same P Q reply reply' so is = subst (λ (t : Bool). Makes (λ b. MatchBool t (Q b) (b ≡ reply_only reply'))) (sym same) (by_test test P Q reply reply' so is)

    module _ (tag : Option ℕ) (exists : Bool) (P : Type 0) (Q : Answer → Type 0) (so : P → Makes Q) where
      by_outcome : (o : Outcome) → HasOutcome request.fields tag exists false o → AnswersUnlessStopped (outcome_reply o tag request.closes) a P → Makes (λ b. AppliesConditions other (representation tag exists) false b (Q b))
      by_outcome Unreadable has is = never _ is
      by_outcome Go has is = let m = so is in (m.0, (None, (Go, outcome_alike request.fields fields alike tag exists false Go has, refl), m.1), m.2)
      by_outcome NotModified has is = never _ is
      by_outcome Failed has is = never _ is

      behind : AppliesConditions request (representation tag exists) false a P → Makes (λ b. AppliesConditions other (representation tag exists) false b (Q b))
      behind is = by_outcome is.1.0 is.1.1 (subst (λ (stop : Option SentReply). AnswersUnlessStopped stop a P) is.1.2 is.2)

    module _ (c : StoreContents) (id : DocId) (reply reply' : Note → SentReply) where
      by_store : (r : Result (Note × StoreContents) StoreRefusal) → a ≡ told_by_store id request.closes reply r → Makes (λ b. b ≡ told_by_store id closes reply' r)
      by_store (Err refusal) is = never _ is
      by_store (Ok (note, next)) is = (told_by_store id closes reply' (Ok (note, next)), refl, sym (ap (λ (x : Answer). x.made) is) ∙ makes)

      by_change : (change : Change) → a ≡ change_answer c id change request.closes reply → Makes (λ b. b ≡ change_answer c id change closes reply')
      by_change change is =
          let m = by_store (change_result c id change) (is ∙ as_the_store c id change request.closes reply) in
          (m.0, m.1 ∙ sym (as_the_store c id change closes reply'), m.2)

      by_plan : (plan : Result Change EditRefusal) → a ≡ plan_answer c id request.closes reply plan → Makes (λ b. b ≡ plan_answer c id closes reply' plan)
      by_plan (Err why) is = never _ is
      by_plan (Ok change) is = by_change change is

    -- ---- PUT

    module _ (c : StoreContents) (id : DocId) where
      judged : (judgement : Option Fault) (t : Tree) → a ≡ judgement_answer judgement request.closes (put_answer c id request.closes t) → Makes (λ b. b ≡ judgement_answer judgement closes (put_answer c id closes t))
      judged (Some fault) t is = never _ is
      judged None t is =
          let exists = is_some (version_of c id) in
          by_change c id (put_reply exists request.closes) (put_reply exists closes) (put_change exists t) is

      text : (usage : Usage) (read : Result Tree TextFault) → PutsParsedText usage read request.closes (put_answer c id request.closes) a → Makes (λ b. PutsParsedText usage read closes (put_answer c id closes) b)
      text usage (Err fault) is = never _ is
      text usage (Ok t) is = let m = judged is.0 t is.2 in (m.0, (is.0, is.1, m.1), m.2)

      spelled : (usage : Usage) → PutsParsedBody usage request (put_answer c id request.closes) a → Makes (λ b. PutsParsedBody usage other (put_answer c id closes) b)
      spelled usage is = let m = text usage is.0 is.2 in (m.0, (is.0, is.1, m.1), m.2)

      document_put : (usage : Usage) → PutsDocument c id usage request a → Makes (λ b. PutsDocument c id usage other b)
      document_put usage =
          behind (version_tag (version_of c id)) (is_some (version_of c id)) (PutsBody usage (document_media_type id.auid) request (put_answer c id request.closes) a) (λ b. PutsBody usage (document_media_type id.auid) other (put_answer c id closes) b)
          (when (has_media_type (document_media_type id.auid) request.fields) (has_media_type (document_media_type id.auid) fields) (type_alike request.fields fields alike (document_media_type id.auid)) (PutsParsedBody usage request (put_answer c id request.closes) a) (λ b. PutsParsedBody usage other (put_answer c id closes) b)
          (plain_reply 415 request.closes) (plain_reply 415 closes) (spelled usage))

      module _ (usage : Usage) (selector : Selector) (t : Tree) where
        planned : (plan : Result Change EditRefusal) → a ≡ plan_answer c id request.closes (put_reply (node_exists t selector) request.closes) plan → Makes (λ b. b ≡ plan_answer c id closes (put_reply (node_exists t selector) closes) plan)
        planned = by_plan c id (put_reply (node_exists t selector) request.closes) (put_reply (node_exists t selector) closes)

        element_text : (spot : Spot) (read : Result Tree TextFault) → PutsElementText c (node_write id usage selector request) t spot read a → Makes (λ b. PutsElementText c (node_write id usage selector other) t spot read b)
        element_text spot (Err fault) is = never _ is
        element_text spot (Ok e) is = let m = planned is.0 is.2 in (m.0, (is.0, is.1, m.1), m.2)

        element : (spot : Spot) → PutsElement c (node_write id usage selector request) t spot a → Makes (λ b. PutsElement c (node_write id usage selector other) t spot b)
        element spot is = let m = element_text spot is.0 is.2 in (m.0, (is.0, is.1, m.1), m.2)

        value_text : (p : List ℕ) (read : Result (List ℕ) ValueFault) → PutsValueText c (node_write id usage selector request) t p read a → Makes (λ b. PutsValueText c (node_write id usage selector other) t p read b)
        value_text p (Err fault) is = never _ is
        value_text p (Ok value) is = let m = planned is.0 is.2 in (m.0, (is.0, is.1, m.1), m.2)

        at_spot : (spot : Spot) → PutsAtEditTarget c (node_write id usage selector request) t spot a → Makes (λ b. PutsAtEditTarget c (node_write id usage selector other) t spot b)
        at_spot (Over p) is = element (Over p) is
        at_spot (Under q) is = element (Under q) is
        at_spot Beside is = element Beside is
        at_spot (Value p) is = let m = value_text p is.0 is.2 in (m.0, (is.0, is.1, m.1), m.2)

        fragment : (spot : Spot) → PutsFragment c (node_write id usage selector request) t spot a → Makes (λ b. PutsFragment c (node_write id usage selector other) t spot b)
        fragment spot =
            when (has_media_type (node_media_type selector.end) request.fields) (has_media_type (node_media_type selector.end) fields) (type_alike request.fields fields alike (node_media_type selector.end)) (PutsAtEditTarget c (node_write id usage selector request) t spot a) (λ b. PutsAtEditTarget c (node_write id usage selector other) t spot b)
            (plain_reply 415 request.closes) (plain_reply 415 closes) (at_spot spot)

        from_spot : (root : List ℕ) (tag : ℕ) (spot : Result Spot NoParent) → PutsByEditTarget (server_state root c) (node_write id usage selector request) (t, tag) spot a → Makes (λ b. PutsByEditTarget (server_state root c) (node_write id usage selector other) (t, tag) spot b)
        from_spot root tag (Err none) is = never _ is
        from_spot root tag (Ok spot) is =
            behind (Some tag) (node_exists t selector) (PutsFragment c (node_write id usage selector request) t spot a) (λ b. PutsFragment c (node_write id usage selector other) t spot b) (fragment spot) is

      node_put : (root : List ℕ) (usage : Usage) (selector : Selector) (version : Option (Tree × ℕ)) → PutsNodeIfStored (server_state root c) (node_write id usage selector request) version a → Makes (λ b. PutsNodeIfStored (server_state root c) (node_write id usage selector other) version b)
      node_put root usage selector None is = never _ is
      node_put root usage selector (Some (t, tag)) is = let m = from_spot usage selector t root tag is.0 is.2 in (m.0, (is.0, is.1, m.1), m.2)

      -- ---- DELETE

      document_deleted : (version : Option (Tree × ℕ)) → DeletesDocumentIfStored c id version request a → Makes (λ b. DeletesDocumentIfStored c id version other b)
      document_deleted None is = never _ is
      document_deleted (Some (t, tag)) is =
          behind (Some tag) true (a ≡ change_answer c id RemoveDocument request.closes (delete_reply request.closes)) (λ b. b ≡ change_answer c id RemoveDocument closes (delete_reply closes))
          (by_change c id (delete_reply request.closes) (delete_reply closes) RemoveDocument) is

      cut : (usage : Usage) (selector : Selector) (t : Tree) → RemovesNode c (node_write id usage selector request) t a → Makes (λ b. RemovesNode c (node_write id usage selector other) t b)
      cut usage selector t is = let m = by_plan c id (node_delete_reply request.closes) (node_delete_reply closes) is.0 is.2 in (m.0, (is.0, is.1, m.1), m.2)

      node_deleted : (usage : Usage) (selector : Selector) (version : Option (Tree × ℕ)) → DeletesNodeIfStored c (node_write id usage selector request) version a → Makes (λ b. DeletesNodeIfStored c (node_write id usage selector other) version b)
      node_deleted usage selector None is = never _ is
      node_deleted usage selector (Some (t, tag)) is =
          when (node_exists t selector) (node_exists t selector) refl (AppliesConditions request (representation (Some tag) true) false a (RemovesNode c (node_write id usage selector request) t a)) (λ b. AppliesConditions other (representation (Some tag) true) false b (RemovesNode c (node_write id usage selector other) t b))
          (plain_reply 404 request.closes) (plain_reply 404 closes)
          (behind (Some tag) true (RemovesNode c (node_write id usage selector request) t a) (λ b. RemovesNode c (node_write id usage selector other) t b) (cut usage selector t)) is

    -- ---- all in order

    module _ (root : List ℕ) (c : StoreContents) where
      target_put : (target : Target) (usage : Usage) → PutsTarget (server_state root c) target usage request a → Makes (λ b. PutsTarget (server_state root c) target usage other b)
      target_put (Document id) usage is = document_put c id usage is
      target_put (Node id selector) usage is = node_put c id root usage selector (version_of c id) is
      target_put (Deep auid home) usage is = never _ is
      target_put (Feed mode tag id) usage is = absurd is
      target_put (ElementFeed tag id selector raw) usage is = absurd is
      target_put (Flat id service) usage is = absurd is

      target_deleted : (target : Target) (usage : Usage) → DeletesTarget c target usage request a → Makes (λ b. DeletesTarget c target usage other b)
      target_deleted (Document id) usage is = document_deleted c id (version_of c id) is
      target_deleted (Node id selector) usage is = node_deleted c id usage selector (version_of c id) is
      target_deleted (Deep auid home) usage is = never _ is
      target_deleted (Feed mode tag id) usage is = absurd is
      target_deleted (ElementFeed tag id selector raw) usage is = absurd is
      target_deleted (Flat id service) usage is = absurd is

      in_usage : (u : Option Usage) (P : Usage → Type 0) (Q : Usage → Answer → Type 0) → ((usage : Usage) → P usage → Makes (Q usage)) → WritesIfStored u request a P → Makes (λ b. WritesIfStored u other b (λ usage. Q usage b))
      in_usage None P Q so is = never _ is
      in_usage (Some usage) P Q so is = so usage is

      by_method : (target : Target) (method : Method) → is_reading method ≡ false → AnswersByMethod (server_state root c) target method request a → Makes (λ b. AnswersByMethod (server_state root c) target method other b)
      by_method target Get writes is = let no : ⊥ = cc in absurd no
      by_method target Head writes is = let no : ⊥ = cc in absurd no
      by_method target Put writes is = in_usage (usage_of (auid_of target)) (λ usage. PutsTarget (server_state root c) target usage request a) (λ usage b. PutsTarget (server_state root c) target usage other b) (target_put target) is
      by_method target Delete writes is = in_usage (usage_of (auid_of target)) (λ usage. DeletesTarget c target usage request a) (λ usage b. DeletesTarget c target usage other b) (target_deleted target) is
      by_method target Other writes is = absurd is

      by_user : (target : Target) (method : Method) → is_reading method ≡ false → AnswersByUser (server_state root c) target method request a → Makes (λ b. AnswersByUser (server_state root c) target method other b)
      by_user target method writes =
          when (is_allowed (not (is_reading method)) (auid_of target) (home_of target) request.fields) (is_allowed (not (is_reading method)) (auid_of target) (home_of target) fields)
          (allowed_alike request.fields fields alike (not (is_reading method)) (auid_of target) (home_of target)) (AnswersByMethod (server_state root c) target method request a) (λ b. AnswersByMethod (server_state root c) target method other b)
          (plain_reply 403 request.closes) (plain_reply 403 closes) (by_method target method writes)

      by_target : (target : Target) (method : Method) → is_reading method ≡ false → AnswersByTarget (server_state root c) target method request a → Makes (λ b. AnswersByTarget (server_state root c) target method other b)
      by_target target method writes =
          when (allows_method target method) (allows_method target method) refl (AnswersByUser (server_state root c) target method request a) (λ b. AnswersByUser (server_state root c) target method other b) _ _ (by_user target method writes)

      answered_so : (read : Result Target UriFault) → is_reading (method_of request.method) ≡ false → IsAnswerByTarget root c read request a → Makes (λ b. IsAnswerByTarget root c read other b)
      answered_so (Err fault) writes is = never _ is
      answered_so (Ok target) writes is = by_target target (method_of request.method) writes is

      -- the other request makes the same change
      pub makes_too : is_reading (method_of request.method) ≡ false → IsAnswer root c request a → Makes (IsAnswer root c other)
      makes_too writes is = let m = answered_so is.0 writes is.2 in (m.0, (is.0, is.1, m.1), m.2)
