-- What a request that doesn't read is answered, and the change that it makes, depend on the present
-- documents and the next number alone, and not on the change records that are retained.
use Rattle.std.proofs.Common.{◌≡◌, ℕ, ◌+◌, Bool, true, false, not, List, [], length, map, filter, sum_by, is_some, Option, None, Some, option_map, Result, Ok, Err, refl, sym, ap, subst, ◌∙◌}
use Rattle.std.specs.Prelude.{◌&&◌, nat_le, nat_lt}
use Rattle.std.specs.Bool.{MatchBool}
use Rattle.std.specs.List.{find, flat_map}
use Rattle.std.specs.Option.{option_or}
use Rattle.std.proofs.lemmas.List.{length-map}
use Rattle.std.proofs.lemmas.List.Folds.{flat_map-map}
use Rattle.std.proofs.lemmas.Option.{same_Some}
use Rattle.xml_tree.specs.Tree.{Tree}
use Rattle.tree_text.specs.declared.fault.TextFault.{TextFault}
use Rattle.tree_text.specs.declared.fault.ValueFault.{ValueFault}
use Rattle.usage_docs.specs.Services.{document_len}
use Rattle.doc_names.specs.NameEquality.{same_home, same_id}
use Rattle.doc_names.specs.Usages.{usage_of}
use Rattle.doc_names.specs.declared.usages.Usage.{Usage}
use Rattle.doc_names.specs.declared.doc_id.DocId.{DocId}
use Rattle.doc_names.specs.declared.doc_id.Home.{Home}
use Rattle.node_select.specs.declared.selector.Selector.{Selector}
use Rattle.edit_ops.specs.Changes.{edited}
use Rattle.edit_ops.specs.Notes.{Note, note_of}
use Rattle.edit_ops.specs.declared.change.Change.{Change}
use Rattle.edit_ops.specs.declared.change.Change.TheVariants.{RemoveDocument}
use Rattle.edit_ops.specs.declared.edit.Edit.{Edit}
use Rattle.edit_rules.specs.declared.edit_refusal.EditRefusal.{EditRefusal}
use Rattle.edit_rules.specs.declared.spot.NoParent.{NoParent}
use Rattle.edit_rules.specs.declared.spot.Spot.{Spot}
use Rattle.edit_rules.specs.declared.spot.Spot.TheVariants.{Over, Under, Beside, Value}
use Rattle.reply_text.specs.ReplyHeads.{SentReply, plain_reply}
use Rattle.http_wire.specs.declared.request.Request.{Request}
use Rattle.request_checks.specs.MediaTypes.{document_media_type, has_media_type}
use Rattle.request_checks.specs.Methods.{is_reading, method_of}
use Rattle.request_checks.specs.Rights.{is_allowed}
use Rattle.request_checks.specs.declared.method.Method.{Method}
use Rattle.request_checks.specs.declared.method.Method.TheVariants.{Get, Head, Put, Delete, Other}
use Rattle.reply_bodies.specs.Nodes.{node_media_type}
use Rattle.xcap_uri.specs.declared.fault.UriFault.{UriFault}
use Rattle.xcap_uri.specs.declared.target.Target.{Target}
use Rattle.xcap_uri.specs.declared.target.Target.TheVariants.{Document, Node, Deep, Feed, ElementFeed, Flat}
use Rattle.store_core.specs.Contents.{HasDocumentsOf, StoreContents, StoredDocument, contents_of, stored_now}
use Rattle.store_core.specs.DocumentChanges.{ChangeKind, Makes, Edits, Removes, change_kind, find_document, first_taken_address, home_len_of_others, note_for, other_addresses, others_of_home, refusal_if, refusal_in_store, refusal_of, refusal_of_count, refusal_of_home, refusal_of_length, refusal_of_number, refusal_of_services, refusal_of_total, refusal_of_tree, stored_id, total_len_of_others, without_document}
use Rattle.store_core.specs.State.{State}
use Rattle.store_core.specs.ValidStates.{IsValidState, document_addresses}
use Rattle.store_core.specs.HomeLimits.{documents_of_home, is_above}
use Rattle.store_core.specs.declared.limits.Limits.{Limits}
use Rattle.store_core.specs.declared.refusal.StoreRefusal.{StoreRefusal}
use Rattle.store_core.specs.declared.refusal.StoreRefusal.TheVariants.{HomeFull, HomeTooMany, ServiceTaken, StoreFull, TooMany}
use Rattle.store_core.proofs.AcceptedChanges.{find-map, sum-mapped}
use Rattle.store_core.proofs.PresentDocuments.{represented}
use Rattle.store_core.proofs.StateContents.{map-filtered}
use Rattle.xcap_machine.specs.Answers.{Answer, AppliesConditions, reply_only}
use Rattle.xcap_machine.specs.DocumentWrites.{PutsDocument, PutsBody, PutsParsedBody, WritesIfStored, change_answer, delete_reply, put_answer, put_change, put_reply}
use Rattle.xcap_machine.specs.Machine.{ValidStep, answer_with_edit, change_from_edit, content_after_answer}
use Rattle.xcap_machine.specs.NodeWrites.{NodeWrite, PutsAtEditTarget, PutsByEditTarget, PutsFragment, RemovesNode, node_delete_reply, node_exists, plan_answer, planned_put_answer}
use Rattle.xcap_machine.specs.Requests.{AnswersByTarget, IsAnswer}
use Rattle.xcap_machine.specs.Resources.{version_of}
use Rattle.xcap_machine.specs.StandardRequests.{DeletesTarget, PutsTarget, allows_method, auid_of, home_of}
use Rattle.xcap_machine.specs.inner.AnswerCases.{AnswersByMethod, AnswersByUser, AnswersUnlessStopped, DeletesDocumentIfStored, DeletesNodeIfStored, IsAnswerByTarget, PutsElementText, PutsNodeIfStored, PutsParsedText, PutsValueText, judgement_answer, store_answer, version_tag}
use Rattle.xcap_machine.specs.inner.RecordValues.{node_write, representation, server_state}
use Rattle.xcap_machine.proofs.StandardAnswers.{standard_step}
use Rattle.xcap_machine.proofs.Steps.{step_of}

abbrev Present : Type 0
Present = DocId × ℕ × Tree

abbrev is_other : DocId → Present → Bool
is_other id p = not (same_id id p.0)

abbrev addresses_at : Present → List (List ℕ)
addresses_at p = document_addresses p.0.auid p.2

abbrev len_at : Present → ℕ
len_at p = document_len p.2

abbrev is_at : Home → Present → Bool
is_at home p = same_home home p.0.home

-- the first reason of a home with this number of other documents, which have this length together
abbrev home_reason : Limits → ℕ → ℕ → Tree → Option StoreRefusal
home_reason limits count total t =
    option_or (refusal_if (is_above limits.home_documents (count + 1)) HomeTooMany) (refusal_if (is_above limits.home_bytes (total + document_len t)) (HomeFull (total + document_len t)))

abbrev tree_and_tag : Option Present → Option (Tree × ℕ)
tree_and_tag o = option_map {U = Tree × ℕ} (λ (p : Present). (p.2, p.1)) o

version_by : (held : Option StoredDocument) → option_map {U = Tree × ℕ} (λ (h : StoredDocument). (h.tree, h.tag)) held ≡ tree_and_tag (option_map stored_now held)
version_by None = refl
version_by (Some h) = refl

-- ---- what a change is answered

-- two contents with the same present documents, the same next number and the same limits
module _ (c d : StoreContents) (same : map stored_now c.documents ≡ map stored_now d.documents) (number : c.next ≡ d.next) (limits : c.limits ≡ d.limits) where
  present : (hs : List StoredDocument) (id : DocId) → option_map stored_now (find_document stored_id hs id) ≡ find (λ (p : Present). same_id id p.0) (map stored_now hs)
  present hs id = sym (find-map stored_now (λ (p : Present). same_id id p.0) hs)

  same_held : (id : DocId) → option_map stored_now (find_document stored_id c.documents id) ≡ option_map stored_now (find_document stored_id d.documents id)
  same_held id = present c.documents id ∙ ap (λ (ps : List Present). find (λ (p : Present). same_id id p.0) ps) same ∙ sym (present d.documents id)

  same_version : (id : DocId) → version_of c id ≡ version_of d id
  same_version id =
      version_by (find_document stored_id c.documents id) ∙ ap tree_and_tag (same_held id) ∙ sym (version_by (find_document stored_id d.documents id))

  others_now : (hs : List StoredDocument) (id : DocId) → map stored_now (without_document stored_id hs id) ≡ filter (is_other id) (map stored_now hs)
  others_now hs id = map-filtered stored_now (λ (h : StoredDocument). not (same_id id h.id)) (is_other id) (λ h. refl) hs

  same_others : (id : DocId) → map stored_now (without_document stored_id c.documents id) ≡ map stored_now (without_document stored_id d.documents id)
  same_others id = others_now c.documents id ∙ ap (λ (ps : List Present). filter (is_other id) ps) same ∙ sym (others_now d.documents id)

  same_addresses : (id : DocId) → other_addresses c id ≡ other_addresses d id
  same_addresses id =
      sym (flat_map-map addresses_at stored_now (without_document stored_id c.documents id))
      ∙ ap (λ (ps : List Present). flat_map addresses_at ps) (same_others id)
      ∙ flat_map-map addresses_at stored_now (without_document stored_id d.documents id)

  same_total : (id : DocId) → total_len_of_others c id ≡ total_len_of_others d id
  same_total id =
      sym (sum-mapped len_at stored_now (without_document stored_id c.documents id))
      ∙ ap (λ (ps : List Present). sum_by len_at ps) (same_others id)
      ∙ sum-mapped len_at stored_now (without_document stored_id d.documents id)

  same_count : length c.documents ≡ length d.documents
  same_count = sym (length-map c.documents stored_now) ∙ ap (λ (ps : List Present). length ps) same ∙ length-map d.documents stored_now

  either_reason : (a a' b b' : Option StoreRefusal) → a ≡ a' → b ≡ b' → option_or a b ≡ option_or a' b'
  either_reason a a' b b' e f = ap (λ (x : Option StoreRefusal). option_or x b) e ∙ ap (λ (y : Option StoreRefusal). option_or a' y) f

  same_services : (id : DocId) (t : Tree) → refusal_of_services c id t ≡ refusal_of_services d id t
  same_services id t = ap (λ (others : List (List ℕ)). option_map (λ clash. ServiceTaken clash) (first_taken_address others (document_addresses id.auid t))) (same_addresses id)

  same_few : (is_new : Bool) → refusal_of_count c is_new ≡ refusal_of_count d is_new
  same_few is_new =
      ap (λ (n : ℕ). refusal_if (is_new && nat_le c.limits.documents n) TooMany) same_count
      ∙ ap (λ (l : Limits). refusal_if (is_new && nat_le l.documents (length d.documents)) TooMany) limits

  same_room : (id : DocId) (t : Tree) → refusal_of_total c id t ≡ refusal_of_total d id t
  same_room id t =
      ap (λ (n : ℕ). refusal_if (nat_lt c.limits.bytes (n + document_len t)) (StoreFull (n + document_len t))) (same_total id)
      ∙ ap (λ (l : Limits). refusal_if (nat_lt l.bytes (total_len_of_others d id + document_len t)) (StoreFull (total_len_of_others d id + document_len t))) limits

  home_now : (hs : List StoredDocument) (home : Home) → map stored_now (documents_of_home stored_id hs home) ≡ filter (is_at home) (map stored_now hs)
  home_now hs home = map-filtered stored_now (λ (h : StoredDocument). same_home home h.id.home) (is_at home) (λ h. refl) hs

  same_home_others : (id : DocId) → map stored_now (others_of_home c id) ≡ map stored_now (others_of_home d id)
  same_home_others id =
      home_now (without_document stored_id c.documents id) id.home
      ∙ ap (λ (ps : List Present). filter (is_at id.home) ps) (same_others id)
      ∙ sym (home_now (without_document stored_id d.documents id) id.home)

  same_home_count : (id : DocId) → length (others_of_home c id) ≡ length (others_of_home d id)
  same_home_count id =
      sym (length-map (others_of_home c id) stored_now) ∙ ap (λ (ps : List Present). length ps) (same_home_others id) ∙ length-map (others_of_home d id) stored_now

  same_home_len : (id : DocId) → home_len_of_others c id ≡ home_len_of_others d id
  same_home_len id =
      sym (sum-mapped len_at stored_now (others_of_home c id)) ∙ ap (λ (ps : List Present). sum_by len_at ps) (same_home_others id) ∙ sum-mapped len_at stored_now (others_of_home d id)

  same_home_refusal : (id : DocId) (t : Tree) → refusal_of_home c id t ≡ refusal_of_home d id t
  same_home_refusal id t =
      ap (λ (n : ℕ). home_reason c.limits n (home_len_of_others c id) t) (same_home_count id)
      ∙ ap (λ (n : ℕ). home_reason c.limits (length (others_of_home d id)) n t) (same_home_len id)
      ∙ ap (λ (l : Limits). home_reason l (length (others_of_home d id)) (home_len_of_others d id) t) limits

  same_in_store : (id : DocId) (is_new : Bool) (t : Tree) → refusal_in_store c id is_new t ≡ refusal_in_store d id is_new t
  same_in_store id is_new t =
      either_reason (refusal_of_services c id t) (refusal_of_services d id t) (option_or (refusal_of_length t) (option_or (refusal_of_count c is_new) (refusal_of_total c id t)))
      (option_or (refusal_of_length t) (option_or (refusal_of_count d is_new) (refusal_of_total d id t))) (same_services id t)
      (ap (λ (o : Option StoreRefusal). option_or (refusal_of_length t) o)
      (either_reason (refusal_of_count c is_new) (refusal_of_count d is_new) (refusal_of_total c id t) (refusal_of_total d id t) (same_few is_new) (same_room id t)))

  same_tree_refusal : (id : DocId) (is_new : Bool) (t : Tree) → refusal_of_tree c id is_new t ≡ refusal_of_tree d id is_new t
  same_tree_refusal id is_new t =
      either_reason (refusal_in_store c id is_new t) (refusal_in_store d id is_new t) (refusal_of_home c id t) (refusal_of_home d id t) (same_in_store id is_new t) (same_home_refusal id t)

  same_last : refusal_of_number c ≡ refusal_of_number d
  same_last = ap (λ (n : ℕ). refusal_of_number (record { documents = d.documents; next = n; limits = d.limits })) number

  put_refusal : (id : DocId) (is_new : Bool) (t t' : Tree) → t ≡ t' → option_or (refusal_of_tree c id is_new t) (refusal_of_number c) ≡ option_or (refusal_of_tree d id is_new t') (refusal_of_number d)
  put_refusal id is_new t t' e =
      either_reason (refusal_of_tree c id is_new t) (refusal_of_tree d id is_new t') (refusal_of_number c) (refusal_of_number d)
      (same_tree_refusal id is_new t ∙ ap (λ (x : Tree). refusal_of_tree d id is_new x) e) same_last

  one_held : (h k : StoredDocument) → option_map stored_now (Some h) ≡ option_map stored_now (Some k) → stored_now h ≡ stored_now k
  one_held h k e = same_Some (stored_now h) (stored_now k) e

  same_refusal : (id : DocId) (change : Change) (held other : Option StoredDocument) → option_map stored_now held ≡ option_map stored_now other → (kind : ChangeKind) → refusal_of c id change held kind ≡ refusal_of d id change other kind
  same_refusal id change held other e (Makes root) = put_refusal id true root root refl
  same_refusal id change None None e Edits = refl
  same_refusal id change (Some h) (Some k) e Edits = put_refusal id false (edited h.tree change) (edited k.tree change) (ap (λ (p : Present). edited p.2 change) (one_held h k e))
  same_refusal id change None (Some k) e Edits = let no : ⊥ = cc in absurd no
  same_refusal id change (Some h) None e Edits = let no : ⊥ = cc in absurd no
  same_refusal id change held other e Removes = same_last

  same_note : (id : DocId) (change : Change) (held other : Option StoredDocument) → option_map stored_now held ≡ option_map stored_now other → note_for c id change held ≡ note_for d id change other
  same_note id change None None e = ap (λ (n : ℕ). record { previous = 0; next = n; bindings = []; change = change; fresh = false }) number
  same_note id change (Some h) (Some k) e =
      ap (λ (n : ℕ). note_of h.tag n h.tree change) number ∙ ap (λ (p : Present). note_of p.1 d.next p.2 change) (one_held h k e)
  same_note id change None (Some k) e = let no : ⊥ = cc in absurd no
  same_note id change (Some h) None e = let no : ⊥ = cc in absurd no

  same_change : (id : DocId) (change : Change) (closes : Bool) (reply : Note → SentReply) → change_answer c id change closes reply ≡ change_answer d id change closes reply
  same_change id change closes reply =
      let held = find_document stored_id c.documents id in
      let other = find_document stored_id d.documents id in
      ap (λ (r : Option StoreRefusal). store_answer id closes reply r (note_for c id change held)) (same_refusal id change held other (same_held id) (change_kind change))
      ∙ ap (λ (n : Note). store_answer id closes reply (refusal_of d id change other (change_kind change)) n) (same_note id change held other (same_held id))

  same_plan : (id : DocId) (closes : Bool) (reply : Note → SentReply) (plan : Result Change EditRefusal) → plan_answer c id closes reply plan ≡ plan_answer d id closes reply plan
  same_plan id closes reply (Err why) = refl
  same_plan id closes reply (Ok change) = same_change id change closes reply

  same_put : (id : DocId) (closes : Bool) (t : Tree) → put_answer c id closes t ≡ put_answer d id closes t
  same_put id closes t =
      ap (λ (v : Option (Tree × ℕ)). change_answer c id (put_change (is_some v) t) closes (put_reply (is_some v) closes)) (same_version id)
      ∙ same_change id (put_change (is_some (version_of d id)) t) closes (put_reply (is_some (version_of d id)) closes)

  -- ---- what a request is answered

  module _ (root : List ℕ) (request : Request) (a : Answer) where
    unless_stopped : (stop : Option SentReply) (P Q : Type 0) → (P → Q) → AnswersUnlessStopped stop a P → AnswersUnlessStopped stop a Q
    unless_stopped None P Q so is = so is
    unless_stopped (Some reply) P Q so is = is

    behind : (tag : Option ℕ) (exists : Bool) (P Q : Type 0) → (P → Q) → AppliesConditions request (representation tag exists) false a P → AppliesConditions request (representation tag exists) false a Q
    behind tag exists P Q so is = (is.0, is.1, unless_stopped is.0 P Q so is.2)

    when : (test : Bool) (P Q R : Type 0) → (P → Q) → MatchBool test P R → MatchBool test Q R
    when true P Q R so is = so is
    when false P Q R so is = is

    -- ---- PUT of a document

    text : (usage : Usage) (read : Result Tree TextFault) (f g : Tree → Answer) → ((t : Tree) → f t ≡ g t) → PutsParsedText usage read request.closes f a → PutsParsedText usage read request.closes g a
    text usage (Err fault) f g e is = is
    text usage (Ok t) f g e is = (is.0, is.1, is.2 ∙ ap (λ (x : Answer). judgement_answer is.0 request.closes x) (e t))

    spelled : (usage : Usage) (f g : Tree → Answer) → ((t : Tree) → f t ≡ g t) → PutsParsedBody usage request f a → PutsParsedBody usage request g a
    spelled usage f g e is = (is.0, is.1, text usage is.0 f g e is.2)

    document_put : (id : DocId) (usage : Usage) → PutsDocument c id usage request a → PutsDocument d id usage request a
    document_put id usage is =
        let media = document_media_type id.auid in
        let f = put_answer c id request.closes in
        let g = put_answer d id request.closes in
        let Old : Type 0 = PutsBody usage media request f a in
        let version = version_of d id in
        behind (version_tag version) (is_some version) Old (PutsBody usage media request g a)
        (when (has_media_type media request.fields) (PutsParsedBody usage request f a) (PutsParsedBody usage request g a) (a ≡ reply_only (plain_reply 415 request.closes)) (spelled usage f g (same_put id request.closes)))
        (subst (λ (v : Option (Tree × ℕ)). AppliesConditions request (representation (version_tag v) (is_some v)) false a Old) (same_version id) is)

    -- ---- PUT of a node

    module _ (id : DocId) (usage : Usage) (selector : Selector) (t : Tree) where
      abbrev put : NodeWrite
      put = node_write id usage selector request

      planned : (plan : Result Change EditRefusal) → a ≡ planned_put_answer c put t plan → a ≡ planned_put_answer d put t plan
      planned plan is = is ∙ same_plan id request.closes (put_reply (node_exists t selector) request.closes) plan

      element_text : (spot : Spot) (read : Result Tree TextFault) → PutsElementText c put t spot read a → PutsElementText d put t spot read a
      element_text spot (Err fault) is = is
      element_text spot (Ok e) is = (is.0, is.1, planned is.0 is.2)

      value_text : (p : List ℕ) (read : Result (List ℕ) ValueFault) → PutsValueText c put t p read a → PutsValueText d put t p read a
      value_text p (Err fault) is = is
      value_text p (Ok value) is = (is.0, is.1, planned is.0 is.2)

      at_spot : (spot : Spot) → PutsAtEditTarget c put t spot a → PutsAtEditTarget d put t spot a
      at_spot (Over p) is = (is.0, is.1, element_text (Over p) is.0 is.2)
      at_spot (Under q) is = (is.0, is.1, element_text (Under q) is.0 is.2)
      at_spot Beside is = (is.0, is.1, element_text Beside is.0 is.2)
      at_spot (Value p) is = (is.0, is.1, value_text p is.0 is.2)

      fragment : (spot : Spot) → PutsFragment c put t spot a → PutsFragment d put t spot a
      fragment spot =
          when (has_media_type (node_media_type selector.end) request.fields) (PutsAtEditTarget c put t spot a) (PutsAtEditTarget d put t spot a) (a ≡ reply_only (plain_reply 415 request.closes)) (at_spot spot)

      from_spot : (tag : ℕ) (spot : Result Spot NoParent) → PutsByEditTarget (server_state root c) put (t, tag) spot a → PutsByEditTarget (server_state root d) put (t, tag) spot a
      from_spot tag (Err none) is = is
      from_spot tag (Ok spot) is = behind (Some tag) (node_exists t selector) (PutsFragment c put t spot a) (PutsFragment d put t spot a) (fragment spot) is

      cut : RemovesNode c put t a → RemovesNode d put t a
      cut is = (is.0, is.1, is.2 ∙ same_plan id request.closes (node_delete_reply request.closes) is.0)

    node_put : (id : DocId) (usage : Usage) (selector : Selector) (version : Option (Tree × ℕ)) → PutsNodeIfStored (server_state root c) (node_write id usage selector request) version a → PutsNodeIfStored (server_state root d) (node_write id usage selector request) version a
    node_put id usage selector None is = is
    node_put id usage selector (Some (t, tag)) is = (is.0, is.1, from_spot id usage selector t tag is.0 is.2)

    -- ---- DELETE

    document_deleted : (id : DocId) (version : Option (Tree × ℕ)) → DeletesDocumentIfStored c id version request a → DeletesDocumentIfStored d id version request a
    document_deleted id None is = is
    document_deleted id (Some (t, tag)) is =
        behind (Some tag) true (a ≡ change_answer c id RemoveDocument request.closes (delete_reply request.closes)) (a ≡ change_answer d id RemoveDocument request.closes (delete_reply request.closes))
        (λ e. e ∙ same_change id RemoveDocument request.closes (delete_reply request.closes)) is

    node_deleted : (id : DocId) (usage : Usage) (selector : Selector) (version : Option (Tree × ℕ)) → DeletesNodeIfStored c (node_write id usage selector request) version a → DeletesNodeIfStored d (node_write id usage selector request) version a
    node_deleted id usage selector None is = is
    node_deleted id usage selector (Some (t, tag)) is =
        let Old : Type 0 = RemovesNode c (node_write id usage selector request) t a in
        let New : Type 0 = RemovesNode d (node_write id usage selector request) t a in
        when (node_exists t selector) (AppliesConditions request (representation (Some tag) true) false a Old) (AppliesConditions request (representation (Some tag) true) false a New) (a ≡ reply_only (plain_reply 404 request.closes))
        (behind (Some tag) true Old New (cut id usage selector t)) is

    -- ---- all in order

    target_put : (target : Target) (usage : Usage) → PutsTarget (server_state root c) target usage request a → PutsTarget (server_state root d) target usage request a
    target_put (Document id) usage is = document_put id usage is
    target_put (Node id selector) usage is =
        node_put id usage selector (version_of d id) (subst (λ (v : Option (Tree × ℕ)). PutsNodeIfStored (server_state root c) (node_write id usage selector request) v a) (same_version id) is)
    target_put (Deep auid home) usage is = is
    target_put (Feed mode tag id) usage is = absurd is
    target_put (ElementFeed tag id selector raw) usage is = absurd is
    target_put (Flat id service) usage is = absurd is

    target_deleted : (target : Target) (usage : Usage) → DeletesTarget c target usage request a → DeletesTarget d target usage request a
    target_deleted (Document id) usage is = document_deleted id (version_of d id) (subst (λ (v : Option (Tree × ℕ)). DeletesDocumentIfStored c id v request a) (same_version id) is)
    target_deleted (Node id selector) usage is =
        node_deleted id usage selector (version_of d id) (subst (λ (v : Option (Tree × ℕ)). DeletesNodeIfStored c (node_write id usage selector request) v a) (same_version id) is)
    target_deleted (Deep auid home) usage is = is
    target_deleted (Feed mode tag id) usage is = absurd is
    target_deleted (ElementFeed tag id selector raw) usage is = absurd is
    target_deleted (Flat id service) usage is = absurd is

    in_usage : (u : Option Usage) (P Q : Usage → Type 0) → ((usage : Usage) → P usage → Q usage) → WritesIfStored u request a P → WritesIfStored u request a Q
    in_usage None P Q so is = is
    in_usage (Some usage) P Q so is = so usage is

    by_method : (target : Target) (method : Method) → is_reading method ≡ false → AnswersByMethod (server_state root c) target method request a → AnswersByMethod (server_state root d) target method request a
    by_method target Get writes is = let no : ⊥ = cc in absurd no
    by_method target Head writes is = let no : ⊥ = cc in absurd no
    by_method target Put writes is = in_usage (usage_of (auid_of target)) (λ usage. PutsTarget (server_state root c) target usage request a) (λ usage. PutsTarget (server_state root d) target usage request a) (target_put target) is
    by_method target Delete writes is = in_usage (usage_of (auid_of target)) (λ usage. DeletesTarget c target usage request a) (λ usage. DeletesTarget d target usage request a) (target_deleted target) is
    by_method target Other writes is = absurd is

    by_user : (target : Target) (method : Method) → is_reading method ≡ false → AnswersByUser (server_state root c) target method request a → AnswersByUser (server_state root d) target method request a
    by_user target method writes =
        when (is_allowed (not (is_reading method)) (auid_of target) (home_of target) request.fields) (AnswersByMethod (server_state root c) target method request a) (AnswersByMethod (server_state root d) target method request a)
        (a ≡ reply_only (plain_reply 403 request.closes)) (by_method target method writes)

    by_target : (target : Target) (method : Method) → is_reading method ≡ false → AnswersByTarget (server_state root c) target method request a → AnswersByTarget (server_state root d) target method request a
    by_target target method writes = when (allows_method target method) (AnswersByUser (server_state root c) target method request a) (AnswersByUser (server_state root d) target method request a) _ (by_user target method writes)

    by_read : (read : Result Target UriFault) → is_reading (method_of request.method) ≡ false → IsAnswerByTarget root c read request a → IsAnswerByTarget root d read request a
    by_read (Err fault) writes is = is
    by_read (Ok target) writes is = by_target target (method_of request.method) writes is

    pub same_answer : is_reading (method_of request.method) ≡ false → IsAnswer root c request a → IsAnswer root d request a
    same_answer writes is = (is.0, is.1, by_read is.0 writes is.2)

-- ---- a step

-- contents that have the documents of a state are answered as that state is
pub answered_as_the_state : (root : List ℕ) (c : StoreContents) (n : State) (request : Request) (a : Answer) → HasDocumentsOf c n → is_reading (method_of request.method) ≡ false → IsAnswer root c request a → IsAnswer root (contents_of n) request a
answered_as_the_state root c n request a has writes is =
    let own = represented (contents_of n) n refl in
    same_answer c (contents_of n) (has.documents ∙ sym own.documents) has.next has.limits root request a writes is

pub same_step : (root : List ℕ) (m next n : State) (request : Request) (reply : SentReply) (edit : Option Edit) → is_reading (method_of request.method) ≡ false → ValidStep root m request reply next edit → HasDocumentsOf (contents_of m) n → IsValidState n
    → (other : State) × ValidStep root n request reply other edit × HasDocumentsOf (contents_of next) other
same_step root m next n request reply edit writes step has valid =
    let made = option_map change_from_edit edit in
    let answers = answered_as_the_state root (contents_of m) n request (answer_with_edit reply edit) has writes step.1.answers in
    let old = step_of root (contents_of m) (content_after_answer (contents_of m) made) m request reply edit (record { answers = step.1.answers; goes_on = refl }) step.0 refl in
    let new = step_of root (contents_of n) (content_after_answer (contents_of n) made) n request reply edit (record { answers = answers; goes_on = refl }) valid refl in
    let standard = standard_step root (contents_of m) (content_after_answer (contents_of m) made) n request reply edit (record { answers = step.1.answers; goes_on = refl }) has in
    let contents : content_after_answer (contents_of m) made ≡ contents_of next = old.2 ∙ ap contents_of (old.1.1.goes_on ∙ sym step.1.goes_on) in
    let state : standard.0 ≡ new.0 = standard.1.goes_on ∙ sym new.1.1.goes_on in (
      new.0,
      new.1,
      subst (λ (x : State). HasDocumentsOf (contents_of next) x) state (subst (λ (x : StoreContents). HasDocumentsOf x standard.0) contents standard.2),
    )
