-- Replies whose body is lent by the store.
use Rattle.std.proofs.Common.{◌≡◌, ℕ, ◌≤◌, min, Bool, true, List, [], Option, None, Some, Result, IfOk, option_map, option_and_then, encode_utf8_all, refl, sym, ap, ◌∙◌, subst, arith}
use Rattle.std.proofs.lemmas.Option.{same_Some}
use Rattle.std.proofs.lemmas.Result.{IfOk-weaker}
use Rattle.std.specs.Option.{option_map_or}
use Rattle.xml_names.specs.Markup.{byte_len}
use Rattle.xml_tree.specs.Print.{document_print, print}
use Rattle.xml_tree.specs.Tree.{Tree, at}
use Rattle.xml_tree.specs.TreeScopes.{scope_at}
use Rattle.doc_names.specs.declared.doc_id.DocId.{DocId}
use Rattle.doc_names.specs.declared.usages.Usage.{Usage}
use Rattle.doc_names.specs.declared.doc_id.Home.{Home}
use Rattle.doc_names.specs.declared.doc_id.Home.TheVariants.{User}
use Rattle.node_select.specs.Selection.{selected_element_path}
use Rattle.node_select.specs.declared.selector.End.{End}
use Rattle.node_select.specs.declared.selector.End.TheVariants.{Element}
use Rattle.node_select.specs.declared.selector.Selector.{Selector}
use Rattle.reply_bodies.specs.Nodes.{encode_optional, found_text, node_media_type, node_text, node_text_at}
use Rattle.reply_text.specs.ReplyHeads.{SentReply, plain_reply, sent_reply}
use Rattle.reply_text.specs.declared.media_types.MediaType.{MediaType}
use Rattle.reply_text.specs.declared.media_types.MediaType.TheVariants as media
use Rattle.http_wire.specs.declared.request.Request.{Request}
use Rattle.request_checks.specs.Conditions.{IsConditionReply, outcome_reply}
use Rattle.request_checks.specs.MediaTypes.{document_media_type}
use Rattle.request_checks.specs.declared.conditions.Outcome.{Outcome}
use Rattle.request_checks.specs.declared.conditions.Outcome.TheVariants as outcomes
use Rattle.request_checks.specs.declared.method.Method.TheVariants.{Get}
use Rattle.store_core.specs.Contents.{StoredDocument, StoreContents}
use Rattle.store_core.specs.ValidStates.{IsSoundDocumentFor}
use Rattle.xcap_machine.specs.Answers.{Answer, found_reply, reply_only}
use Rattle.xcap_machine.specs.ReadRequests.{AnswersWithFound, ReadsDocument, ReadsNode}
use Rattle.xcap_machine.specs.Resources.{IsResourceInHome, IsResourceOf, absent, there, version_of}
use Rattle.xcap_machine.specs.inner.RecordValues.{read_request}
use Rattle.xcap_machine.proofs.Cases.{at_true}
use Rattle.xcap_get.specs.LentReplies.{LendsFound, LendsIf, is_stored_home}
use Rattle.xcap_get.proofs.HeldOnes.{led}

-- ---- statuses

not_found_status : (status : ℕ) → status ≡ 404 → status ≡ 200 → ⊥
not_found_status status is found = omega (arith, is, found)

other_status : (outcome : Outcome) (tag : Option ℕ) (closes : Bool) (reply : SentReply) → Some reply ≡ outcome_reply outcome tag closes → reply.status ≡ 200 → ⊥
other_status outcomes.Unreadable tag closes reply is found =
    let status : reply.status ≡ 400 = ap (λ (r : SentReply). r.status) (same_Some reply (plain_reply 400 closes) is) in omega (arith, found, status)
other_status outcomes.Go tag closes reply is found = let no : ⊥ = cc in no
other_status outcomes.NotModified tag closes reply is found =
    let other = sent_reply (record { status = 304; tag = tag; read_only = None; media = None; size = 0; closes = closes }) [] in
    let status : reply.status ≡ 304 = ap (λ (r : SentReply). r.status) (same_Some reply other is) in omega (arith, found, status)
other_status outcomes.Failed tag closes reply is found =
    let status : reply.status ≡ 412 = ap (λ (r : SentReply). r.status) (same_Some reply (plain_reply 412 closes) is) in omega (arith, found, status)

-- ---- what was found

-- a condition stops the request
pub lends_stopped : (text : List ℕ) (tag : ℕ) (m : MediaType) (request : Request) (reply : SentReply) → IsConditionReply request (Some tag) true true (Some reply) → LendsFound (AnswersWithFound (Some text) tag m (read_request Get request)) None
lends_stopped text tag m request reply stops = (reply, (Some reply, stops, refl), other_status stops.0 (Some tag) request.closes reply stops.2)

-- the conditions pass
pub lends_text : (text : List ℕ) (tag : ℕ) (m : MediaType) (request : Request) (reply : SentReply) → IsConditionReply request (Some tag) true true None → reply ≡ found_reply (Some tag) m text request.closes
    → LendsFound (AnswersWithFound (Some text) tag m (read_request Get request)) (Some reply)
lends_text text tag m request reply goes_on is = ((None, goes_on, ap reply_only is), ap (λ (r : SentReply). r.status) is)

-- nothing was found
pub lends_nothing : (text : Option (List ℕ)) (tag : ℕ) (m : MediaType) (request : Request) → text ≡ None → LendsFound (AnswersWithFound text tag m (read_request Get request)) None
lends_nothing None tag m request is = (plain_reply 404 request.closes, refl, not_found_status 404 refl)
lends_nothing (Some text) tag m request is = let no : ⊥ = cc in absurd no

-- more answers are allowed
pub lends_wider : (Narrow Wide : Answer → Type 0) → ((a : Answer) → Narrow a → Wide a) → (lent : Option SentReply) → LendsFound Narrow lent → LendsFound Wide lent
lends_wider Narrow Wide wider None lends = (lends.0, wider (reply_only lends.0) lends.1, lends.2)
lends_wider Narrow Wide wider (Some reply) lends = (wider (reply_only reply) lends.0, lends.1)

module _ (c : StoreContents) (id : DocId) (xui : List ℕ) (request : Request) (home : id.home ≡ User xui) where
  stored : is_stored_home id.home ≡ true
  stored = ap (λ (h : Home). is_stored_home h) home

  not_there : version_of c id ≡ None → IsResourceOf c id absent
  not_there is = subst (λ (h : Home). IsResourceInHome c id h absent) (sym home) (sym (ap (λ (version : Option (Tree × ℕ)). option_map_or (λ held. there held.0 held.1) version absent) is))

  -- ---- documents

  pub lends_absent_document : version_of c id ≡ None → LendsIf (is_stored_home id.home) (ReadsDocument c id (read_request Get request)) None
  lends_absent_document is = at_true _ _ _ stored (plain_reply 404 request.closes, (absent, not_there is, refl), not_found_status 404 refl)

  sends_document : (t : Tree) (tag : ℕ) (body : List ℕ) (m : MediaType) → version_of c id ≡ Some (t, tag) → body ≡ encode_utf8_all (document_print t) → m ≡ document_media_type id.auid
      → (a : Answer) → AnswersWithFound (Some body) tag m (read_request Get request) a → ReadsDocument c id (read_request Get request) a
  sends_document t tag body m version printed named a sent = (
    there t tag,
    led c id xui t tag home version,
    subst (λ (n : MediaType). AnswersWithFound (Some (encode_utf8_all (document_print t))) tag n (read_request Get request) a) named
        (subst (λ (l : List ℕ). AnswersWithFound (Some l) tag m (read_request Get request) a) printed sent),
  )

  pub lends_document : {E : Type 0} (t : Tree) (tag : ℕ) (body : List ℕ) (m : MediaType) (r : Result (Option SentReply) E) → version_of c id ≡ Some (t, tag) → body ≡ encode_utf8_all (document_print t) → m ≡ document_media_type id.auid
      → IfOk r (λ lent. LendsFound (AnswersWithFound (Some body) tag m (read_request Get request)) lent)
      → IfOk r (λ lent. LendsIf (is_stored_home id.home) (ReadsDocument c id (read_request Get request)) lent)
  lends_document t tag body m r version printed named lends =
      IfOk-weaker r _ _ (λ lent so. at_true _ _ _ stored (lends_wider (AnswersWithFound (Some body) tag m (read_request Get request)) (ReadsDocument c id (read_request Get request)) (sends_document t tag body m version printed named) lent so)) lends

  -- ---- elements

  module _ (selector : Selector) (ends : selector.end ≡ Element) where
    pub lends_absent_node : version_of c id ≡ None → LendsIf (is_stored_home id.home) (ReadsNode c id selector (read_request Get request)) None
    lends_absent_node is = at_true _ _ _ stored (plain_reply 404 request.closes, (absent, not_there is, refl), not_found_status 404 refl)

    sends_node : (t : Tree) (tag : ℕ) → version_of c id ≡ Some (t, tag) → (a : Answer) → AnswersWithFound (encode_optional (found_text t selector)) tag media.Element (read_request Get request) a → ReadsNode c id selector (read_request Get request) a
    sends_node t tag version a sent = (
      there t tag,
      led c id xui t tag home version,
      subst (λ (m : MediaType). AnswersWithFound (encode_optional (found_text t selector)) tag m (read_request Get request) a) (sym (ap (λ (e : End). node_media_type e) ends)) sent,
    )

    pub lends_node : {E : Type 0} (t : Tree) (tag : ℕ) (r : Result (Option SentReply) E) → version_of c id ≡ Some (t, tag)
        → IfOk r (λ lent. LendsFound (AnswersWithFound (encode_optional (found_text t selector)) tag media.Element (read_request Get request)) lent)
        → IfOk r (λ lent. LendsIf (is_stored_home id.home) (ReadsNode c id selector (read_request Get request)) lent)
    lends_node t tag r version lends =
        IfOk-weaker r _ _ (λ lent so. at_true _ _ _ stored (lends_wider (AnswersWithFound (encode_optional (found_text t selector)) tag media.Element (read_request Get request)) (ReadsNode c id selector (read_request Get request)) (sends_node t tag version) lent so)) lends

-- the version of a document that the store lends
pub lent_version : (o : Option StoredDocument) (body : List ℕ) (tag : ℕ) → Some (body, tag) ≡ option_map {U = List ℕ × ℕ} (λ (h : StoredDocument). (encode_utf8_all (document_print h.tree), h.tag)) o
    → (t : Tree) × (option_map {U = Tree × ℕ} (λ (h : StoredDocument). (h.tree, h.tag)) o ≡ Some (t, tag)) × (body ≡ encode_utf8_all (document_print t))
lent_version None body tag is = let no : ⊥ = cc in absurd no
lent_version (Some h) body tag is =
    let one : List ℕ × ℕ = (body, tag) in
    let other : List ℕ × ℕ = (encode_utf8_all (document_print h.tree), h.tag) in
    let same = same_Some one other is in
    (h.tree, ap (λ (n : ℕ). let v : Tree × ℕ = (h.tree, n) in let o : Option (Tree × ℕ) = Some v in o) (sym (ap (λ (x : List ℕ × ℕ). x.1) same)), ap (λ (x : List ℕ × ℕ). x.0) same)

pub none_lent : (o : Option StoredDocument) → None ≡ option_map {U = List ℕ × ℕ} (λ (h : StoredDocument). (encode_utf8_all (document_print h.tree), h.tag)) o → option_map {U = Tree × ℕ} (λ (h : StoredDocument). (h.tree, h.tag)) o ≡ None
none_lent None is = refl
none_lent (Some h) is = let no : ⊥ = cc in absurd no

-- ---- the text of an element

pub no_path : (t : Tree) (selector : Selector) → selected_element_path selector.steps t ≡ None → encode_optional (found_text t selector) ≡ None
no_path t selector is = ap (λ (o : Option (List ℕ)). encode_optional (option_and_then (λ p. node_text_at selector.end p t) o)) is

pub no_element : (t : Tree) (selector : Selector) (p : List ℕ) → selected_element_path selector.steps t ≡ Some p → at p t ≡ None → encode_optional (found_text t selector) ≡ None
no_element t selector p is found =
    ap (λ (o : Option (List ℕ)). encode_optional (option_and_then (λ q. node_text_at selector.end q t) o)) is
    ∙ ap (λ (o : Option Tree). encode_optional (option_and_then (node_text selector.end (scope_at p t)) o)) found

pub element_text : (t e : Tree) (selector : Selector) (p : List ℕ) → selector.end ≡ Element → selected_element_path selector.steps t ≡ Some p → at p t ≡ Some e → encode_optional (found_text t selector) ≡ Some (encode_utf8_all (print e))
element_text t e selector p ends is found =
    ap (λ (o : Option (List ℕ)). encode_optional (option_and_then (λ q. node_text_at selector.end q t) o)) is
    ∙ ap (λ (o : Option Tree). encode_optional (option_and_then (node_text selector.end (scope_at p t)) o)) found
    ∙ ap (λ (end : End). encode_optional (node_text end (scope_at p t) e)) ends

pub lends_print : {E : Type 0} (text : Option (List ℕ)) (body : List ℕ) (printed : List ℕ) (tag : ℕ) (m : MediaType) (request : Request) (r : Result (Option SentReply) E) → text ≡ Some printed → body ≡ printed
    → IfOk r (λ lent. LendsFound (AnswersWithFound (Some body) tag m (read_request Get request)) lent) → IfOk r (λ lent. LendsFound (AnswersWithFound text tag m (read_request Get request)) lent)
lends_print text body printed tag m request r is same lends =
    subst (λ (o : Option (List ℕ)). IfOk r (λ lent. LendsFound (AnswersWithFound o tag m (read_request Get request)) lent)) (ap (λ (l : List ℕ). let o : Option (List ℕ) = Some l in o) same ∙ sym is) lends

-- the length of an element of a document
pub short_len : (n len : ℕ) → n ≡ min len 18446744073709551615 → len ≤ 4294967295 → n ≡ len
short_len n len is short = omega (arith, is, short)

pub sound_short : (usage : Option Usage) (t : Tree) → IsSoundDocumentFor usage t → byte_len (print t) ≤ 4294967295
sound_short None t sound = absurd sound
sound_short (Some usage) t sound = omega (arith, sound.short)
