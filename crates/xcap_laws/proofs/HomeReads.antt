-- The answer to a request that reads depends on the documents of its home alone.
use Rattle.std.proofs.Common.{◌≡◌, ℕ, ◌-◌, nat_lt, Bool, true, false, cond, not, ◌&&◌, List, [], ◌∷◌, filter, find, Option, None, Some, option_map, option_and_then, Result, Ok, Err, if◌then◌else◌, refl, sym, ap, subst, ◌∙◌}
use Rattle.std.proofs.lemmas.Bool.{and_parts}
use Rattle.std.specs.Bool.{MatchBool}
use Rattle.std.specs.Cmp.Lexicographic.{bytes_decides}
use Rattle.std.specs.Option.{option_map_or}
use Rattle.std.specs.Str.{bytes_eq}
use Rattle.xml_tree.specs.Tree.{Tree}
use Rattle.usage_docs.specs.Services.{document_len}
use Rattle.usage_docs.specs.declared.service_index.TheConstants.{INDEX_LIMIT}
use Rattle.doc_names.specs.NameEquality.{same_auid, same_home, same_id}
use Rattle.doc_names.specs.declared.doc_id.Auid.{Auid}
use Rattle.doc_names.specs.declared.doc_id.Auid.TheVariants.{ResourceLists, RlsServices, XcapCaps}
use Rattle.doc_names.specs.declared.doc_id.DocId.{DocId}
use Rattle.doc_names.specs.declared.doc_id.Home.{Home}
use Rattle.doc_names.specs.declared.doc_id.Home.TheVariants.{Global, User}
use Rattle.doc_names.proofs.SameIds.{id_exact}
use Rattle.node_select.specs.Selection.{selected_element_path}
use Rattle.node_select.specs.declared.selector.Selector.{Selector}
use Rattle.http_wire.specs.declared.request.Request.{Request}
use Rattle.reply_text.specs.ReplyHeads.{plain_reply}
use Rattle.request_checks.specs.Methods.{is_reading, method_of}
use Rattle.request_checks.specs.Rights.{is_allowed, is_fixed_usage, is_from_user}
use Rattle.request_checks.specs.declared.method.Method.{Method}
use Rattle.request_checks.specs.declared.method.Method.TheVariants.{Get, Head, Put, Delete, Other}
use Rattle.list_resolve.specs.FlatLists.{IsFlatList, flat_list_of, service_of}
use Rattle.list_resolve.specs.Resolution.{ResolvesReferences, ResolutionContext, ResolvedReference, is_own_document, resolve_at, resolve_target, stored_tree}
use Rattle.list_resolve.specs.ScopedElements.{ScopedElement}
use Rattle.list_resolve.specs.Walks.{walk}
use Rattle.list_resolve.specs.declared.fault.FlatFault.{FlatFault}
use Rattle.list_resolve.specs.declared.fault.FlatFault.TheVariants.{NoService}
use Rattle.store_core.specs.Contents.{StoreContents, StoredDocument}
use Rattle.store_core.specs.DocumentChanges.{find_document, stored_id}
use Rattle.store_core.specs.Indexes.{index}
use Rattle.store_core.specs.Since.{ChangesSince, Gone, ReportedChanges, Unknown, since}
use Rattle.store_core.specs.inner.ChangesSince.{stored_changes_since}
use Rattle.xcap_uri.specs.Targets.{IsTargetResult, is_element_end}
use Rattle.xcap_uri.specs.declared.fault.UriFault.{UriFault}
use Rattle.xcap_uri.specs.declared.target.Target.{Target}
use Rattle.xcap_uri.specs.declared.target.Target.TheVariants.{Document, Node, Deep, Feed, ElementFeed, Flat}
use Rattle.xcap_machine.specs.Answers.{Answer, not_allowed_reply, reply_only}
use Rattle.xcap_machine.specs.ElementFeeds.{AnswersElementQuery}
use Rattle.xcap_machine.specs.Feeds.{changes_since_answer}
use Rattle.xcap_machine.specs.Requests.{AnswersByTarget, IsAnswer}
use Rattle.xcap_machine.specs.inner.AnswerCases.{AnswersByMethod, AnswersByUser, ReadsTarget}
use Rattle.xcap_machine.specs.StandardRequests.{auid_of, home_of, is_read_only, allows_method}
use Rattle.xcap_machine.specs.Resources.{IsResourceInHome, IsGlobalResource, Resource, absent, beyond_limit, there}
use Rattle.xcap_machine.specs.inner.AnswerCases.{IsAnswerByTarget}
use Rattle.xcap_machine.specs.inner.RecordValues.{element_query, feed_query, read_request, server_state}
use Rattle.xcap_machine.proofs.AcceptedRequests.{by_target}
use Rattle.xcap_machine.proofs.OneAnswer.{one_answer}
use Rattle.xcap_laws.specs.HomeAccess.{AgreesUnderHome, IsFromNoOtherUser, AgreesOnGlobal, documents_under}
use Rattle.xcap_laws.proofs.Access.{forbidden_alike}

-- ---- the documents of a home

home_exact : (a b : Home) → same_home a b ≡ true → a ≡ b
home_exact Global Global h = refl
home_exact Global (User b) h = cc
home_exact (User a) Global h = cc
home_exact (User a) (User b) h = ap User ((bytes_decides a b).0 h)

home_self : (a : Home) → same_home a a ≡ true
home_self Global = refl
home_self (User a) = (bytes_decides a a).1 refl

module _ (p : DocId → Bool) (id : DocId) (passes : p id ≡ true) where
  abbrev is_found : StoredDocument → Bool
  is_found h = same_id id h.id

  find_step : (h : StoredDocument) (b q : Bool) (xs ys : List StoredDocument) → same_id id h.id ≡ b → p h.id ≡ q → find is_found xs ≡ find is_found ys → find is_found (cond q (h ∷ xs) xs) ≡ cond b (Some h) (find is_found ys)
  find_step h true true xs ys e g same = ap (λ (b : Bool). cond b (Some h) (find is_found xs)) e
  find_step h true false xs ys e g same = let z : true ≡ false = sym passes ∙ ap p (id_exact id h.id e) ∙ g in absurd cc
  find_step h false true xs ys e g same = ap (λ (b : Bool). cond b (Some h) (find is_found xs)) e ∙ same
  find_step h false false xs ys e g same = same

  find_kept : (hs : List StoredDocument) → find_document stored_id (filter (λ h. p h.id) hs) id ≡ find_document stored_id hs id
  find_kept [] = refl
  find_kept (h ∷ hs) = find_step h (same_id id h.id) (p h.id) (filter (λ x. p x.id) hs) hs refl refl (find_kept hs)

found_under : (home : Home) (id : DocId) → id.home ≡ home → (hs : List StoredDocument) → find_document stored_id (documents_under stored_id home hs) id ≡ find_document stored_id hs id
found_under home id own hs = find_kept (λ (x : DocId). same_home home x.home) id (ap (same_home home) own ∙ home_self home) hs

documents_alike : (home : Home) (id : DocId) → id.home ≡ home → (hs ks : List StoredDocument) → documents_under stored_id home hs ≡ documents_under stored_id home ks → find_document stored_id hs id ≡ find_document stored_id ks id
documents_alike home id own hs ks same = sym (found_under home id own hs) ∙ ap (λ (l : List StoredDocument). find_document stored_id l id) same ∙ found_under home id own ks

-- ---- what is read of contents that are alike under a home

module _ (c d : StoreContents) where
  document_alike : (home : Home) (id : DocId) → id.home ≡ home → AgreesUnderHome home c d → find_document stored_id c.documents id ≡ find_document stored_id d.documents id
  document_alike Global id own alike = documents_alike Global id own c.documents d.documents alike.documents
  document_alike (User xui) id own alike = documents_alike (User xui) id own c.documents d.documents alike

  global_moved : (auid : Auid) (is_index : Bool) → AgreesOnGlobal c d → (r : Resource) → IsGlobalResource c auid is_index r → IsGlobalResource d auid is_index r
  global_moved ResourceLists is_index alike r h = h
  global_moved RlsServices false alike r h = h
  global_moved RlsServices true alike r (root, is, e) = (root, alike.index root is, e ∙ ap (λ (n : ℕ). if nat_lt INDEX_LIMIT (document_len root) then beyond_limit else there root (n - 1)) alike.next)
  global_moved XcapCaps false alike r h = h
  global_moved XcapCaps true alike r h = h

  resource_moved : (id : DocId) (home : Home) → id.home ≡ home → AgreesUnderHome home c d → (r : Resource) → IsResourceInHome c id home r → IsResourceInHome d id home r
  resource_moved id Global own alike r h = global_moved id.auid (bytes_eq id.name index) alike r h
  resource_moved id (User xui) own alike r h =
      h ∙ ap (λ (o : Option StoredDocument). option_map_or (λ (held : Tree × ℕ). there held.0 held.1) (option_map {U = Tree × ℕ} (λ (x : StoredDocument). (x.tree, x.tag)) o) absent) (document_alike (User xui) id own alike)

  since_alike : (id : DocId) (tag : ℕ) → AgreesUnderHome id.home c d → since c id tag ≡ since d id tag
  since_alike id tag alike =
      ap (λ (o : Option StoredDocument). stored_changes_since tag o) (document_alike id.home id refl alike)

  element_moved : (root : List ℕ) (tag : ℕ) (id : DocId) (selector : Selector) (raw : List ℕ) (method : Method) (request : Request) (a : Answer) → AgreesUnderHome id.home c d
      → (changes : ChangesSince) → AnswersElementQuery (server_state root c) (element_query tag id selector raw) changes (read_request method request) a → AnswersElementQuery (server_state root d) (element_query tag id selector raw) changes (read_request method request) a
  element_moved root tag id selector raw method request a alike Gone h = h
  element_moved root tag id selector raw method request a alike Unknown h = h
  element_moved root tag id selector raw method request a alike (ReportedChanges ns) (notice, is, e) =
      (notice, record { held = is.held; there = sym (document_alike id.home id refl alike) ∙ is.there; state = is.state; is_state = is.is_state; told = is.told }, e)

  -- ---- flat lists

  module _ (root : List ℕ) (home : Home) (alike : AgreesUnderHome home c d) where
    abbrev old_context : ResolutionContext
    old_context = record { documents = c.documents; root = root; home = home }

    abbrev new_context : ResolutionContext
    new_context = record { documents = d.documents; root = root; home = home }

    tree_alike : (id : DocId) → id.home ≡ home → stored_tree c.documents id ≡ stored_tree d.documents id
    tree_alike id own = ap (λ (o : Option StoredDocument). option_map (λ (h : StoredDocument). h.tree) o) (document_alike home id own alike)

    own_alike : (lead : Tree → Option ResolvedReference) (id : DocId) (own element : Bool) → is_own_document home id ≡ own
        → cond (own && element) (option_and_then lead (stored_tree c.documents id)) None ≡ cond (own && element) (option_and_then lead (stored_tree d.documents id)) None
    own_alike lead id true true e =
        ap (λ (t : Option Tree). option_and_then lead t) (tree_alike id (home_exact id.home home (and_parts (same_auid id.auid ResourceLists) (same_home id.home home) e).1))
    own_alike lead id true false e = refl
    own_alike lead id false element e = refl

    lead_alike : (wanted : _) (read : Result Target UriFault) → resolve_target old_context wanted read ≡ resolve_target new_context wanted read
    lead_alike wanted (Ok (Node id selector)) = own_alike (λ root. option_and_then (resolve_at wanted id.name root) (selected_element_path selector.steps root)) id (is_own_document home id) (is_element_end selector.end) refl
    lead_alike wanted (Ok (Document id)) = refl
    lead_alike wanted (Ok (Deep auid h)) = refl
    lead_alike wanted (Ok (Feed mode tag id)) = refl
    lead_alike wanted (Ok (ElementFeed tag id selector raw)) = refl
    lead_alike wanted (Ok (Flat id service)) = refl
    lead_alike wanted (Err fault) = refl

    leads_moved : (resolve_reference : _) → ResolvesReferences old_context resolve_reference → ResolvesReferences new_context resolve_reference
    leads_moved resolve_reference are = λ r. ((are r).0, (are r).1, (are r).2 ∙ lead_alike r.wanted (are r).0)

  flat_moved : (root : List ℕ) (id : DocId) (service : List ℕ) → AgreesUnderHome id.home c d → (answer : Result (List (List ℕ)) FlatFault) → IsFlatList c root id service answer → IsFlatList d root id service answer
  flat_moved root id service alike answer (resolve_reference, are, e) = (
    resolve_reference,
    leads_moved root id.home alike resolve_reference are,
    e ∙ ap (λ (t : Option Tree). option_map_or (λ (found : ScopedElement). flat_list_of (walk resolve_reference root found)) (option_and_then (service_of service) t) (Err NoService)) (tree_alike root id.home alike id refl),
  )

  -- ---- the answer

  module _ (root : List ℕ) (method : Method) (request : Request) (a : Answer) where
    read_moved : (target : Target) → AgreesUnderHome (home_of target) c d → ReadsTarget (server_state root c) target (read_request method request) a → ReadsTarget (server_state root d) target (read_request method request) a
    read_moved (Document id) alike (r, leads, sends) = (r, resource_moved id id.home refl alike r leads, sends)
    read_moved (Node id selector) alike (r, leads, sends) = (r, resource_moved id id.home refl alike r leads, sends)
    read_moved (Deep auid home) alike h = h
    read_moved (Feed mode tag id) alike h = h ∙ ap (λ (s : ChangesSince). changes_since_answer root (feed_query mode tag id) s (read_request method request)) (since_alike id tag alike)
    read_moved (ElementFeed tag id selector raw) alike h =
        subst (λ (s : ChangesSince). AnswersElementQuery (server_state root d) (element_query tag id selector raw) s (read_request method request) a) (since_alike id tag alike)
        (element_moved root tag id selector raw method request a alike (since c id tag) h)
    read_moved (Flat id service) alike (answer, (list, is, e), sends) = (answer, (list, flat_moved root id service alike list is, e), sends)

  passed : (b : Bool) (P Q R : Type 0) → (P → Q) → MatchBool b P R → MatchBool b Q R
  passed true P Q R f h = f h
  passed false P Q R f h = h

  module _ (root : List ℕ) (request : Request) (a : Answer) (target : Target) (alike : AgreesUnderHome (home_of target) c d) where
    method_moved : (method : Method) → is_reading method ≡ true → AnswersByMethod (server_state root c) target method request a → AnswersByMethod (server_state root d) target method request a
    method_moved Get reads h = read_moved root Get request a target alike h
    method_moved Head reads h = read_moved root Head request a target alike h
    method_moved Put reads h = let z : false ≡ true = reads in absurd cc
    method_moved Delete reads h = let z : false ≡ true = reads in absurd cc
    method_moved Other reads h = let z : false ≡ true = reads in absurd cc

    user_moved : (method : Method) → is_reading method ≡ true → AnswersByUser (server_state root c) target method request a → AnswersByUser (server_state root d) target method request a
    user_moved method reads h =
        passed (is_allowed (not (is_reading method)) (auid_of target) (home_of target) request.fields) (AnswersByMethod (server_state root c) target method request a) (AnswersByMethod (server_state root d) target method request a)
        (a ≡ reply_only (plain_reply 403 request.closes)) (method_moved method reads) h

    target_moved : (method : Method) → is_reading method ≡ true → AnswersByTarget (server_state root c) target method request a → AnswersByTarget (server_state root d) target method request a
    target_moved method reads h =
        passed (allows_method target method) (AnswersByUser (server_state root c) target method request a) (AnswersByUser (server_state root d) target method request a)
        (a ≡ reply_only (not_allowed_reply (is_read_only target) request.closes)) (user_moved method reads) h

pub reads_alike : (root : List ℕ) (c d : StoreContents) (request : Request) (target : Target) (a b : Answer) → IsTargetResult root request.target (Ok target) → is_reading (method_of request.method) ≡ true → AgreesUnderHome (home_of target) c d
    → IsAnswer root c request a → IsAnswer root d request b → a ≡ b
reads_alike root c d request target a b means reads alike is other =
    let here = by_target root c request a target (method_of request.method) means refl is in
    one_answer root d request a b (Ok target, means, target_moved c d root request a target alike (method_of request.method) reads here) other

-- ---- whatever the address

and_false : (b : Bool) → (b && false) ≡ false
and_false true = refl
and_false false = refl

foreign : (writes : Bool) (auid : Auid) (xui : List ℕ) (request : Request) → is_from_user xui request.fields ≡ false → is_allowed writes auid (User xui) request.fields ≡ false
foreign writes auid xui request differs = ap (λ (b : Bool). not (writes && is_fixed_usage auid) && b) differs ∙ and_false (not (writes && is_fixed_usage auid))

module _ (root : List ℕ) (c d : StoreContents) (request : Request) (xui : List ℕ) (a b : Answer) (only : IsFromNoOtherUser xui request) (reads : is_reading (method_of request.method) ≡ true)
    (alike : AgreesUnderHome (User xui) c d) (global : AgreesOnGlobal c d) (is : IsAnswer root c request a) (other : IsAnswer root d request b) where
  module _ (target : Target) (means : IsTargetResult root request.target (Ok target)) where
    by_user : (owner : List ℕ) → home_of target ≡ User owner → (asks : Bool) → is_from_user owner request.fields ≡ asks → a ≡ b
    by_user owner at true asks = reads_alike root c d request target a b means reads (subst (λ (h : Home). AgreesUnderHome h c d) (ap User (sym (only owner asks)) ∙ sym at) alike) is other
    by_user owner at false asks =
        let writes = not (is_reading (method_of request.method)) in
        let refused = ap (λ (h : Home). is_allowed writes (auid_of target) h request.fields) at ∙ foreign writes (auid_of target) owner request asks in
        forbidden_alike root c d request target a b (record { means = means; refused = refused }) is other

    by_home : (home : Home) → home_of target ≡ home → a ≡ b
    by_home Global at = reads_alike root c d request target a b means reads (subst (λ (h : Home). AgreesUnderHome h c d) (sym at) global) is other
    by_home (User owner) at = by_user owner at (is_from_user owner request.fields) refl

  by_meaning : (read : Result Target UriFault) → IsTargetResult root request.target read → IsAnswerByTarget root c read request a → a ≡ b
  by_meaning (Err fault) means h = one_answer root d request a b (Err fault, means, h) other
  by_meaning (Ok target) means h = by_home target means (home_of target) refl

  pub user_reads_alike : a ≡ b
  user_reads_alike = by_meaning is.0 is.1 is.2
