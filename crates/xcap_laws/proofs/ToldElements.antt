-- The diff document of an element tells of each element that differs, and of each that is gone.
use Rattle.std.proofs.Common.{◌≡◌, ℕ, ◌≤◌, Bool, true, false, cond, List, [], length, Option, None, Some, IsSomeAnd, option_map, Result, Ok, encode_utf8_all, slice_get, inl, inr, refl, sym, ap, ◌∙◌, subst, arith}
use Rattle.xml_tree.specs.Tree.{Tree, at}
use Rattle.xml_tree.specs.Print.{document_print}
use Rattle.doc_names.specs.NameEquality.{same_id}
use Rattle.doc_names.specs.DocIds.{id_text}
use Rattle.doc_names.specs.Usages.{usage_of}
use Rattle.doc_names.specs.declared.usages.Usage.{Usage}
use Rattle.edit_ops.specs.Notes.{Note}
use Rattle.edit_ops.specs.DiffOperations.{weight}
use Rattle.edit_rules.specs.KeyAddresses.{IsKeyAddressOf}
use Rattle.element_watch.specs.ElementNotices.{element_notice}
use Rattle.element_watch.specs.SelectionHistory.{SelectsElementSince, SelectsElement, notes_after}
use Rattle.element_watch.specs.WatchedElements.{IsElementNotice, HasNothingToReport, IsElementState, IsUntouched, SelectsSome, silent_notice}
use Rattle.element_watch.specs.declared.element_states.ElementState.{ElementState}
use Rattle.element_watch.specs.declared.element_states.ElementState.TheVariants.{Unchanged, Exists, Missing}
use Rattle.element_watch.proofs.SinceTag.{find_unreported}
use Rattle.node_select.specs.Selection.{SelectsPath}
use Rattle.reply_text.specs.ReplyHeads.{plain_reply}
use Rattle.request_checks.specs.Rights.{is_allowed}
use Rattle.request_checks.specs.declared.method.Method.{Method}
use Rattle.request_checks.specs.declared.method.Method.TheVariants.{Get}
use Rattle.store_core.specs.Contents.{StoredDocument, StoreContents, stored_document}
use Rattle.store_core.specs.DocumentChanges.{find_document, document_id, stored_id}
use Rattle.store_core.specs.Since.{ChangesSince, Gone, ReportedChanges, Unknown, since}
use Rattle.store_core.specs.State.{Document, State, Version, versions}
use Rattle.store_core.specs.ValidStates.{IsValidHistory}
use Rattle.xcap_uri.specs.declared.fault.UriFault.{UriFault}
use Rattle.xcap_uri.specs.declared.target.Target.{Target}
use Rattle.xcap_uri.specs.declared.target.Target.TheVariants.{ElementFeed}
use Rattle.xcap_uri.proofs.TargetAnswers.{one_target}
use Rattle.xcap_machine.specs.Answers.{Answer, reply_only}
use Rattle.xcap_machine.specs.ElementFeeds.{ElementQuery, AnswersElementQuery}
use Rattle.xcap_machine.specs.Requests.{AnswersByTarget}
use Rattle.xcap_machine.specs.inner.AnswerCases.{AnswersByMethod}
use Rattle.xcap_machine.specs.StandardRequests.{auid_of, home_of}
use Rattle.xcap_machine.specs.inner.AnswerCases.{IsAnswerByTarget}
use Rattle.xcap_machine.specs.inner.RecordValues.{read_request, server_state}
use Rattle.xcap_machine.proofs.Cases.{either}
use Rattle.xcap_machine.proofs.OneVersion.{found_all, held_there, one_version}
use Rattle.xcap_laws.specs.ElementReplies.{AnswersElementFeed, element_notice_text}
use Rattle.xcap_laws.specs.RetainedVersions.{changes_after_version, is_retainable}
use Rattle.xcap_laws.proofs.KnownChanges.{counted, known_exactly}

-- the notes since the tag, the notice of them, and the reply's body
record Told (root : List ℕ) (c : StoreContents) (query : ElementQuery) (a : Answer) : Type 0 where
  notes : List Note
  since_tag : since c query.watched.doc query.tag ≡ ReportedChanges notes
  notice : Tree
  is_notice : IsElementNotice root query.watched c notes notice
  body : a.reply.body ≡ encode_utf8_all (document_print notice)

never_gone : (number : ℕ) (d : Document) (b : Bool) (ns : List Note) → cond b (ReportedChanges ns) Unknown ≡ Gone → ⊥
never_gone number d true ns is = cc
never_gone number d false ns is = cc

one_document : (o : Option Document) (d e : Document) → o ≡ Some d → o ≡ Some e → e ≡ d
one_document o d e a b = let both : Some e ≡ Some d = sym b ∙ a in cc

no_changes : (b : Bool) (ms : List Note) → cond b (ReportedChanges ms) Unknown ≡ ReportedChanges [] → ms ≡ []
no_changes true ms is = cc
no_changes false ms is = absurd cc

some_at : (o : Option Tree) (P : Tree → Type 0) → IsSomeAnd o P → (e : Tree) × (o ≡ Some e) × P e
some_at None P h = absurd h
some_at (Some e) P h = (e, refl, h)

module _ (root : List ℕ) (c : StoreContents) (m : State) (query : ElementQuery) (a : Answer) (h : AnswersElementFeed root c m query a) where
  abbrev d : Document
  d = h.document

  abbrev from : Version
  from = h.from

  known : since c query.watched.doc query.tag ≡ changes_after_version h.number d
  known = ap (since c query.watched.doc) (sym h.same_tag) ∙ known_exactly c m query.watched.doc d h.number from h.kept h.stands h.there h.is_version

  kept_so : IsValidHistory m.next d
  kept_so = found_all (IsValidHistory m.next) (λ x. same_id query.watched.doc x.id) m.documents d h.kept.documents h.there

  held : find_document stored_id c.documents query.watched.doc ≡ Some (stored_document d)
  held = ap (λ (x : StoreContents). find_document stored_id x.documents query.watched.doc) h.stands ∙ held_there m.documents query.watched.doc ∙ ap (option_map stored_document) h.there

  by_changes : (s : ChangesSince) → since c query.watched.doc query.tag ≡ s → AnswersElementQuery (server_state root c) query s (read_request Get h.request) a → Told root c query a
  by_changes Gone e is = absurd (never_gone h.number d (is_retainable weight (notes_after h.number (versions d))) (notes_after h.number (versions d)) (sym known ∙ e))
  by_changes Unknown e is = absurd (let never : 410 ≡ 200 = sym (ap (λ (x : Answer). x.reply.status) is) ∙ h.ok in omega (arith, never))
  by_changes (ReportedChanges ns) e is = record { notes = ns; since_tag = e; notice = is.0; is_notice = is.1; body = ap (λ (x : Answer). x.reply.body) is.2 }

  abbrev target : Target
  target = ElementFeed query.tag query.watched.doc query.watched.selector query.watched.raw

  by_target : AnswersByTarget (server_state root c) target Get h.request a → Told root c query a
  by_target is =
      either (is_allowed false (auid_of target) (home_of target) h.request.fields) (AnswersByMethod (server_state root c) target Get h.request a) (a ≡ reply_only (plain_reply 403 h.request.closes))
      (λ _. by_changes (since c query.watched.doc query.tag) refl) (λ _ s. absurd (let never : 403 ≡ 200 = sym (ap (λ (x : Answer). x.reply.status) s) ∙ h.ok in omega (arith, never))) is

  told : Told root c query a
  told =
      let same : h.answers.0 ≡ Ok target = one_target root h.request.target h.answers.0 (Ok target) h.answers.1 h.target in
      let here : IsAnswerByTarget root c (Ok target) h.request a = subst (λ (read : Result Target UriFault). IsAnswerByTarget root c read h.request a) same h.answers.2 in
      by_target (subst (λ (x : Method). AnswersByTarget (server_state root c) target x h.request a) h.reads here)

  stored_so : told.is_notice.held ≡ stored_document d
  stored_so = let both : Some told.is_notice.held ≡ Some (stored_document d) = sym told.is_notice.there ∙ held in cc

  state_so : IsElementState (usage_of query.watched.doc.auid) d.now.tree query.watched.selector told.notes told.is_notice.state
  state_so = subst (λ (x : StoredDocument). IsElementState (usage_of query.watched.doc.auid) x.tree query.watched.selector told.notes told.is_notice.state) stored_so told.is_notice.is_state

  text_so : (state : ElementState) → told.is_notice.state ≡ state → a.reply.body ≡ element_notice_text root query state
  text_so state same = told.body ∙ ap (λ (t : Tree). encode_utf8_all (document_print t)) (told.is_notice.told ∙ ap (element_notice root (id_text query.watched.doc) query.watched.raw) same)

  -- ---- an element that differs

  module _ (u : Usage) (p : List ℕ) (usage : usage_of query.watched.doc.auid ≡ Some u) (selects : SelectsPath query.watched.selector.steps d.now.tree p) (by_keys : IsKeyAddressOf u d.now.tree query.watched.selector p)
      (differs : (q : List ℕ) → SelectsPath query.watched.selector.steps from.tree q → at q from.tree ≡ at p d.now.tree → ⊥) where
    found_same : SelectsElementSince m query.watched.doc query.tag query.watched.selector.steps p → ⊥
    found_same f =
        let doc : f.document ≡ d = one_document (find_document document_id m.documents query.watched.doc) d f.document h.there f.there in
        let version : f.from ≡ from =
        one_version d.now d.earlier f.number h.number f.from from kept_so.follows (ap (λ (x : Document). slice_get (versions x) f.number) (sym doc) ∙ f.is_version) h.is_version (f.same_tag ∙ sym h.same_tag) in
        let e = some_at (at p f.document.now.tree) (λ e. (k : ℕ) (v : Version) → k ≤ f.number → slice_get (versions f.document) k ≡ Some v → SelectsElement query.watched.selector.steps e v.tree (notes_after k (versions f.document)) p) f.finds in
        let finds = e.2 f.number f.from (omega arith) f.is_version in
        differs finds.path (subst (λ (x : Version). SelectsPath query.watched.selector.steps x.tree finds.path) version finds.selects)
        (ap (λ (x : Version). at finds.path x.tree) (sym version) ∙ finds.there ∙ sym e.1 ∙ ap (λ (x : Document). at p x.now.tree) doc)

    unchanged_never : told.is_notice.state ≡ Unchanged → ⊥
    unchanged_never same =
        let silent : told.notice ≡ silent_notice root = told.is_notice.told ∙ ap (element_notice root (id_text query.watched.doc) query.watched.raw) same in
        found_same
        (find_unreported root c m query.watched.doc query.tag told.notes (stored_document d) u query.watched.selector query.watched.raw p h.kept h.stands told.since_tag held usage
        (subst (IsElementNotice root query.watched c told.notes) silent told.is_notice) selects by_keys)

    by_state : (state : ElementState) → told.is_notice.state ≡ state → IsElementState (usage_of query.watched.doc.auid) d.now.tree query.watched.selector told.notes state → a.reply.body ≡ element_notice_text root query Exists
    by_state Unchanged same is = absurd (unchanged_never same)
    by_state Exists same is = text_so Exists same
    by_state Missing same is = absurd (is.1 (p, selects))

    pub change_told : a.reply.body ≡ element_notice_text root query Exists
    change_told = by_state told.is_notice.state refl state_so

  -- ---- an element that is gone

  module _ (none : SelectsSome query.watched.selector d.now.tree → ⊥) (some : SelectsSome query.watched.selector from.tree) where
    same_versions : told.notes ≡ [] → d.now ≡ from
    same_versions empty =
        let ms : notes_after h.number (versions d) ≡ [] = no_changes (is_retainable weight (notes_after h.number (versions d))) (notes_after h.number (versions d)) (sym known ∙ told.since_tag ∙ ap ReportedChanges empty) in
        let size : 0 ≡ h.number = sym (ap length ms) ∙ counted h.number d.now d.earlier from kept_so.follows h.is_version in
        let first : slice_get (versions d) 0 ≡ Some from = ap (slice_get (versions d)) size ∙ h.is_version in
        cc

    not_untouched : (usage : Option Usage) → IsUntouched usage d.now.tree query.watched.selector told.notes → ⊥
    not_untouched None is = is
    not_untouched (Some u) is = none (is.0, is.1.selects)

    not_quiet : HasNothingToReport (usage_of query.watched.doc.auid) d.now.tree query.watched.selector told.notes → ⊥
    not_quiet (inl empty) = none (subst (λ (x : Version). SelectsSome query.watched.selector x.tree) (sym (same_versions empty)) some)
    not_quiet (inr untouched) = not_untouched (usage_of query.watched.doc.auid) untouched

    by_missing : (state : ElementState) → told.is_notice.state ≡ state → IsElementState (usage_of query.watched.doc.auid) d.now.tree query.watched.selector told.notes state → a.reply.body ≡ element_notice_text root query Missing
    by_missing Unchanged same is = absurd (not_quiet is)
    by_missing Exists same is = absurd (none is.1)
    by_missing Missing same is = text_so Missing same

    pub removal_told : a.reply.body ≡ element_notice_text root query Missing
    removal_told = by_missing told.is_notice.state refl state_so
