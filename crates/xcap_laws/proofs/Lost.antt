-- What a request with If-Match changes is a version whose tag it names; and so no two requests with
-- one tag make a change.
use Rattle.std.proofs.Common.{◌≡◌, ℕ, ◌<◌, true, List, [], ◌∷◌, Option, Some, None, option_map, true≢false, refl, sym, ap, subst, ◌∙◌, arith}
use Rattle.std.specs.List.{list_any}
use Rattle.doc_names.specs.NameEquality.{same_id}
use Rattle.edit_ops.specs.Notes.{Note}
use Rattle.edit_ops.specs.declared.edit.Edit.{Edit}
use Rattle.http_wire.specs.declared.request.Request.{Request}
use Rattle.reply_text.specs.ReplyHeads.{SentReply}
use Rattle.request_checks.specs.Fields.{Tags}
use Rattle.request_checks.specs.Verdicts.{if_match_holds, matches_etag_strongly}
use Rattle.request_checks.specs.declared.entity_tags.EntityTag.{EntityTag}
use Rattle.store_core.proofs.SoundHeld.{all_sound}
use Rattle.store_core.specs.Contents.{StoredDocument, StoreContents as Content, contents_of, stored_document}
use Rattle.store_core.specs.DocumentChanges.{ChangeKind, Makes, change_kind, find_document, document_id, note_for, stored_id}
use Rattle.store_core.specs.ChangePreconditions.{MayRequestByKind}
use Rattle.store_core.specs.State.{Document, State, Version}
use Rattle.xcap_laws.proofs.Conditions.{change_made, low_number, matched, none_own, not_own, one_number, only_own, passes}
use Rattle.xcap_laws.proofs.FreshTags.{NoteMade, low_tag, never_less, note_made, valid_start}
use Rattle.xcap_laws.proofs.Tagged.{IsPast, first_past, run_past}
use Rattle.xcap_laws.specs.EntityTags.{ChangesTaggedVersion, HasIfMatch, IsPresentVersion, IsStrongTagOf}
use Rattle.xcap_machine.proofs.SubscriberLemmas.{one_of_a_tag}
use Rattle.xcap_machine.proofs.OneVersion.{found_all, held_there}
use Rattle.xcap_machine.specs.StepOutcomes.{ChangesNothing}
use Rattle.xcap_machine.specs.Machine.{ContentStep, ValidStep, content_after_answer, change_from_edit}
use Rattle.xcap_machine.specs.Resources.{version_of}
use Rattle.xcap_machine.specs.ReachedStates.{ReachesByValidSteps, HasVersion}
use Rattle.xcap_machine.specs.inner.AnswerCases.{version_tag as tag_of}
use Rattle.xml_tree.specs.Tree.{Tree}

abbrev seen : Option StoredDocument → Option (Tree × ℕ)
seen o = option_map {U = Tree × ℕ} (λ (h : StoredDocument). (h.tree, h.tag)) o

-- ---- on store contents

named_by : (c : Content) (e : Edit) (tags : List EntityTag) → NoteMade c e → (o : Option StoredDocument) → find_document stored_id c.documents e.doc ≡ o → list_any (matches_etag_strongly (tag_of (seen o))) tags ≡ true → ChangesTaggedVersion c e tags
named_by c e tags made None is h = absurd (none_own tags h)
named_by c e tags made (Some s) is h =
    let previous : e.note.previous ≡ s.tag = ap (λ (n : Note). n.previous) made.is_note ∙ ap (λ (o : Option StoredDocument). (note_for c e.doc made.change o).previous) is in
    record {
      tree = s.tree;
      held = subst (λ (k : ℕ). ◌≡◌ {A = Option (Tree × ℕ)} (version_of c e.doc) (Some (s.tree, k))) (sym previous) (ap (λ (o : Option StoredDocument). seen o) is);
      named = subst (λ (k : ℕ). list_any (matches_etag_strongly (Some k)) tags ≡ true) (sym previous) h;
    }

pub changes_named : (root : List ℕ) (c next : Content) (request : Request) (reply : SentReply) (e : Edit) (tags : List EntityTag) → ContentStep root c request reply next (Some e) → HasIfMatch request (Tags tags) → ChangesTaggedVersion c e tags
changes_named root c next request reply e tags does says =
    let p = passes root c next request reply e does in
    let holds : if_match_holds (tag_of (version_of c e.doc)) p.exists (Tags tags) ≡ true = matched request (tag_of (version_of c e.doc)) p.exists (Tags tags) p.free says in
    named_by c e tags (note_made root c request reply e does.answers) (find_document stored_id c.documents e.doc) refl holds

-- ---- in a state

-- the document of the change is stored, the tag names its present version, and it isn't created
record HoldsNamed (n : State) (e : Edit) (tag : EntityTag) : Type 0 where
  document : Document
  there : find_document document_id n.documents e.doc ≡ Some document
  named : matches_etag_strongly (Some document.now.tag) tag ≡ true
  low : document.now.tag < n.next
  room : n.next < 18446744073709551616
  edits : (root : Tree) → change_kind e.note.change ≡ Makes root → ⊥

never_made : (c : Content) (e : Edit) (s : StoredDocument) (root : Tree) → find_document stored_id c.documents e.doc ≡ Some s → MayRequestByKind c e.doc e.note.change (Makes root) → ⊥
never_made c e s root there asks = let both : None ≡ Some s = sym asks.0 ∙ there in cc

module _ (root : List ℕ) (n next : State) (request : Request) (reply : SentReply) (e : Edit) (tag : EntityTag) (step : ValidStep root n request reply next (Some e)) (says : HasIfMatch request (Tags (tag ∷ []))) where
  does : ContentStep root (contents_of n) request reply (content_after_answer (contents_of n) (Some (change_from_edit e))) (Some e)
  does = record { answers = step.1.answers; goes_on = refl }

  holds_by : (o : Option Document) → find_document document_id n.documents e.doc ≡ o → matches_etag_strongly (tag_of (seen (option_map stored_document o))) tag ≡ true → HoldsNamed n e tag
  holds_by None is h = absurd (true≢false (sym h ∙ not_own tag))
  holds_by (Some d) is h =
      let stored : find_document stored_id (contents_of n).documents e.doc ≡ Some (stored_document d) = held_there n.documents e.doc ∙ ap (λ (o : Option Document). option_map stored_document o) is in
      let made = change_made root (contents_of n) (content_after_answer (contents_of n) (Some (change_from_edit e))) request reply e does in
      record {
        document = d;
        there = is;
        named = h;
        low = low_tag n e.doc d.now step.0 (record { document = d; there = is; number = 0; is_version = refl });
        room = low_number (contents_of n) e (stored_document d) made stored;
        edits = λ t acts. never_made (contents_of n) e (stored_document d) t stored
            (subst (λ (act : ChangeKind). MayRequestByKind (contents_of n) e.doc e.note.change act) acts (made.asked (all_sound (contents_of n) n refl step.0)));
      }

  holds_named : HoldsNamed n e tag
  holds_named =
      let p = passes root (contents_of n) (content_after_answer (contents_of n) (Some (change_from_edit e))) request reply e does in
      let here : matches_etag_strongly (tag_of (version_of (contents_of n) e.doc)) tag ≡ true = only_own (tag_of (version_of (contents_of n) e.doc)) tag (matched request (tag_of (version_of (contents_of n) e.doc)) p.exists (Tags (tag ∷ [])) p.free says) in
      holds_by (find_document document_id n.documents e.doc) refl (subst (λ (o : Option StoredDocument). matches_etag_strongly (tag_of (seen o)) tag ≡ true) (held_there n.documents e.doc) here)

pub changes_seen : (root : List ℕ) (m n next : State) (v : Version) (request : Request) (reply : SentReply) (e : Edit) (tag : EntityTag) → HasVersion m e.doc v → ReachesByValidSteps root m n → ValidStep root n request reply next (Some e)
    → HasIfMatch request (Tags (tag ∷ [])) → IsStrongTagOf tag v.tag → IsPresentVersion n e v
changes_seen root m n next v request reply e tag has reaches step says names =
    let h = holds_named root n next request reply e tag step says in
    let kept = valid_start root m n reaches step.0 in
    let low : v.tag < 18446744073709551616 = omega (arith, low_tag m e.doc v kept has, never_less root m n reaches, h.room) in
    let same : h.document.now.tag ≡ v.tag = one_number h.document.now.tag v.tag tag (omega (arith, h.low, h.room)) low h.named names in
    record {
      document = h.document;
      there = h.there;
      is_now = one_of_a_tag root m n e.doc v h.document.now kept reaches has (record { document = h.document; there = h.there; number = 0; is_version = refl }) same;
    }

never_twice : (root : List ℕ) (m n later last : State) (first second : Request) (reply answer : SentReply) (earlier e : Edit) (tag : EntityTag) → ValidStep root m first reply n (Some earlier) → ReachesByValidSteps root n later
    → ValidStep root later second answer last (Some e) → HasIfMatch first (Tags (tag ∷ [])) → HasIfMatch second (Tags (tag ∷ [])) → ⊥
never_twice root m n later last first second reply answer earlier e tag s reaches z says again =
    let h = holds_named root m n first reply earlier tag s says in
    let k = holds_named root later last second answer e tag z again in
    let past : IsPast h.document.now.tag n = subst (λ (x : State). IsPast h.document.now.tag x) (sym s.1.goes_on) (first_past m earlier h.document s.0 h.there h.edits) in
    let gone = run_past root h.document.now.tag n later reaches past in
    let same : k.document.now.tag ≡ h.document.now.tag = one_number k.document.now.tag h.document.now.tag tag (omega (arith, k.low, k.room)) (omega (arith, h.low, h.room)) k.named h.named in
    found_all (λ d. d.now.tag ≡ h.document.now.tag → ⊥) (λ x. same_id e.doc x.id) later.documents k.document gone.others k.there same

pub one_of_two : (root : List ℕ) (m n later last : State) (first second : Request) (reply answer : SentReply) (earlier : Edit) (edit : Option Edit) (tag : EntityTag) → ValidStep root m first reply n (Some earlier) → ReachesByValidSteps root n later
    → ValidStep root later second answer last edit → HasIfMatch first (Tags (tag ∷ [])) → HasIfMatch second (Tags (tag ∷ [])) → ChangesNothing later last edit
one_of_two root m n later last first second reply answer earlier None tag s reaches z says again = (z.1.goes_on, refl)
one_of_two root m n later last first second reply answer earlier (Some e) tag s reaches z says again = absurd (never_twice root m n later last first second reply answer earlier e tag s reaches z says again)
