-- The tag of a reply is a number that was given, so later changes get greater ones.
use Rattle.std.proofs.Common.{◌≡◌, ℕ, ◌-◌, ◌<◌, ◌≤◌, nat_lt, Bool, true, false, List, [], Option, None, Some, IfSome, option_map, refl, sym, ap, subst, arith}
use Rattle.std.specs.Option.{option_map_or}
use Rattle.std.specs.Prelude.{if◌then◌else◌}
use Rattle.std.specs.Str.{bytes_eq}
use Rattle.doc_names.specs.declared.doc_id.Auid.{Auid}
use Rattle.doc_names.specs.declared.doc_id.Auid.TheVariants.{ResourceLists, RlsServices, XcapCaps}
use Rattle.doc_names.specs.declared.doc_id.DocId.{DocId}
use Rattle.doc_names.specs.declared.doc_id.Home.{Home}
use Rattle.doc_names.specs.declared.doc_id.Home.TheVariants.{Global, User}
use Rattle.edit_ops.specs.declared.edit.Edit.{Edit}
use Rattle.http_wire.specs.declared.request.Request.{Request}
use Rattle.reply_text.specs.ReplyHeads.{SentReply}
use Rattle.store_core.specs.Contents.{StoredDocument, contents_of, stored_document}
use Rattle.store_core.specs.DocumentChanges.{find_document, document_id}
use Rattle.store_core.specs.Indexes.{index}
use Rattle.store_core.specs.State.{Document, State}
use Rattle.store_core.specs.ValidStates.{IsValidState}
use Rattle.usage_docs.specs.Capabilities.{capabilities}
use Rattle.usage_docs.specs.Services.{document_len}
use Rattle.usage_docs.specs.declared.service_index.TheConstants.{INDEX_LIMIT}
use Rattle.xcap_laws.proofs.FreshTags.{low_tag, never_less, number_is_tag}
use Rattle.xcap_laws.proofs.AnswerKinds.{Kind, kind_of, shows, unmodified, untagged, writes}
use Rattle.xcap_laws.specs.EntityTags.{HasTagBelow}
use Rattle.xcap_machine.proofs.OneVersion.{held_there}
use Rattle.xcap_machine.specs.Answers.{Answer, MadeChange}
use Rattle.xcap_machine.specs.Machine.{ValidStep, answer_with_edit, change_from_edit}
use Rattle.xcap_machine.specs.Resources.{IsResourceInHome, IsGlobalResource, Resource, absent, beyond_limit, there}
use Rattle.xcap_machine.specs.ReachedStates.{ReachesByValidSteps}
use Rattle.xml_tree.specs.Tree.{Tree}

-- ---- the tag of a resource was given

module _ (m : State) (kept : IsValidState m) (t : Tree) (tag : ℕ) where
  low_index : (root : Tree) (b : Bool) → there t tag ≡ (if b then beyond_limit else there root (m.next - 1)) → tag < m.next
  low_index root true h = let z : there t tag ≡ beyond_limit = h in absurd cc
  low_index root false h =
      let same : there t tag ≡ there root (m.next - 1) = h in
      let number : tag ≡ m.next - 1 = cc in
      omega (arith, number, kept.started)

  low_global : (auid : Auid) (b : Bool) → IsGlobalResource (contents_of m) auid b (there t tag) → tag < m.next
  low_global ResourceLists b h = let z : there t tag ≡ absent = h in absurd cc
  low_global RlsServices true h = low_index h.0 (nat_lt INDEX_LIMIT (document_len h.0)) h.2
  low_global RlsServices false h = let z : there t tag ≡ absent = h in absurd cc
  low_global XcapCaps true h =
      let same : there t tag ≡ there capabilities 0 = h in
      let number : tag ≡ 0 = cc in
      omega (arith, number, kept.started)
  low_global XcapCaps false h = let z : there t tag ≡ absent = h in absurd cc

  abbrev leads : Option StoredDocument → Resource
  leads o = option_map_or (λ held. there held.0 held.1) (option_map {U = Tree × ℕ} (λ (h : StoredDocument). (h.tree, h.tag)) o) absent

  low_held : (id : DocId) (o : Option Document) → find_document document_id m.documents id ≡ o → there t tag ≡ leads (option_map stored_document o) → tag < m.next
  low_held id None is h = let z : there t tag ≡ absent = h in absurd cc
  low_held id (Some d) is h =
      let same : there t tag ≡ there d.now.tree d.now.tag = h in
      let number : tag ≡ d.now.tag = cc in
      omega (arith, number, low_tag m id d.now kept (record { document = d; there = is; number = 0; is_version = refl }))

  low_leads : (id : DocId) (home : Home) → IsResourceInHome (contents_of m) id home (there t tag) → tag < m.next
  low_leads id Global h = low_global id.auid (bytes_eq id.name index) h
  low_leads id (User xui) h = low_held id (find_document document_id m.documents id) refl (subst (λ (o : Option StoredDocument). there t tag ≡ leads o) (held_there m.documents id) h)

-- ---- replies

weaker : (o : Option ℕ) (P Q : ℕ → Type 0) → ((t : ℕ) → P t → Q t) → IfSome o P → IfSome o Q
weaker None P Q f h = tt
weaker (Some t) P Q f h = f t h

no_tag : (o : Option ℕ) (P : ℕ → Type 0) → o ≡ None → IfSome o P
no_tag o P is = subst (λ (x : Option ℕ). IfSome x P) (sym is) tt

one_tag : (o : Option ℕ) (tag : ℕ) (P : ℕ → Type 0) → o ≡ Some tag → P tag → IfSome o P
one_tag o tag P is p = subst (λ (x : Option ℕ). IfSome x P) (sym is) p

module _ (root : List ℕ) (m n later last : State) (first second : Request) (reply answer : SentReply) (e : Edit) (reaches : ReachesByValidSteps root n later) (z : ValidStep root later second answer last (Some e)) where
  bound : n.next ≤ e.note.next
  bound = omega (arith, never_less root n later reaches, (number_is_tag root later last second answer e z.1).0)

  edit_rises : (edit : Option Edit) (made : MadeChange) → option_map change_from_edit edit ≡ Some made → ValidStep root m first reply n edit → m.next < n.next
  edit_rises None made is s = let no : None ≡ Some made = is in absurd cc
  edit_rises (Some x) made is s = omega (arith, (number_is_tag root m n first reply x s.1).1)

  edit_stays : (edit : Option Edit) → ValidStep root m first reply n edit → m.next ≤ n.next
  edit_stays None s = let same : n.next ≡ m.next = ap (λ (x : State). x.next) s.1.goes_on in omega (arith, same)
  edit_stays (Some x) s = omega (arith, (number_is_tag root m n first reply x s.1).1)

  by_kind : (edit : Option Edit) → ValidStep root m first reply n edit → Kind root (contents_of m) first (answer_with_edit reply edit) → HasTagBelow reply e.note.next
  by_kind edit s (untagged fields body whole none other is) = record { fields = fields; body = body; answers = ap (λ (x : Answer). x.reply) is; below = no_tag fields.tag (λ k. k < e.note.next) none }
  by_kind edit s (shows fields body tag whole some other is shown) =
      let low = low_leads m s.0 shown.tree tag shown.id shown.id.home shown.held in
      record { fields = fields; body = body; answers = ap (λ (x : Answer). x.reply) is; below = one_tag fields.tag tag (λ k. k < e.note.next) some (omega (arith, low, edit_stays edit s, bound)) }
  by_kind edit s (unmodified tag is shown has) =
      let low = low_leads m s.0 shown.tree tag shown.id shown.id.home shown.held in
      record {
        fields = record { status = 304; tag = Some tag; read_only = None; media = None; size = 0; closes = first.closes };
        body = [];
        answers = ap (λ (x : Answer). x.reply) is;
        below = omega (arith, low, edit_stays edit s, bound);
      }
  by_kind edit s (writes fields body made whole some other is) =
      let rises = edit_rises edit made (ap (λ (x : Answer). x.made) is) s in
      record {
        fields = fields;
        body = body;
        answers = ap (λ (x : Answer). x.reply) is;
        below = weaker fields.tag (λ k. k ≡ m.next) (λ k. k < e.note.next) (λ k same. omega (arith, same, rises, bound)) some;
      }

  pub tag_below : (edit : Option Edit) → ValidStep root m first reply n edit → HasTagBelow reply e.note.next
  tag_below edit s = by_kind edit s (kind_of root (contents_of m) first (answer_with_edit reply edit) s.1.answers)

pub above_replies : (root : List ℕ) (m n later last : State) (first second : Request) (reply answer : SentReply) (edit : Option Edit) (e : Edit) → ValidStep root m first reply n edit → ReachesByValidSteps root n later
    → ValidStep root later second answer last (Some e) → HasTagBelow reply e.note.next
above_replies root m n later last first second reply answer edit e s reaches z = tag_below root m n later last first second reply answer e reaches z edit s
