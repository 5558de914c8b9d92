-- The diff document of the change records since a version, applied to that version, gives the
-- current one.
use Rattle.std.proofs.Common.{◌≡◌, ℕ, ◌≤◌, Bool, true, false, cond, List, [], ◌∷◌, length, Option, Some, None, Result, Ok, decimal, slice_get, refl, sym, ap, ◌∙◌, subst, arith}
use Rattle.std.specs.Prelude.{◌==◌}
use Rattle.xml_names.specs.Characters.{has_only_chars}
use Rattle.xml_tree.specs.Tree.{Tree}
use Rattle.doc_names.specs.DocIds.{id_text}
use Rattle.doc_names.specs.NameEquality.{same_id}
use Rattle.doc_names.specs.Usages.{usage_of}
use Rattle.doc_names.specs.declared.doc_id.DocId.{DocId}
use Rattle.doc_names.specs.declared.usages.Usage.{Usage}
use Rattle.xcap_uri.specs.PrintedNames.{is_encodable, is_name_of}
use Rattle.xcap_uri.proofs.NamePrints.{names}
use Rattle.xcap_uri.specs.Roots.{IsRoot, authority_of, path_of}
use Rattle.edit_ops.specs.Changes.{edited}
use Rattle.edit_ops.specs.Notes.{Note, tag_after, tree_after}
use Rattle.patch_rules.specs.Replay.{ReplayAnswer, ReplayFault, Fetch, ReplicaContents, Patched, Removed, IsReplayOutcome, Same}
use Rattle.patch_rules.specs.Notices.{aggregate_notice, gone_notice, patching_notice, tags_notice}
use Rattle.patch_laws.specs.Premises.{HasFewNotes, AreDiffableTrees, IsDiffableTree}
use Rattle.patch_laws.specs.ReplayLaws.{answer_of_notes}
use Rattle.patch_laws.proofs.OtherNotices.{gone_read, gone_replayed, same_replayed, tags_read, tags_replayed}
use Rattle.patch_laws.proofs.LawStatements.{aggregate_read, aggregate_replayed, patching_read, patching_replayed}
use Rattle.store_core.specs.DocumentChanges.{find_document, document_id}
use Rattle.store_core.specs.Contents.{Represents, StoreContents as Content}
use Rattle.store_core.specs.History.{TreesAreSound, AreRecordsSince, RecordsLeadBetween}
use Rattle.store_core.specs.ValidStates.{IsValidHistory, IsSoundDocumentFor, IsValidState}
use Rattle.store_core.specs.Since.{ReportedChanges, since}
use Rattle.store_core.specs.State.{Document, State, Version, versions}
use Rattle.store_core.proofs.Bridge.{told_since}
use Rattle.xcap_machine.specs.inner.RecordValues.{version_notes}
use Rattle.xcap_machine.specs.SubscriberReplicas.{DiffUpdatesReplica, ReportsSince, VersionNotes, patch_answer_between, fetch_answer_between, replica_of_version}
use Rattle.xcap_machine.proofs.Letters.{id_chars, root_chars}
use Rattle.xcap_machine.proofs.OneVersion.{answered, found_all, one_version}

-- ---- diff documents lead from and to sound trees

told_sound : (usage : Option Usage) (t : Tree) → IsSoundDocumentFor usage t → IsDiffableTree t
told_sound None t h = absurd h
told_sound (Some usage) t h = record { proper = h.proper; low = h.low; short = omega (arith, h.short) }

told_all : (usage : Option Usage) (t : Tree) (ns : List Note) → TreesAreSound usage t ns → AreDiffableTrees t ns
told_all usage t [] h = told_sound usage t h
told_all usage t (n ∷ ns) h = (told_sound usage t h.0, told_all usage (edited t n.change) ns h.1)

-- ---- change records that lead from one version to another

-- the change records since a version: they lead from it to another, are few, and determine the
-- answer of their diff document
record AreBetween (next : ℕ) (from to : Version) (ns : List Note) : Type 0 where
  usage : Option Usage
  leads : RecordsLeadBetween usage next from ns to
  few : length ns ≤ 64
  answer : answer_of_notes ns ≡ patch_answer_between from to

-- the answer of the diff document of tags alone
abbrev tags_answer : ℕ → List Note → ReplayAnswer
tags_answer tag [] = Same
tags_answer tag (n ∷ ns) = Fetch (decimal (tag_after tag (n ∷ ns)))

tags_told : (is_mine : List ℕ → Bool) (root sel : List ℕ) (tag : ℕ) (t : Tree) (ns : List Note) → is_mine sel ≡ true
    → IsReplayOutcome is_mine (tags_notice root sel tag ns) (Some (decimal tag, t)) (Ok (tags_answer tag ns, Some (decimal tag, t)))
tags_told is_mine root sel tag t [] mine = same_replayed is_mine root sel tag t
tags_told is_mine root sel tag t (n ∷ ns) mine = tags_replayed is_mine root sel tag t n ns mine

fetched : (from to : Version) (ns : List Note) (b : Bool) → answer_of_notes ns ≡ cond b Same Patched → tag_after from.tag ns ≡ to.tag → tags_answer from.tag ns ≡ cond b Same (Fetch (decimal to.tag))
fetched from to [] true h same = refl
fetched from to [] false h same = absurd cc
fetched from to (n ∷ ns) true h same = absurd cc
fetched from to (n ∷ ns) false h same = ap (λ (tag : ℕ). Fetch (decimal tag)) same

module _ (id : DocId) (root : List ℕ) (next : ℕ) (from to : Version) (ns : List Note) (between : AreBetween next from to ns) (mine : is_name_of id (id_text id) ≡ true) (chars : has_only_chars root ≡ true) where
  told : AreDiffableTrees from.tree ns
  told = told_all between.usage from.tree ns between.leads.sound

  are_few : HasFewNotes ns
  are_few = omega (arith, between.few)

  reached : ◌≡◌ {A = Result (ReplayAnswer × ReplicaContents) ReplayFault} (Ok (answer_of_notes ns, Some (decimal (tag_after from.tag ns), tree_after from.tree ns))) (Ok (patch_answer_between from to, replica_of_version to))
  reached = λ i. Ok (between.answer i, Some (decimal (between.leads.tag i), between.leads.tree i))

  patched : DiffUpdatesReplica id (patching_notice root (id_text id) from.tag ns) (replica_of_version from) (patch_answer_between from to) (replica_of_version to)
  patched = record {
    is_read = patching_read root (id_text id) from.tag from.tree ns chars (id_chars id) between.leads.notes told are_few;
    is_applied = subst (IsReplayOutcome (is_name_of id) (patching_notice root (id_text id) from.tag ns) (replica_of_version from)) reached (patching_replayed (is_name_of id) root (id_text id) from.tag from.tree ns mine between.leads.notes told are_few);
  }

  at_once : DiffUpdatesReplica id (aggregate_notice root (id_text id) from.tag ns) (replica_of_version from) (patch_answer_between from to) (replica_of_version to)
  at_once = record {
    is_read = aggregate_read root (id_text id) from.tag from.tree ns chars (id_chars id) between.leads.notes told are_few;
    is_applied = subst (IsReplayOutcome (is_name_of id) (aggregate_notice root (id_text id) from.tag ns) (replica_of_version from)) reached (aggregate_replayed (is_name_of id) root (id_text id) from.tag from.tree ns mine between.leads.notes told are_few);
  }

  by_tags : DiffUpdatesReplica id (tags_notice root (id_text id) from.tag ns) (replica_of_version from) (fetch_answer_between from to) (replica_of_version from)
  by_tags = record {
    is_read = tags_read root (id_text id) from.tag ns chars (id_chars id);
    is_applied =
        subst (λ (a : ReplayAnswer). IsReplayOutcome (is_name_of id) (tags_notice root (id_text id) from.tag ns) (replica_of_version from) (Ok (a, replica_of_version from))) (fetched from to ns (to.tag == from.tag) between.answer between.leads.tag)
        (tags_told (is_name_of id) root (id_text id) from.tag from.tree ns mine);
  }

-- ---- the replica's version is the one that the change records lead from

same_document : (o : Option Document) (d e : Document) → o ≡ Some d → o ≡ Some e → d ≡ e
same_document o d e a b = let both : Some d ≡ Some e = sym a ∙ b in cc

same_version : (m : State) (id : DocId) (d : Document) (from : Version) (number : ℕ) (ns : List Note) (s : AreRecordsSince m id from.tag ns) → IsValidState m → s.document ≡ d
    → find_document document_id m.documents id ≡ Some d → slice_get (versions d) number ≡ Some from → s.from ≡ from
same_version m id d from number ns s kept same there held =
    let k : IsValidHistory m.next d = found_all (IsValidHistory m.next) (λ x. same_id id x.id) m.documents d kept.documents there in
    one_version d.now d.earlier s.number number s.from from k.follows (ap (λ (x : Document). slice_get (versions x) s.number) (sym same) ∙ s.is_version) held s.same_tag

between : (c : Content) (m : State) (v : VersionNotes) → ReportsSince c m v → AreBetween m.next v.from v.document.now v.notes
between c m v h =
    let s = told_since c m v.id v.from.tag v.notes h.kept h.stands h.told in
    let doc : s.document ≡ v.document = same_document (find_document document_id m.documents v.id) s.document v.document s.there h.there in
    let version : s.from ≡ v.from = same_version m v.id v.document v.from h.number v.notes s h.kept doc h.there h.is_version in
    let here : RecordsLeadBetween (usage_of s.document.id.auid) m.next v.from v.notes s.document.now = subst (λ (x : Version). RecordsLeadBetween (usage_of s.document.id.auid) m.next x v.notes s.document.now) version s.leads in record {
      usage = usage_of v.document.id.auid;
      leads = subst (λ (x : Document). RecordsLeadBetween (usage_of x.id.auid) m.next v.from v.notes x.now) doc here;
      few = s.few;
      answer = answered c m v.id v.document v.from v.notes h.stands h.there h.told;
    }

-- ---- the laws as they are stated

pub some_version : (c : Content) (m : State) (id : DocId) (tag : ℕ) (ns : List Note) → IsValidState m → Represents c m → since c id tag ≡ ReportedChanges ns → (d : Document) × (from : Version) × (from.tag ≡ tag) × ReportsSince c m (version_notes id d from ns)
some_version c m id tag ns kept stands told =
    let s = told_since c m id tag ns kept stands told in (
      s.document,
      s.from,
      s.same_tag,
      record { kept = kept; stands = stands; there = s.there; number = s.number; is_version = s.is_version; told = ap (since c id) s.same_tag ∙ told },
    )

module _ (c : Content) (m : State) (v : VersionNotes) (root : List ℕ) (tells : ReportsSince c m v) (is_root : IsRoot root (authority_of root) (path_of root)) (encodable : is_encodable v.id ≡ true) where
  chars : has_only_chars root ≡ true
  chars = root_chars root (authority_of root) (path_of root) is_root

  pub patching : DiffUpdatesReplica v.id (patching_notice root (id_text v.id) v.from.tag v.notes) (replica_of_version v.from) (patch_answer_between v.from v.document.now) (replica_of_version v.document.now)
  patching = patched v.id root m.next v.from v.document.now v.notes (between c m v tells) (names v.id encodable) chars

  pub aggregate : DiffUpdatesReplica v.id (aggregate_notice root (id_text v.id) v.from.tag v.notes) (replica_of_version v.from) (patch_answer_between v.from v.document.now) (replica_of_version v.document.now)
  aggregate = at_once v.id root m.next v.from v.document.now v.notes (between c m v tells) (names v.id encodable) chars

  pub tags_alone : DiffUpdatesReplica v.id (tags_notice root (id_text v.id) v.from.tag v.notes) (replica_of_version v.from) (fetch_answer_between v.from v.document.now) (replica_of_version v.from)
  tags_alone = by_tags v.id root m.next v.from v.document.now v.notes (between c m v tells) (names v.id encodable) chars

pub gone : (id : DocId) (tag : ℕ) (t : Tree) (root : List ℕ) → IsRoot root (authority_of root) (path_of root) → is_encodable id ≡ true → DiffUpdatesReplica id (gone_notice root (id_text id) tag) (Some (decimal tag, t)) Removed None
gone id tag t root is_root encodable = record {
  is_read = gone_read root (id_text id) tag (root_chars root (authority_of root) (path_of root) is_root) (id_chars id);
  is_applied = gone_replayed (is_name_of id) root (id_text id) tag t (names id encodable);
}
