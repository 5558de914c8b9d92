-- Writing a snapshot beside the log.
use Rattle.std.proofs.Common.{◌≡◌, ℕ, ◌^◌, ◌<◌, ◌≤◌, List, [], ◌∷◌, ◌++◌, length, map, Bool, true, false, Option, Some, None, refl, sym, ap, subst, ◌∙◌, arith, true≢false}
use Rattle.std.specs.Prelude.{option_map}
use Rattle.std.specs.List.{AllByRecursion}
use Rattle.std.proofs.lemmas.List.{map-append}
use Rattle.log_disk.specs.FolderStates.{FolderState, History as FolderMoments, with_next_state as folder_goes, with_step as folder_step, with_draft as with_folder_draft, with_draft_bytes, without_draft, with_ready_draft}
use Rattle.log_entries.specs.Entries.{Entry, FitsEntryForm, entry_bytes, entries_bytes}
use Rattle.change_log.specs.LogContents.{Contents}
use Rattle.change_log.specs.declared.limits.TheConstants.{MAX_CONTENT_BYTES}
use Rattle.change_log.specs.LogHistories.{Moment, History, MayBeFound, HoldsAtEachMoment, with_step, with_draft}
use Rattle.folder_log.specs.FileFormat.{part_entry}
use Rattle.folder_log.specs.Restarts.{LeavesPossibleContents}
use Rattle.folder_log.specs.FolderLogs.{LogParts, HoldsDraft, HoldsMoment, HasSoundParts, open_entry}
use Rattle.folder_log.specs.inner.DraftSteps.{snapshot_end_entry, HasEndedDraft, HasReadyDraft}
use Rattle.folder_log.proofs.Finding.{text_push, fit_push}
use Rattle.folder_log.proofs.Holding.{of_both, same_holds}

pub draft_passes : (old new : History) (parts : List (List ℕ)) → new ≡ with_draft parts old → HoldsAtEachMoment (MayBeFound old.now) old new
draft_passes old new parts is = record {
  moments = old.now ∷ [];
  split = ap (λ (h : History). h.now ∷ h.past) is;
  each = (λ c may. may, tt);
}

-- what the file has isn't changed by a call on the draft
same_moment : (p : LogParts) (s : HasSoundParts p) (g : FolderState) → g.synced ≡ p.folder.now.synced → g.touched ≡ p.folder.now.touched → g.renamed ≡ p.folder.now.renamed → g.written ≡ p.folder.now.written
    → p.is_begun ≡ true → p.is_stopped ≡ false → HoldsMoment g p.mark p.history.now
same_moment p s g synced touched renamed written begun running =
    let held = s.begun begun running in
    record {
      entries = held.entries;
      holds = same_holds p.folder.now g p.mark held.entries (open_entry p.history.now) synced touched renamed held.holds;
      read_as = held.read_as;
      numbered = held.numbered;
      written = written ∙ held.written;
    }

-- a call on a draft that is of no further use
quiet : (p : LogParts) (s : HasSoundParts p) (g : FolderState) → g.synced ≡ p.folder.now.synced → g.touched ≡ p.folder.now.touched → g.renamed ≡ p.folder.now.renamed → g.written ≡ p.folder.now.written
    → g.is_torn ≡ p.folder.now.is_torn → g.is_lost ≡ p.folder.now.is_lost → LeavesPossibleContents g p.history.now
    → HasSoundParts (record p { folder = folder_goes p.folder g; history = with_step p.history (λ m. m); has_draft = false })
quiet p s g synced touched renamed written torn lost leaves = record {
  torn = torn ∙ s.torn;
  lost = lost ∙ s.lost;
  settled = λ running. renamed ∙ s.settled running;
  none_instead = s.none_instead;
  none_open = s.none_open;
  next = s.next;
  begun = same_moment p s g synced touched renamed written;
  draft = λ has running. absurd (true≢false (sym has));
  leaves = (leaves, s.leaves);
}

pub gone_sound : (p : LogParts) (folder : FolderMoments) (history : History) → HasSoundParts p → folder ≡ folder_step p.folder without_draft → history ≡ with_step p.history (λ m. m)
    → HasSoundParts (record p { folder = folder; history = history; has_draft = false })
gone_sound p folder history s f_is h_is =
    of_both (λ f h. HasSoundParts (record p { folder = f; history = h; has_draft = false })) (folder_step p.folder without_draft) folder (with_step p.history (λ m. m)) history f_is h_is
    (quiet p s (without_draft p.folder.now) refl refl refl refl refl refl s.leaves.0)

pub more_sound : (p : LogParts) (bytes : List ℕ) (folder : FolderMoments) (history : History) → HasSoundParts p → folder ≡ folder_step p.folder (with_draft_bytes bytes) → history ≡ with_step p.history (λ m. m)
    → HasSoundParts (record p { folder = folder; history = history; has_draft = false })
more_sound p bytes folder history s f_is h_is =
    of_both (λ f h. HasSoundParts (record p { folder = f; history = h; has_draft = false })) (folder_step p.folder (with_draft_bytes bytes)) folder (with_step p.history (λ m. m)) history f_is h_is
    (quiet p s (with_draft_bytes bytes p.folder.now) refl refl refl refl refl refl s.leaves.0)

pub ready_sound : (p : LogParts) (folder : FolderMoments) (history : History) → HasSoundParts p → folder ≡ folder_step p.folder with_ready_draft → history ≡ with_step p.history (λ m. m)
    → HasSoundParts (record p { folder = folder; history = history; has_draft = false })
ready_sound p folder history s f_is h_is =
    of_both (λ f h. HasSoundParts (record p { folder = f; history = h; has_draft = false })) (folder_step p.folder with_ready_draft) folder (with_step p.history (λ m. m)) history f_is h_is
    (quiet p s (with_ready_draft p.folder.now) refl refl refl refl refl refl s.leaves.0)

-- a draft with these parts
with_parts : (p : LogParts) (s : HasSoundParts p) (g : FolderState) (mark : List ℕ) (parts : List (List ℕ)) → g.synced ≡ p.folder.now.synced → g.touched ≡ p.folder.now.touched → g.renamed ≡ p.folder.now.renamed
    → g.written ≡ p.folder.now.written → g.is_torn ≡ p.folder.now.is_torn → g.is_lost ≡ p.folder.now.is_lost → LeavesPossibleContents g p.history.now → (p.is_stopped ≡ false → HoldsDraft g mark parts)
    → HasSoundParts (record p { folder = folder_goes p.folder g; history = with_draft parts p.history; draft_mark = mark; has_draft = true })
with_parts p s g mark parts synced touched renamed written torn lost leaves holds = record {
  torn = torn ∙ s.torn;
  lost = lost ∙ s.lost;
  settled = λ running. renamed ∙ s.settled running;
  none_instead = s.none_instead;
  none_open = s.none_open;
  next = s.next;
  begun = same_moment p s g synced touched renamed written;
  draft = λ has running. holds running;
  leaves = (leaves, s.leaves);
}

pub begun_sound : (p : LogParts) (mark : List ℕ) (folder : FolderMoments) (history : History) → HasSoundParts p → length mark ≡ 8 → folder ≡ folder_step p.folder with_folder_draft → history ≡ with_draft [] p.history
    → HasSoundParts (record p { folder = folder; history = history; draft_mark = mark; has_draft = true })
begun_sound p mark folder history s marked f_is h_is =
    of_both (λ f h. HasSoundParts (record p { folder = f; history = h; draft_mark = mark; has_draft = true })) (folder_step p.folder with_folder_draft) folder (with_draft [] p.history) history f_is h_is
    (with_parts p s (with_folder_draft p.folder.now) mark [] refl refl refl refl refl refl s.leaves.0 (λ running. record { marked = marked; draft = refl; fit = tt }))

part_fits : (part : List ℕ) → length part ≤ MAX_CONTENT_BYTES → FitsEntryForm (part_entry part)
part_fits part short = record { number = omega arith; content = omega (arith, short) }

more_holds : (f : FolderState) (mark : List ℕ) (parts : List (List ℕ)) (part bytes : List ℕ) → HoldsDraft f mark parts → length part ≤ MAX_CONTENT_BYTES → bytes ≡ entry_bytes mark (part_entry part)
    → HoldsDraft (with_draft_bytes bytes f) mark (parts ++ part ∷ [])
more_holds f mark parts part bytes d short is =
    let pushed : map part_entry (parts ++ part ∷ []) ≡ map part_entry parts ++ part_entry part ∷ [] = map-append part_entry parts (part ∷ []) in
    record {
      marked = d.marked;
      draft =
          ap (λ (o : Option (List ℕ)). option_map (λ begun. begun ++ bytes) o) d.draft
          ∙ ap (λ (l : List ℕ). Some (entries_bytes mark (map part_entry parts) ++ l)) is
          ∙ ap (λ (l : List ℕ). Some l) (sym (text_push mark (map part_entry parts) (part_entry part)))
          ∙ ap (λ (es : List Entry). Some (entries_bytes mark es)) (sym pushed);
      fit = subst (AllByRecursion FitsEntryForm) (sym pushed) (fit_push (map part_entry parts) (part_entry part) d.fit (part_fits part short));
    }

pub added_sound : (p : LogParts) (part bytes : List ℕ) (folder : FolderMoments) (history : History) → HasSoundParts p → p.has_draft ≡ true → length part ≤ MAX_CONTENT_BYTES → bytes ≡ entry_bytes p.draft_mark (part_entry part)
    → folder ≡ folder_step p.folder (with_draft_bytes bytes) → history ≡ with_draft (p.history.draft ++ part ∷ []) p.history → HasSoundParts (record p { folder = folder; history = history })
added_sound p part bytes folder history s has short is f_is h_is =
    subst (λ (b : Bool). HasSoundParts (record p { folder = folder; history = history; has_draft = b })) (sym has)
    (of_both (λ f h. HasSoundParts (record p { folder = f; history = h; has_draft = true })) (folder_step p.folder (with_draft_bytes bytes)) folder (with_draft (p.history.draft ++ part ∷ []) p.history) history f_is h_is
    (with_parts p s (with_draft_bytes bytes p.folder.now) p.draft_mark (p.history.draft ++ part ∷ []) refl refl refl refl refl refl s.leaves.0
    (λ running. more_holds p.folder.now p.draft_mark p.history.draft part bytes (s.draft has running) short is)))

-- the draft is ready when its end was added and it was synced
pub ready_after : (p q : LogParts) (first : ℕ) (entry : List ℕ) → HasSoundParts p → p.has_draft ≡ true → p.is_stopped ≡ false → first < 2 ^ 64 → entry ≡ entry_bytes p.draft_mark (snapshot_end_entry first)
    → HasEndedDraft p q entry → q.draft_mark ≡ p.draft_mark → q.history.draft ≡ p.history.draft → HasReadyDraft q first
ready_after p q first entry s has running fits is ended mark_is draft_is =
    let d = s.draft has running in
    let es : List Entry = map part_entry p.history.draft in
    let same : map part_entry p.history.draft ≡ map part_entry q.history.draft = ap (λ (l : List (List ℕ)). map part_entry l) (sym draft_is) in
    record {
      marked = ap (λ (l : List ℕ). length l) mark_is ∙ d.marked;
      draft =
          ended.draft
          ∙ ap (λ (o : Option (List ℕ)). option_map (λ begun. begun ++ entry) o) d.draft
          ∙ ap (λ (l : List ℕ). Some (entries_bytes p.draft_mark es ++ l)) is
          ∙ ap (λ (l : List ℕ). Some l) (sym (text_push p.draft_mark es (snapshot_end_entry first)))
          ∙ ap (λ (l : List Entry). Some (entries_bytes p.draft_mark (l ++ snapshot_end_entry first ∷ []))) same
          ∙ ap (λ (m : List ℕ). Some (entries_bytes m (map part_entry q.history.draft ++ snapshot_end_entry first ∷ []))) (sym mark_is);
      fit =
          subst (λ (l : List Entry). AllByRecursion FitsEntryForm (l ++ snapshot_end_entry first ∷ [])) same
          (fit_push es (snapshot_end_entry first) d.fit (record { number = fits; content = omega arith }));
      ready = ended.ready;
    }
