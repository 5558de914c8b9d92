-- Putting a snapshot in the log's place.
use Rattle.std.proofs.Common.{◌≡◌, inl, inr, ◌⊎◌, ℕ, ◌≤◌, List, [], ◌∷◌, ◌++◌, length, map, Bool, true, false, Option, Some, None, refl, sym, ap, subst, ◌∙◌, arith, true≢false}
use Rattle.std.specs.Prelude.{IsSomeAnd}
use Rattle.std.proofs.lemmas.List.{append-nil}
use Rattle.log_disk.specs.FolderStates.{FolderState, History as FolderMoments, with_next_state as folder_goes, with_step as folder_step, with_rename, with_failed_rename, with_failed_sync, with_folder_sync, settled_state}
use Rattle.log_disk.specs.Crashes.{CrashMayLeave}
use Rattle.log_entries.specs.Entries.{Entry, entries_bytes}
use Rattle.change_log.specs.LogContents.{Contents, snapshot_of}
use Rattle.change_log.specs.LogHistories.{Moment, History, MayBeFound, IsFoundBeforeOr, HoldsAtEachMoment, settled_moment, with_step, with_possible_snapshot, with_snapshot}
use Rattle.folder_log.specs.FileFormat.{part_entry}
use Rattle.folder_log.specs.Restarts.{FindsPossibleContents, IsFoundInFile, LeavesPossibleContents}
use Rattle.folder_log.specs.FolderLogs.{LogParts, HasSoundParts}
use Rattle.folder_log.specs.inner.DraftSteps.{snapshot_end_entry, HasReadyDraft}
use Rattle.change_log.proofs.Passing.{and_then, weaker}
use Rattle.folder_log.proofs.Finding.{nonempty_push, restores_text}
use Rattle.folder_log.proofs.Holding.{of_both, crash}
use Rattle.folder_log.proofs.Scanning.{contents_snapshot}

instead_finds : (h : History) (first : ℕ) (c : Contents) → MayBeFound (with_possible_snapshot first h).now c → IsFoundBeforeOr h (snapshot_of h.draft first) c
instead_finds h first c (inl is) = inl (inl is)
instead_finds h first c (inr (inl is)) = inl (inr (inl is))
instead_finds h first c (inr (inr is)) = inr is

snapshot_finds : (h : History) (first : ℕ) (c : Contents) → MayBeFound (settled_moment (snapshot_of h.draft first)) c → IsFoundBeforeOr h (snapshot_of h.draft first) c
snapshot_finds h first c (inl is) = inr is
snapshot_finds h first c (inr (inl none)) = absurd none
snapshot_finds h first c (inr (inr none)) = absurd none

pub instead_passes : (old new : History) (first : ℕ) → new ≡ with_possible_snapshot first old → HoldsAtEachMoment (IsFoundBeforeOr old (snapshot_of old.draft first)) old new
instead_passes old new first is = record {
  moments = (with_possible_snapshot first old).now ∷ [];
  split = ap (λ (h : History). h.now ∷ h.past) is;
  each = (instead_finds old first, tt);
}

pub lost_passes : (old mid new : History) (first : ℕ) → mid ≡ with_possible_snapshot first old → new ≡ with_step mid (λ m. m) → HoldsAtEachMoment (IsFoundBeforeOr old (snapshot_of old.draft first)) old new
lost_passes old mid new first mid_is new_is = record {
  moments = (with_possible_snapshot first old).now ∷ (with_possible_snapshot first old).now ∷ [];
  split = ap (λ (h : History). h.now ∷ h.past) (new_is ∙ ap (λ (h : History). with_step h (λ m. m)) mid_is);
  each = (instead_finds old first, (instead_finds old first, tt));
}

pub replaced_passes : (old mid new : History) (first : ℕ) → mid ≡ with_possible_snapshot first old → new ≡ with_snapshot first mid → HoldsAtEachMoment (IsFoundBeforeOr old (snapshot_of old.draft first)) old new
replaced_passes old mid new first mid_is new_is = record {
  moments = settled_moment (snapshot_of old.draft first) ∷ (with_possible_snapshot first old).now ∷ [];
  split = ap (λ (h : History). h.now ∷ h.past) (new_is ∙ ap (λ (h : History). with_snapshot first h) mid_is);
  each = (snapshot_finds old first, (instead_finds old first, tt));
}

-- what was found is found still, where the snapshot may be there instead
finds_more : (h : History) (first : ℕ) (file : List ℕ) → h.now.instead ≡ None → FindsPossibleContents h.now file → FindsPossibleContents (with_possible_snapshot first h).now file
finds_more h first file none (inl (c, inl is, found)) = inl (c, inl is, found)
finds_more h first file none (inl (c, inr (inl is), found)) = inl (c, inr (inl is), found)
finds_more h first file none (inl (c, inr (inr is), found)) = absurd (subst (λ (o : Option Contents). IsSomeAnd o (λ replaced. c ≡ replaced)) none is)
finds_more h first file none (inr chance) = inr chance

module _ (p : LogParts) (s : HasSoundParts p) (running : p.is_stopped ≡ false) (no_draft : p.has_draft ≡ false) (first : ℕ) (r : HasReadyDraft p first) where
  abbrev f : FolderState
  f = p.folder.now

  abbrev es : List Entry
  es = map part_entry p.history.draft ++ snapshot_end_entry first ∷ []

  abbrev file_text : List ℕ
  file_text = entries_bytes p.draft_mark es

  abbrev snapshot : Contents
  snapshot = snapshot_of p.history.draft first

  abbrev instead : Moment
  instead = (with_possible_snapshot first p.history).now

  found : IsFoundInFile file_text snapshot
  found = inr (es, restores_text p.draft_mark r.marked es (nonempty_push (map part_entry p.history.draft) (snapshot_end_entry first)) r.fit, contents_snapshot p.history.draft first)

  leaves_either : (file : List ℕ) → CrashMayLeave (with_rename f) file → FindsPossibleContents instead file
  leaves_either file (inl old) = finds_more p.history first file (s.none_instead running) (s.leaves.0 file (inl old))
  leaves_either file (inr new) =
      let is : file ≡ file_text = subst (λ (o : Option (List ℕ)). IsSomeAnd o (λ bytes. file ≡ bytes)) r.draft new in
      inl (snapshot, inr (inr refl), subst (λ (l : List ℕ). IsFoundInFile l snapshot) (sym is) found)

  unsettled : HasSoundParts (record p { folder = folder_step p.folder with_failed_rename; history = with_possible_snapshot first p.history; is_stopped = true })
  unsettled = record {
    torn = s.torn;
    lost = refl;
    settled = λ kept. absurd (true≢false kept);
    none_instead = λ kept. absurd (true≢false kept);
    none_open = λ whole kept. absurd (true≢false kept);
    next = s.next;
    begun = λ again kept. absurd (true≢false kept);
    draft = λ has kept. absurd (true≢false kept);
    leaves = (leaves_either, s.leaves);
  }

  pub unsettled_sound : (folder : FolderMoments) (history : History) → folder ≡ folder_step p.folder with_failed_rename → history ≡ with_possible_snapshot first p.history
      → HasSoundParts (record p { folder = folder; history = history; is_stopped = true })
  unsettled_sound folder history f_is h_is =
      of_both (λ g h. HasSoundParts (record p { folder = g; history = h; is_stopped = true })) (folder_step p.folder with_failed_rename) folder (with_possible_snapshot first p.history) history f_is h_is unsettled

  abbrev lost_folder : FolderMoments
  lost_folder = folder_step (folder_step p.folder with_rename) with_failed_sync

  abbrev lost_history : History
  lost_history = with_step (with_possible_snapshot first p.history) (λ m. m)

  lost : HasSoundParts (record p { folder = lost_folder; history = lost_history; is_stopped = true })
  lost = record {
    torn = s.torn;
    lost = refl;
    settled = λ kept. absurd (true≢false kept);
    none_instead = λ kept. absurd (true≢false kept);
    none_open = λ whole kept. absurd (true≢false kept);
    next = s.next;
    begun = λ again kept. absurd (true≢false kept);
    draft = λ has kept. absurd (true≢false kept);
    leaves = (leaves_either, (leaves_either, s.leaves));
  }

  pub lost_sound : (second third : FolderMoments) (mid new : History) → second ≡ folder_step p.folder with_rename → third ≡ folder_step second with_failed_sync → mid ≡ with_possible_snapshot first p.history
      → new ≡ with_step mid (λ m. m) → HasSoundParts (record p { folder = third; history = new; is_stopped = true })
  lost_sound second third mid new second_is third_is mid_is new_is =
      of_both (λ g h. HasSoundParts (record p { folder = g; history = h; is_stopped = true })) lost_folder third lost_history new
      (third_is ∙ ap (λ (g : FolderMoments). folder_step g with_failed_sync) second_is) (new_is ∙ ap (λ (h : History). with_step h (λ m. m)) mid_is) lost

  abbrev settled_folder : FolderMoments
  settled_folder = folder_goes (folder_step p.folder with_rename) (settled_state file_text f.faults)

  -- the folder that a sync settles has the draft for its file
  settles : folder_step (folder_step p.folder with_rename) with_folder_sync ≡ settled_folder
  settles = ap (λ (o : Option (List ℕ)). folder_goes (folder_step p.folder with_rename) (elim o [ None ↦ with_rename f | Some bytes ↦ settled_state bytes f.faults ])) r.draft

  abbrev new_history : History
  new_history = with_snapshot first (with_possible_snapshot first p.history)

  no_tail : (tail : List ℕ) → length tail ≤ 0 → tail ≡ []
  no_tail [] le = refl
  no_tail (b ∷ tail) le = absurd (omega (arith, le))

  leaves_new : (file : List ℕ) → CrashMayLeave (settled_state file_text f.faults) file → FindsPossibleContents (settled_moment snapshot) file
  leaves_new file (inl (tail, short, is)) =
      let same : file ≡ file_text = is ∙ ap (λ (l : List ℕ). file_text ++ l) (no_tail tail short) ∙ append-nil file_text in
      inl (snapshot, inl refl, subst (λ (l : List ℕ). IsFoundInFile l snapshot) (sym same) found)
  leaves_new file (inr none) = absurd none

  replaced : HasSoundParts (record p { folder = settled_folder; history = new_history; mark = p.draft_mark; next = first; is_begun = true; is_torn = false })
  replaced = record {
    torn = refl;
    lost = sym running;
    settled = λ kept. refl;
    none_instead = λ kept. refl;
    none_open = λ whole kept. refl;
    next = omega arith;
    begun = λ again kept. record {
      entries = es;
      holds = record {
        marked = r.marked;
        nonempty = nonempty_push (map part_entry p.history.draft) (snapshot_end_entry first);
        fit = r.fit;
        open_fits = tt;
        open_short = omega arith;
        synced = refl;
        touched = omega arith;
        settled = refl;
      };
      read_as = contents_snapshot p.history.draft first;
      numbered = tt;
      written = refl;
    };
    draft = λ has kept. absurd (true≢false (sym has ∙ no_draft));
    leaves = (leaves_new, (leaves_either, s.leaves));
  }

  pub replaced_sound : (second third : FolderMoments) (mid new : History) → second ≡ folder_step p.folder with_rename → third ≡ folder_step second with_folder_sync → mid ≡ with_possible_snapshot first p.history
      → new ≡ with_snapshot first mid → HasSoundParts (record p { folder = third; history = new; mark = p.draft_mark; next = first; is_begun = true; is_torn = false })
  replaced_sound second third mid new second_is third_is mid_is new_is =
      of_both (λ g h. HasSoundParts (record p { folder = g; history = h; mark = p.draft_mark; next = first; is_begun = true; is_torn = false })) settled_folder third new_history new
      (third_is ∙ ap (λ (g : FolderMoments). folder_step g with_folder_sync) second_is ∙ settles) (new_is ∙ ap (λ (h : History). with_snapshot first h) mid_is) replaced

found_then : (old mid : History) (first : ℕ) (c : Contents) → mid.now ≡ old.now → mid.draft ≡ old.draft → IsFoundBeforeOr mid (snapshot_of mid.draft first) c → IsFoundBeforeOr old (snapshot_of old.draft first) c
found_then old mid first c same parts (inl may) = inl (subst (λ (m : Moment). MayBeFound m c) same may)
found_then old mid first c same parts (inr is) = inr (is ∙ ap (λ (l : List (List ℕ)). snapshot_of l first) parts)

-- the draft was ended, and then put in the log's place
pub drafted_then : (old mid new : History) (first : ℕ) → mid.now ≡ old.now → mid.draft ≡ old.draft → HoldsAtEachMoment (MayBeFound old.now) old mid → HoldsAtEachMoment (IsFoundBeforeOr mid (snapshot_of mid.draft first)) mid new
    → HoldsAtEachMoment (IsFoundBeforeOr old (snapshot_of old.draft first)) old new
drafted_then old mid new first same parts before after =
    and_then (IsFoundBeforeOr old (snapshot_of old.draft first)) old mid new
    (weaker (MayBeFound old.now) (IsFoundBeforeOr old (snapshot_of old.draft first)) (λ c may. inl may) old mid before)
    (weaker (IsFoundBeforeOr mid (snapshot_of mid.draft first)) (IsFoundBeforeOr old (snapshot_of old.draft first)) (λ c found. found_then old mid first c same parts found) mid new after)
