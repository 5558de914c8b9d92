-- Appending a change.
use Rattle.std.proofs.Common.{◌≡◌, inl, inr, ◌⊎◌, ℕ, ◌+◌, ◌-◌, ◌^◌, ◌<◌, ◌≤◌, List, [], ◌∷◌, ◌++◌, length, Bool, true, false, Some, None, refl, sym, ap, subst, ◌∙◌, arith, true≢false}
use Rattle.std.specs.Prelude.{option_map}
use Rattle.std.proofs.lemmas.List.{length-append}
use Rattle.log_disk.specs.FolderStates.{FolderState, History as FolderMoments, with_step as folder_step, with_write, with_torn_write, with_sync, with_failed_sync}
use Rattle.log_entries.specs.Entries.{Entry, FitsEntryForm, entry_bytes}
use Rattle.log_entries.proofs.ReadBack.{entry_length}
use Rattle.change_log.specs.LogContents.{Contents, next_number, with_change}
use Rattle.change_log.specs.declared.limits.TheConstants.{MAX_CONTENT_BYTES}
use Rattle.change_log.specs.LogHistories.{Moment, History, MayBeFound, IsFoundBeforeOr, HoldsAtEachMoment, settled_moment, with_step, with_open_change, with_appended_change}
use Rattle.change_log.proofs.Passing.{and_then, weaker}
use Rattle.folder_log.specs.FileFormat.{change_entry, max_entry_bytes, contents_of_entries}
use Rattle.folder_log.specs.Restarts.{LeavesPossibleContents}
use Rattle.folder_log.specs.FolderLogs.{LogParts, HoldsEntries, HoldsMoment, HasSoundParts, open_entry}
use Rattle.folder_log.proofs.Holding.{of_both, crash, same_draft, after_write, after_tear, after_both}
use Rattle.folder_log.proofs.Scanning.{contents_push}

-- what may be found while the change is open was found before, or is the change
pub open_finds : (h : History) (change : List ℕ) (c : Contents) → MayBeFound (with_open_change change h.now) c → IsFoundBeforeOr h (with_change change h.now.kept) c
open_finds h change c (inl is) = inl (inl is)
open_finds h change c (inr (inl is)) = inr is
open_finds h change c (inr (inr is)) = inl (inr (inr is))

only_finds : (h : History) (c k : Contents) → MayBeFound (settled_moment k) c → IsFoundBeforeOr h k c
only_finds h c k (inl is) = inr is
only_finds h c k (inr (inl none)) = absurd none
only_finds h c k (inr (inr none)) = absurd none

pub open_passes : (old new : History) (change : List ℕ) → new ≡ with_step old (with_open_change change) → HoldsAtEachMoment (IsFoundBeforeOr old (with_change change old.now.kept)) old new
open_passes old new change is = record {
  moments = with_open_change change old.now ∷ [];
  split = ap (λ (h : History). h.now ∷ h.past) is;
  each = (open_finds old change, tt);
}

-- what may have been written was taken back, or may still be there
pub torn_passes : (old mid new : History) (change : List ℕ) → mid ≡ with_step old (with_open_change change) → HoldsAtEachMoment (MayBeFound mid.now) mid new → HoldsAtEachMoment (IsFoundBeforeOr old (with_change change old.now.kept)) old new
torn_passes old mid new change is second =
    and_then (IsFoundBeforeOr old (with_change change old.now.kept)) old mid new (open_passes old mid change is)
    (weaker (MayBeFound mid.now) (IsFoundBeforeOr old (with_change change old.now.kept)) (λ c may. open_finds old change c (subst (λ (h : History). MayBeFound h.now c) is may)) mid new second)

pub lost_passes : (old mid new : History) (change : List ℕ) → mid ≡ with_step old (with_open_change change) → new ≡ with_step mid (λ m. m) → HoldsAtEachMoment (IsFoundBeforeOr old (with_change change old.now.kept)) old new
lost_passes old mid new change first second = record {
  moments = with_open_change change old.now ∷ with_open_change change old.now ∷ [];
  split = ap (λ (h : History). h.now ∷ h.past) (second ∙ ap (λ (h : History). with_step h (λ m. m)) first);
  each = (open_finds old change, (open_finds old change, tt));
}

pub appended_passes : (old mid new : History) (change : List ℕ) → mid ≡ with_step old (with_open_change change) → new ≡ with_step mid (with_appended_change change) → HoldsAtEachMoment (IsFoundBeforeOr old (with_change change old.now.kept)) old new
appended_passes old mid new change first second = record {
  moments = with_appended_change change old.now ∷ with_open_change change old.now ∷ [];
  split = ap (λ (h : History). h.now ∷ h.past) (second ∙ ap (λ (h : History). with_step h (with_appended_change change)) first);
  each = (λ c may. only_finds old c (with_change change old.now.kept) may, (open_finds old change, tt));
}

module _ (p : LogParts) (s : HasSoundParts p) (begun : p.is_begun ≡ true) (running : p.is_stopped ≡ false) (whole : p.is_torn ≡ false) (left : p.next < 2 ^ 64 - 1)
    (change : List ℕ) (short : length change ≤ MAX_CONTENT_BYTES) (bytes : List ℕ) (bytes_are : bytes ≡ entry_bytes p.mark (change_entry p.next change)) where
  abbrev f : FolderState
  f = p.folder.now

  abbrev m : Moment
  m = p.history.now

  abbrev e : Entry
  e = change_entry (next_number m.kept) change

  held : HoldsMoment p.folder.now p.mark p.history.now
  held = s.begun begun running

  left_is : next_number m.kept < 2 ^ 64 - 1
  left_is = subst (λ (n : ℕ). n < 2 ^ 64 - 1) s.next left

  fits : FitsEntryForm e
  fits = record { number = omega (arith, left_is); content = omega (arith, short) }

  is : bytes ≡ entry_bytes p.mark e
  is = bytes_are ∙ ap (λ (n : ℕ). entry_bytes p.mark (change_entry n change)) s.next

  none_held : HoldsEntries f p.mark held.entries None
  none_held = subst (λ o. HoldsEntries f p.mark held.entries (option_map (change_entry (next_number m.kept)) o)) (s.none_open whole running) held.holds

  small : length (entry_bytes p.mark e) ≤ max_entry_bytes
  small = omega (arith, short, entry_length p.mark none_held.marked e fits [])

  torn_holds : HoldsEntries (with_torn_write bytes f) p.mark held.entries (Some e)
  torn_holds = subst (λ (l : List ℕ). HoldsEntries (with_torn_write l f) p.mark held.entries (Some e)) (sym is) (after_tear f p.mark held.entries e none_held fits small)

  wrote_holds : HoldsEntries (with_write bytes f) p.mark held.entries (Some e)
  wrote_holds = subst (λ (l : List ℕ). HoldsEntries (with_write l f) p.mark held.entries (Some e)) (sym is) (after_write f p.mark held.entries e none_held fits small)

  both_hold : HoldsEntries (with_sync (with_write bytes f)) p.mark (held.entries ++ e ∷ []) None
  both_hold = subst (λ (l : List ℕ). HoldsEntries (with_sync (with_write l f)) p.mark (held.entries ++ e ∷ []) None) (sym is) (after_both f p.mark held.entries e none_held fits held.written)

  torn_leaves : LeavesPossibleContents (with_torn_write bytes f) (with_open_change change m)
  torn_leaves = crash (with_torn_write bytes f) p.mark (with_open_change change m) held.entries torn_holds held.read_as left_is

  wrote_leaves : LeavesPossibleContents (with_write bytes f) (with_open_change change m)
  wrote_leaves = crash (with_write bytes f) p.mark (with_open_change change m) held.entries wrote_holds held.read_as left_is

  read_both : contents_of_entries (held.entries ++ e ∷ []) ≡ Some (with_change change m.kept)
  read_both = contents_push held.entries m.kept change held.read_as left_is

  torn : HasSoundParts (record p { folder = folder_step p.folder (with_torn_write bytes); history = with_step p.history (with_open_change change); is_torn = true })
  torn = record {
    torn = refl;
    lost = s.lost;
    settled = s.settled;
    none_instead = s.none_instead;
    none_open = λ not_torn kept. absurd (true≢false not_torn);
    next = s.next;
    begun = λ again kept. record { entries = held.entries; holds = torn_holds; read_as = held.read_as; numbered = left_is; written = held.written };
    draft = λ has kept. same_draft f (with_torn_write bytes f) p.draft_mark p.history.draft refl (s.draft has kept);
    leaves = (torn_leaves, s.leaves);
  }

  pub torn_sound : (folder : FolderMoments) (history : History) → folder ≡ folder_step p.folder (with_torn_write bytes) → history ≡ with_step p.history (with_open_change change)
      → HasSoundParts (record p { folder = folder; history = history; is_torn = true })
  torn_sound folder history f_is h_is =
      of_both (λ g h. HasSoundParts (record p { folder = g; history = h; is_torn = true })) (folder_step p.folder (with_torn_write bytes)) folder (with_step p.history (with_open_change change)) history f_is h_is torn

  abbrev lost_folder : FolderMoments
  lost_folder = folder_step (folder_step p.folder (with_write bytes)) with_failed_sync

  abbrev lost_history : History
  lost_history = with_step (with_step p.history (with_open_change change)) (λ x. x)

  lost : HasSoundParts (record p { folder = lost_folder; history = lost_history; is_stopped = true })
  lost = record {
    torn = s.torn;
    lost = refl;
    settled = λ kept. absurd (true≢false kept);
    none_instead = λ kept. absurd (true≢false kept);
    none_open = λ not_torn kept. absurd (true≢false kept);
    next = s.next;
    begun = λ again kept. absurd (true≢false kept);
    draft = λ has kept. absurd (true≢false kept);
    leaves = (wrote_leaves, (wrote_leaves, s.leaves));
  }

  pub lost_sound : (first second : FolderMoments) (mid new : History) → first ≡ folder_step p.folder (with_write bytes) → second ≡ folder_step first with_failed_sync
      → mid ≡ with_step p.history (with_open_change change) → new ≡ with_step mid (λ x. x) → HasSoundParts (record p { folder = second; history = new; is_stopped = true })
  lost_sound first second mid new first_is second_is mid_is new_is =
      of_both (λ g h. HasSoundParts (record p { folder = g; history = h; is_stopped = true })) lost_folder second lost_history new
      (second_is ∙ ap (λ (g : FolderMoments). folder_step g with_failed_sync) first_is) (new_is ∙ ap (λ (h : History). with_step h (λ x. x)) mid_is) lost

  abbrev done_folder : FolderMoments
  done_folder = folder_step (folder_step p.folder (with_write bytes)) with_sync

  abbrev done_history : History
  done_history = with_step (with_step p.history (with_open_change change)) (with_appended_change change)

  next_is : p.next + 1 ≡ next_number (with_change change m.kept)
  next_is = omega (arith, s.next, length-append m.kept.changes (change ∷ []))

  done : HasSoundParts (record p { folder = done_folder; history = done_history; next = p.next + 1 })
  done = record {
    torn = s.torn;
    lost = s.lost;
    settled = s.settled;
    none_instead = λ kept. refl;
    none_open = λ not_torn kept. refl;
    next = next_is;
    begun = λ again kept. record { entries = held.entries ++ e ∷ []; holds = both_hold; read_as = read_both; numbered = tt; written = refl };
    draft = λ has kept. same_draft f (with_sync (with_write bytes f)) p.draft_mark p.history.draft refl (s.draft has kept);
    leaves = (crash (with_sync (with_write bytes f)) p.mark (settled_moment (with_change change m.kept)) (held.entries ++ e ∷ []) both_hold read_both tt, (wrote_leaves, s.leaves));
  }

  pub done_sound : (first second : FolderMoments) (mid new : History) → first ≡ folder_step p.folder (with_write bytes) → second ≡ folder_step first with_sync
      → mid ≡ with_step p.history (with_open_change change) → new ≡ with_step mid (with_appended_change change) → HasSoundParts (record p { folder = second; history = new; next = p.next + 1 })
  done_sound first second mid new first_is second_is mid_is new_is =
      of_both (λ g h. HasSoundParts (record p { folder = g; history = h; next = p.next + 1 })) done_folder second done_history new
      (second_is ∙ ap (λ (g : FolderMoments). folder_step g with_sync) first_is) (new_is ∙ ap (λ (h : History). with_step h (with_appended_change change)) mid_is) done
