-- Taking back what a failed write may have left.
use Rattle.std.proofs.Common.{◌≡◌, inl, inr, ◌⊎◌, ℕ, List, [], ◌∷◌, Bool, true, false, None, refl, sym, ap, ◌∙◌, true≢false}
use Rattle.log_disk.specs.FolderStates.{FolderState, History as FolderMoments, with_step as folder_step, with_cut, with_sync, with_failed_sync, with_fault}
use Rattle.change_log.specs.LogContents.{Contents}
use Rattle.change_log.specs.LogHistories.{Moment, History, MayBeFound, HoldsAtEachMoment, with_step, without_open_change}
use Rattle.folder_log.specs.Restarts.{LeavesPossibleContents}
use Rattle.folder_log.specs.FolderLogs.{LogParts, HoldsEntries, HoldsMoment, HasSoundParts, open_entry}
use Rattle.folder_log.proofs.Holding.{of_both, crash, same_holds, same_draft, after_sync}

-- a restart finds no more after it
pub fewer : (m : Moment) (c : Contents) → MayBeFound (without_open_change m) c → MayBeFound m c
fewer m c (inl is) = inl is
fewer m c (inr (inl none)) = absurd none
fewer m c (inr (inr is)) = inr (inr is)

pub nothing_passes : (old new : History) → new ≡ with_step old (λ m. m) → HoldsAtEachMoment (MayBeFound old.now) old new
nothing_passes old new is = record {
  moments = old.now ∷ [];
  split = ap (λ (h : History). h.now ∷ h.past) is;
  each = (λ c may. may, tt);
}

pub twice_passes : (old mid new : History) → mid ≡ with_step old (λ m. m) → new ≡ with_step mid (λ m. m) → HoldsAtEachMoment (MayBeFound old.now) old new
twice_passes old mid new first second = record {
  moments = old.now ∷ old.now ∷ [];
  split = ap (λ (h : History). h.now ∷ h.past) (second ∙ ap (λ (h : History). with_step h (λ m. m)) first);
  each = (λ c may. may, (λ c may. may, tt));
}

pub healed_passes : (old mid new : History) → mid ≡ with_step old (λ m. m) → new ≡ with_step mid without_open_change → HoldsAtEachMoment (MayBeFound old.now) old new
healed_passes old mid new first second = record {
  moments = without_open_change old.now ∷ old.now ∷ [];
  split = ap (λ (h : History). h.now ∷ h.past) (second ∙ ap (λ (h : History). with_step h without_open_change) first);
  each = (fewer old.now, (λ c may. may, tt));
}

-- a call that changes nothing but the count of faults
fault_sound : (p : LogParts) → HasSoundParts p → HasSoundParts (record p { folder = folder_step p.folder with_fault; history = with_step p.history (λ m. m) })
fault_sound p s = record {
  torn = s.torn;
  lost = s.lost;
  settled = s.settled;
  none_instead = s.none_instead;
  none_open = s.none_open;
  next = s.next;
  begun = λ begun running.
      let held = s.begun begun running in
      record {
        entries = held.entries;
        holds = same_holds p.folder.now (with_fault p.folder.now) p.mark held.entries (open_entry p.history.now) refl refl refl held.holds;
        read_as = held.read_as;
        numbered = held.numbered;
        written = held.written;
      };
  draft = λ has running. same_draft p.folder.now (with_fault p.folder.now) p.draft_mark p.history.draft refl (s.draft has running);
  leaves = (s.leaves.0, s.leaves);
}

pub after_fault : (p : LogParts) (folder : FolderMoments) (history : History) → HasSoundParts p → folder ≡ folder_step p.folder with_fault → history ≡ with_step p.history (λ m. m)
    → HasSoundParts (record p { folder = folder; history = history })
after_fault p folder history s f_is h_is =
    of_both (λ f h. HasSoundParts (record p { folder = f; history = h })) (folder_step p.folder with_fault) folder (with_step p.history (λ m. m)) history f_is h_is (fault_sound p s)

module _ (p : LogParts) (s : HasSoundParts p) (begun : p.is_begun ≡ true) (running : p.is_stopped ≡ false) where
  abbrev f : FolderState
  f = p.folder.now

  held : HoldsMoment p.folder.now p.mark p.history.now
  held = s.begun begun running

  cut_holds : HoldsEntries (with_cut f) p.mark held.entries (open_entry p.history.now)
  cut_holds = same_holds f (with_cut f) p.mark held.entries (open_entry p.history.now) refl refl refl held.holds

  cut_leaves : LeavesPossibleContents (with_cut f) p.history.now
  cut_leaves = crash (with_cut f) p.mark p.history.now held.entries cut_holds held.read_as held.numbered

  synced_holds : HoldsEntries (with_sync (with_cut f)) p.mark held.entries None
  synced_holds = after_sync (with_cut f) p.mark held.entries (open_entry p.history.now) cut_holds refl

  abbrev healed_folder : FolderMoments
  healed_folder = folder_step (folder_step p.folder with_cut) with_sync

  abbrev healed_history : History
  healed_history = with_step (with_step p.history (λ m. m)) without_open_change

  healed : HasSoundParts (record p { folder = healed_folder; history = healed_history; is_torn = false })
  healed = record {
    torn = refl;
    lost = s.lost;
    settled = s.settled;
    none_instead = s.none_instead;
    none_open = λ whole kept. refl;
    next = s.next;
    begun = λ again kept. record { entries = held.entries; holds = synced_holds; read_as = held.read_as; numbered = tt; written = refl };
    draft = λ has kept. same_draft f (with_sync (with_cut f)) p.draft_mark p.history.draft refl (s.draft has kept);
    leaves = (crash (with_sync (with_cut f)) p.mark (without_open_change p.history.now) held.entries synced_holds held.read_as tt, (cut_leaves, s.leaves));
  }

  pub healed_sound : (first second : FolderMoments) (mid new : History) → first ≡ folder_step p.folder with_cut → second ≡ folder_step first with_sync
      → mid ≡ with_step p.history (λ m. m) → new ≡ with_step mid without_open_change → HasSoundParts (record p { folder = second; history = new; is_torn = false })
  healed_sound first second mid new first_is second_is mid_is new_is =
      of_both (λ g h. HasSoundParts (record p { folder = g; history = h; is_torn = false })) healed_folder second healed_history new
      (second_is ∙ ap (λ (g : FolderMoments). folder_step g with_sync) first_is) (new_is ∙ ap (λ (h : History). with_step h without_open_change) mid_is) healed

  abbrev lost_folder : FolderMoments
  lost_folder = folder_step (folder_step p.folder with_cut) with_failed_sync

  abbrev same_history : History
  same_history = with_step (with_step p.history (λ m. m)) (λ m. m)

  lost : HasSoundParts (record p { folder = lost_folder; history = same_history; is_torn = false; is_stopped = true })
  lost = record {
    torn = refl;
    lost = refl;
    settled = λ kept. absurd (true≢false kept);
    none_instead = λ kept. absurd (true≢false kept);
    none_open = λ whole kept. absurd (true≢false kept);
    next = s.next;
    begun = λ again kept. absurd (true≢false kept);
    draft = λ has kept. absurd (true≢false kept);
    leaves = (cut_leaves, (cut_leaves, s.leaves));
  }

  pub lost_sound : (first second : FolderMoments) (mid new : History) → first ≡ folder_step p.folder with_cut → second ≡ folder_step first with_failed_sync
      → mid ≡ with_step p.history (λ m. m) → new ≡ with_step mid (λ m. m) → HasSoundParts (record p { folder = second; history = new; is_torn = false; is_stopped = true })
  lost_sound first second mid new first_is second_is mid_is new_is =
      of_both (λ g h. HasSoundParts (record p { folder = g; history = h; is_torn = false; is_stopped = true })) lost_folder second same_history new
      (second_is ∙ ap (λ (g : FolderMoments). folder_step g with_failed_sync) first_is) (new_is ∙ ap (λ (h : History). with_step h (λ m. m)) mid_is) lost
