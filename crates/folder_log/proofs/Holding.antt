-- What a log's folder holds after each call on it.
use Rattle.std.proofs.Common.{◌≡◌, inl, inr, ℕ, ◌-◌, ◌^◌, ◌<◌, ◌≤◌, List, [], ◌∷◌, ◌++◌, length, Option, Some, None, IfSome, sym, ap, subst, ◌∙◌, arith}
use Rattle.std.specs.Prelude.{IsSomeAnd}
use Rattle.std.proofs.lemmas.List.{append-nil}
use Rattle.log_disk.specs.FolderStates.{FolderState, History as FolderMoments, with_write, with_torn_write, with_sync}
use Rattle.log_entries.specs.Entries.{Entry, FitsEntryForm, entry_bytes}
use Rattle.change_log.specs.LogContents.{next_number}
use Rattle.change_log.specs.LogHistories.{Moment, History}
use Rattle.folder_log.specs.FileFormat.{contents_of_entries, max_entry_bytes}
use Rattle.folder_log.specs.Restarts.{FindsPossibleContents, LeavesPossibleContents}
use Rattle.folder_log.specs.FolderLogs.{HoldsEntries, HoldsDraft, open_entry}
use Rattle.folder_log.proofs.Finding.{finds, text_push, fit_push, nonempty_push}

-- a fact of two histories, by what they are
pub of_both : (P : FolderMoments → History → Type 0) (f f' : FolderMoments) (h h' : History) → f' ≡ f → h' ≡ h → P f h → P f' h'
of_both P f f' h h' f_is h_is holds = subst (λ (y : FolderMoments). P y h') (sym f_is) (subst (λ (y : History). P f y) (sym h_is) holds)

-- what a crash leaves
pub crash : (f : FolderState) (mark : List ℕ) (m : Moment) (es : List Entry) → HoldsEntries f mark es (open_entry m) → contents_of_entries es ≡ Some m.kept
    → IfSome m.open_change (λ change. next_number m.kept < 2 ^ 64 - 1) → LeavesPossibleContents f m
crash f mark m es h read_as left file (inl (tail, short, is)) =
    subst (FindsPossibleContents m) (sym (is ∙ ap (λ (l : List ℕ). l ++ tail) h.synced))
    (finds mark h.marked es m.kept m.instead h.nonempty h.fit read_as m.open_change tail h.open_fits left h.open_short (omega (arith, short, h.touched)))
crash f mark m es h read_as left file (inr other) = absurd (subst (λ (o : Option (List ℕ)). IsSomeAnd o (λ bytes. file ≡ bytes)) h.settled other)

pub same_holds : (f g : FolderState) (mark : List ℕ) (es : List Entry) (o : Option Entry) → g.synced ≡ f.synced → g.touched ≡ f.touched → g.renamed ≡ f.renamed → HoldsEntries f mark es o → HoldsEntries g mark es o
same_holds f g mark es o synced touched renamed h = record {
  marked = h.marked;
  nonempty = h.nonempty;
  fit = h.fit;
  open_fits = h.open_fits;
  open_short = h.open_short;
  synced = synced ∙ h.synced;
  touched = omega (arith, touched, h.touched);
  settled = renamed ∙ h.settled;
}

pub same_draft : (f g : FolderState) (mark : List ℕ) (parts : List (List ℕ)) → g.draft ≡ f.draft → HoldsDraft f mark parts → HoldsDraft g mark parts
same_draft f g mark parts same d = record { marked = d.marked; draft = same ∙ d.draft; fit = d.fit }

-- a sync, where nothing was written
pub after_sync : (f : FolderState) (mark : List ℕ) (es : List Entry) (o : Option Entry) → HoldsEntries f mark es o → f.written ≡ [] → HoldsEntries (with_sync f) mark es None
after_sync f mark es o h none = record {
  marked = h.marked;
  nonempty = h.nonempty;
  fit = h.fit;
  open_fits = tt;
  open_short = omega arith;
  synced = ap (λ (l : List ℕ). f.synced ++ l) none ∙ append-nil f.synced ∙ h.synced;
  touched = omega arith;
  settled = h.settled;
}

pub after_write : (f : FolderState) (mark : List ℕ) (es : List Entry) (e : Entry) → HoldsEntries f mark es None → FitsEntryForm e → length (entry_bytes mark e) ≤ max_entry_bytes → HoldsEntries (with_write (entry_bytes mark e) f) mark es (Some e)
after_write f mark es e h fits short = record {
  marked = h.marked;
  nonempty = h.nonempty;
  fit = h.fit;
  open_fits = fits;
  open_short = short;
  synced = h.synced;
  touched = omega (arith, h.touched);
  settled = h.settled;
}

pub after_tear : (f : FolderState) (mark : List ℕ) (es : List Entry) (e : Entry) → HoldsEntries f mark es None → FitsEntryForm e → length (entry_bytes mark e) ≤ max_entry_bytes → HoldsEntries (with_torn_write (entry_bytes mark e) f) mark es (Some e)
after_tear f mark es e h fits short = record {
  marked = h.marked;
  nonempty = h.nonempty;
  fit = h.fit;
  open_fits = fits;
  open_short = short;
  synced = h.synced;
  touched = omega (arith, h.touched);
  settled = h.settled;
}

-- a sync after a write
pub after_both : (f : FolderState) (mark : List ℕ) (es : List Entry) (e : Entry) → HoldsEntries f mark es None → FitsEntryForm e → f.written ≡ [] → HoldsEntries (with_sync (with_write (entry_bytes mark e) f)) mark (es ++ e ∷ []) None
after_both f mark es e h fits none = record {
  marked = h.marked;
  nonempty = nonempty_push es e;
  fit = fit_push es e h.fit fits;
  open_fits = tt;
  open_short = omega arith;
  synced =
      ap (λ (l : List ℕ). f.synced ++ (l ++ entry_bytes mark e)) none
      ∙ ap (λ (l : List ℕ). l ++ entry_bytes mark e) h.synced ∙ sym (text_push mark es e);
  touched = omega arith;
  settled = h.settled;
}
