-- What a restart finds in what a crash left.
use Rattle.std.proofs.Common.{◌≡◌, ◌⊎◌, inl, inr, ℕ, ◌+◌, ◌-◌, ◌^◌, ◌<◌, ◌≤◌, List, [], ◌∷◌, ◌++◌, length, take, Bool, true, false, Option, Some, None, IfSome, refl, sym, ap, subst, ◌∙◌, append_assoc, arith, true≢false}
use Rattle.std.specs.Prelude.{is_some, ◌||◌, option_map, IsSomeAnd}
use Rattle.std.specs.List.{AllByRecursion}
use Rattle.std.specs.Str.{bytes_eq}
use Rattle.std.proofs.lemmas.List.{take_at, append-nil, length-append}
use Rattle.std.proofs.lemmas.Slice.Eq.{bytes_eq-Decides}
use Rattle.std.specs.Int.{w32, w64, to_be_bytes}
use Rattle.log_entries.specs.Checksums.{checksum}
use Rattle.log_entries.specs.Entries.{Entry, FitsEntryForm, entry_body, entry_bytes, entry_at, has_entry, entries_bytes, leading_entries}
use Rattle.log_entries.proofs.WholeEntries.{whole_none, whole_text}
use Rattle.change_log.specs.LogContents.{Contents, next_number, with_change}
use Rattle.change_log.specs.LogHistories.{Moment, MayBeFound}
use Rattle.folder_log.specs.FileFormat.{change_entry, contents_of_entries, max_entry_bytes}
use Rattle.folder_log.specs.Restarts.{mark_of, RestoresEntries, IsFoundInFile, HasChanceEntry, MayHaveChanceEntry, FindsPossibleContents}
use Rattle.folder_log.specs.FolderLogs.{open_entry, open_entry_len}
use Rattle.folder_log.proofs.Scanning.{contents_push}

abbrev Found : Type 0
Found = List Entry × List ℕ

-- the entries and one more, as text
pub text_push : (mark : List ℕ) (es : List Entry) (e : Entry) → entries_bytes mark (es ++ e ∷ []) ≡ entries_bytes mark es ++ entry_bytes mark e
text_push mark [] e = append-nil (entry_bytes mark e)
text_push mark (x ∷ es) e = ap (λ (l : List ℕ). entry_bytes mark x ++ l) (text_push mark es e) ∙ sym (append_assoc (entry_bytes mark x) (entries_bytes mark es) (entry_bytes mark e))

pub fit_push : (es : List Entry) (e : Entry) → AllByRecursion FitsEntryForm es → FitsEntryForm e → AllByRecursion FitsEntryForm (es ++ e ∷ [])
fit_push [] e fit last = (last, tt)
fit_push (x ∷ es) e fit last = (fit.0, fit_push es e fit.1 last)

pub nonempty_push : (es : List Entry) (e : Entry) → 0 < length (es ++ e ∷ [])
nonempty_push [] e = omega arith
nonempty_push (x ∷ es) e = omega arith

mark_first : (mark : List ℕ) (es : List Entry) (tail : List ℕ) → length mark ≡ 8 → 0 < length es → mark_of (entries_bytes mark es ++ tail) ≡ mark
mark_first mark [] tail marked nonempty = absurd (omega (arith, nonempty))
mark_first mark (e ∷ es) tail marked nonempty =
    let more = to_be_bytes w32 (length e.content) ++ (to_be_bytes w64 (checksum mark (entry_body e)) ++ entry_body e) in
    let split : (mark ++ more) ++ entries_bytes mark es ++ tail ≡ mark ++ (more ++ entries_bytes mark es ++ tail) = append_assoc (mark ++ more) (entries_bytes mark es) tail ∙ append_assoc mark more (entries_bytes mark es ++ tail) ∙ ap (λ (l : List ℕ). mark ++ l) (sym (append_assoc more (entries_bytes mark es) tail)) in
    ap (λ (l : List ℕ). take 8 l) split ∙ take_at mark (more ++ entries_bytes mark es ++ tail) 8 marked

first_none : (o : Option (Entry × List ℕ)) (b : Bool) → (is_some o || b) ≡ false → o ≡ None
first_none None b e = refl
first_none (Some x) b e = absurd (true≢false e)

none_in : (mark tail : List ℕ) → has_entry mark tail ≡ false → entry_at mark tail ≡ None
unfolding entry_at
none_in mark [] clean = refl
none_in mark (b ∷ tail) clean = first_none (entry_at mark (b ∷ tail)) (has_entry mark tail) clean

-- the file has this mark, these entries and this rest
restores_by : (mark file : List ℕ) (es : List Entry) (rest : List ℕ) → mark_of file ≡ mark → leading_entries mark file ≡ (es, rest) → has_entry mark rest ≡ false → length rest ≤ max_entry_bytes → RestoresEntries file es
restores_by mark file es rest mark_is is clean short = record {
  found = ap (λ (m : List ℕ). (leading_entries m file).0) mark_is ∙ ap (λ (f : Found). f.0) is;
  torn = ap (λ (m : List ℕ). has_entry m (leading_entries m file).1) mark_is ∙ ap (λ (f : Found). has_entry mark f.1) is ∙ clean;
  short =
      subst (λ (n : ℕ). n ≤ max_entry_bytes)
      (sym (ap (λ (m : List ℕ). length (leading_entries m file).1) mark_is ∙ ap (λ (f : Found). length f.1) is)) short;
}

no_tail : (tail : List ℕ) → length tail ≤ 0 → tail ≡ []
no_tail [] le = refl
no_tail (b ∷ tail) le = absurd (omega (arith, le))

module _ (mark : List ℕ) (marked : length mark ≡ 8) where
  -- no entry begins in the tail
  pub restores_torn : (es : List Entry) (tail : List ℕ) → 0 < length es → AllByRecursion FitsEntryForm es → has_entry mark tail ≡ false → length tail ≤ max_entry_bytes → RestoresEntries (entries_bytes mark es ++ tail) es
  restores_torn es tail nonempty fit clean short =
      restores_by mark (entries_bytes mark es ++ tail) es tail (mark_first mark es tail marked nonempty)
      (whole_text mark es tail marked fit ∙ ap (λ (f : Found). (es ++ f.0, f.1)) (whole_none mark tail (none_in mark tail clean)) ∙ ap (λ (l : List Entry). (l, tail)) (append-nil es)) clean short

  pub restores_text : (es : List Entry) → 0 < length es → AllByRecursion FitsEntryForm es → RestoresEntries (entries_bytes mark es) es
  restores_text es nonempty fit = subst (λ (l : List ℕ). RestoresEntries l es) (append-nil (entries_bytes mark es)) (restores_torn es [] nonempty fit refl (omega arith))

  restores_push : (es : List Entry) (e : Entry) → AllByRecursion FitsEntryForm es → FitsEntryForm e → RestoresEntries (entries_bytes mark es ++ entry_bytes mark e) (es ++ e ∷ [])
  restores_push es e fit last = subst (λ (l : List ℕ). RestoresEntries l (es ++ e ∷ [])) (text_push mark es e) (restores_text (es ++ e ∷ []) (nonempty_push es e) (fit_push es e fit last))

  chance : (es : List Entry) (e : Entry) (tail : List ℕ) → 0 < length es → length tail ≤ length (entry_bytes mark e) → bytes_eq tail (entry_bytes mark e) ≡ false → has_entry mark tail ≡ true → HasChanceEntry es e (entries_bytes mark es ++ tail)
  chance es e tail nonempty short other hit =
      let file = entries_bytes mark es ++ tail in
      let is : mark ≡ mark_of file = sym (mark_first mark es tail marked nonempty) in
      record {
        tail = tail;
        split = ap (λ (m : List ℕ). entries_bytes m es ++ tail) is;
        short = subst (λ (m : List ℕ). length tail ≤ length (entry_bytes m e)) is short;
        differs =
            subst (λ (m : List ℕ). tail ≡ entry_bytes m e → ⊥) is
            (λ same. true≢false (sym ((bytes_eq-Decides tail (entry_bytes mark e)).1 same) ∙ other));
        hit = subst (λ (m : List ℕ). has_entry m tail ≡ true) is hit;
      }

  module _ (es : List Entry) (kept : Contents) (instead : Option Contents) (nonempty : 0 < length es) (fit : AllByRecursion FitsEntryForm es) (read_as : contents_of_entries es ≡ Some kept) where
    abbrev moment : Option (List ℕ) → Moment
    moment o = record { kept = kept; open_change = o; instead = instead }

    clean_found : (o : Option (List ℕ)) (tail : List ℕ) → has_entry mark tail ≡ false → length tail ≤ max_entry_bytes → FindsPossibleContents (moment o) (entries_bytes mark es ++ tail)
    clean_found o tail clean short = inl (kept, inl refl, inr (es, restores_torn es tail nonempty fit clean short, read_as))

    by_bytes : (change : List ℕ) (tail : List ℕ) (b : Bool) → bytes_eq tail (entry_bytes mark (change_entry (next_number kept) change)) ≡ b → FitsEntryForm (change_entry (next_number kept) change)
        → next_number kept < 2 ^ 64 - 1 → length tail ≤ length (entry_bytes mark (change_entry (next_number kept) change)) → has_entry mark tail ≡ true → FindsPossibleContents (moment (Some change)) (entries_bytes mark es ++ tail)
    by_bytes change tail true same last left short hit =
        let e = change_entry (next_number kept) change in
        let is : tail ≡ entry_bytes mark e = (bytes_eq-Decides tail (entry_bytes mark e)).0 same in
        inl (with_change change kept, inr (inl refl), inr (es ++ e ∷ [], subst (λ (l : List ℕ). RestoresEntries (entries_bytes mark es ++ l) (es ++ e ∷ [])) (sym is) (restores_push es e fit last), contents_push es kept change read_as left))
    by_bytes change tail false other last left short hit =
        inr (es, read_as, chance es (change_entry (next_number kept) change) tail nonempty short other hit)

    by_hit : (o : Option (List ℕ)) (tail : List ℕ) (b : Bool) → has_entry mark tail ≡ b → IfSome (option_map (change_entry (next_number kept)) o) FitsEntryForm → IfSome o (λ change. next_number kept < 2 ^ 64 - 1)
        → open_entry_len mark (option_map (change_entry (next_number kept)) o) ≤ max_entry_bytes → length tail ≤ open_entry_len mark (option_map (change_entry (next_number kept)) o) → FindsPossibleContents (moment o) (entries_bytes mark es ++ tail)
    by_hit o tail false clean last left bound short = clean_found o tail clean (omega (arith, bound, short))
    by_hit None tail true hit last left bound short = absurd (true≢false (sym hit ∙ ap (has_entry mark) (no_tail tail short)))
    by_hit (Some change) tail true hit last left bound short = by_bytes change tail (bytes_eq tail (entry_bytes mark (change_entry (next_number kept) change))) refl last left short hit

    pub finds : (o : Option (List ℕ)) (tail : List ℕ) → IfSome (option_map (change_entry (next_number kept)) o) FitsEntryForm → IfSome o (λ change. next_number kept < 2 ^ 64 - 1)
        → open_entry_len mark (option_map (change_entry (next_number kept)) o) ≤ max_entry_bytes → length tail ≤ open_entry_len mark (option_map (change_entry (next_number kept)) o) → FindsPossibleContents (moment o) (entries_bytes mark es ++ tail)
    finds o tail = by_hit o tail (has_entry mark tail) refl
