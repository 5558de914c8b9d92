-- Reading a file entry after entry.
use Rattle.std.proofs.Common.{◌≡◌, ◌⊎◌, inl, inr, ℕ, ◌+◌, ◌<◌, ◌≤◌, List, [], ◌∷◌, ◌++◌, length, take, map, Bool, true, false, cond, Option, None, Some, refl, sym, ap, subst, ◌∙◌, arith, length-drop, true≢false}
use Rattle.std.proofs.lemmas.List.{append-nil, take_all}
use Rattle.std.specs.Prelude.{◌==◌}
use Rattle.std.proofs.lemmas.Bool.{eqb-true}
use Rattle.log_disk.specs.FolderStates.{settled_state}
use Rattle.log_entries.specs.Entries.{Entry, entry_at, has_entry, leading_entries, with_entry_in_front}
use Rattle.log_entries.proofs.WholeEntries.{took, whole_some, whole_none}
use Rattle.change_log.specs.LogContents.{Contents}
use Rattle.change_log.specs.LogItems.{Item, Scan, no_scan, scan_item, scan_items, contents_if_ended}
use Rattle.change_log.specs.LogHistories.{settled_moment}
use Rattle.folder_log.specs.FileFormat.{item_of, contents_of_entries, max_entry_bytes}
use Rattle.folder_log.specs.Restarts.{IsFoundInFile, LeavesPossibleContents, RestoresEntries, mark_of}
use Rattle.folder_log.specs.LogOpenings.{remaining_items}

abbrev Found : Type 0
Found = List Entry × List ℕ

abbrev items : List Entry → List Item
items es = map item_of es

-- what is read after the first item, by what that comes to
abbrev next_or : List Item → Option Scan → Option Scan
next_or rest o = elim o [ None ↦ None | Some s ↦ scan_items s rest ]

module _ (mark rest after : List ℕ) (e : Entry) (is : Some (e, after) ≡ entry_at mark rest) where
  front : leading_entries mark rest ≡ with_entry_in_front e (leading_entries mark after)
  front = whole_some mark rest e after (sym is)

  pub shorter : length after < length rest
  shorter = let t = took mark rest (e, after) (sym is) in omega (arith, t.long, ap length t.rest, length-drop (28 + length e.content) rest)

  pub same_rest : (leading_entries mark after).1 ≡ (leading_entries mark rest).1
  same_rest = sym (ap (λ (f : Found). f.1) front)

  pub one_more : (s t : Scan) → scan_item s (item_of e) ≡ Some t → scan_items t (items (leading_entries mark after).0) ≡ scan_items s (items (leading_entries mark rest).0)
  one_more s t does = sym (ap (λ (f : Found). scan_items s (items f.0)) front ∙ ap (next_or (items (leading_entries mark after).0)) does)

  pub refuses : (s : Scan) → scan_item s (item_of e) ≡ None → scan_items s (items (leading_entries mark rest).0) ≡ None
  refuses s does = ap (λ (f : Found). scan_items s (items f.0)) front ∙ ap (next_or (items (leading_entries mark after).0)) does

pub at_end : (mark rest : List ℕ) (s : Scan) → None ≡ entry_at mark rest → (scan_items s (items (leading_entries mark rest).0) ≡ Some s) × ((leading_entries mark rest).1 ≡ rest)
at_end mark rest s is = let found = whole_none mark rest (sym is) in (ap (λ (f : Found). scan_items s (items f.0)) found, ap (λ (f : Found). f.1) found)

ended_contents : (s : Scan) → s.is_ended ≡ true → contents_if_ended s ≡ Some s.contents
ended_contents s is = ap (λ (b : Bool). cond b (Some s.contents) None) is

-- the file is read as these contents
pub found_in : (file rest : List ℕ) (s : Scan) → scan_items no_scan (items (leading_entries (mark_of file) file).0) ≡ Some s → s.is_ended ≡ true → rest ≡ (leading_entries (mark_of file) file).1 → has_entry (mark_of file) rest ≡ false
    → length rest ≤ max_entry_bytes → IsFoundInFile file s.contents
found_in file rest s scanned is_ended rest_is clean short =
    inr (
      (leading_entries (mark_of file) file).0,
      record {
        found = refl;
        torn = ap (has_entry (mark_of file)) (sym rest_is) ∙ clean;
        short = subst (λ (l : List ℕ). length l ≤ max_entry_bytes) rest_is short;
      },
      ap (λ (o : Option Scan). elim o [ None ↦ None | Some t ↦ contents_if_ended t ]) scanned ∙ ended_contents s is_ended,
    )

no_tail : (tail : List ℕ) → length tail ≤ 0 → tail ≡ []
no_tail [] le = refl
no_tail (b ∷ tail) le = absurd (omega (arith, le))

-- a file that was just opened
pub opened_leaves : (file : List ℕ) (c : Contents) → IsFoundInFile file c → LeavesPossibleContents (settled_state file 0) (settled_moment c)
opened_leaves file c found left (inl (tail, short, is)) =
    let same : left ≡ file = is ∙ ap (λ (l : List ℕ). file ++ l) (no_tail tail short) ∙ append-nil file in
    inl (c, inl refl, subst (λ (l : List ℕ). IsFoundInFile l c) (sym same) found)
opened_leaves file c found left (inr none) = absurd none

pub refused_by : (b : Bool) (t : Scan) (o : Option Scan) → o ≡ cond b (Some t) None → b ≡ false → o ≡ None
refused_by b t o is refused = is ∙ ap (λ (x : Bool). cond x (Some t) None) refused

pub taken_by : (b : Bool) (t : Scan) (o : Option Scan) → o ≡ cond b (Some t) None → b ≡ true → o ≡ Some t
taken_by b t o is taken = is ∙ ap (λ (x : Bool). cond x (Some t) None) taken

none_long : (bytes : List ℕ) → length bytes ≡ 0 → bytes ≡ []
none_long [] is = refl
none_long (b ∷ bytes) is = absurd (omega (arith, is))

pub is_empty : (bytes : List ℕ) → (length bytes == 0) ≡ true → bytes ≡ []
is_empty bytes is = none_long bytes (eqb-true (length bytes) 0 is)

-- nothing is left of an empty file
pub none_left : (file : List ℕ) → file ≡ [] → remaining_items file 0 ≡ []
unfolding leading_entries
none_left file is = ap (λ (l : List ℕ). remaining_items l 0) is

-- the same, where the code has its own names for the mark and the start
pub found_by : (file mark rest : List ℕ) (start s : Scan) → mark ≡ mark_of file → start ≡ no_scan → scan_items start (items (leading_entries mark file).0) ≡ Some s → s.is_ended ≡ true → rest ≡ (leading_entries mark file).1
    → has_entry mark rest ≡ false → length rest ≤ max_entry_bytes → IsFoundInFile file s.contents
found_by file mark rest start s mark_is start_is scanned is_ended rest_is clean short =
    found_in file rest s
    (sym (ap (λ (x : Scan). scan_items x (items (leading_entries (mark_of file) file).0)) start_is) ∙ sym (ap (λ (m : List ℕ). scan_items start (items (leading_entries m file).0)) mark_is) ∙ scanned)
    is_ended (rest_is ∙ ap (λ (m : List ℕ). (leading_entries m file).1) mark_is) (sym (ap (λ (m : List ℕ). has_entry m rest) mark_is) ∙ clean) short
