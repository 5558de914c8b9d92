-- Reading a file item after item.
use Rattle.std.proofs.Common.{◌≡◌, ℕ, ◌+◌, ◌-◌, ◌≤◌, List, [], ◌∷◌, length, drop, map, None, Some, refl, sym, ap, ◌∙◌, arith, length-drop}
use Rattle.std.proofs.lemmas.List.{drop-drop}
use Rattle.log_entries.specs.Entries.{Entry, entry_at, leading_entries, with_entry_in_front}
use Rattle.log_entries.proofs.WholeEntries.{took, whole_some, whole_none}
use Rattle.change_log.specs.LogItems.{Item, IsReadItem, ReadsNextItem}
use Rattle.change_log.specs.declared.log_cursor.LogItem.{LogItem}
use Rattle.change_log.specs.declared.log_cursor.LogItem.TheVariants.{Part, First, Change, Unknown, End}
use Rattle.folder_log.specs.FileFormat.{item_of}
use Rattle.folder_log.specs.LogOpenings.{remaining_items}
use Rattle.folder_log.specs.Restarts.{mark_of}

abbrev Found : Type 0
Found = List Entry × List ℕ

pub is_read : (item : LogItem) (bytes : List ℕ) (next : Item) (old new : List Item) → IsReadItem item bytes next → old ≡ next ∷ new → ReadsNextItem item bytes old new
is_read Part bytes next old new is split = (next, is, split)
is_read (First number) bytes next old new is split = (next, is, split)
is_read (Change number) bytes next old new is split = (next, is, split)
is_read Unknown bytes next old new is split = (next, is, split)
is_read End bytes next old new is split = absurd is

-- nothing is left where no entry is whole
pub none_more : (file mark rest : List ℕ) (at : ℕ) → mark ≡ mark_of file → rest ≡ drop at file → None ≡ entry_at mark rest → remaining_items file at ≡ []
none_more file mark rest at mark_is rest_is none =
    ap (λ (f : Found). map item_of f.0) (whole_none (mark_of file) (drop at file) (ap (λ (m : List ℕ). entry_at m (drop at file)) (sym mark_is) ∙ ap (λ (l : List ℕ). entry_at mark l) (sym rest_is) ∙ sym none))

module _ (file mark rest after : List ℕ) (at : ℕ) (e : Entry) (mark_is : mark ≡ mark_of file) (rest_is : rest ≡ drop at file) (is : Some (e, after) ≡ entry_at mark rest) (within : at ≤ length file) where
  here : entry_at (mark_of file) (drop at file) ≡ Some (e, after)
  here = ap (λ (m : List ℕ). entry_at m (drop at file)) (sym mark_is) ∙ ap (λ (l : List ℕ). entry_at mark l) (sym rest_is) ∙ sym is

  after_is : after ≡ drop (28 + length e.content) (drop at file)
  after_is = (took (mark_of file) (drop at file) (e, after) here).rest

  pub shorter : length after ≤ length file
  shorter = omega (arith, ap length after_is, length-drop (28 + length e.content) (drop at file), length-drop at file)

  at_is : length file - length after ≡ at + (28 + length e.content)
  at_is = omega (arith, ap length after_is, length-drop (28 + length e.content) (drop at file), length-drop at file, (took (mark_of file) (drop at file) (e, after) here).long, within)

  rest_after : drop (length file - length after) file ≡ after
  rest_after = ap (λ (k : ℕ). drop k file) at_is ∙ sym (drop-drop (28 + length e.content) at file) ∙ sym after_is

  pub one_less : remaining_items file at ≡ item_of e ∷ remaining_items file (length file - length after)
  one_less =
      ap (λ (f : Found). map item_of f.0) (whole_some (mark_of file) (drop at file) e after here)
      ∙ ap (λ (l : List ℕ). item_of e ∷ map item_of (leading_entries (mark_of file) l).0) (sym rest_after)
