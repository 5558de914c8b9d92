-- The items that a log is read as, in order. This is the project's own form.
use Rattle.std.specs.Prelude.{◌≡◌, ◌⊎◌, ℕ, ◌^◌, ◌-◌, List, [], ◌∷◌, Bool, false, true}
use Rattle.std.specs.Prelude.{◌&&◌, ◌==◌, nat_lt, if◌then◌else◌, Option, None, Some}
use Rattle.change_log.specs.LogContents.{Contents, no_contents, snapshot_of, next_number}
use Rattle.change_log.specs.LogContents.{with_part, with_change}
use Rattle.change_log.specs.declared.log_cursor.LogItem.{LogItem}
use Rattle.change_log.specs.declared.log_cursor.LogItem.TheVariants.{Part, First, Change}
use Rattle.change_log.specs.declared.log_cursor.LogItem.TheVariants.{Unknown, End}

-- A part of the snapshot; its end, with the number of the first change; a change with its number;
-- or none of these.
pub data Item : Type 0 where
  part : List ℕ → Item
  first : ℕ → Item
  change : ℕ → List ℕ → Item
  other : Item

-- What was read so far, and whether the end of the snapshot was.
pub record Scan : Type 0 where
  pub contents : Contents
  pub is_ended : Bool

-- nothing was read
abbrev pub no_scan : Scan
no_scan = record { contents = no_contents; is_ended = false }

-- the change comes next: after the end of the snapshot, and with the next number
abbrev pub is_next_change : Scan → ℕ → Bool
is_next_change s number =
    s.is_ended && ((number == next_number s.contents) && nat_lt number (2 ^ 64 - 1))

-- Parts come first, then their end, then changes with rising numbers.
abbrev pub scan_item : Scan → Item → Option Scan
scan_item s (part bytes) =
    if s.is_ended then None else Some (record s { contents = with_part bytes s.contents })
scan_item s (first number) =
    if s.is_ended then None
    else Some (record { contents = snapshot_of s.contents.parts number; is_ended = true })
scan_item s (change number bytes) =
    if is_next_change s number then Some (record s { contents = with_change bytes s.contents })
    else None
scan_item s other = None

abbrev pub scan_items : Scan → List Item → Option Scan
scan_items s [] = Some s
scan_items s (item ∷ items) = elim (scan_item s item) [ None ↦ None | Some t ↦ scan_items t items ]

-- what was read, if the end of the snapshot was
abbrev pub contents_if_ended : Scan → Option Contents
contents_if_ended s = if s.is_ended then Some s.contents else None

-- the contents that the items are read as
abbrev pub contents_of : List Item → Option Contents
contents_of items = elim (scan_items no_scan items) [ None ↦ None | Some s ↦ contents_if_ended s ]

-- the contents that a log without an item, or with these, is read as
abbrev pub IsReadAs : List Item → Contents → Type 0
IsReadAs items c = ((items ≡ []) × (c ≡ no_contents)) ⊎ (contents_of items ≡ Some c)

-- what a read returned, with these bytes, is this item
abbrev pub IsReadItem : LogItem → List ℕ → Item → Type 0
IsReadItem Part bytes item = item ≡ part bytes
IsReadItem (First number) bytes item = item ≡ first number
IsReadItem (Change number) bytes item = item ≡ change number bytes
IsReadItem Unknown bytes item = item ≡ other
IsReadItem End bytes item = ⊥

-- what a read returned, with these bytes, was the next item of the old ones, and these are left
abbrev pub ReadsNextItem : LogItem → List ℕ → List Item → List Item → Type 0
ReadsNextItem End bytes old new = (old ≡ []) × (new ≡ [])
ReadsNextItem read bytes old new = (next : Item) × IsReadItem read bytes next × (old ≡ next ∷ new)
