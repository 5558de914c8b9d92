-- What the entries of a log's file are. The form is this project's own.
use Rattle.std.specs.Prelude.{ℕ, ◌+◌, List, [], ◌∷◌, ◌==◌, if◌then◌else◌, map, Option}
use Rattle.std.specs.Prelude.{None, Some}
use Rattle.log_entries.specs.Entries.{Entry}
use Rattle.change_log.specs.LogContents.{Contents}
use Rattle.change_log.specs.LogItems.{Item, part, first, change, other, contents_of}
use Rattle.change_log.specs.declared.limits.TheConstants.{MAX_CONTENT_BYTES}
use Rattle.folder_log.specs.declared.entry_kinds.EntryKind.{EntryKind}
use Rattle.folder_log.specs.declared.entry_kinds.EntryKind.TheVariants.{Part, SnapshotEnd, Change}

-- the first byte of the content of an entry of this kind
abbrev pub kind_byte : EntryKind → ℕ
kind_byte Part = 1
kind_byte SnapshotEnd = 2
kind_byte Change = 3

-- the kind of an entry whose content begins with this byte
abbrev pub kind_at : ℕ → Option EntryKind
kind_at byte =
    if byte == kind_byte Part then Some Part
    else if byte == kind_byte SnapshotEnd then Some SnapshotEnd
    else if byte == kind_byte Change then Some Change else None

-- a part of the snapshot
abbrev pub part_entry : List ℕ → Entry
part_entry bytes = record { number = 0; content = kind_byte Part ∷ bytes }

-- a change with its number
abbrev pub change_entry : ℕ → List ℕ → Entry
change_entry number bytes = record { number = number; content = kind_byte Change ∷ bytes }

-- What an entry of this kind, with this number and these bytes, is. The number of the snapshot's end
-- is that of the first change.
abbrev pub item_of_kind : Option EntryKind → ℕ → List ℕ → Item
item_of_kind None number bytes = other
item_of_kind (Some Part) number bytes = part bytes
item_of_kind (Some SnapshotEnd) number bytes = first number
item_of_kind (Some Change) number bytes = change number bytes

-- what an entry with this number and content is
abbrev pub item_of_content : ℕ → List ℕ → Item
item_of_content number [] = other
item_of_content number (byte ∷ bytes) = item_of_kind (kind_at byte) number bytes

abbrev pub item_of : Entry → Item
item_of e = item_of_content e.number e.content

-- the contents that the entries of a file are read as
abbrev pub contents_of_entries : List Entry → Option Contents
contents_of_entries es = contents_of (map item_of es)

-- the greatest length of an entry
abbrev pub max_entry_bytes : ℕ
max_entry_bytes = 29 + MAX_CONTENT_BYTES
