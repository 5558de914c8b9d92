-- The form of an entry in a log's file, and which entries are whole at the front of some bytes. The
-- form is this project's own.
use Rattle.std.specs.Prelude.{ℕ, zero, suc, ◌+◌, ◌<◌, ◌^◌, List, [], ◌∷◌, ◌++◌, length, take, drop}
use Rattle.std.specs.Prelude.{flat_map, Bool, false, not, ◌||◌, ◌==◌, nat_lt, if◌then◌else◌}
use Rattle.std.specs.Prelude.{Option, None, Some, is_some}
use Rattle.std.specs.Str.{bytes_eq}
use Rattle.std.specs.Int.{w32, w64, to_be_bytes, from_be_bytes}
use Rattle.log_entries.specs.Checksums.{checksum}

-- An entry: a number, and a content.
pub record Entry : Type 0 where
  pub number : ℕ
  pub content : List ℕ

-- what the checksum covers: the number in eight bytes, the highest first, and the content
abbrev pub entry_body : Entry → List ℕ
entry_body e = to_be_bytes w64 e.number ++ e.content

-- The bytes of an entry: the file's mark in eight bytes, the length of the content in four, the
-- checksum and the number in eight each, and the content. The mark is the key of the checksum, too.
abbrev pub entry_bytes : List ℕ → Entry → List ℕ
entry_bytes mark e =
    mark
    ++ (to_be_bytes w32 (length e.content)
    ++ (to_be_bytes w64 (checksum mark (entry_body e)) ++ entry_body e))

-- the bytes of the entries, one after the other
abbrev pub entries_bytes : List ℕ → List Entry → List ℕ
entries_bytes mark es = flat_map (entry_bytes mark) es

-- the entry fits the form
pub record FitsEntryForm (e : Entry) : Type 0 where
  pub number : e.number < 2 ^ 64
  pub content : length e.content < 2 ^ 32

-- the length of the content, as the bytes of an entry state it
abbrev pub stated_length : List ℕ → ℕ
stated_length bytes = from_be_bytes w32 (take 4 (drop 8 bytes))

-- the body, where the content has this length
abbrev pub stated_body : List ℕ → ℕ → List ℕ
stated_body bytes len = take (8 + len) (drop 20 bytes)

-- the entry, where its content has this length, and the bytes after it
abbrev pub stated_entry : List ℕ → ℕ → Entry × List ℕ
stated_entry bytes len = (
  record {
    number = from_be_bytes w64 (take 8 (stated_body bytes len));
    content = drop 8 (stated_body bytes len);
  },
  drop (28 + len) bytes,
)

-- the entry at the front of the bytes, if its content has this length and its checksum is right
abbrev pub entry_of_length : List ℕ → List ℕ → ℕ → Option (Entry × List ℕ)
entry_of_length mark bytes len =
    if nat_lt (length bytes) (28 + len) then None
    else if checksum mark (stated_body bytes len) == from_be_bytes w64 (take 8 (drop 12 bytes))
    then Some (stated_entry bytes len) else None

-- The entry that is whole at the front of the bytes, and the bytes after it: its mark is the
-- file's, and its checksum is right.
unfoldable pub entry_at : List ℕ → List ℕ → Option (Entry × List ℕ)
entry_at mark bytes =
    if nat_lt (length bytes) 28 then None
    else if not (bytes_eq (take 8 bytes) mark) then None
    else entry_of_length mark bytes (stated_length bytes)

-- one entry more in front
abbrev pub with_entry_in_front : Entry → List Entry × List ℕ → List Entry × List ℕ
with_entry_in_front e found = (e ∷ found.0, found.1)

-- The entries that are whole after the first k bytes, one after the other, and the bytes after
-- them.
abbrev pub leading_entries_after : List ℕ → List ℕ → ℕ → List Entry × List ℕ
leading_entries_after mark [] k = ([], [])
leading_entries_after mark (b ∷ bytes) (suc k) = leading_entries_after mark bytes k
leading_entries_after mark (b ∷ bytes) zero =
    elim (entry_at mark (b ∷ bytes)) [
      | None ↦ ([], b ∷ bytes)
      | Some x ↦ with_entry_in_front x.0
          (leading_entries_after mark bytes (27 + length x.0.content))
    ]

-- the entries that are whole at the front of the bytes, and the bytes after them
unfoldable pub leading_entries : List ℕ → List ℕ → List Entry × List ℕ
leading_entries mark bytes = leading_entries_after mark bytes 0

-- an entry begins anywhere in the bytes
abbrev pub has_entry : List ℕ → List ℕ → Bool
has_entry mark [] = false
has_entry mark (b ∷ bytes) = is_some (entry_at mark (b ∷ bytes)) || has_entry mark bytes
