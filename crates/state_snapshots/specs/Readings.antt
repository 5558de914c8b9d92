-- The parts of a snapshot read from left to right. That what was written is read back is a law
-- (`parts_are_read_back`).
use Rattle.std.specs.Prelude.{ℕ, ◌==◌, nat_lt, if◌then◌else◌, List, [], ◌∷◌, length, take}
use Rattle.std.specs.Prelude.{drop, Option, None, Some, option_map}
use Rattle.std.specs.Int.{w64, from_be_bytes}
use Rattle.std.specs.Option.{option_and_then}
use Rattle.std.specs.Str.{chars, is_utf8}
use Rattle.byte_blocks.specs.Blocks.{block_at}
use Rattle.doc_names.specs.declared.doc_id.Auid.{Auid}
use Rattle.doc_names.specs.declared.doc_id.Auid.TheVariants.{ResourceLists, RlsServices, XcapCaps}
use Rattle.doc_names.specs.declared.doc_id.DocId.{DocId}
use Rattle.doc_names.specs.declared.doc_id.Home.{Home}
use Rattle.doc_names.specs.declared.doc_id.Home.TheVariants.{Global, User}
use Rattle.state_snapshots.specs.Snapshots.{DocumentPart, Start}
use Rattle.state_snapshots.specs.declared.limits.TheConstants.{FORM_VERSION}

-- the number at the front, and the bytes after it
unfoldable pub number_at : List ℕ → Option (ℕ × List ℕ)
number_at bytes =
    if nat_lt (length bytes) 8 then None
    else Some (from_be_bytes w64 (take 8 bytes), drop 8 bytes)

-- the text of the block at the front, and the bytes after it
abbrev pub text_of_block : List ℕ × List ℕ → Option (List ℕ × List ℕ)
text_of_block found = if is_utf8 found.0 then Some (chars found.0, found.1) else None

unfoldable pub text_at : List ℕ → Option (List ℕ × List ℕ)
text_at bytes = option_and_then text_of_block (block_at bytes)

abbrev pub auid_at : ℕ → Option Auid
auid_at number =
    if number == 1 then Some ResourceLists
    else if number == 2 then Some RlsServices
    else if number == 3 then Some XcapCaps else None

-- the home of this kind, and the bytes after it
abbrev pub home_of_kind : ℕ → List ℕ → Option (Home × List ℕ)
home_of_kind kind bytes =
    if kind == 0 then Some (Global, bytes)
    else if kind == 1 then option_map (λ user. (User user.0, user.1)) (text_at bytes) else None

abbrev pub home_at : List ℕ → Option (Home × List ℕ)
home_at [] = None
home_at (kind ∷ bytes) = home_of_kind kind bytes

-- a document name of this usage, and the bytes after it
abbrev pub id_after : Auid → List ℕ → Option (DocId × List ℕ)
id_after auid bytes =
    option_and_then
    (λ home. option_map
    (λ name. (record { auid = auid; home = home.0; name = name.0 }, name.1))
    (text_at home.1))
    (home_at bytes)

abbrev pub id_at : List ℕ → Option (DocId × List ℕ)
id_at [] = None
id_at (number ∷ bytes) = option_and_then (λ auid. id_after auid bytes) (auid_at number)

-- the part of a document
abbrev pub document_of : List ℕ → Option DocumentPart
document_of bytes =
    option_and_then
    (λ tag. option_map (λ id. record { id = id.0; tag = tag.0; text = id.1 }) (id_at tag.1))
    (number_at bytes)

-- the numbers and the root
abbrev pub start_after : List ℕ → Option Start
start_after bytes =
    option_and_then
    (λ count. option_map
    (λ next. record { count = count.0; next = next.0; root = next.1 })
    (number_at count.1))
    (number_at bytes)

-- a start of this version of the form
abbrev pub start_of_bytes : List ℕ → Option Start
start_of_bytes [] = None
start_of_bytes (version ∷ bytes) = if version == FORM_VERSION then start_after bytes else None
