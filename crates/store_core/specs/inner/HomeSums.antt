-- What is stored of a document's home besides it, and why a document is refused by that.
use Rattle.std.specs.Prelude.{ℕ, ◌+◌, Bool, not, ◌&&◌, ◌||◌, is_some, List, filter, Option}
use Rattle.std.specs.Option.{option_or}
use Rattle.doc_names.specs.NameEquality.{same_home, same_id}
use Rattle.doc_names.specs.declared.doc_id.DocId.{DocId}
use Rattle.store_core.specs.HomeLimits.{is_above}
use Rattle.store_core.specs.declared.entry.Entry.{Entry}
use Rattle.store_core.specs.declared.limits.Limits.{Limits}
use Rattle.store_core.specs.declared.refusal.StoreRefusal.{StoreRefusal}
use Rattle.store_core.specs.declared.refusal.StoreRefusal.TheVariants.{HomeTooMany, HomeFull}
use Rattle.store_core.specs.DocumentChanges.{refusal_if}

-- the limits have one for the documents of a home
abbrev pub limits_homes : Limits → Bool
limits_homes limits = is_some limits.home_documents || is_some limits.home_bytes

-- it is another document of the same home
abbrev pub is_other_at_home : DocId → DocId × Entry → Bool
is_other_at_home id e = same_home id.home e.0.home && not (same_id id e.0)

abbrev pub others_at_home : List (DocId × Entry) → DocId → List (DocId × Entry)
others_at_home es id = filter (is_other_at_home id) es

-- the length that a document's entry says
abbrev pub stored_len : DocId × Entry → ℕ
stored_len e = e.1.len

-- by the number of the other documents of the home, by how many bytes they have together, and by
-- the length of the document
abbrev pub refusal_from_sums : Limits → ℕ → ℕ → ℕ → Option StoreRefusal
refusal_from_sums limits count bytes len =
    option_or (refusal_if (is_above limits.home_documents (count + 1)) HomeTooMany)
    (refusal_if (is_above limits.home_bytes (bytes + len)) (HomeFull (bytes + len)))
