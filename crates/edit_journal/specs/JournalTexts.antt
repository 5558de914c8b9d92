-- The text of a journal, and which requests are complete in some bytes. This is the project's own.
use Rattle.std.specs.Prelude.{◌≡◌, ℕ, ◌<◌, false, List, ◌++◌, flat_map, length, All}
use Rattle.http_wire.specs.declared.request.Request.{Request}
use Rattle.edit_journal.specs.Journals.{IsPrefixOf}
use Rattle.edit_journal.specs.Records.{record_of, IsRecordable}

-- the records of the requests, one after the other
abbrev pub journal_text : List Request → List ℕ
journal_text requests = flat_map record_of requests

-- a request as a record gives it: whether the connection ends after it isn't recorded, and reads
-- as false
abbrev pub IsRecordedRequest : Request → Type 0
IsRecordedRequest request = IsRecordable request × (request.closes ≡ false)

-- the bytes begin with the record of the request, and then rest
abbrev pub BeginsWithRecord : List ℕ → Request → List ℕ → Type 0
BeginsWithRecord bytes request rest =
    IsRecordedRequest request × (bytes ≡ record_of request ++ rest)

-- no record is complete at the front of the bytes
abbrev pub HasNoRecord : List ℕ → Type 0
HasNoRecord bytes = (request : Request) (rest : List ℕ) → ¬ (BeginsWithRecord bytes request rest)

-- The bytes are torn: a proper prefix of a record, or nothing.
abbrev pub IsTorn : List ℕ → Type 0
IsTorn bytes =
    (request : Request) × IsRecordedRequest request × (length bytes < length (record_of request))
    × IsPrefixOf bytes (record_of request)

-- the bytes begin no record, whatever may follow them
abbrev pub IsDamaged : List ℕ → Type 0
IsDamaged bytes = HasNoRecord bytes × ¬ (IsTorn bytes)

-- The requests whose records are complete at the front of the bytes, and the rest, at whose front
-- no record is.
pub record HasCompleteRecords (bytes : List ℕ) (requests : List Request)
    (rest : List ℕ) : Type 0 where
  pub recorded : All IsRecordedRequest requests
  pub split : bytes ≡ journal_text requests ++ rest
  pub no_more : HasNoRecord rest

-- A record is determined by its bytes, so the requests complete in some bytes are one list, and
-- the rest is one, too.
abbrev pub RecordsAreUnique : Type 0
RecordsAreUnique =
    (bytes : List ℕ) (requests requests' : List Request) (rest rest' : List ℕ)
    → HasCompleteRecords bytes requests rest → HasCompleteRecords bytes requests' rest'
    → (requests ≡ requests') × (rest ≡ rest')
