-- Lists and texts that begin alike.
use Rattle.std.proofs.Common.{◌≡◌, ℕ, ◌≤◌, List, [], ◌∷◌, ◌++◌, length, All, refl, ap, ◌∙◌, arith, append_assoc, length-append}
use Rattle.std.proofs.lemmas.List.Elements.{All-head, All-tail}
use Rattle.http_wire.specs.declared.request.Request.{Request}
use Rattle.edit_journal.specs.Records.{record_of}
use Rattle.edit_journal.specs.JournalTexts.{journal_text, IsRecordedRequest}
use Rattle.edit_journal.proofs.Lengths.{record_length}
use Rattle.edit_journal.proofs.CompleteRequests.{one_record}

-- of two prefixes of a list the longer one continues the shorter one
pub longer_split : {A : Type 0} (xs ys xs' ys' : List A) → length xs ≤ length xs' → xs ++ ys ≡ xs' ++ ys' → (mid : List A) × (xs' ≡ xs ++ mid) × (ys ≡ mid ++ ys')
longer_split [] ys xs' ys' fits e = (xs', refl, e)
longer_split (x ∷ xs) ys [] ys' fits e = absurd (omega arith)
longer_split (x ∷ xs) ys (x' ∷ xs') ys' fits e =
    let head : x' ≡ x = cc in
    let tail : xs ++ ys ≡ xs' ++ ys' = cc in
    let more = longer_split xs ys xs' ys' (omega arith) tail in
    (more.0, (λ i. head i ∷ more.1 i), more.2)

pub nothing_before : {A : Type 0} (xs ys : List A) → [] ≡ xs ++ ys → xs ≡ []
nothing_before [] ys e = refl
nothing_before (x ∷ xs) ys e = absurd (omega (arith, ap length e))

-- a text that begins with the records of some requests is the text of these and others
pub begin_alike : (requests all : List Request) (bytes : List ℕ) → All IsRecordedRequest requests → All IsRecordedRequest all → journal_text all ≡ journal_text requests ++ bytes
    → (left : List Request) × (all ≡ requests ++ left) × (journal_text left ≡ bytes) × All IsRecordedRequest left
begin_alike [] all bytes recorded recorded' e = (all, refl, e, recorded')
begin_alike (a ∷ xs) [] bytes recorded recorded' e =
    absurd (omega (arith, ap length e, length-append (journal_text (a ∷ xs)) bytes, length-append (record_of a) (journal_text xs), record_length a))
begin_alike (a ∷ xs) (b ∷ ys) bytes recorded recorded' e =
    let one = one_record b a (journal_text ys) (journal_text xs ++ bytes) (All-head IsRecordedRequest b ys recorded') (All-head IsRecordedRequest a xs recorded) (e ∙ append_assoc (record_of a) (journal_text xs) bytes) in
    let more = begin_alike xs ys bytes (All-tail IsRecordedRequest a xs recorded) (All-tail IsRecordedRequest b ys recorded') one.1 in
    (more.0, (λ i. one.0 i ∷ more.1 i), more.2, more.3)
