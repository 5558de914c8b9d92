-- What was read at the front of some bytes, in terms of texts.
use Rattle.std.proofs.Common.{◌≡◌, ℕ, ◌+◌, List, [], ◌++◌, length, Ok, Err, refl, sym, ap, ◌∙◌, arith, append-nil, append_assoc, length-append}
use Rattle.http_wire.specs.declared.request.Request.{Request}
use Rattle.edit_journal.specs.Records.{record_of, record_content}
use Rattle.edit_journal.specs.JournalTexts.{BeginsWithRecord, HasNoRecord, IsTorn, IsDamaged}
use Rattle.edit_journal.specs.declared.field_parsers.FieldError.TheVariants.{Open, Wrong}
use Rattle.edit_journal.specs.inner.RecordParts.{ReadsPart, IsRecordOf, padded_u32}
use Rattle.std.specs.Int.{w32, to_be_bytes}
use Rattle.edit_journal.proofs.Blocks.{block_is}
use Rattle.edit_journal.proofs.Lengths.{record_length}
use Rattle.edit_journal.proofs.Numbers.{number_there}
use Rattle.edit_journal.proofs.CompleteRequests.{no_record_in}

-- the length of the record at the front
record_len_is : (request : Request) (bytes rest : List ℕ) → BeginsWithRecord bytes request rest → 4 + padded_u32 bytes 0 ≡ length (record_of request)
record_len_is request bytes rest (recorded, split) =
    let number : padded_u32 bytes 0 ≡ length (record_content request) = number_there bytes (length (record_content request)) (record_content request ++ rest) (omega (arith, recorded.0.short))
    (split ∙ ap (λ l. l ++ rest) (block_is (record_content request)) ∙ append_assoc (to_be_bytes w32 (length (record_content request))) (record_content request) rest) in
    omega (arith, record_length request)

pub front_whole : (bytes : List ℕ) (request : Request) → ReadsPart (λ (r : Request). r) IsRecordOf bytes (Ok request)
    → (rest : List ℕ) × BeginsWithRecord bytes request rest × (4 + padded_u32 bytes 0 ≡ length (record_of request))
front_whole bytes request (front, rest, split, (recorded, is)) =
    let begins : BeginsWithRecord bytes request rest = (recorded, split ∙ ap (λ l. l ++ rest) is) in
    (rest, begins, record_len_is request bytes rest begins)

pub front_torn : (bytes : List ℕ) → ReadsPart (λ (r : Request). r) IsRecordOf bytes (Err Open) → HasNoRecord bytes × IsTorn bytes
front_torn bytes (more, request, longer, (recorded, is)) = (
  no_record_in bytes more request recorded (sym is) (omega (arith, ap length is, length-append bytes more)),
  (request, recorded, omega (arith, ap length is, length-append bytes more), (more, sym is)),
)

pub front_damaged : (bytes : List ℕ) → ReadsPart (λ (r : Request). r) IsRecordOf bytes (Err Wrong) → IsDamaged bytes
front_damaged bytes wrong = (
  (λ request rest begins. wrong (record_of request) request [] rest (begins.0, refl) (append-nil bytes ∙ begins.1)),
  (λ torn. wrong (record_of torn.0) torn.0 torn.3.0 [] (torn.1, refl) (sym torn.3.1 ∙ sym (append-nil (record_of torn.0)))),
)

pub ruleset fronts = (front_whole, front_torn, front_damaged)
