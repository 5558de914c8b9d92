-- Complete records in a journal stay complete.
use Rattle.std.proofs.Common.{◌≡◌, ℕ, ◌+◌, inl, inr, Bool, true, false, List, [], ◌∷◌, ◌++◌, length, take, drop, Result, Ok, Err, refl, sym, ap, ◌∙◌, subst, arith, append-nil, append_assoc, length-append}
use Rattle.std.proofs.lemmas.List.{drop_all}
use Rattle.std.proofs.Math.Seq.{drop-append-le, take-append_seam}
use Rattle.std.proofs.lemmas.List.Elements.{All-append, All-cons, All-nil}
use Rattle.std.specs.Bool.{MatchBool}
use Rattle.http_wire.specs.declared.request.Request.{Request}
use Rattle.edit_journal.specs.declared.journal_log.AppendFault.{AppendFault}
use Rattle.edit_journal.specs.declared.journal_log.AppendFault.TheVariants.{Failed, NoMemory}
use Rattle.edit_journal.specs.Records.{record_of, recorded_request, IsRecordable}
use Rattle.edit_journal.specs.JournalTexts.{journal_text, IsRecordedRequest}
use Rattle.edit_journal.specs.Journals.{JournalState, IsPrefixOf}
use Rattle.edit_journal.specs.JournalLogs.{LogState, HoldsRecords, KeepsCompleteRecords, AddsRecord, with_request, log_with_record}

pub journal_text-append : (xs ys : List Request) → journal_text (xs ++ ys) ≡ journal_text xs ++ journal_text ys
journal_text-append [] ys = refl
journal_text-append (x ∷ xs) ys = ap (λ l. record_of x ++ l) (journal_text-append xs ys) ∙ sym (append_assoc (record_of x) (journal_text xs) (journal_text ys))

pub text_one_more : (requests : List Request) (request : Request) → journal_text (requests ++ recorded_request request ∷ []) ≡ journal_text requests ++ record_of request
text_one_more requests request = journal_text-append requests (recorded_request request ∷ []) ∙ ap (λ l. journal_text requests ++ l) (append-nil (record_of request))

pub is_told : (request : Request) → IsRecordable request → IsRecordedRequest (recorded_request request)
is_told request can = (record { method = can.method; names = can.names; few = can.few; body = can.body; short = can.short }, refl)

-- a record, or a prefix of one
abbrev BeginsRecord : List ℕ → Type 0
BeginsRecord bytes = (request : Request) × IsRecordedRequest request × IsPrefixOf bytes (record_of request)

-- the complete records are a prefix of the bytes
pub whole_first : (log : LogState) (requests : List Request) (bytes : List ℕ) (holds : HoldsRecords log requests bytes) → take log.len bytes ≡ journal_text requests
whole_first log requests bytes holds =
    ap (λ n. take n bytes) (sym holds.len) ∙ ap (take (length (journal_text requests))) holds.split ∙ take-append_seam (journal_text requests) holds.rest

pub behind_whole : (log : LogState) (requests : List Request) (bytes : List ℕ) (holds : HoldsRecords log requests bytes) → drop log.len bytes ≡ holds.rest
behind_whole log requests bytes holds =
    ap (λ n. drop n bytes) (sym holds.len) ∙ ap (drop (length (journal_text requests))) holds.split
    ∙ drop-append-le (length (journal_text requests)) (journal_text requests) holds.rest (omega arith)
    ∙ ap (λ l. l ++ holds.rest) (drop_all (length (journal_text requests)) (journal_text requests) (omega arith))

-- what comes after the complete records begins one, or is empty
behind_begins : (is_torn : Bool) (request : Request) (rest : List ℕ) → IsRecordable request → MatchBool is_torn (BeginsRecord rest) (rest ≡ []) → BeginsRecord rest
behind_begins true request rest can behind = behind
behind_begins false request rest can behind = (recorded_request request, is_told request can, (record_of request, ap (λ l. l ++ record_of request) (sym behind)))

-- a prefix of what begins a record begins it
begins_too : (bytes all : List ℕ) → IsPrefixOf bytes all → BeginsRecord all → BeginsRecord bytes
begins_too bytes all p q = (q.0, q.1, (p.0 ++ q.2.0, q.2.1 ∙ ap (λ l. l ++ q.2.0) p.1 ∙ append_assoc bytes p.0 q.2.0))

holds_added : (log : LogState) (request : Request) (requests : List Request) (old new : List ℕ) → IsRecordable request → new ≡ take log.len old ++ record_of request → HoldsRecords log requests old
    → HoldsRecords (log_with_record log (record_of request)) (requests ++ recorded_request request ∷ []) new
holds_added log request requests old new can behind holds = record {
  rest = [];
  recorded = All-append IsRecordedRequest requests (recorded_request request ∷ []) holds.recorded (All-cons IsRecordedRequest (recorded_request request) [] (is_told request can) (All-nil IsRecordedRequest));
  split = behind ∙ ap (λ l. l ++ record_of request) (whole_first log requests old holds) ∙ sym (text_one_more requests request) ∙ sym (append-nil (journal_text (requests ++ recorded_request request ∷ [])));
  len = ap length (text_one_more requests request) ∙ length-append (journal_text requests) (record_of request) ∙ ap (λ n. n + length (record_of request)) holds.len;
  behind = refl;
}

holds_kept : (log : LogState) (request : Request) (requests : List Request) (old new : List ℕ) → IsRecordable request → KeepsCompleteRecords log.len (record_of request) old new → HoldsRecords log requests old
    → HoldsRecords (record log { is_torn = true }) requests new
holds_kept log request requests old new can kept holds = record {
  rest = kept.0;
  recorded = holds.recorded;
  split = kept.1 ∙ ap (λ l. l ++ kept.0) (whole_first log requests old holds);
  len = holds.len;
  behind = elim kept.2 [
    | inl p ↦ (recorded_request request, is_told request can, p)
    | inr p ↦ begins_too kept.0 holds.rest (subst (IsPrefixOf kept.0) (behind_whole log requests old holds) p) (behind_begins log.is_torn request holds.rest can holds.behind)
  ];
}

-- A journal with the records of some requests has those and the new one after a record was added,
-- or at a fault those, and after them at most a prefix of a record.
pub adding_keeps_records : (log log' : LogState) (journal journal' : JournalState) (request : Request) (result : Result (Unit {0}) AppendFault)
    → IsRecordable request → AddsRecord (record { log = log; journal = journal }) (record_of request) result (record { log = log'; journal = journal' })
    → (requests : List Request) → HoldsRecords log requests journal.held → HoldsRecords log' (with_request result requests request) journal'.held
adding_keeps_records log log' journal journal' request (Ok x) can adds requests holds =
    subst (λ (m : LogState). HoldsRecords m (requests ++ recorded_request request ∷ []) journal'.held) (sym adds.0) (holds_added log request requests journal.held journal'.held can adds.1 holds)
adding_keeps_records log log' journal journal' request (Err Failed) can adds requests holds =
    subst (λ (m : LogState). HoldsRecords m requests journal'.held) (sym adds.0) (holds_kept log request requests journal.held journal'.held can adds.1 holds)
adding_keeps_records log log' journal journal' request (Err NoMemory) can adds requests holds =
    subst (λ (m : LogState). HoldsRecords m requests journal'.held) (sym adds.0) (subst (λ (j : JournalState). HoldsRecords log requests j.held) (sym adds.1) holds)
