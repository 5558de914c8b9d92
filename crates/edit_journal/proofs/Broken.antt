-- What is complete in a prefix of a text.
use Rattle.std.proofs.Common.{◌≡◌, ℕ, ◌<◌, ◌≤◌, inl, inr, Bool, true, false, List, [], ◌∷◌, ◌++◌, length, All, refl, sym, ap, subst, ◌∙◌, arith, append-nil, append_assoc, length-append}
use Rattle.std.proofs.lemmas.Bool.{cases_lt}
use Rattle.std.proofs.lemmas.List.Elements.{All-head, All-nil, All-cons, All-append}
use Rattle.std.specs.Bool.{MatchBool}
use Rattle.http_wire.specs.declared.request.Request.{Request}
use Rattle.edit_journal.specs.Journals.{IsPrefixOf}
use Rattle.edit_journal.specs.JournalLogs.{HoldsRecords, LogState}
use Rattle.edit_journal.specs.Records.{record_of}
use Rattle.edit_journal.specs.JournalTexts.{journal_text, HasNoRecord, IsRecordedRequest, IsTorn, HasCompleteRecords}
use Rattle.edit_journal.proofs.WholeRecords.{journal_text-append}
use Rattle.edit_journal.proofs.CompleteRequests.{first_ones, nothing_torn}
use Rattle.edit_journal.specs.JournalPrefixes.{IsJournalPrefix, IsTornNextRecord}
use Rattle.edit_journal.proofs.Beginnings.{begin_alike, longer_split, nothing_before}

torn_of : (left : List Request) (rest behind : List ℕ) → All IsRecordedRequest left → HasNoRecord rest → journal_text left ≡ rest ++ behind → IsTornNextRecord left rest
torn_of [] rest behind recorded none e = nothing_before rest behind e
torn_of (next ∷ left) rest behind recorded none e = elim (cases_lt (length rest) (length (record_of next))) [
  | inl short ↦
      let split = longer_split rest behind (record_of next) (journal_text left) (omega arith) (sym e) in
      ((split.0, split.1), short)
  | inr long ↦
      let split = longer_split (record_of next) (journal_text left) rest behind long e in
      absurd (none next split.0 (All-head IsRecordedRequest next left recorded, split.1))
]

-- a torn part of the next record is torn
pub is_torn : (left : List Request) (rest : List ℕ) → All IsRecordedRequest left → IsTornNextRecord left rest → IsTorn rest
is_torn [] rest recorded torn = subst IsTorn (sym torn) nothing_torn
is_torn (next ∷ left) rest recorded torn = (next, All-head IsRecordedRequest next left recorded, torn.1, torn.0)

more_are_longer : (first left some others mid : List Request) (rest : List ℕ) → IsTornNextRecord left rest → some ≡ first ++ mid → left ≡ mid ++ others → length first < length some
    → length (journal_text first ++ rest) < length (journal_text some)
more_are_longer first left some others [] rest torn is is' longer = absurd (omega (arith, ap length is, length-append first []))
more_are_longer first left some others (next ∷ mid) rest torn is is' longer =
    let here : IsTornNextRecord (next ∷ (mid ++ others)) rest = subst (λ (l : List Request). IsTornNextRecord l rest) is' torn in
    omega (
      arith,
      here.1,
      length-append (journal_text first) rest,
      ap (λ (l : List Request). length (journal_text l)) is,
      ap length (journal_text-append first (next ∷ mid)),
      length-append (journal_text first) (journal_text (next ∷ mid)),
      length-append (record_of next) (journal_text mid),
    )

few_are_within : (first left some others : List Request) (rest : List ℕ) → first ++ left ≡ some ++ others → length some ≤ length first → length (journal_text some) ≤ length (journal_text first ++ rest)
few_are_within first left some others rest e few =
    let split = longer_split some others first left few (sym e) in
    omega (
      arith,
      length-append (journal_text first) rest,
      ap (λ (l : List Request). length (journal_text l)) split.1,
      ap length (journal_text-append some split.0),
      length-append (journal_text some) (journal_text split.0),
    )

within_are_few : (first left some others : List Request) (rest : List ℕ) → IsTornNextRecord left rest → first ++ left ≡ some ++ others → length (journal_text some) ≤ length (journal_text first ++ rest) → length some ≤ length first
within_are_few first left some others rest torn e within = elim (cases_lt (length first) (length some)) [
  | inl more ↦
      let split = longer_split first left some others (omega arith) e in
      absurd (omega (arith, within, more_are_longer first left some others split.0 rest torn split.1 split.2 more))
  | inr few ↦ few
]

pub breaks_off : (all first : List Request) (bytes rest : List ℕ) → All IsRecordedRequest all → IsPrefixOf bytes (journal_text all) → HasCompleteRecords bytes first rest → (left : List Request) × IsJournalPrefix all bytes first left rest × All IsRecordedRequest left
breaks_off all first bytes rest recorded (behind, e) whole =
    let alike = begin_alike first all (rest ++ behind) whole.recorded recorded (e ∙ ap (λ l. l ++ behind) whole.split ∙ append_assoc (journal_text first) rest behind) in
    let torn = torn_of alike.0 rest behind alike.3 whole.no_more alike.2 in
    let size = ap length whole.split in (
      alike.0,
      record {
        requests = alike.1;
        records = whole.split;
        torn = torn;
        within = λ some others is. (
          (λ fits. within_are_few first alike.0 some others rest torn (sym alike.1 ∙ is) (omega (arith, size, fits))),
          (λ few. omega (arith, size, few_are_within first alike.0 some others rest (sym alike.1 ∙ is) few)),
        );
      },
      alike.3,
    )

pub first_are_whole : (all first : List Request) (bytes rest : List ℕ) → All IsRecordedRequest all → IsPrefixOf bytes (journal_text all) → HasCompleteRecords bytes first rest → (left : List Request) × IsJournalPrefix all bytes first left rest
first_are_whole all first bytes rest recorded begins whole = let broken = breaks_off all first bytes rest recorded begins whole in (broken.0, broken.1)

pub some_are_whole : (all : List Request) (bytes : List ℕ) → All IsRecordedRequest all → IsPrefixOf bytes (journal_text all) → (first : List Request) × (rest : List ℕ) × HasCompleteRecords bytes first rest
some_are_whole all bytes recorded begins = let ones = first_ones all bytes recorded begins in (ones.0, ones.2, ones.4)

pub first_of_first : (xs ys zs : List ℕ) → IsPrefixOf xs ys → IsPrefixOf ys zs → IsPrefixOf xs zs
first_of_first xs ys zs (more, is) (more', is') = (more ++ more', is' ∙ ap (λ l. l ++ more') is ∙ append_assoc xs more more')

abbrev Begins : Bool → List Request → List ℕ → Type 0
Begins torn requests bytes = (more : List Request) × (length more ≤ 1) × (torn ≡ false → more ≡ []) × All IsRecordedRequest (requests ++ more) × IsPrefixOf bytes (journal_text (requests ++ more))

begins_by : (torn : Bool) (requests : List Request) (rest : List ℕ) → All IsRecordedRequest requests
    → MatchBool torn ((request : Request) × IsRecordedRequest request × IsPrefixOf rest (record_of request)) (rest ≡ []) → Begins torn requests (journal_text requests ++ rest)
begins_by true requests rest recorded (request, one, (more, is)) = (
  request ∷ [],
  omega arith,
  (λ no. cc),
  All-append IsRecordedRequest requests (request ∷ []) recorded (All-cons IsRecordedRequest request [] one (All-nil IsRecordedRequest)),
  (
    more,
    journal_text-append requests (request ∷ []) ∙ ap (λ l. journal_text requests ++ l) (append-nil (record_of request) ∙ is) ∙ sym (append_assoc (journal_text requests) rest more),
  ),
)
begins_by false requests rest recorded none = (
  [],
  omega arith,
  (λ _. refl),
  subst (λ (l : List Request). All IsRecordedRequest l) (sym (append-nil requests)) recorded,
  ([], journal_text-append requests [] ∙ ap (λ l. journal_text requests ++ l) (sym none) ∙ sym (append-nil (journal_text requests ++ rest))),
)

pub journal_begins : (log : LogState) (requests : List Request) (held bytes : List ℕ) → HoldsRecords log requests held → IsPrefixOf bytes held → Begins log.is_torn requests bytes
journal_begins log requests held bytes holds begins =
    let all = begins_by log.is_torn requests holds.rest holds.recorded holds.behind in
    (all.0, all.1, all.2, all.3, first_of_first bytes held (journal_text (requests ++ all.0)) begins (subst (λ (l : List ℕ). IsPrefixOf l (journal_text (requests ++ all.0))) (sym holds.split) all.4))
