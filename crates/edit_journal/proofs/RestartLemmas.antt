-- What a restart from a prefix of a text does.
use Rattle.std.proofs.Common.{◌≡◌, ℕ, List, [], ◌∷◌, ◌++◌, take, All, Result, Ok, Err, sym, ap, ◌∙◌, append-nil, append_assoc}
use Rattle.std.proofs.lemmas.List.Elements.{All-nil, All-cons}
use Rattle.http_wire.specs.declared.request.Request.{Request}
use Rattle.edit_journal.specs.Journals.{IsPrefixOf}
use Rattle.edit_journal.specs.JournalLogs.{LogState}
use Rattle.edit_journal.specs.Records.{record_of}
use Rattle.edit_journal.specs.declared.limits.TheConstants.{MAX_JOURNAL_BYTES}
use Rattle.edit_journal.specs.Restarts.{RestartState, RestartsReplayer}
use Rattle.edit_journal.specs.JournalTexts.{journal_text, BeginsWithRecord, HasNoRecord, IsDamaged, IsRecordedRequest}
use Rattle.edit_journal.specs.declared.journal_restart.RestartFault.{RestartFault}
use Rattle.edit_journal.specs.declared.journal_restart.RestartFault.TheVariants.{ReadFailed, AppendFailed, Damaged, Refused, TooLong, NoMemory}
use Rattle.edit_journal.specs.JournalPrefixes.{IsJournalPrefix}
use Rattle.edit_journal.specs.PrefixRestarts.{RestartEndsAfter}
use Rattle.edit_journal.proofs.Beginnings.{begin_alike}
use Rattle.edit_journal.proofs.Broken.{breaks_off, is_torn}

-- The bytes, a prefix of the text of all requests, begin with the records of these.
module _ (all requests : List Request) (bytes rest : List ℕ) (recorded : All IsRecordedRequest all) (begins : IsPrefixOf bytes (journal_text all)) (recorded' : All IsRecordedRequest requests) (split : bytes ≡ journal_text requests ++ rest) where
  whole : HasNoRecord rest → (left : List Request) × IsJournalPrefix all bytes requests left rest
  whole none = let broken = breaks_off all requests bytes rest recorded begins (record { recorded = recorded'; split = split; no_more = none }) in (broken.0, broken.1)

  undamaged : ¬ (IsDamaged rest)
  undamaged (none, not_torn) =
      let broken = breaks_off all requests bytes rest recorded begins (record { recorded = recorded'; split = split; no_more = none }) in
      not_torn (is_torn broken.0 rest broken.2 broken.1.torn)

  alike : (left : List Request) × (all ≡ requests ++ left) × (journal_text left ≡ rest ++ begins.0) × All IsRecordedRequest left
  alike = begin_alike requests all (rest ++ begins.0) recorded' recorded (begins.1 ∙ ap (λ l. l ++ begins.0) split ∙ append_assoc (journal_text requests) rest begins.0)

  first : (left : List Request) × (all ≡ requests ++ left)
  first = (alike.0, alike.1)

  next : (request : Request) (more : List ℕ) → BeginsWithRecord rest request more → (others : List Request) × (alike.0 ≡ request ∷ others)
  next request more (one, is) =
      let front : journal_text alike.0 ≡ journal_text (request ∷ []) ++ (more ++ begins.0) =
      alike.2 ∙ ap (λ l. l ++ begins.0) is ∙ append_assoc (record_of request) more begins.0 ∙ ap (λ l. l ++ (more ++ begins.0)) (sym (append-nil (record_of request))) in
      let others = begin_alike (request ∷ []) alike.0 (more ++ begins.0) (All-cons IsRecordedRequest request [] one (All-nil IsRecordedRequest)) alike.3 front in
      (others.0, others.1)

module _ {S : Type 0} (stands : S → List Request → Type 0) (refuses : S → Request → Type 0) where
  pub ends_behind : (all : List Request) (old new : RestartState S) (result : Result LogState RestartFault) → All IsRecordedRequest all
      → (restarts : RestartsReplayer stands refuses old new result) → IsPrefixOf (take MAX_JOURNAL_BYTES restarts.bytes) (journal_text all)
      → (left : List Request) × RestartEndsAfter refuses (record { all = all; bytes = take MAX_JOURNAL_BYTES restarts.bytes; done = restarts.requests; left = left; rest = restarts.rest }) new.replayer result
  ends_behind all old new (Ok log) recorded r begins = whole all r.requests (take MAX_JOURNAL_BYTES r.bytes) r.rest recorded begins r.recorded r.split r.ending.2
  ends_behind all old new (Err ReadFailed) recorded r begins = whole all r.requests (take MAX_JOURNAL_BYTES r.bytes) r.rest recorded begins r.recorded r.split r.ending.1
  ends_behind all old new (Err AppendFailed) recorded r begins = first all r.requests (take MAX_JOURNAL_BYTES r.bytes) r.rest recorded begins r.recorded r.split
  ends_behind all old new (Err (Damaged place)) recorded r begins =
      absurd (undamaged all r.requests (take MAX_JOURNAL_BYTES r.bytes) r.rest recorded begins r.recorded r.split r.ending.1)
  ends_behind all old new (Err (Refused number)) recorded r begins =
      let here = alike all r.requests (take MAX_JOURNAL_BYTES r.bytes) r.rest recorded begins r.recorded r.split in
      let refused = r.ending.1 in
      let more = next all r.requests (take MAX_JOURNAL_BYTES r.bytes) r.rest recorded begins r.recorded r.split refused.0 refused.1 refused.2 in
      (here.0, (here.1, (refused.0, more.0, more.1, refused.3)))
  ends_behind all old new (Err TooLong) recorded r begins = whole all r.requests (take MAX_JOURNAL_BYTES r.bytes) r.rest recorded begins r.recorded r.split r.ending.2
  ends_behind all old new (Err NoMemory) recorded r begins = first all r.requests (take MAX_JOURNAL_BYTES r.bytes) r.rest recorded begins r.recorded r.split
