-- What a restart writes, compared with what it read.
use Rattle.std.proofs.Common.{◌≡◌, ℕ, List, [], ◌∷◌, ◌++◌, take, drop, All, Result, Ok, Err, refl, sym, ap, ◌∙◌, append-nil, append_assoc, take-append-drop}
use Rattle.std.proofs.lemmas.List.Elements.{All-head}
use Rattle.http_wire.specs.declared.request.Request.{Request}
use Rattle.edit_journal.specs.Journals.{AppendsPrefix, IsPrefixOf}
use Rattle.edit_journal.specs.JournalLogs.{LogState}
use Rattle.edit_journal.specs.Records.{record_of}
use Rattle.edit_journal.specs.declared.limits.TheConstants.{MAX_JOURNAL_BYTES}
use Rattle.edit_journal.specs.Restarts.{RestartState, RestartsReplayer}
use Rattle.edit_journal.specs.JournalTexts.{journal_text, IsRecordedRequest, HasCompleteRecords}
use Rattle.edit_journal.specs.declared.journal_restart.RestartFault.{RestartFault}
use Rattle.edit_journal.specs.declared.journal_restart.RestartFault.TheVariants.{ReadFailed, AppendFailed, Damaged, Refused, TooLong, NoMemory}
use Rattle.edit_journal.proofs.Blocks.{second_part}
use Rattle.edit_journal.proofs.WholeRecords.{journal_text-append}
use Rattle.edit_journal.proofs.Broken.{first_of_first}

-- the records of the first requests are a prefix of the text
first_text : (requests before more : List Request) → requests ≡ before ++ more → IsPrefixOf (journal_text before) (journal_text requests)
first_text requests before more is = (journal_text more, ap journal_text is ∙ journal_text-append before more)

first_some : (requests before : List Request) (last : Request) (held : List ℕ) → requests ≡ before ++ last ∷ [] → AppendsPrefix (journal_text before) held (record_of last) → IsPrefixOf held (journal_text requests)
first_some requests before last held is (some, (more, is'), is'') = (
  more,
  ap journal_text is ∙ journal_text-append before (last ∷ []) ∙ ap (λ l. journal_text before ++ l) (append-nil (record_of last) ∙ is') ∙ sym (append_assoc (journal_text before) some more) ∙ ap (λ l. l ++ more) (sym is''),
)

module _ (bytes rest : List ℕ) (requests : List Request) (split : take MAX_JOURNAL_BYTES bytes ≡ journal_text requests ++ rest) where
  of_bytes : (held : List ℕ) → IsPrefixOf held (journal_text requests) → IsPrefixOf held bytes
  of_bytes held begins =
      first_of_first held (journal_text requests) bytes begins
      (rest ++ drop MAX_JOURNAL_BYTES bytes, sym (take-append-drop MAX_JOURNAL_BYTES bytes) ∙ ap (λ l. l ++ drop MAX_JOURNAL_BYTES bytes) split ∙ append_assoc (journal_text requests) rest (drop MAX_JOURNAL_BYTES bytes))

  all_of_it : (held : List ℕ) → held ≡ journal_text requests → IsPrefixOf held bytes
  all_of_it held is = of_bytes held ([], sym is ∙ sym (append-nil held))

module _ {S : Type 0} (stands : S → List Request → Type 0) (refuses : S → Request → Type 0) where
  pub copies : (old new : RestartState S) (result : Result LogState RestartFault)
      → (restarts : RestartsReplayer stands refuses old new result) → IsPrefixOf new.journal.held restarts.bytes
  copies old new (Ok log) r = all_of_it r.bytes r.rest r.requests r.split new.journal.held r.ending.4
  copies old new (Err ReadFailed) r = all_of_it r.bytes r.rest r.requests r.split new.journal.held r.ending.0
  copies old new (Err AppendFailed) r =
      of_bytes r.bytes r.rest r.requests r.split new.journal.held (first_some r.requests r.ending.0 r.ending.1 new.journal.held r.ending.2 r.ending.3)
  copies old new (Err (Damaged place)) r = all_of_it r.bytes r.rest r.requests r.split new.journal.held r.ending.0
  copies old new (Err (Refused number)) r = all_of_it r.bytes r.rest r.requests r.split new.journal.held r.ending.0
  copies old new (Err TooLong) r = all_of_it r.bytes r.rest r.requests r.split new.journal.held r.ending.0
  copies old new (Err NoMemory) r =
      let first = first_text r.requests r.ending.0 r.ending.1 r.ending.2 in
      of_bytes r.bytes r.rest r.requests r.split new.journal.held (first.0, first.1 ∙ ap (λ l. l ++ first.0) (sym r.ending.3))

pub more_shows : (bytes rest torn : List ℕ) (requests more : List Request) → HasCompleteRecords bytes requests rest → All IsRecordedRequest more → IsPrefixOf (journal_text (requests ++ more) ++ torn) bytes → more ≡ []
more_shows bytes rest torn requests [] whole recorded begins = refl
more_shows bytes rest torn requests (next ∷ more) whole recorded (behind, is) =
    let front : journal_text requests ++ rest ≡ journal_text requests ++ (journal_text (next ∷ more) ++ (torn ++ behind)) =
    sym whole.split ∙ is ∙ ap (λ l. (l ++ torn) ++ behind) (journal_text-append requests (next ∷ more)) ∙ append_assoc (journal_text requests ++ journal_text (next ∷ more)) torn behind ∙ append_assoc (journal_text requests) (journal_text (next ∷ more)) (torn ++ behind) in
    let begins : rest ≡ journal_text (next ∷ more) ++ (torn ++ behind) = second_part (journal_text requests) (journal_text (next ∷ more) ++ (torn ++ behind)) (journal_text requests) rest refl front in
    absurd (whole.no_more next (journal_text more ++ (torn ++ behind)) (All-head IsRecordedRequest next more recorded, begins ∙ append_assoc (record_of next) (journal_text more) (torn ++ behind)))
