-- What was served by the bytes given is served by all bytes of the connection, where these are
-- known.
use Rattle.std.proofs.Common.{◌≡◌, ℕ, ◌⊎◌, inl, inr, Bool, true, List, [], ◌∷◌, ◌++◌, length, Option, refl, sym, ap, subst, ◌∙◌}
use Rattle.std.proofs.lemmas.List.{append-nil}
use Rattle.xcap_io.specs.ConnectionHistories.{Traffic}
use Rattle.http_wire.specs.declared.request.Request.{Request}
use Rattle.http_wire.specs.ConnectionItems.{Item, IsFirstItem, IsKnownFirstItem}
use Rattle.http_wire.specs.ServedConnections.{PendingInput, ItemAnswer, ClosesConnection, no_more, last_item, no_memory, KeepsConnectionOpen, AreAllBytesOf, AreAllBytesOfEach, AnswersRequests, ServesConnection, ServesEach, counted_traffic, counted_traffics}
use Rattle.http_wire.specs.declared.close_reason.CloseReason.{CloseReason}
use Rattle.http_wire.specs.declared.close_reason.CloseReason.TheVariants.{Closed, ReadFailed, WriteFailed}
use Rattle.http_wire.proofs.Connections.{run-append}
use Rattle.http_wire.proofs.WholeItems.{asks-append}

-- where all was given, the first item is the first one of all
pub first_by_all : (before : ℕ) (bytes : List ℕ) (item : Item) → IsKnownFirstItem before bytes true item → (rest : List ℕ) × IsFirstItem before bytes item rest
first_by_all before bytes item (inl each) =
    let first : (rest : List ℕ) × IsFirstItem before (bytes ++ []) item rest = each [] in
    (first.0, subst (λ (l : List ℕ). IsFirstItem before l item first.0) (append-nil bytes) first.1)
first_by_all before bytes item (inr (ended, first)) = first

pub all_give_first : (before : ℕ) (bytes : List ℕ) (item : Item) → (rest : List ℕ) × IsFirstItem before bytes item rest → IsKnownFirstItem before bytes true item
all_give_first before bytes item first = inr (refl, first)

-- the bytes given, and those left, of which there are none where the end was found
grown : (given left : List ℕ) → left ≡ [] → given ≡ given ++ left
grown given left none = sym (ap (λ (l : List ℕ). given ++ l) none ∙ append-nil given)

first_on : (before : ℕ) (given left : List ℕ) (ended : Bool) (item : Item) → (ended ≡ true → left ≡ []) → IsKnownFirstItem before given ended item → IsKnownFirstItem before (given ++ left) true item
first_on before given left ended item none (inl each) = inr (refl, each left)
first_on before given left ended item none (inr (found, (rest, first))) = inr (refl, (rest, subst (λ (l : List ℕ). IsFirstItem before l item rest) (grown given left (none found)) first))

pub first_of_all : (before : ℕ) (bytes : List ℕ) (passed : Traffic) (item : Item) → AreAllBytesOf bytes passed → IsKnownFirstItem before passed.given passed.ended item
    → (rest : List ℕ) × IsFirstItem before bytes item rest
first_of_all before bytes passed item (left, is, none) first =
    first_by_all before bytes item (subst (λ (l : List ℕ). IsKnownFirstItem before l true item) (sym is) (first_on before passed.given left passed.ended item none first))

-- the input with the bytes that were left, and its end
abbrev pub all_given : PendingInput → List ℕ → PendingInput
all_given input left = record input { given = input.given ++ left; ended = true }

module _ {M E : Type 0} (Step : M → Request → List ℕ → M → Option E → Type 0) (fixed : ℕ → List ℕ) where
  closes_on : (input : PendingInput) (left : List ℕ) (machine : M) (answer : ItemAnswer M E) → (input.ended ≡ true → left ≡ []) → ClosesConnection Step fixed input machine answer → ClosesConnection Step fixed (all_given input left) machine answer
  closes_on input left machine answer none (no_more nothing found silent same untold) = no_more (ap (λ (l : List ℕ). l ++ left) nothing ∙ none found) refl silent same untold
  closes_on input left machine answer none (last_item item first ends answers) = last_item item (first_on input.before input.given left input.ended item none first) ends answers
  closes_on input left machine answer none (no_memory request rest asked fixed_one same untold) =
      no_memory request (rest ++ left) (asks-append input.before input.given left request rest asked) fixed_one same untold

  goes_on : (input : PendingInput) (left : List ℕ) (machine : M) (answer : ItemAnswer M E) (rest : List ℕ) → KeepsConnectionOpen Step fixed input machine answer rest → KeepsConnectionOpen Step fixed (all_given input left) machine answer (rest ++ left)
  goes_on input left machine answer rest g = record {
    request = g.request;
    asked = asks-append input.before input.given left g.request rest g.asked;
    stays = g.stays;
    step = g.step;
  }

  either_on : (input : PendingInput) (left : List ℕ) (machine : M) (answer : ItemAnswer M E) → (input.ended ≡ true → left ≡ []) → ClosesConnection Step fixed input machine answer ⊎ ((rest : List ℕ) × KeepsConnectionOpen Step fixed input machine answer rest)
      → ClosesConnection Step fixed (all_given input left) machine answer ⊎ ((rest : List ℕ) × KeepsConnectionOpen Step fixed (all_given input left) machine answer rest)
  either_on input left machine answer none (inl closes) = inl (closes_on input left machine answer none closes)
  either_on input left machine answer none (inr (rest, goes)) = inr (rest ++ left, goes_on input left machine answer rest goes)

  -- one connection
  pub counts : (ending : CloseReason) (machine next : M) (edits : List E) (bytes : List ℕ) (passed : Traffic) → AreAllBytesOf bytes passed
      → ServesConnection Step fixed ending machine passed next edits → ServesConnection Step fixed ending machine (counted_traffic ending bytes passed) next edits
  counts Closed machine next edits bytes passed (left, is, none) s = record {
    requests = s.requests;
    replies = s.replies;
    early = s.early;
    mid = s.mid;
    behind = s.behind ++ left;
    last = s.last;
    edit = s.edit;
    run = subst (λ (l : List ℕ). AnswersRequests Step fixed 0 machine l s.requests (record { written = s.replies; edits = s.early; next = s.mid; rest = s.behind ++ left })) (sym is)
        (run-append Step fixed 0 machine passed.given left s.requests (record { written = s.replies; edits = s.early; next = s.mid; rest = s.behind }) s.run);
    ends = closes_on (record { before = length s.requests; given = s.behind; ended = passed.ended }) left s.mid (record { written = s.last; next = next; edit = s.edit }) none s.ends;
    wrote = s.wrote;
    all_told = s.all_told;
  }
  counts ReadFailed machine next edits bytes passed has s = s
  counts WriteFailed machine next edits bytes passed (left, is, none) s = record {
    requests = s.requests;
    replies = s.replies;
    early = s.early;
    mid = s.mid;
    behind = s.behind ++ left;
    last = s.last;
    edit = s.edit;
    run = subst (λ (l : List ℕ). AnswersRequests Step fixed 0 machine l s.requests (record { written = s.replies; edits = s.early; next = s.mid; rest = s.behind ++ left })) (sym is)
        (run-append Step fixed 0 machine passed.given left s.requests (record { written = s.replies; edits = s.early; next = s.mid; rest = s.behind }) s.run);
    ends = (s.ends.0, s.ends.1, s.ends.2, s.ends.3, either_on (record { before = length s.requests; given = s.behind; ended = passed.ended }) left s.mid (record { written = s.ends.0; next = next; edit = s.edit }) none s.ends.4);
    wrote = s.wrote;
    all_told = s.all_told;
  }

  -- one connection after the other
  pub counts_each : (machine next : M) (edits : List E) (all : List (List ℕ)) (connections : List Traffic) (endings : List CloseReason) → AreAllBytesOfEach all connections
      → ServesEach Step fixed machine connections endings next edits → ServesEach Step fixed machine (counted_traffics connections all endings) endings next edits
  counts_each machine next edits all [] endings have s = s
  counts_each machine next edits [] (passed ∷ connections) endings have s = absurd have
  counts_each machine next edits (bytes ∷ all) (passed ∷ connections) endings have (ending, others, mid, first, later, are, all_told, serves, rest) =
      subst (λ (l : List CloseReason). ServesEach Step fixed machine (counted_traffics (passed ∷ connections) (bytes ∷ all) l) l next edits) (sym are) (
        ending,
        others,
        mid,
        first,
        later,
        refl,
        all_told,
        counts ending machine mid first bytes passed have.0 serves,
        counts_each mid next later all connections others have.1 rest,
      )
