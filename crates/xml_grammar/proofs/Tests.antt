-- Choices and repetitions by a test of the first character, or of a word and the character after
-- it.
use Rattle.std.proofs.Common.{◌≡◌, ℕ, Bool, true, false, List, [], ◌∷◌, ◌++◌, ◌⊎◌, inr, refl, sym, ap, subst, ◌∙◌}
use Rattle.xml_grammar.specs.Rules.{Event, Begin, Mark, Rule, char_run, either, optional, between_gaps}
use Rattle.xml_grammar.specs.TextReading.{Reader, first_char_is, starts_with_word, read_run}
use Rattle.xml_grammar.specs.readers.RuleReaders.{read_either, read_optional, read_between_gaps}
use Rattle.xml_grammar.specs.ParseResults.{FaultRanking}
use Rattle.xml_grammar.proofs.Exact.{Rest, ahead, Exact}
use Rattle.xml_grammar.proofs.Carry.{Idle, Covers, exact_either}
use Rattle.xml_grammar.proofs.Heads.{Heads, Starts, starts_weaker, starts_covers, heads_weaker}
use Rattle.xml_grammar.proofs.Shapes.{exact_optional, exact_between_run, past_member}
use Rattle.xml_grammar.proofs.LedRules.{Led, led_covers, next_true, next_false, next_is}

-- the first character of a text, which passes
pub record First (p : ℕ → Bool) (text : List ℕ) : Type 0 where
  pub first : ℕ
  pub rest : List ℕ
  pub joined : text ≡ first ∷ rest
  pub passes : p first ≡ true

pub head_true : (p : ℕ → Bool) (text : List ℕ) → first_char_is p text ≡ true → First p text
head_true p [] t = absurd cc
head_true p (c ∷ x) t = record { first = c; rest = x; joined = refl; passes = t }

pub head_false : (p : ℕ → Bool) (text : List ℕ) → first_char_is p text ≡ false → (c : ℕ) (x : List ℕ) → text ≡ c ∷ x → p c ≡ false
head_false p text f c x j = ap (first_char_is p) (sym j) ∙ f

module _ {Kind : Type 0} {faults : FaultRanking Kind} where
  -- A rule that begins with another character than the text isn't there.
  pub heads_covers : {P : ℕ → Type 0} {J K : Rest Kind} {text : List ℕ} (c : ℕ) (x : List ℕ) → Heads P J → text ≡ c ∷ x → (P c → ⊥) → Covers faults text J K
  heads_covers {P} {J} {K} {text} c x h j none = record { events = no_events; whole = λ m. none (h.whole c x (subst J.Whole j m)) }
    where
      no_events : (e : Event Kind) (v w : List ℕ) → text ≡ v ++ w → J.Meets e v → K.Meets e v ⊎ Idle faults e v
      no_events Begin [] w k m = inr refl
      no_events (Mark d b) [] w k m = absurd (h.none d b m)
      no_events e (d ∷ v) w k m = absurd (none (subst P (let same : d ≡ c = cc in same) (h.meets e d v m)))

  -- # By the first character

  -- where the first character passes, a rule that begins with no passing character isn't there
  pub passed_covers : {P : ℕ → Type 0} {J K : Rest Kind} {text : List ℕ} (p : ℕ → Bool) → Heads P J → ((c : ℕ) → p c ≡ true → P c → ⊥) → first_char_is p text ≡ true → Covers faults text J K
  passed_covers {P} {J} {K} {text} p h apart t = let f = head_true p text t in heads_covers f.first f.rest h f.joined (apart f.first f.passes)

  -- where the first character doesn't pass, a rule that begins with passing characters alone
  -- isn't there
  pub failed_covers : {A : Type 0} {P : ℕ → Type 0} {r : Rule Kind A} {J : A → Rest Kind} {K : Rest Kind} {text : List ℕ} (p : ℕ → Bool) → Starts P r → ((c : ℕ) → P c → p c ≡ true) → first_char_is p text ≡ false → Covers faults text (ahead r J) K
  failed_covers {A} {P} {r} {J} {K} {text} p h is f = starts_covers h (λ c x j m. let t = is c m in let g = head_false p text f c x j in absurd cc)

  -- A choice: the first member begins with passing characters, the second with none of them.
  pub exact_either_head : {A : Type 0} {P Q : ℕ → Type 0} {r s : Rule Kind A} {K : A → Rest Kind} {q q' : Reader Kind A} (p : ℕ → Bool) → Starts P r → ((c : ℕ) → P c → p c ≡ true) → Heads Q (ahead s K) → ((c : ℕ) → p c ≡ true → Q c → ⊥) → Exact faults r K q → Exact faults s K q' → Exact faults (either r s) K (read_either (first_char_is p) q q')
  exact_either_head p h is i apart exact exact' = exact_either (first_char_is p) exact exact'
      (λ text t. passed_covers p i apart t)
      (λ text f. failed_covers p h is f)

  pub exact_optional_head : {A : Type 0} {P Q : ℕ → Type 0} {r : Rule Kind A} {K : Rest Kind} {q : Reader Kind A} (p : ℕ → Bool) → Starts P r → ((c : ℕ) → P c → p c ≡ true) → Heads Q K → ((c : ℕ) → p c ≡ true → Q c → ⊥) → Exact faults r (λ _. K) q → Exact faults (optional r) (λ _. K) (read_optional (first_char_is p) q)
  exact_optional_head p h is i apart exact = exact_optional (first_char_is p) exact
      (λ text t. passed_covers p i apart t)
      (λ text f. failed_covers p h is f)

  -- Members between runs: a member begins with passing characters, which neither belong to the
  -- run nor begin what follows.
  pub exact_between_run_head : {B : Type 0} {P Q : ℕ → Type 0} {gap : ℕ → Bool} {member : Rule Kind B} {K : Rest Kind} {q : Reader Kind B} (p : ℕ → Bool) → Starts P member → ((c : ℕ) → P c → (p c ≡ true) × (gap c ≡ false)) → Heads Q K → ((c : ℕ) → Q c → gap c ≡ false) → ((c : ℕ) → p c ≡ true → Q c → ⊥) → Exact faults member (past_member (char_run gap) member K) q → Exact faults (between_gaps (char_run gap) member) (λ _. K) (read_between_gaps (first_char_is p) (read_run gap) q)
  exact_between_run_head p h is i no_gap apart exact = exact_between_run (first_char_is p) (starts_weaker (λ c m. (is c m).1) h) (heads_weaker no_gap i) refl
      (λ text t. passed_covers p i apart t)
      (λ text f. failed_covers p h (λ c m. (is c m).0) f)
      exact

  -- # By the character after a word

  -- where the text continues the word with this character, of a rule that continues it with no
  -- such character only prefixes of the word are there
  pub next_covers : {A B : Type 0} {P Q : ℕ → Type 0} {r : Rule Kind A} {s : Rule Kind B} {J : A → Rest Kind} {K : B → Rest Kind} {text : List ℕ} (w : List ℕ) (d : ℕ) → Led w Q r → Led w P s → (Q d → ⊥) → starts_with_word (w ++ (d ∷ [])) text ≡ true → Covers faults text (ahead r J) (ahead s K)
  next_covers {A} {B} {P} {Q} {r} {s} {J} {K} {text} w d h i none t = let n = next_true w d text t in led_covers h i (λ c x j m. none (subst Q (next_is w c x d n.0 j n.1) m))

  -- where it doesn't, a rule that continues it with no other isn't there
  pub other_covers : {A B : Type 0} {P : ℕ → Type 0} {r : Rule Kind A} {s : Rule Kind B} {J : A → Rest Kind} {K : B → Rest Kind} {text : List ℕ} (w : List ℕ) (d : ℕ) → Led w (λ c. c ≡ d) r → Led w P s → starts_with_word (w ++ (d ∷ [])) text ≡ false → Covers faults text (ahead r J) (ahead s K)
  other_covers {A} {B} {P} {r} {s} {J} {K} {text} w d h i f = led_covers h i (λ c x j e. next_false w d text x f (j ∙ ap (λ (z : ℕ). w ++ (z ∷ x)) e))

  -- A choice: after one word the first member continues with this character, the second with
  -- another.
  pub exact_either_next : {A : Type 0} {Q : ℕ → Type 0} {r s : Rule Kind A} {K : A → Rest Kind} {q q' : Reader Kind A} (w : List ℕ) (d : ℕ) → Led w (λ c. c ≡ d) r → Led w Q s → (Q d → ⊥) → Exact faults r K q → Exact faults s K q' → Exact faults (either r s) K (read_either (starts_with_word (w ++ (d ∷ []))) q q')
  exact_either_next w d h i none exact exact' = exact_either (starts_with_word (w ++ (d ∷ []))) exact exact'
      (λ text t. next_covers w d i h none t)
      (λ text f. other_covers w d h i f)
