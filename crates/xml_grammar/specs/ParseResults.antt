-- What a whole text is by a rule: it spells a value, it breaks off, or it has a first fault.
-- Exactly one of the three holds.
use Rattle.std.specs.Prelude.{◌≡◌, ℕ, ◌<◌, ◌≤◌, Bool, true, List, ◌++◌, ◌⊎◌, length, Result, Ok}
use Rattle.std.specs.Prelude.{Err}
use Rattle.xml_grammar.specs.Rules.{Begin, Mark, Rule}
use Rattle.xml_grammar.specs.TextReading.{Stop, Syntax, Faulty}

-- Which kinds are faults, and their ranks: of two faults at one place the one with the lesser
-- rank counts.
pub record FaultRanking (Kind : Type 0) : Type 0 where
  pub is_fault : Kind → Bool
  pub rank : Kind → ℕ

-- Some prefix of the text marks the place before `left` with this kind.
pub record IsMarkedAt {Kind A : Type 0} (r : Rule Kind A) (text : List ℕ) (kind : Kind)
    (left : List ℕ) : Type 0 where
  pub before : List ℕ
  pub seen : List ℕ
  pub unseen : List ℕ
  pub joined : text ≡ before ++ left
  pub left_is : left ≡ seen ++ unseen
  pub met : r.Meets (Mark kind (length seen)) (before ++ seen)

-- No place is marked with a fault.
abbrev pub HasNoFault : {Kind A : Type 0} → FaultRanking Kind → Rule Kind A → List ℕ → Type 0
HasNoFault {Kind} {A} faults r text =
    (kind : Kind) (left : List ℕ) → faults.is_fault kind ≡ true → IsMarkedAt r text kind left → ⊥

-- The text spells this value and no other, without a fault.
pub record IsParsedAs {Kind A : Type 0} (faults : FaultRanking Kind) (r : Rule Kind A)
    (text : List ℕ)
    (value : A) : Type 0 where
  pub spelled : r.Spells text value
  pub unique : (other : A) → r.Spells text other → other ≡ value
  pub calm : HasNoFault faults r text

-- The longest beginning of the text ends before `left`; the text spells nothing, and no place is
-- marked with a fault.
pub record IsSyntaxErrorAt {Kind A : Type 0} (faults : FaultRanking Kind) (r : Rule Kind A)
    (text left : List ℕ) : Type 0 where
  pub beginning : List ℕ
  pub joined : text ≡ beginning ++ left
  pub begun : r.Meets Begin beginning
  pub longest : (v w : List ℕ) → text ≡ v ++ w → r.Meets Begin v → length v ≤ length beginning
  pub nothing : (value : A) → r.Spells text value → ⊥
  pub calm : HasNoFault faults r text

-- The place before `left` is marked with this fault; any other fault marks a later place, or the
-- same place with no lesser rank. Some beginning goes beyond that place, so a text that also
-- breaks off does so later.
pub record IsFirstFault {Kind A : Type 0} (faults : FaultRanking Kind) (r : Rule Kind A)
    (text : List ℕ)
    (kind : Kind) (left : List ℕ) : Type 0 where
  pub said : IsMarkedAt r text kind left
  pub is_fault : faults.is_fault kind ≡ true
  pub first : (other : Kind) (place : List ℕ) → faults.is_fault other ≡ true
      → IsMarkedAt r text other place
      → (length place < length left) ⊎ ((place ≡ left) × (faults.rank kind ≤ faults.rank other))
  pub beyond : (v : List ℕ) × (w : List ℕ)
      × (text ≡ v ++ w) × r.Meets Begin v × (length w < length left)

-- The result of reading the whole text.
abbrev pub IsParseResult : {Kind A : Type 0} → FaultRanking Kind → Rule Kind A → List ℕ
    → Result A (Stop Kind)
    → Type 0
IsParseResult faults r text (Ok value) = IsParsedAs faults r text value
IsParseResult faults r text (Err (Syntax left)) = IsSyntaxErrorAt faults r text left
IsParseResult faults r text (Err (Faulty kind left)) = IsFirstFault faults r text kind left
