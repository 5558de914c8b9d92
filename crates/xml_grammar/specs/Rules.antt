-- Rules of a grammar. A rule says which texts it spells, as which values, and what a text may be
-- that breaks off in it: its beginnings.
-- A text is a list of characters. Rules are made of smaller ones as the productions of XML 1.0
-- (fifth edition, section 6) are.
--
-- The beginnings of a rule, by cases:
-- - the empty text and each whole text of the rule are beginnings, and so is each prefix of a
--   fixed word;
-- - a beginning of a sequence is some of its first parts, each whole, and a beginning of the next
--   part;
-- - a beginning of a choice is a beginning of one of its members; a beginning of a repetition is
--   some whole members and a beginning of one more;
-- - what is forbidden inside a run of characters is forbidden in a beginning too; what is
--   required of the whole run is required only where it is whole;
-- - digits are a beginning of a number while the number so far is within its bound.
-- So the rules alone determine the longest beginning of a text, and no continuation has to be
-- found.
--
-- Besides its beginnings a rule has marks: a prefix of a text may mark a place in it with a kind,
-- for example that a tag is too deep.
use Rattle.std.specs.Prelude.{◌≡◌, ℕ, ◌+◌, ◌*◌, ◌<◌, ◌≤◌, Bool, true, List, [], ◌∷◌, ◌++◌, ◌⊎◌}
use Rattle.std.specs.Prelude.{length, Option, Some, None}
use Rattle.xml_grammar.specs.Digits.{Digits}

-- An event at the end of a prefix of a text.
pub data Event (Kind : Type 0) : Type 0 where
  Begin : Event Kind  -- the prefix is a beginning
  -- the prefix marks the place this many characters back
  Mark : (kind : Kind) → (back : ℕ) → Event Kind

-- A rule: which texts it spells, as which values, and the events at the end of a text that breaks
-- off in it.
pub record Rule (Kind A : Type 0) : Type 1 where
  pub Spells : List ℕ → A → Type 0
  pub Meets : Event Kind → List ℕ → Type 0

-- A text in two parts.
pub record Split (text : List ℕ) (P Q : List ℕ → Type 0) : Type 0 where
  pub front : List ℕ
  pub back : List ℕ
  pub joined : text ≡ front ++ back
  pub front_is : P front
  pub back_is : Q back

-- Beginnings alone, without marks.
abbrev pub BeginsOnly : {Kind : Type 0} → (List ℕ → Type 0) → Event Kind → List ℕ → Type 0
BeginsOnly P Begin text = P text
BeginsOnly P (Mark kind back) text = ⊥

-- # Rules that contain no other rule

-- No text at all.
abbrev pub no_text : {Kind A : Type 0} → Rule Kind A
no_text = record { Spells = λ text a. ⊥; Meets = λ e text. ⊥ }

-- The empty text, with this value.
abbrev pub empty_text : {Kind A : Type 0} → A → Rule Kind A
empty_text value =
    record { Spells = λ text a. (text ≡ []) × (a ≡ value); Meets = BeginsOnly (λ text. text ≡ []) }

-- One character of a class.
abbrev pub one_char : {Kind : Type 0} → (ℕ → Bool) → Rule Kind ℕ
one_char p = record {
  Spells = λ text c. (p c ≡ true) × (text ≡ c ∷ []);
  Meets = BeginsOnly (λ text. (text ≡ []) ⊎ ((c : ℕ) × (p c ≡ true) × (text ≡ c ∷ [])));
}

-- A fixed word. Each prefix of it is a beginning.
abbrev pub word : {Kind : Type 0} → List ℕ → Rule Kind (Unit {0})
word w = record {
  Spells = λ text _. text ≡ w;
  Meets = BeginsOnly (λ text. (rest : List ℕ) × (w ≡ text ++ rest));
}

-- each character is of the class
abbrev pub AllPass : (ℕ → Bool) → List ℕ → Type 0
AllPass p [] = Unit {0}
AllPass p (c ∷ cs) = (p c ≡ true) × AllPass p cs

-- Any number of characters of a class, possibly none.
abbrev pub char_run : {Kind : Type 0} → (ℕ → Bool) → Rule Kind (List ℕ)
char_run p = record {
  Spells = λ text cs. AllPass p text × (cs ≡ text);
  Meets = BeginsOnly (AllPass p);
}

-- the word doesn't occur in the text
abbrev pub LacksWord : List ℕ → List ℕ → Type 0
LacksWord w text = (u t : List ℕ) → text ≡ u ++ (w ++ t) → ⊥

-- Any number of characters of a class, without the word; a beginning doesn't contain it either.
abbrev pub char_run_without : {Kind : Type 0} → (ℕ → Bool) → List ℕ → Rule Kind (List ℕ)
char_run_without p w = record {
  Spells = λ text cs. AllPass p text × LacksWord w text × (cs ≡ text);
  Meets = BeginsOnly (λ text. AllPass p text × LacksWord w text);
}

-- the word occurs in the text only at its end
abbrev pub OccursOnlyAtEnd : List ℕ → List ℕ → Type 0
OccursOnlyAtEnd w text = (u t : List ℕ) → text ≡ u ++ (w ++ t) → t ≡ []

-- Characters of a class up to the first occurrence of the word, and the word. The value is the
-- text before the word.
abbrev pub up_to : {Kind : Type 0} → (ℕ → Bool) → List ℕ → Rule Kind (List ℕ)
up_to p w = record {
  Spells = λ text cs. (text ≡ cs ++ w) × AllPass p text × OccursOnlyAtEnd w text;
  Meets = BeginsOnly (λ text. AllPass p text × OccursOnlyAtEnd w text);
}

-- digits whose number never exceeds the greatest, after digits of value n
abbrev pub IsNumberSoFar : Digits → ℕ → ℕ → List ℕ → Type 0
IsNumberSoFar d most n [] = Unit {0}
IsNumberSoFar d most n (c ∷ cs) =
    (d.is_digit c ≡ true) × (n * d.base + d.value c ≤ most)
    × IsNumberSoFar d most (n * d.base + d.value c) cs

-- the value of digits that follow digits of value n
abbrev pub number_of_digits : Digits → ℕ → List ℕ → ℕ
number_of_digits d n [] = n
number_of_digits d n (c ∷ cs) = number_of_digits d (n * d.base + d.value c) cs

-- One or more digits of at most this value, and a number that passes. The test applies only to
-- the whole number.
abbrev pub number : {Kind : Type 0} → Digits → ℕ → (ℕ → Bool) → Rule Kind ℕ
number d most p = record {
  Spells = λ text n.
      IsNumberSoFar d most 0 text × (0 < length text) × (n ≡ number_of_digits d 0 text)
      × (p n ≡ true);
  Meets = BeginsOnly (IsNumberSoFar d most 0);
}

-- # Rules made of others

-- One rule and then another, which may depend on the value of the first.
abbrev pub sequence : {Kind A B : Type 0} → Rule Kind A → (A → Rule Kind B) → Rule Kind (A × B)
sequence {Kind} {A} {B} r s = record {
  Spells = λ text x. Split text (λ u. r.Spells u x.0) (λ v. (s x.0).Spells v x.1);
  Meets = λ e text.
      r.Meets e text ⊎ ((a : A) × Split text (λ u. r.Spells u a) (λ v. (s a).Meets e v));
}

-- Either of two rules.
abbrev pub either : {Kind A : Type 0} → Rule Kind A → Rule Kind A → Rule Kind A
either r s = record {
  Spells = λ text a. r.Spells text a ⊎ s.Spells text a;
  Meets = λ e text. r.Meets e text ⊎ s.Meets e text;
}

-- the text consists of one text of the rule for each value
abbrev pub SpellsEach : {Kind A : Type 0} → Rule Kind A → List A → List ℕ → Type 0
SpellsEach r [] text = text ≡ []
SpellsEach r (x ∷ xs) text = Split text (λ u. r.Spells u x) (λ v. SpellsEach r xs v)

-- Any number of members.
abbrev pub many : {Kind A : Type 0} → Rule Kind A → Rule Kind (List A)
many {Kind} {A} r = record {
  Spells = λ text xs. SpellsEach r xs text;
  Meets = λ e text. (xs : List A) × Split text (λ u. SpellsEach r xs u) (λ v. r.Meets e v);
}

-- The texts of the rule, with their values mapped.
abbrev pub map_rule : {Kind A B : Type 0} → (A → B) → Rule Kind A → Rule Kind B
map_rule {Kind} {A} {B} f r = record {
  Spells = λ text b. (a : A) × r.Spells text a × (b ≡ f a);
  Meets = r.Meets;
}

-- The texts of the rule; the value also has the number of their characters.
abbrev pub with_length : {Kind A : Type 0} → Rule Kind A → Rule Kind (A × ℕ)
with_length r = record {
  Spells = λ text x. r.Spells text x.0 × (x.1 ≡ length text);
  Meets = r.Meets;
}

-- The texts whose value passes. The test applies to whole texts alone, so the beginnings stay.
abbrev pub filter_rule : {Kind A : Type 0} → (A → Bool) → Rule Kind A → Rule Kind A
filter_rule p r = record {
  Spells = λ text a. r.Spells text a × (p a ≡ true);
  Meets = r.Meets;
}

-- The texts of the rule, each taken whole or not at all: a part of a text isn't a beginning.
abbrev pub atomic : {Kind A : Type 0} → Rule Kind A → Rule Kind A
atomic {Kind} {A} r = record {
  Spells = r.Spells;
  Meets = BeginsOnly (λ text. (text ≡ []) ⊎ ((a : A) × r.Spells text a));
}

-- # Rules with marks

-- the events of the marked rule
abbrev pub MarkedMeets : {Kind A : Type 0} → Kind → (List ℕ → Type 0) → Rule Kind A → Event Kind
    → List ℕ → Type 0
MarkedMeets kind P r Begin text = r.Meets Begin text
MarkedMeets kind P r (Mark k back) text =
    ((k ≡ kind) × (back ≡ length text) × P text) ⊎ r.Meets (Mark k back) text

-- The texts of the rule; a prefix that satisfies the predicate marks its own first place with
-- this kind.
abbrev pub with_prefix_mark : {Kind A : Type 0} → Kind → (List ℕ → Type 0) → Rule Kind A
    → Rule Kind A
with_prefix_mark kind P r = record {
  Spells = r.Spells;
  Meets = MarkedMeets kind P r;
}

-- the events of the judged rule
abbrev pub ValueMarkedMeets : {Kind A : Type 0} → (A → Kind → ℕ → Type 0) → Rule Kind A → Event Kind
    → List ℕ → Type 0
ValueMarkedMeets Says r Begin text = r.Meets Begin text
ValueMarkedMeets {Kind} {A} Says r (Mark k back) text =
    ((a : A) × r.Spells text a × Says a k back) ⊎ r.Meets (Mark k back) text

-- The texts of the rule; a whole text marks places in it with kinds, by its value, each a number
-- of characters before its end.
abbrev pub with_value_marks : {Kind A : Type 0} → (A → Kind → ℕ → Type 0) → Rule Kind A
    → Rule Kind A
with_value_marks Says r = record {
  Spells = r.Spells;
  Meets = ValueMarkedMeets Says r;
}

-- the events of the trap
abbrev pub RefusedWordMeets : {Kind : Type 0} → Kind → List ℕ → List ℕ → Event Kind → List ℕ
    → Type 0
RefusedWordMeets kind seen rest Begin text = (more : List ℕ) × (seen ≡ text ++ more)
RefusedWordMeets kind seen rest (Mark k back) text =
    (k ≡ kind) × (back ≡ length text) × (text ≡ seen ++ rest)

-- A word that is known and refused. Only prefixes of its first part are beginnings; the whole
-- word marks its own first place with this kind.
abbrev pub refused_word : {Kind A : Type 0} → Kind → List ℕ → List ℕ → Rule Kind A
refused_word kind seen rest =
    record { Spells = λ text a. ⊥; Meets = RefusedWordMeets kind seen rest }

-- # Shapes that grammars often have

-- A rule, or nothing.
abbrev pub optional : {Kind A : Type 0} → Rule Kind A → Rule Kind (Option A)
optional r = either (map_rule Some r) (empty_text None)

-- Members between gaps: a gap, and any number of members, each followed by a gap. So no two gaps
-- meet.
abbrev pub between_gaps : {Kind A B : Type 0} → Rule Kind A → Rule Kind B
    → Rule Kind (A × List (B × A))
between_gaps gap member = sequence gap (λ _. many (sequence member (λ _. gap)))

-- One or more characters of a class.
abbrev pub one_or_more : {Kind : Type 0} → (ℕ → Bool) → Rule Kind (List ℕ)
one_or_more p = map_rule (λ x. x.0 ∷ x.1) (sequence (one_char p) (λ _. char_run p))

-- A first character of one class, and any number of another.
abbrev pub name_rule : {Kind : Type 0} → (ℕ → Bool) → (ℕ → Bool) → Rule Kind (List ℕ)
name_rule first others =
    map_rule (λ x. x.0 ∷ x.1) (sequence (one_char first) (λ _. char_run others))

-- One rule and then another: the value is the value of the first, or of the second.
abbrev pub keep_first : {Kind A B : Type 0} → Rule Kind A → Rule Kind B → Rule Kind A
keep_first r s = map_rule (λ x. x.0) (sequence r (λ _. s))

abbrev pub keep_second : {Kind A B : Type 0} → Rule Kind A → Rule Kind B → Rule Kind B
keep_second r s = map_rule (λ x. x.1) (sequence r (λ _. s))

-- A pair of equal quotes and the text between them, whose rule may depend on the quote.
abbrev pub quoted : {Kind A : Type 0} → (ℕ → Bool) → (ℕ → Rule Kind A) → Rule Kind A
quoted is_quote inside =
    map_rule (λ x. x.1) (sequence (one_char is_quote) (λ q. keep_first (inside q) (word (q ∷ []))))
