-- The results of reading functions on texts that begin with what their rules spell.
use Rattle.std.proofs.Common.{◌≡◌, ℕ, zero, suc, ◌-◌, ◌<◌, ◌≤◌, Bool, true, false, List, [], ◌∷◌, ◌++◌, length, Result, Ok, refl, sym, ap, subst, ◌∙◌, eq-eqb, length-append, encode_utf8_all, arith}
use Rattle.std.proofs.lemmas.Str.{length-le-encodes}
use Rattle.std.specs.Prelude.{nat_eq, Option, None}
use Rattle.xml_grammar.specs.Rules.{AllPass}
use Rattle.xml_grammar.specs.TextReading.{Stop, Reader, ◌>>=◌, first_char_is, read_one_char, read_word, read_run, read_sequence, read_mapped}
use Rattle.xml_grammar.specs.readers.RuleReaders.{read_either, read_at_most, read_many, read_with_length, read_atomic, read_with_value_marks, read_between_gaps, read_name_rule, read_first, read_second, read_quoted}
use Rattle.xml_tokens.specs.declared.fault_kind.FaultKind.{FaultKind}

-- the text is read as this value, up to this rest
pub record Reads {A : Type 0} (p : Reader FaultKind A) (text : List ℕ) (a : A) (rest : List ℕ) : Type 0 where
  pub read : p text ≡ Ok (a, rest)

-- ---- rules made of others

pub reads_sequence : {A B : Type 0} {p : Reader FaultKind A} (q : A → Reader FaultKind B) {text mid rest : List ℕ} {a : A} {b : B} → Reads p text a mid → Reads (q a) mid b rest → Reads (read_sequence p q) text (a, b) rest
reads_sequence q h k = record { read = rw h.read (rw k.read refl) }

pub reads_valued : {A B : Type 0} {p : Reader FaultKind A} {text rest : List ℕ} {a : A} (f : A → B) → Reads p text a rest → Reads (read_mapped f p) text (f a) rest
reads_valued f h = record { read = rw h.read refl }

pub reads_before : {A B : Type 0} {p : Reader FaultKind A} {q : Reader FaultKind B} {text mid rest : List ℕ} {a : A} {b : B} → Reads p text a mid → Reads q mid b rest → Reads (read_first p q) text a rest
reads_before h k = record { read = rw h.read (rw k.read refl) }

pub reads_behind : {A B : Type 0} {p : Reader FaultKind A} {q : Reader FaultKind B} {text mid rest : List ℕ} {a : A} {b : B} → Reads p text a mid → Reads q mid b rest → Reads (read_second p q) text b rest
reads_behind h k = record { read = rw h.read (rw k.read refl) }

pub reads_left : {A : Type 0} (test : List ℕ → Bool) {p : Reader FaultKind A} (q : Reader FaultKind A) {text rest : List ℕ} {a : A} → test text ≡ true → Reads p text a rest → Reads (read_either test p q) text a rest
reads_left test q t h = record { read = rw t h.read }

pub reads_right : {A : Type 0} (test : List ℕ → Bool) (p : Reader FaultKind A) {q : Reader FaultKind A} {text rest : List ℕ} {a : A} → test text ≡ false → Reads q text a rest → Reads (read_either test p q) text a rest
reads_right test p t h = record { read = rw t h.read }

pub reads_atomic : {A : Type 0} {p : Reader FaultKind A} {text rest : List ℕ} {a : A} → Reads p text a rest → Reads (read_atomic p) text a rest
reads_atomic h = record { read = rw h.read refl }

pub reads_judged : {A : Type 0} {p : Reader FaultKind A} {text rest : List ℕ} {a : A} (judge : A → Option (FaultKind × ℕ)) → judge a ≡ None → Reads p text a rest → Reads (read_with_value_marks judge p) text a rest
reads_judged judge j h = record { read = rw h.read (rw j refl) }

pub sized_by : {A : Type 0} {p : Reader FaultKind A} {text rest : List ℕ} {a : A} (n : ℕ) → length text - length rest ≡ n → Reads p text a rest → Reads (read_with_length p) text (a, n) rest
sized_by n e h = record { read = rw h.read (rw e refl) }

pub reads_sized : {A : Type 0} {p : Reader FaultKind A} {rest : List ℕ} {a : A} (used : List ℕ) → Reads p (used ++ rest) a rest → Reads (read_with_length p) (used ++ rest) (a, length used) rest
reads_sized {rest = rest} used h = sized_by (length used) (omega (arith, length-append used rest)) h

-- ---- words, characters and runs of them

word_read : (w rest : List ℕ) → read_word {Kind = FaultKind} w (w ++ rest) ≡ Ok (tt, rest)
word_read [] rest = refl
word_read (c ∷ cs) rest = let e : nat_eq c c ≡ true = eq-eqb c c refl in rw e (word_read cs rest)

pub word_before : (w text rest : List ℕ) → text ≡ w ++ rest → read_word {Kind = FaultKind} w text ≡ Ok (tt, rest)
word_before w text rest whole = ap (read_word w) whole ∙ word_read w rest

pub reads_word : (w rest : List ℕ) → Reads (read_word w) (w ++ rest) tt rest
reads_word w rest = record { read = word_read w rest }

pub reads_one : (p : ℕ → Bool) (c : ℕ) (rest : List ℕ) → p c ≡ true → Reads (read_one_char p) (c ∷ rest) c rest
reads_one p c rest h = record { read = rw h refl }

-- the text doesn't begin with a character of the class
pub reads_none : (p : ℕ → Bool) (rest : List ℕ) → first_char_is p rest ≡ false → Reads (read_run p) rest [] rest
reads_none p [] h = record { read = refl }
reads_none p (d ∷ ds) h = record { read = rw h refl }

pub reads_more : (p : ℕ → Bool) (c : ℕ) {text cs rest : List ℕ} → p c ≡ true → Reads (read_run p) text cs rest → Reads (read_run p) (c ∷ text) (c ∷ cs) rest
reads_more p c h k = record { read = rw h (ap (λ (r : Result (List ℕ × List ℕ) (Stop FaultKind)). r >>= λ z. let w : List ℕ × List ℕ = (c ∷ z.0, z.1) in Ok w) k.read) }

pub reads_run : (p : ℕ → Bool) (cs rest : List ℕ) → AllPass p cs → first_char_is p rest ≡ false → Reads (read_run p) (cs ++ rest) cs rest
reads_run p [] rest h e = reads_none p rest e
reads_run p (c ∷ cs) rest h e = reads_more p c h.0 (reads_run p cs rest h.1 e)

pub reads_name_of : (first others : ℕ → Bool) (c : ℕ) (cs rest : List ℕ) → first c ≡ true → AllPass others cs → first_char_is others rest ≡ false → Reads (read_name_rule first others) (c ∷ (cs ++ rest)) (c ∷ cs) rest
reads_name_of first others c cs rest h k e = reads_valued (λ x. x.0 ∷ x.1) (reads_sequence (λ _. read_run others) (reads_one first c (cs ++ rest) h) (reads_run others cs rest k e))

pub reads_quoted : {A : Type 0} (is_quote : ℕ → Bool) (inside : ℕ → Reader FaultKind A) {text rest : List ℕ} {a : A} (q : ℕ) → is_quote q ≡ true → Reads (inside q) text a (q ∷ rest) → Reads (read_quoted is_quote inside) (q ∷ text) a rest
reads_quoted is_quote inside {text = text} {rest = rest} q h k = reads_valued (λ x. x.1) (reads_sequence (λ z. read_first (inside z) (read_word (z ∷ []))) (reads_one is_quote q text h) (reads_before k (reads_word (q ∷ []) rest)))

-- ---- repetitions

-- the members are read one after the other, each of some text, and nothing more
abbrev pub AllRead : {A : Type 0} → (List ℕ → Bool) → Reader FaultKind A → List A → List ℕ → List ℕ → Type 0
AllRead test p [] text tail = (text ≡ tail) × (test tail ≡ false)
AllRead test p (x ∷ xs) text tail = (next : List ℕ) × (test text ≡ true) × Reads p text x next × (length next < length text) × AllRead test p xs next tail

all_read : {A : Type 0} (test : List ℕ → Bool) (p : Reader FaultKind A) (xs : List A) (n : ℕ) (text tail : List ℕ) → length text ≤ n → AllRead test p xs text tail → read_at_most test p n text ≡ Ok (xs, tail)
all_read {A} test p [] zero text tail le h = ap (λ (z : List ℕ). let w : List A × List ℕ = ([], z) in Ok w) h.0
all_read {A} test p [] (suc n) text tail le h = subst (λ (z : List ℕ). read_at_most test p (suc n) z ≡ Ok ([], tail)) (sym h.0) (rw h.1 refl)
all_read {A} test p (x ∷ xs) zero text tail le h = absurd (omega (arith, h.3, le))
all_read {A} test p (x ∷ xs) (suc n) text tail le h =
    let more = all_read test p xs n h.0 tail (omega (arith, h.3, le)) h.4 in
    rw h.1 (rw h.2.read (rw more refl))

pub reads_many : {A : Type 0} (test : List ℕ → Bool) (p : Reader FaultKind A) (xs : List A) (text tail : List ℕ) → AllRead test p xs text tail → Reads (read_many test p) text xs tail
reads_many test p xs text tail h = record { read = all_read test p xs (length (encode_utf8_all text)) text tail (length-le-encodes text) h }

-- members between gaps
pub record AreBetween {A B : Type 0} (test : List ℕ → Bool) (gap : Reader FaultKind A) (member : Reader FaultKind B) (text : List ℕ) (x : A) (xs : List (B × A)) (tail : List ℕ) : Type 0 where
  pub next : List ℕ
  pub first : Reads gap text x next
  pub shorter : length next ≤ length text
  pub members : AllRead test (read_sequence member (λ _. gap)) xs next tail

pub reads_between : {A B : Type 0} {test : List ℕ → Bool} {gap : Reader FaultKind A} {member : Reader FaultKind B} {text tail : List ℕ} {x : A} {xs : List (B × A)} → AreBetween test gap member text x xs tail → Reads (read_between_gaps test gap member) text (x, xs) tail
reads_between {test = test} {gap = gap} {member = member} {tail = tail} {xs = xs} h = reads_sequence (λ _. read_many test (read_sequence member (λ _. gap))) h.first (reads_many test (read_sequence member (λ _. gap)) xs h.next tail h.members)

-- nothing but an empty gap
pub between_none : {A B : Type 0} {test : List ℕ → Bool} {gap : Reader FaultKind A} {member : Reader FaultKind B} (tail : List ℕ) {x : A} → Reads gap tail x tail → test tail ≡ false → AreBetween test gap member tail x [] tail
between_none tail h t = record { next = tail; first = h; shorter = omega arith; members = (refl, t) }

-- an empty gap, and a member at the front
pub between_more : {A B : Type 0} {test : List ℕ → Bool} {gap : Reader FaultKind A} {member : Reader FaultKind B} {text next tail : List ℕ} {e x : A} {m : B} {xs : List (B × A)}
    → Reads gap text e text → test text ≡ true → Reads member text m next → length next < length text → AreBetween test gap member next x xs tail → AreBetween test gap member text e ((m, x) ∷ xs) tail
between_more {gap = gap} {text = text} {next = next} h t k lt b = record { next = text; first = h; shorter = omega arith; members = (b.next, t, reads_sequence (λ _. gap) k b.first, (let le = b.shorter in omega (arith, lt, le)), b.members) }
