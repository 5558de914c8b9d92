-- What is left after a reader is a suffix of the text, so it is no longer.
use Rattle.std.proofs.Common.{◌≡◌, ℕ, zero, suc, ◌+◌, ◌*◌, ◌≤◌, Bool, true, false, cond, List, [], ◌∷◌, ◌++◌, length, length-append, Result, Ok, Err, encode_utf8_all, refl, sym, ap, ◌∙◌, append_assoc, subst, arith}
use Rattle.std.specs.Prelude.{nat_eq, nat_le}
use Rattle.xml_grammar.specs.Digits.{Digits}
use Rattle.xml_grammar.specs.TextReading.{Stop, Syntax, Reader, ◌>>=◌, drop_while, read_one_char, read_word, read_run, read_sequence, read_mapped}
use Rattle.xml_grammar.specs.readers.RuleReaders.{number_end, read_digits, read_number, read_either, read_at_most, read_many, read_empty}
use Rattle.xml_tokens.specs.declared.fault_kind.FaultKind.{FaultKind}
use Rattle.xml_grammar.specs.readers.Suffixes.{EndsWith}

abbrev pub Left : {A : Type 0} → List ℕ → Result (A × List ℕ) (Stop FaultKind) → Type 0
Left text (Ok x) = EndsWith text x.1
Left text (Err e) = Unit {0}

pub record Shrinks {A : Type 0} (p : Reader FaultKind A) : Type 0 where
  pub by : (text : List ℕ) → Left text (p text)

pub ok_left : {A : Type 0} {p : Reader FaultKind A} → Shrinks p → (text : List ℕ) (x : A × List ℕ) → p text ≡ Ok x → EndsWith text x.1
ok_left {A} {p} h text x e = subst (λ (r : Result (A × List ℕ) (Stop FaultKind)). Left text r) e (h.by text)

pub ok_small : {A : Type 0} {p : Reader FaultKind A} → Shrinks p → (text : List ℕ) (x : A × List ℕ) → p text ≡ Ok x → length x.1 ≤ length text
ok_small h text x e = let ends = ok_left h text x e in omega (arith, ap length ends.1, length-append ends.0 x.1)

-- # Suffixes of a text

pub all_left : (text : List ℕ) → EndsWith text text
all_left text = ([], refl)

pub more_left : (text mid rest : List ℕ) → EndsWith text mid → EndsWith mid rest → EndsWith text rest
more_left text mid rest h i = (h.0 ++ i.0, h.1 ∙ ap (λ (z : List ℕ). h.0 ++ z) i.1 ∙ sym (append_assoc h.0 i.0 rest))

one_left : (c : ℕ) (cs : List ℕ) → EndsWith (c ∷ cs) cs
one_left c cs = (c ∷ [], refl)

pub left_then : {A B : Type 0} (text : List ℕ) (out : Result (A × List ℕ) (Stop FaultKind)) (f : A × List ℕ → Result (B × List ℕ) (Stop FaultKind)) → Left text out → ((x : A × List ℕ) → EndsWith text x.1 → Left text (f x)) → Left text (out >>= f)
left_then text (Ok x) f h g = g x h
left_then text (Err e) f h g = tt

left_under : {A : Type 0} (text mid : List ℕ) (out : Result (A × List ℕ) (Stop FaultKind)) → EndsWith text mid → Left mid out → Left text out
left_under text mid (Ok x) e h = more_left text mid x.1 e h
left_under text mid (Err s) e h = tt

pub left_cond : {A : Type 0} (text : List ℕ) (b : Bool) (p q : Result (A × List ℕ) (Stop FaultKind)) → Left text p → Left text q → Left text (cond b p q)
left_cond text true p q h i = h
left_cond text false p q h i = i

-- # Readers

left_one : (p : ℕ → Bool) (text : List ℕ) → Left text (read_one_char p text)
left_one p [] = tt
left_one p (c ∷ cs) = left_cond (c ∷ cs) (p c) (Ok (c, cs)) (Err (Syntax (c ∷ cs))) (one_left c cs) tt

pub shrinks_one : (p : ℕ → Bool) → Shrinks (read_one_char p)
shrinks_one p = record { by = left_one p }

left_word : (w text : List ℕ) → Left text (read_word w text)
left_word [] text = all_left text
left_word (c ∷ cs) [] = tt
left_word (c ∷ cs) (d ∷ rest) = left_cond (d ∷ rest) (nat_eq c d) (read_word cs rest) (Err (Syntax (d ∷ rest))) (left_under (d ∷ rest) rest (read_word cs rest) (one_left d rest) (left_word cs rest)) tt

pub shrinks_word : (w : List ℕ) → Shrinks (read_word w)
shrinks_word w = record { by = left_word w }

after_by : (b : Bool) (c : ℕ) (cs left : List ℕ) → EndsWith cs left → EndsWith (c ∷ cs) (cond b left (c ∷ cs))
after_by true c cs left h = more_left (c ∷ cs) cs left (one_left c cs) h
after_by false c cs left h = all_left (c ∷ cs)

left_run : (p : ℕ → Bool) (text : List ℕ) → EndsWith text (drop_while p text)
left_run p [] = all_left []
left_run p (c ∷ cs) = after_by (p c) c cs (drop_while p cs) (left_run p cs)

pub shrinks_run : (p : ℕ → Bool) → Shrinks (read_run p)
shrinks_run p = record { by = left_run p }

left_end : (p : ℕ → Bool) (n : ℕ) (any : Bool) (text : List ℕ) → Left text (number_end p n any text)
left_end p n true text = left_cond text (p n) (Ok (n, text)) (Err (Syntax text)) (all_left text) tt
left_end p n false text = tt

left_digits : (d : Digits) (most : ℕ) (p : ℕ → Bool) (n : ℕ) (any : Bool) (text : List ℕ) → Left text (read_digits d most p n any text)
left_digits d most p n any [] = left_end p n any []
left_digits d most p n any (c ∷ cs) =
    left_cond (c ∷ cs) (d.is_digit c) (cond (nat_le (n * d.base + d.value c) most) (read_digits d most p (n * d.base + d.value c) true cs) (Err (Syntax (c ∷ cs)))) (number_end p n any (c ∷ cs))
    (left_cond (c ∷ cs) (nat_le (n * d.base + d.value c) most) (read_digits d most p (n * d.base + d.value c) true cs) (Err (Syntax (c ∷ cs)))
    (left_under (c ∷ cs) cs (read_digits d most p (n * d.base + d.value c) true cs) (one_left c cs) (left_digits d most p (n * d.base + d.value c) true cs)) tt)
    (left_end p n any (c ∷ cs))

pub shrinks_number : (d : Digits) (most : ℕ) (p : ℕ → Bool) → Shrinks (read_number d most p)
shrinks_number d most p = record { by = λ text. left_digits d most p 0 false text }

pub shrinks_empty : {A : Type 0} (a : A) → Shrinks (read_empty a)
shrinks_empty a = record { by = λ text. all_left text }

pub shrinks_sequence : {A B : Type 0} {p : Reader FaultKind A} {q : A → Reader FaultKind B} → Shrinks p → ((a : A) → Shrinks (q a)) → Shrinks (read_sequence p q)
shrinks_sequence {A} {B} {p} {q} h i = record {
  by = λ text. left_then text (p text) (λ x. q x.0 x.1 >>= λ y. Ok ((x.0, y.0), y.1)) (h.by text)
      (λ x e. left_under text x.1 (q x.0 x.1 >>= λ y. Ok ((x.0, y.0), y.1)) e (left_then x.1 (q x.0 x.1) (λ y. Ok ((x.0, y.0), y.1)) ((i x.0).by x.1) (λ y e. e)));
}

pub shrinks_valued : {A B : Type 0} {p : Reader FaultKind A} (f : A → B) → Shrinks p → Shrinks (read_mapped f p)
shrinks_valued {A} {B} {p} f h = record { by = λ text. left_then text (p text) (λ x. Ok (f x.0, x.1)) (h.by text) (λ x e. e) }

pub shrinks_either : {A : Type 0} {p q : Reader FaultKind A} (test : List ℕ → Bool) → Shrinks p → Shrinks q → Shrinks (read_either test p q)
shrinks_either {A} {p} {q} test h i = record { by = λ text. left_cond text (test text) (p text) (q text) (h.by text) (i.by text) }

left_many : {A : Type 0} (test : List ℕ → Bool) (p : Reader FaultKind A) → Shrinks p → (n : ℕ) (text : List ℕ) → Left text (read_at_most test p n text)
left_many test p h zero text = all_left text
left_many test p h (suc n) text =
    left_cond text (test text) (p text >>= λ x. read_at_most test p n x.1 >>= λ y. Ok (x.0 ∷ y.0, y.1)) (Ok ([], text))
    (left_then text (p text) (λ x. read_at_most test p n x.1 >>= λ y. Ok (x.0 ∷ y.0, y.1)) (h.by text)
    (λ x e. left_under text x.1 (read_at_most test p n x.1 >>= λ y. Ok (x.0 ∷ y.0, y.1)) e (left_then x.1 (read_at_most test p n x.1) (λ y. Ok (x.0 ∷ y.0, y.1)) (left_many test p h n x.1) (λ y e. e))))
    (all_left text)

pub shrinks_many : {A : Type 0} {p : Reader FaultKind A} (test : List ℕ → Bool) → Shrinks p → Shrinks (read_many test p)
shrinks_many {A} {p} test h = record { by = λ text. left_many test p h (length (encode_utf8_all text)) text }
