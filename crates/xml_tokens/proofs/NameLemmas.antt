-- Names as written, with a prefix or without.
use Rattle.std.proofs.Common.{◌≡◌, ℕ, ◌+◌, ◌<◌, ◌≤◌, Bool, true, false, cond, List, [], ◌∷◌, ◌++◌, length, Result, Err, refl, ap, ◌∙◌, arith}
use Rattle.std.specs.Prelude.{nat_eq}
use Rattle.std.proofs.lemmas.List.{length-append}
use Rattle.xml_grammar.specs.TextReading.{Stop, Syntax, ◌>>=◌, read_word}
use Rattle.xml_tokens.specs.declared.fault_kind.FaultKind.{FaultKind}
use Rattle.xml_tokens.specs.Values.{qname_text_of}

-- with a prefix: the prefix, a colon and the local part
pub prefixed : (p l : List ℕ) → 0 < length p → qname_text_of p l ≡ p ++ (58 ∷ l)
prefixed [] l h = absurd (omega arith)
prefixed (c ∷ cs) l h = refl

pub prefixed_size : (p l : List ℕ) → 0 < length p → length (qname_text_of p l) ≡ length p + 1 + length l
prefixed_size [] l h = absurd (omega arith)
prefixed_size (c ∷ cs) l h = omega (arith, length-append cs (58 ∷ l))

pub bare_size : (p l : List ℕ) → length p ≡ 0 → length (qname_text_of p l) ≡ length l
bare_size [] l h = refl
bare_size (c ∷ cs) l h = absurd (omega (arith, h))

-- its parts are no longer than the name
pub parts_size : (p l : List ℕ) → length p + length l ≤ length (qname_text_of p l)
parts_size [] l = omega arith
parts_size (c ∷ cs) l = omega (arith, prefixed_size (c ∷ cs) l (omega arith))

-- a word in two parts
cond_then : (b : Bool) (p : Result (Unit {0} × List ℕ) (Stop FaultKind)) (e : Stop FaultKind) (f : Unit {0} × List ℕ → Result (Unit {0} × List ℕ) (Stop FaultKind)) → cond b (p >>= f) (Err e) ≡ cond b p (Err e) >>= f
cond_then true p e f = refl
cond_then false p e f = refl

pub word_then : (a b text : List ℕ) → read_word {Kind = FaultKind} (a ++ b) text ≡ read_word a text >>= λ x. read_word b x.1
word_then [] b text = refl
word_then (c ∷ cs) b [] = refl
word_then (c ∷ cs) b (d ∷ rest) =
    ap (λ (r : Result (Unit {0} × List ℕ) (Stop FaultKind)). cond (nat_eq c d) r (Err (Syntax (d ∷ rest)))) (word_then cs b rest)
    ∙ cond_then (nat_eq c d) (read_word cs rest) (Syntax (d ∷ rest)) (λ x. read_word b x.1)
