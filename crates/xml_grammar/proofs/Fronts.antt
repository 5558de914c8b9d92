-- Prefixes of one text, and words in them.
use Rattle.std.proofs.Common.{◌≡◌, ℕ, ◌+◌, ◌<◌, Bool, true, false, cond, List, [], ◌∷◌, ◌++◌, length, drop, ◌⊎◌, inl, inr, ⊎_elim, refl, sym, ap, ◌∙◌, append_assoc, arith, eqb}
use Rattle.std.proofs.lemmas.Bool.{eqb-true, eq-eqb}
use Rattle.std.proofs.lemmas.List.{length-append, nil_from_length}
use Rattle.xml_grammar.specs.Rules.{AllPass, LacksWord, OccursOnlyAtEnd}
use Rattle.xml_grammar.specs.TextReading.{starts_with_word}
use Rattle.xml_grammar.specs.readers.RuleReaders.{all_but_last}

-- of two prefixes of one text, the longer continues the other
pub record GoesOn (v u t : List ℕ) : Type 0 where
  pub c : ℕ
  pub rest : List ℕ
  pub front : v ≡ u ++ (c ∷ rest)
  pub next : (more : List ℕ) × (t ≡ c ∷ more)

pub compare : (v x u t : List ℕ) → v ++ x ≡ u ++ t → ((y : List ℕ) × (u ≡ v ++ y)) ⊎ GoesOn v u t
compare [] x u t e = inl (u, refl)
compare (c ∷ v) x [] t e = inr (record { c = c; rest = v; front = refl; next = (v ++ x, sym e) })
compare (c ∷ v) x (d ∷ u) t e = ⊎_elim
    (λ h. inl (h.0, let k = h.1 in cc))
    (λ h. inr (record { c = h.c; rest = h.rest; front = (let k = h.front in cc); next = h.next }))
    (compare v x u t (cc))

-- # Classes

pub pass_front : (p : ℕ → Bool) (u v : List ℕ) → AllPass p (u ++ v) → AllPass p u
pass_front p [] v h = tt
pass_front p (c ∷ u) v h = (h.0, pass_front p u v h.1)

pub pass_back : (p : ℕ → Bool) (u v : List ℕ) → AllPass p (u ++ v) → AllPass p v
pass_back p [] v h = h
pass_back p (c ∷ u) v h = pass_back p u v h.1

pub pass_append : (p : ℕ → Bool) (u v : List ℕ) → AllPass p u → AllPass p v → AllPass p (u ++ v)
pass_append p [] v h k = k
pass_append p (c ∷ u) v h k = (h.0, pass_append p u v h.1 k)

-- # Words

pub starts_is : (w text : List ℕ) → starts_with_word w text ≡ true → text ≡ w ++ drop (length w) text
starts_is [] text h = refl
starts_is (c ∷ cs) [] h = absurd cc
starts_is (c ∷ cs) (d ∷ text) h = by_head (eqb c d) refl h (λ k. starts_is cs text k)
  where
    by_head : (b : Bool) → eqb c d ≡ b → cond b (starts_with_word cs text) false ≡ true → (starts_with_word cs text ≡ true → text ≡ cs ++ drop (length cs) text) → d ∷ text ≡ (c ∷ cs) ++ drop (length (c ∷ cs)) (d ∷ text)
    by_head true e k f = ap (λ (z : ℕ). z ∷ text) (sym (eqb-true c d e)) ∙ ap (λ (z : List ℕ). c ∷ z) (f k)
    by_head false e k f = absurd cc

pub starts_append : (w t : List ℕ) → starts_with_word w (w ++ t) ≡ true
starts_append [] t = refl
starts_append (c ∷ cs) t = rw (eq-eqb c c refl) (starts_append cs t)

pub starts_at : {text : List ℕ} (w t : List ℕ) → text ≡ w ++ t → starts_with_word w text ≡ true
starts_at {text} w t j = ap (starts_with_word w) j ∙ starts_append w t

-- a text that doesn't begin with the word
pub no_start : {text : List ℕ} (w t : List ℕ) → starts_with_word w text ≡ false → text ≡ w ++ t → ⊥
no_start {text} w t h j = let k = starts_at w t j in absurd cc

pub lacks_front : (w u v : List ℕ) → LacksWord w (u ++ v) → LacksWord w u
lacks_front w u v h x t e = h x (t ++ v) (ap (λ (z : List ℕ). z ++ v) e ∙ append_assoc x (w ++ t) v ∙ ap (λ (z : List ℕ). x ++ z) (append_assoc w t v))

pub last_front : (w u v : List ℕ) → OccursOnlyAtEnd w (u ++ v) → OccursOnlyAtEnd w u
last_front w u v h x t e =
    let n : t ++ v ≡ [] = h x (t ++ v) (ap (λ (z : List ℕ). z ++ v) e ∙ append_assoc x (w ++ t) v ∙ ap (λ (z : List ℕ). x ++ z) (append_assoc w t v)) in
    nil_from_length t (omega (arith, ap length n, length-append t v))

-- the word doesn't occur in a shorter text
pub lacks_short : (w v : List ℕ) → length v < length w → LacksWord w v
lacks_short w v lt u t e = omega (arith, ap length e, length-append u (w ++ t), length-append w t)

pub last_word : (w : List ℕ) → OccursOnlyAtEnd w w
last_word w u t e = nil_from_length t (omega (arith, ap length e, length-append u (w ++ t), length-append w t))

-- where the text doesn't begin with the word, a prefix of it contains the word only where it
-- contains it after its first character
pub lacks_step : (w : List ℕ) (c : ℕ) (v t : List ℕ) → starts_with_word w (c ∷ (v ++ t)) ≡ false → LacksWord w v → LacksWord w (c ∷ v)
lacks_step w c v t s o [] x e = absurd (no_start w (x ++ t) s (ap (λ (z : List ℕ). z ++ t) e ∙ append_assoc w x t))
lacks_step w c v t s o (y ∷ u) x e = o u x (cc)

pub last_step : (w : List ℕ) (c : ℕ) (v t : List ℕ) → starts_with_word w (c ∷ (v ++ t)) ≡ false → OccursOnlyAtEnd w v → OccursOnlyAtEnd w (c ∷ v)
last_step w c v t s o [] x e = absurd (no_start w (x ++ t) s (ap (λ (z : List ℕ). z ++ t) e ∙ append_assoc w x t))
last_step w c v t s o (y ∷ u) x e = o u x (cc)

-- a word and its last character
pub record Ended (w : List ℕ) : Type 0 where
  pub last : ℕ
  pub joined : w ≡ all_but_last w ++ (last ∷ [])
  pub shorter : length (all_but_last w) + 1 ≡ length w

pub ended : (w : List ℕ) → 0 < length w → Ended w
ended [] h = absurd (omega arith)
ended (c ∷ []) h = record { last = c; joined = refl; shorter = refl }
ended (c ∷ d ∷ w) h =
    let k = ended (d ∷ w) (omega arith) in
    record { last = k.last; joined = ap (λ (z : List ℕ). c ∷ z) k.joined; shorter = omega (arith, k.shorter) }
