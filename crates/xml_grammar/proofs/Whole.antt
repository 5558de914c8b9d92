-- The theorem: the result of a whole text by a reader that is exact before the end of the text is
-- what the rule says of it.
use Rattle.std.proofs.Common.{◌≡◌, ℕ, ◌+◌, ◌<◌, ◌≤◌, true, false, List, [], ◌∷◌, ◌++◌, length, Result, Ok, Err, ◌⊎◌, inl, inr, ⊎_elim, refl, sym, ap, subst, ◌∙◌, append_assoc, arith}
use Rattle.std.proofs.lemmas.List.{length-append, append-nil}
use Rattle.xml_grammar.specs.Rules.{Event, Begin, Mark, Rule, BeginsOnly}
use Rattle.xml_grammar.specs.TextReading.{Stop, Syntax, Faulty, Reader, ◌>>=◌}
use Rattle.xml_grammar.specs.readers.RuleReaders.{require_end, read_whole_text}
use Rattle.xml_grammar.specs.ParseResults.{FaultRanking, IsMarkedAt, HasNoFault, IsParsedAs, IsSyntaxErrorAt, IsFirstFault, IsParseResult}
use Rattle.xml_grammar.proofs.Exact.{Rest, IsRead, IsStopped, IsAtFault, Outcome, Exact}
use Rattle.xml_grammar.proofs.Heads.{Heads}
use Rattle.xml_grammar.proofs.Laws.{Lawful, Inside}

module _ {Kind : Type 0} where
  -- Nothing follows.
  abbrev pub ends : Rest Kind
  ends = record { Meets = BeginsOnly (λ v. v ≡ []); Whole = λ v. v ≡ [] }

  pub heads_ends : {P : ℕ → Type 0} → Heads P ends
  heads_ends {P} = record { meets = by_event; whole = λ c x h. absurd cc; none = λ k b m. absurd m }
    where
      by_event : (e : Event Kind) (c : ℕ) (x : List ℕ) → ends.Meets e (c ∷ x) → P c
      by_event Begin c x h = absurd cc
      by_event (Mark k b) c x h = elim h [ ]

  pub inside_ends : Inside ends
  inside_ends = record { within = λ k b v m. absurd m }

-- prefixes of one text with equal lengths are equal
same_front : (u x v y : List ℕ) → u ++ x ≡ v ++ y → length u ≡ length v → (u ≡ v) × (x ≡ y)
same_front [] x [] y j n = (refl, j)
same_front [] x (d ∷ v) y j n = absurd (omega arith)
same_front (c ∷ u) x [] y j n = absurd (omega arith)
same_front (c ∷ u) x (d ∷ v) y j n =
    let tail : u ++ x ≡ v ++ y = cc in
    let o = same_front u x v y tail (omega arith) in
    (let e = o.0 in cc, o.1)

module _ {Kind A : Type 0} (faults : FaultRanking Kind) (r : Rule Kind A) (lawful : Lawful r) (text : List ℕ) where
  -- a marked fault is an event of the rule
  said_at : (kind : Kind) (left : List ℕ) → (s : IsMarkedAt r text kind left) → text ≡ (s.before ++ s.seen) ++ s.unseen
  said_at kind left s = s.joined ∙ ap (λ (z : List ℕ). s.before ++ z) s.left_is ∙ sym (append_assoc s.before s.seen s.unseen)

  module _ (a : A) (left : List ℕ) (h : IsRead faults r (λ _. ends) text a left) where
    calm_read : HasNoFault faults r text
    calm_read kind place t s = ⊎_elim
        (λ p. absurd cc)
        (λ l. absurd l.2)
        (h.settled (Mark kind (length s.seen)) (s.before ++ s.seen) s.unseen (said_at kind place s) (inl s.met))

    longest_read : (v w : List ℕ) → text ≡ v ++ w → r.Meets Begin v → length v ≤ length h.used
    longest_read v w j m = ⊎_elim
        (λ p. p)
        (λ l. omega (arith, ap length l.1, length-append h.used l.0, ap length l.2))
        (h.settled Begin v w j (inl m))

    all_read : left ≡ [] → IsParsedAs faults r text a
    all_read e =
        let whole : h.used ≡ text = sym (h.joined ∙ ap (λ (z : List ℕ). h.used ++ z) e ∙ append-nil h.used) in
        record {
          spelled = subst (λ (z : List ℕ). r.Spells z a) whole h.spelled;
          unique = λ b s. (h.unique text [] b (sym (append-nil text)) s refl).1;
          calm = calm_read;
        }

    more_left : (c : ℕ) (cs : List ℕ) → left ≡ c ∷ cs → IsSyntaxErrorAt faults r text left
    more_left c cs e = record {
      beginning = h.used;
      joined = h.joined;
      begun = lawful.whole h.used a h.spelled;
      longest = longest_read;
      nothing = λ b s.
          let o = h.unique text [] b (sym (append-nil text)) s refl in
          absurd (omega (arith, ap length o.0, ap length h.joined, length-append h.used left, ap length e));
      calm = calm_read;
    }

  stopped_breaks : (left : List ℕ) → IsStopped faults r (λ _. ends) text left → IsSyntaxErrorAt faults r text left
  stopped_breaks left h = record {
    beginning = h.used;
    joined = h.joined;
    begun = h.begun;
    longest = λ v w j m. h.settled Begin v w j (inl m);
    nothing = λ b s. h.none text [] b (sym (append-nil text)) s refl;
    calm = λ kind place t s. let f : faults.is_fault kind ≡ false = h.settled (Mark kind (length s.seen)) (s.before ++ s.seen) s.unseen (said_at kind place s) (inl s.met) in absurd cc;
  }

  fault_first : (kind : Kind) (left : List ℕ) → IsAtFault faults r (λ _. ends) text kind left → IsFirstFault faults r text kind left
  fault_first kind left h = record {
    said = record { before = h.used; seen = h.seen; unseen = h.unseen; joined = h.joined; left_is = h.left_is; met = h.met };
    is_fault = h.is_fault;
    first = λ other place t s. by_place other place s (h.settled (Mark other (length s.seen)) (s.before ++ s.seen) s.unseen (said_at other place s) (inl s.met) t);
    beyond =
        let g = lawful.beyond kind (length h.seen) (h.used ++ h.seen) h.met in
        let j : text ≡ g.front ++ (g.rest ++ h.unseen) = h.joined ∙ ap (λ (z : List ℕ). h.used ++ z) h.left_is ∙ sym (append_assoc h.used h.seen h.unseen) ∙ ap (λ (z : List ℕ). z ++ h.unseen) g.joined ∙ append_assoc g.front g.rest h.unseen in (
          g.front,
          g.rest ++ h.unseen,
          j,
          g.begun,
          omega (arith, g.beyond, ap length g.joined, ap length h.left_is, length-append h.used h.seen, length-append h.seen h.unseen, length-append g.rest h.unseen, length-append g.front g.rest),
        );
  }
    where
      by_place : (other : Kind) (place : List ℕ) → (s : IsMarkedAt r text other place) → (length h.used + length s.seen < length (s.before ++ s.seen)) ⊎ ((length h.used + length s.seen ≡ length (s.before ++ s.seen)) × (faults.rank kind ≤ faults.rank other)) → (length place < length left) ⊎ ((place ≡ left) × (faults.rank kind ≤ faults.rank other))
      by_place other place s (inl lt) = inl (omega (arith, lt, length-append s.before s.seen, ap length h.joined, ap length s.joined, length-append h.used left, length-append s.before place))
      by_place other place s (inr e) =
          let n : length s.before ≡ length h.used = omega (arith, e.0, length-append s.before s.seen) in
          inr ((same_front s.before place h.used left (sym s.joined ∙ h.joined) n).1, e.1)

  all_of_answers : (a : A) (left : List ℕ) → IsRead faults r (λ _. ends) text a left → IsParseResult faults r text (require_end a left)
  all_of_answers a [] h = all_read a [] h refl
  all_of_answers a (c ∷ cs) h = more_left a (c ∷ cs) h c cs refl

  outcome_answers : (out : Result (A × List ℕ) (Stop Kind)) → Outcome faults r (λ _. ends) text out → IsParseResult faults r text (out >>= λ x. require_end x.0 x.1)
  outcome_answers (Ok x) h = all_of_answers x.0 x.1 h
  outcome_answers (Err (Syntax left)) h = stopped_breaks left h
  outcome_answers (Err (Faulty kind left)) h = fault_first kind left h

module _ {Kind : Type 0} {faults : FaultRanking Kind} where
  -- A whole text is read exactly.
  pub answers_whole : {A : Type 0} {r : Rule Kind A} {p : Reader Kind A} → Lawful r → Exact faults r (λ _. ends) p → (text : List ℕ) → IsParseResult faults r text (read_whole_text p text)
  answers_whole {A} {r} {p} lawful exact text = outcome_answers faults r lawful text (p text) (exact.by text)

-- # Equal views of answers

module _ {Kind A : Type 0} (faults : FaultRanking Kind) (r : Rule Kind A) (text : List ℕ) where
  -- two longest beginnings are equal
  one_break : (left other : List ℕ) → IsSyntaxErrorAt faults r text left → IsSyntaxErrorAt faults r text other → left ≡ other
  one_break left other h i = (same_front h.beginning left i.beginning other (sym h.joined ∙ i.joined) (omega (arith, h.longest i.beginning other i.joined i.begun, i.longest h.beginning left h.joined h.begun))).1

  -- two first faults have the same place, and neither has the lesser rank
  one_fault : (kind other : Kind) (left place : List ℕ) → IsFirstFault faults r text kind left → IsFirstFault faults r text other place → (left ≡ place) × (faults.rank kind ≡ faults.rank other)
  one_fault kind other left place h i = by_order (h.first other place i.is_fault i.said) (i.first kind left h.is_fault h.said)
    where
      by_order : (length place < length left) ⊎ ((place ≡ left) × (faults.rank kind ≤ faults.rank other)) → (length left < length place) ⊎ ((left ≡ place) × (faults.rank other ≤ faults.rank kind)) → (left ≡ place) × (faults.rank kind ≡ faults.rank other)
      by_order (inl a) (inl b) = absurd (omega arith)
      by_order (inl a) (inr b) = absurd (omega (arith, a, ap length b.0))
      by_order (inr a) (inl b) = absurd (omega (arith, b, ap length a.0))
      by_order (inr a) (inr b) = (b.0, omega (arith, a.1, b.1))

  -- For every view of answers: where it makes no difference between faults of one rank, it makes
  -- none between answers to a text.
  module _ {B : Type 0} (told : Result A (Stop Kind) → B) (alike : (kind other : Kind) (left : List ℕ) → faults.is_fault kind ≡ true → faults.is_fault other ≡ true → faults.rank kind ≡ faults.rank other → told (Err (Faulty kind left)) ≡ told (Err (Faulty other left))) where
    pub told_alike : (x y : Result A (Stop Kind)) → IsParseResult faults r text x → IsParseResult faults r text y → told x ≡ told y
    told_alike (Ok a) (Ok b) h i = ap (λ (z : A). told (Ok z)) (sym (h.unique b i.spelled))
    told_alike (Ok a) (Err (Syntax left)) h i = absurd (i.nothing a h.spelled)
    told_alike (Ok a) (Err (Faulty kind left)) h i = absurd (h.calm kind left i.is_fault i.said)
    told_alike (Err (Syntax left)) (Ok b) h i = absurd (h.nothing b i.spelled)
    told_alike (Err (Syntax left)) (Err (Syntax other)) h i = ap (λ (z : List ℕ). told (Err (Syntax z))) (one_break left other h i)
    told_alike (Err (Syntax left)) (Err (Faulty kind place)) h i = absurd (h.calm kind place i.is_fault i.said)
    told_alike (Err (Faulty kind left)) (Ok b) h i = absurd (i.calm kind left h.is_fault h.said)
    told_alike (Err (Faulty kind left)) (Err (Syntax place)) h i = absurd (i.calm kind left h.is_fault h.said)
    told_alike (Err (Faulty kind left)) (Err (Faulty other place)) h i =
        let o = one_fault kind other left place h i in
        alike kind other left h.is_fault i.is_fault o.1 ∙ ap (λ (z : List ℕ). told (Err (Faulty other z))) o.0
