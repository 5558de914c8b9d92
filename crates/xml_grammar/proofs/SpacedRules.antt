-- Rules after white space, such as attributes after a name: whether one more comes shows after
-- the white space.
use Rattle.std.proofs.Common.{◌≡◌, ℕ, ◌<◌, Bool, true, false, List, [], ◌∷◌, ◌++◌, length, ◌⊎◌, inl, inr, ⊎_elim, refl, sym, ap, subst, ◌∙◌, arith}
use Rattle.std.specs.Prelude.{◌&&◌, Option, Some, None}
use Rattle.std.proofs.lemmas.List.{length-append, append-nil}
use Rattle.xml_grammar.specs.Rules.{Event, Begin, Mark, Rule, AllPass, empty_text, char_run, sequence, many, map_rule, optional, one_or_more, keep_second}
use Rattle.xml_grammar.specs.TextReading.{Reader, first_char_is, drop_while}
use Rattle.xml_grammar.specs.readers.RuleReaders.{space_then, read_many, read_optional}
use Rattle.xml_grammar.specs.ParseResults.{FaultRanking}
use Rattle.xml_grammar.proofs.Exact.{Rest, ahead, regroup, sequence_meets, sequence_whole, Exact}
use Rattle.xml_grammar.proofs.Carry.{Idle, Covers, valued_meets, valued_whole, either_meets, either_whole}
use Rattle.xml_grammar.proofs.Fronts.{pass_append}
use Rattle.xml_grammar.proofs.Heads.{Heads, Follows, Starts}
use Rattle.xml_grammar.proofs.Repeats.{more, exact_many}
use Rattle.xml_grammar.proofs.Shapes.{into_sequence, into_valued, exact_optional}

module _ (space : ℕ → Bool) where
  -- The text continues after white space with such a character.
  pub record Behind (P : ℕ → Type 0) (v : List ℕ) : Type 0 where
    pub spaces : List ℕ
    pub next : ℕ
    pub rest : List ℕ
    pub joined : v ≡ spaces ++ (next ∷ rest)
    pub pass : AllPass space spaces
    pub no_space : space next ≡ false
    pub is : P next

  behind_more : (P : ℕ → Type 0) (v u x : List ℕ) → v ≡ u ++ x → Behind P u → Behind P v
  behind_more P v u x j h = record { spaces = h.spaces; next = h.next; rest = h.rest ++ x; joined = regroup x h.spaces (h.next ∷ h.rest) j h.joined; pass = h.pass; no_space = h.no_space; is = h.is }

  behind_weaker : (P Q : ℕ → Type 0) (v : List ℕ) → ((c : ℕ) → P c → Q c) → Behind P v → Behind Q v
  behind_weaker P Q v f h = record { spaces = h.spaces; next = h.next; rest = h.rest; joined = h.joined; pass = h.pass; no_space = h.no_space; is = f h.next h.is }

  -- what follows the white space of a text
  after_pass : (u t : List ℕ) → AllPass space u → drop_while space (u ++ t) ≡ drop_while space t
  after_pass [] t h = refl
  after_pass (c ∷ u) t h = rw h.0 (after_pass u t h.1)

  after_stop : (c : ℕ) (t : List ℕ) → space c ≡ false → drop_while space (c ∷ t) ≡ c ∷ t
  after_stop c t h = rw h refl

  after_is : (P : ℕ → Type 0) (text v w : List ℕ) → text ≡ v ++ w → (h : Behind P v) → drop_while space text ≡ h.next ∷ (h.rest ++ w)
  after_is P text v w j h = ap (drop_while space) (regroup w h.spaces (h.next ∷ h.rest) j h.joined) ∙ after_pass h.spaces (h.next ∷ (h.rest ++ w)) h.pass ∙ after_stop h.next (h.rest ++ w) h.no_space

both_true : (a b : Bool) → a && b ≡ true → b ≡ true
both_true true b h = h
both_true false b h = absurd cc

both_false : (a b : Bool) → a && b ≡ false → a ≡ true → b ≡ false
both_false true b h e = h
both_false false b h e = absurd cc

module _ {Kind : Type 0} (space : ℕ → Bool) where
  -- an event that is white space, or continues it
  abbrev pub SpacedBy : (ℕ → Type 0) → Event Kind → List ℕ → Type 0
  SpacedBy P e v = ((e ≡ Begin) × AllPass space v) ⊎ Behind space P v

  -- What follows begins with white space, and after it comes such a character.
  pub record Spaced (P : ℕ → Type 0) (J : Rest Kind) : Type 0 where
    pub begins : (v : List ℕ) → AllPass space v → J.Meets Begin v
    pub meets : (e : Event Kind) (v : List ℕ) → J.Meets e v → SpacedBy P e v
    pub whole : (v : List ℕ) → J.Whole v → Behind space P v

  -- The rule begins with white space, and after it comes such a character.
  pub record Leads {A : Type 0} (P : ℕ → Type 0) (r : Rule Kind A) : Type 0 where
    pub begins : (v : List ℕ) → AllPass space v → r.Meets Begin v
    pub meets : (e : Event Kind) (v : List ℕ) → r.Meets e v → SpacedBy P e v
    pub spells : (v : List ℕ) (a : A) → r.Spells v a → Behind space P v
    pub first : (c : ℕ) (x : List ℕ) (e : Event Kind) → r.Meets e (c ∷ x) → space c ≡ true
    pub first_spelled : (c : ℕ) (x : List ℕ) (a : A) → r.Spells (c ∷ x) a → space c ≡ true

  -- The rule is white space.
  pub record Blank {A : Type 0} (r : Rule Kind A) : Type 0 where
    pub begins : (v : List ℕ) → AllPass space v → r.Meets Begin v
    pub meets : (e : Event Kind) (v : List ℕ) → r.Meets e v → (e ≡ Begin) × AllPass space v
    pub spells : (v : List ℕ) (a : A) → r.Spells v a → (0 < length v) × AllPass space v

module _ {Kind : Type 0} (space : ℕ → Bool) where
  pub blank_some_of : Blank {Kind = Kind} space (one_or_more space)
  blank_some_of = record {
    begins = some_begins;
    meets = some_meets;
    spells = λ v a m. let s = m.1 in (omega (arith, ap length s.joined, length-append s.front s.back, ap length s.front_is.1), subst (AllPass space) (sym s.joined) (pass_append space s.front s.back (subst (AllPass space) (sym s.front_is.1) (s.front_is.0, tt)) s.back_is.0));
  }
    where
      some_begins : (v : List ℕ) → AllPass space v → (one_or_more {Kind = Kind} space).Meets Begin v
      some_begins [] h = inl (inl refl)
      some_begins (c ∷ v) h = inr (c, record { front = c ∷ []; back = v; joined = refl; front_is = (h.0, refl); back_is = h.1 })

      some_meets : (e : Event Kind) (v : List ℕ) → (one_or_more {Kind = Kind} space).Meets e v → (e ≡ Begin) × AllPass space v
      some_meets Begin v (inl (inl m)) = (refl, subst (AllPass space) (sym m) tt)
      some_meets Begin v (inl (inr m)) = (refl, subst (AllPass space) (sym m.2) (m.1, tt))
      some_meets (Mark k b) v (inl m) = elim m [ ]
      some_meets Begin v (inr m) = (refl, subst (AllPass space) (sym m.1.joined) (pass_append space m.1.front m.1.back (subst (AllPass space) (sym m.1.front_is.1) (m.1.front_is.0, tt)) m.1.back_is))
      some_meets (Mark k b) v (inr m) = absurd m.1.back_is

  pub leads_valued : {A B : Type 0} {P : ℕ → Type 0} {r : Rule Kind A} (f : A → B) → Leads space P r → Leads space P (map_rule f r)
  leads_valued f h = record { begins = h.begins; meets = h.meets; spells = λ v a m. h.spells v m.0 m.1; first = h.first; first_spelled = λ c x a m. h.first_spelled c x m.0 m.1 }

  -- white space, and a rule that begins with such a character
  pub leads_sequence : {A B : Type 0} {P : ℕ → Type 0} {r : Rule Kind A} {s : Rule Kind B} → ((c : ℕ) → P c → space c ≡ false) → Blank space r → Starts P s → Leads space P (sequence r (λ _. s))
  leads_sequence {A} {B} {P} {r} {s} apart h i = record {
    begins = λ v m. inl (h.begins v m);
    meets = λ e v m. ⊎_elim (λ l. inl (h.meets e v l)) (λ l. by_back e v l.1.front l.1.back l.1.joined (h.spells l.1.front l.0 l.1.front_is).1 l.1.back_is) m;
    spells = λ v a m. spelled v m.front m.back a.1 m.joined (h.spells m.front a.0 m.front_is).1 m.back_is;
    first = λ c x e m. ⊎_elim (λ l. (h.meets e (c ∷ x) l).1.0) (λ l. let n = h.spells l.1.front l.0 l.1.front_is in head_space c x l.1.front l.1.back l.1.joined n.0 n.1) m;
    first_spelled = λ c x a m. let n = h.spells m.front a.0 m.front_is in head_space c x m.front m.back m.joined n.0 n.1;
  }
    where
      by_back : (e : Event Kind) (v front back : List ℕ) → v ≡ front ++ back → AllPass space front → s.Meets e back → SpacedBy space P e v
      by_back Begin v front [] j a m = inl (refl, subst (AllPass space) (sym (j ∙ append-nil front)) a)
      by_back (Mark k b) v front [] j a m = absurd (i.none k b m)
      by_back e v front (c ∷ x) j a m = let is = i.meets e c x m in inr (record { spaces = front; next = c; rest = x; joined = j; pass = a; no_space = apart c is; is = is })

      spelled : (v front back : List ℕ) (b : B) → v ≡ front ++ back → AllPass space front → s.Spells back b → Behind space P v
      spelled v front [] b j a m = absurd (i.some b m)
      spelled v front (c ∷ x) b j a m = let is = i.spells c x b m in record { spaces = front; next = c; rest = x; joined = j; pass = a; no_space = apart c is; is = is }

      head_space : (c : ℕ) (x front back : List ℕ) → c ∷ x ≡ front ++ back → 0 < length front → AllPass space front → space c ≡ true
      head_space c x [] back j lt a = absurd (omega arith)
      head_space c x (d ∷ front) back j lt a = let same : c ≡ d = cc in ap space same ∙ a.0

  pub leads_behind : {A B : Type 0} {P : ℕ → Type 0} {r : Rule Kind A} {s : Rule Kind B} → ((c : ℕ) → P c → space c ≡ false) → Blank space r → Starts P s → Leads space P (keep_second r s)
  leads_behind apart h i = leads_valued (λ x. x.1) (leads_sequence apart h i)

  -- # What follows

  -- optional white space, and a continuation that begins with such a character
  pub spaced_run : {P : ℕ → Type 0} {L : Rest Kind} → ((c : ℕ) → P c → space c ≡ false) → Heads P L → Follows L → Spaced space P (ahead (char_run space) (λ _. L))
  spaced_run {P} {L} apart heads follows = record {
    begins = λ v m. inl m;
    meets = run_meets;
    whole = λ v m. by_whole v m.1.front m.1.back m.1.joined m.1.front_is.0 m.1.back_is;
  }
    where
      by_back : (e : Event Kind) (v front back : List ℕ) → v ≡ front ++ back → AllPass space front → L.Meets e back → SpacedBy space P e v
      by_back Begin v front [] j a m = inl (refl, subst (AllPass space) (sym (j ∙ append-nil front)) a)
      by_back (Mark k b) v front [] j a m = absurd (heads.none k b m)
      by_back e v front (c ∷ x) j a m = let is = heads.meets e c x m in inr (record { spaces = front; next = c; rest = x; joined = j; pass = a; no_space = apart c is; is = is })

      by_whole : (v front back : List ℕ) → v ≡ front ++ back → AllPass space front → L.Whole back → Behind space P v
      by_whole v front [] j a m = absurd (follows.whole m)
      by_whole v front (c ∷ x) j a m = let is = heads.whole c x m in record { spaces = front; next = c; rest = x; joined = j; pass = a; no_space = apart c is; is = is }

      run_meets : (e : Event Kind) (v : List ℕ) → (ahead (char_run space) (λ _. L)).Meets e v → SpacedBy space P e v
      run_meets Begin v (inl m) = inl (refl, m)
      run_meets (Mark k b) v (inl m) = elim m [ ]
      run_meets e v (inr m) = by_back e v m.1.front m.1.back m.1.joined m.1.front_is.0 m.1.back_is

  -- a rule after white space, whatever follows it
  pub spaced_leads : {A : Type 0} {P : ℕ → Type 0} {r : Rule Kind A} {K : A → Rest Kind} → Leads space P r → Spaced space P (ahead r K)
  spaced_leads {A} {P} {r} {K} h = record {
    begins = λ v m. inl (h.begins v m);
    meets = λ e v m. ⊎_elim (λ l. h.meets e v l) (λ l. inr (behind_more space P v l.1.front l.1.back l.1.joined (h.spells l.1.front l.0 l.1.front_is))) m;
    whole = λ v m. behind_more space P v m.1.front m.1.back m.1.joined (h.spells m.1.front m.0 m.1.front_is);
  }

  pub leads_weaker : {A : Type 0} {P Q : ℕ → Type 0} {r : Rule Kind A} → ((c : ℕ) → P c → Q c) → Leads space P r → Leads space Q r
  leads_weaker {A} {P} {Q} {r} f h = record {
    begins = h.begins;
    meets = λ e v m. ⊎_elim (λ l. inl l) (λ l. inr (behind_weaker space P Q v f l)) (h.meets e v m);
    spells = λ v a m. behind_weaker space P Q v f (h.spells v a m);
    first = h.first;
    first_spelled = h.first_spelled;
  }

  pub spaced_sequence : {A B : Type 0} {P : ℕ → Type 0} {r : Rule Kind A} {s : A → Rule Kind B} {K : A × B → Rest Kind} → Spaced space P (ahead r (λ a. ahead (s a) (λ b. K (a, b)))) → Spaced space P (ahead (sequence r s) K)
  spaced_sequence {A} {B} {P} {r} {s} {K} h = record {
    begins = λ v m. into_sequence r s K Begin v (h.begins v m);
    meets = λ e v m. h.meets e v (sequence_meets r s K e v m);
    whole = λ v m. h.whole v (sequence_whole r s K v m);
  }

  pub spaced_valued : {A B : Type 0} {P : ℕ → Type 0} {r : Rule Kind A} {K : B → Rest Kind} (f : A → B) → Spaced space P (ahead r (λ a. K (f a))) → Spaced space P (ahead (map_rule f r) K)
  spaced_valued {A} {B} {P} {r} {K} f h = record {
    begins = λ v m. into_valued f r K Begin v (h.begins v m);
    meets = λ e v m. h.meets e v (valued_meets f r K e v m);
    whole = λ v m. h.whole v (valued_whole f r K v m);
  }

  pub spaced_behind : {A B : Type 0} {P : ℕ → Type 0} {r : Rule Kind A} {s : Rule Kind B} {K : B → Rest Kind} → Spaced space P (ahead r (λ _. ahead s K)) → Spaced space P (ahead (keep_second r s) K)
  spaced_behind {A} {B} {P} {r} {s} {K} h = spaced_valued (λ x. x.1) (spaced_sequence {s = λ _. s} {K = λ x. K x.1} h)

  -- a rule after optional white space
  pub spaced_optional : {A : Type 0} {P : ℕ → Type 0} {r : Rule Kind A} {K : Rest Kind} → Leads space P r → Spaced space P K → Spaced space P (ahead (optional r) (λ _. K))
  spaced_optional {A} {P} {r} {K} h i =
      let g : Spaced space P (ahead (map_rule Some r) (λ _. K)) = spaced_leads (leads_valued Some h) in
      record {
        begins = λ v m. inl (inl (h.begins v m));
        meets = λ e v m. ⊎_elim (λ l. g.meets e v l) (λ l. by_empty e v l) (either_meets (map_rule Some r) (empty_text None) (λ _. K) e v m);
        whole = λ v m. ⊎_elim (λ l. g.whole v l) (λ l. i.whole v (empty_whole None (λ _. K) v l)) (either_whole (map_rule Some r) (empty_text None) (λ _. K) v m);
      }
    where
      by_empty : (e : Event Kind) (v : List ℕ) → (ahead (empty_text None) (λ (_ : Option A). K)).Meets e v → SpacedBy space P e v
      by_empty Begin v (inl m) = inl (refl, subst (AllPass space) (sym m) tt)
      by_empty (Mark k b) v (inl m) = elim m [ ]
      by_empty e v (inr m) = i.meets e v (subst (λ (z : List ℕ). K.Meets e z) (sym (m.1.joined ∙ ap (λ (z : List ℕ). z ++ m.1.back) m.1.front_is.0)) m.1.back_is)

      empty_whole : (value : Option A) (J : Option A → Rest Kind) (v : List ℕ) → (ahead (empty_text value) J).Whole v → (J value).Whole v
      empty_whole value J v m = subst (J value).Whole (sym (m.1.joined ∙ ap (λ (z : List ℕ). z ++ m.1.back) m.1.front_is.0)) (subst (λ (a : Option A). (J a).Whole m.1.back) m.1.front_is.1 m.1.back_is)

module _ {Kind : Type 0} {faults : FaultRanking Kind} (space p : ℕ → Bool) where
  -- # Rules that cover others, by the character after the white space

  -- Where one more comes, nothing of what follows is there.
  pub space_goes_on : {A : Type 0} {P Q : ℕ → Type 0} {r : Rule Kind A} {J : A → Rest Kind} {K : Rest Kind} {text : List ℕ} → Leads space P r → Spaced space Q K → ((c : ℕ) → p c ≡ true → Q c → ⊥) → space_then space p text ≡ true → Covers faults text K (ahead r J)
  space_goes_on {A} {P} {Q} {r} {J} {K} {text} h i apart t = record {
    events = λ e v w j m. ⊎_elim (λ l. by_front e v l.0 l.1) (λ l. absurd (not_behind v w j l)) (i.meets e v m);
    whole = λ m. not_behind text [] (sym (append-nil text)) (i.whole text m);
  }
    where
      not_behind : (v w : List ℕ) → text ≡ v ++ w → Behind space Q v → ⊥
      not_behind v w j b = apart b.next (ap (first_char_is p) (sym (after_is space Q text v w j b)) ∙ both_true (first_char_is space text) (first_char_is p (drop_while space text)) t) b.is

      by_front : (e : Event Kind) (v : List ℕ) → e ≡ Begin → AllPass space v → (ahead r J).Meets e v ⊎ Idle faults e v
      by_front Begin v b a = inl (inl (h.begins v a))
      by_front (Mark k b) v e a = absurd cc

  -- Where none comes, there is none.
  pub space_stops : {A : Type 0} {P Q : ℕ → Type 0} {r : Rule Kind A} {J : A → Rest Kind} {K : Rest Kind} {text : List ℕ} → Leads space P r → Spaced space Q K → ((c : ℕ) → P c → p c ≡ true) → space_then space p text ≡ false → Covers faults text (ahead r J) K
  space_stops {A} {P} {Q} {r} {J} {K} {text} h i is t = record {
    events = λ e v w j m. ⊎_elim
        (λ l. ⊎_elim (λ k. by_front e v k.0 k.1) (λ k. absurd (by_head v w j k (λ c x s. h.first c x e (subst (λ (z : List ℕ). r.Meets e z) s l)))) (h.meets e v l))
        (λ l. absurd (not_spelled l.1.front (l.1.back ++ w) l.0 (regroup w l.1.front l.1.back j l.1.joined) l.1.front_is))
        m;
    whole = λ m. not_spelled m.1.front m.1.back m.0 m.1.joined m.1.front_is;
  }
    where
      by_front : (e : Event Kind) (v : List ℕ) → e ≡ Begin → AllPass space v → K.Meets e v ⊎ Idle faults e v
      by_front Begin v b a = inl (i.begins v a)
      by_front (Mark k b) v e a = absurd cc

      head_true : (v w : List ℕ) → text ≡ v ++ w → 0 < length v → ((c : ℕ) (x : List ℕ) → v ≡ c ∷ x → space c ≡ true) → first_char_is space text ≡ true
      head_true [] w j lt f = absurd (omega arith)
      head_true (c ∷ x) w j lt f = ap (first_char_is space) j ∙ f c x refl

      by_head : (v w : List ℕ) → text ≡ v ++ w → Behind space P v → ((c : ℕ) (x : List ℕ) → v ≡ c ∷ x → space c ≡ true) → ⊥
      by_head v w j b f =
          let first = head_true v w j (omega (arith, ap length b.joined, length-append b.spaces (b.next ∷ b.rest))) f in
          let no : p b.next ≡ false = ap (first_char_is p) (sym (after_is space P text v w j b)) ∙ both_false (first_char_is space text) (first_char_is p (drop_while space text)) t first in
          let yes = is b.next b.is in absurd cc

      not_spelled : (v w : List ℕ) (a : A) → text ≡ v ++ w → r.Spells v a → ⊥
      not_spelled v w a j m = by_head v w j (h.spells v a m) (λ c x s. h.first_spelled c x a (subst (λ (z : List ℕ). r.Spells z a) s m))

module _ {Kind : Type 0} {faults : FaultRanking Kind} where
  -- Members, each after white space: the test looks at the character after it.
  pub exact_spaced_many : {A : Type 0} {P Q : ℕ → Type 0} {r : Rule Kind A} {K : Rest Kind} {q : Reader Kind A} (space p : ℕ → Bool) → Leads space P r → Spaced space Q K → ((c : ℕ) → P c → p c ≡ true) → ((c : ℕ) → p c ≡ true → Q c → ⊥) → Exact faults r (more r K) q → Exact faults (many r) (λ _. K) (read_many (space_then space p) q)
  exact_spaced_many {A} {P} {Q} {r} {K} {q} space p h i is apart exact = exact_many (record {
    at_end = refl;
    uses = some_used;
    goes_on = λ text t. space_goes_on space p h i apart t;
    stops = λ text t. space_stops space p h i is t;
  }) exact
    where
      some_used : (u : List ℕ) (a : A) → r.Spells u a → 0 < length u
      some_used u a m = let b = h.spells u a m in omega (arith, ap length b.joined, length-append b.spaces (b.next ∷ b.rest))

  pub exact_spaced_optional : {A : Type 0} {P Q : ℕ → Type 0} {r : Rule Kind A} {K : Rest Kind} {q : Reader Kind A} (space p : ℕ → Bool) → Leads space P r → Spaced space Q K → ((c : ℕ) → P c → p c ≡ true) → ((c : ℕ) → p c ≡ true → Q c → ⊥) → Exact faults r (λ _. K) q → Exact faults (optional r) (λ _. K) (read_optional (space_then space p) q)
  exact_spaced_optional {A} {P} {Q} {r} {K} {q} space p h i is apart exact = exact_optional (space_then space p) exact
      (λ text t. space_goes_on space p h i apart t)
      (λ text t. space_stops space p h i is t)
