-- Names whose unbound prefixes are marked are read exactly: each front of a name that has a
-- prefix has the prefix of the name.
use Rattle.std.proofs.Common.{◌≡◌, ◌≢◌, ℕ, ◌+◌, ◌-◌, ◌≤◌, ◌<◌, Bool, true, false, cond, List, [], ◌∷◌, ◌++◌, length, drop, Result, Ok, Err, ◌⊎◌, inl, inr, refl, sym, ap, ◌∙◌, subst, append_assoc, arith}
use Rattle.std.specs.Prelude.{◌&&◌, not, ◌==◌, Option, None, Some}
use Rattle.std.specs.Str.{bytes_eq}
use Rattle.std.proofs.lemmas.Bool.{eqb-true, eqb-false}
use Rattle.std.proofs.lemmas.List.{length-append, append-nil}
use Rattle.xml_names.specs.declared.names.Name.{Name}
use Rattle.xml_names.specs.declared.names.Decl.{Decl}
use Rattle.xml_names.specs.Characters.{is_name_start, is_name_char}
use Rattle.xml_grammar.specs.Rules.{Event, Begin, Mark, Rule, AllPass, word, filter_rule, with_value_marks, optional, keep_second}
use Rattle.xml_grammar.specs.TextReading.{Stop, Syntax, Faulty, Reader, ◌>>=◌, take_while, drop_while}
use Rattle.xml_grammar.specs.readers.RuleReaders.{read_with_value_marks, read_filtered, value_or_fault}
use Rattle.xml_grammar.proofs.Exact.{Rest, ahead, Exact, IsRead, IsAtFault, Outcome, Passed, Behind, Later}
use Rattle.xml_grammar.proofs.Laws.{Lawful, Quiet, Inside, inside_ahead, lawful_judged}
use Rattle.xml_tokens.specs.declared.fault_kind.FaultKind.{FaultKind}
use Rattle.xml_tokens.specs.declared.fault_kind.FaultKind.TheVariants.{Unbound}
use Rattle.xml_tokens.specs.readers.Literals.{colon}
use Rattle.xml_tokens.specs.Values.{qname_text, qname_of}
use Rattle.xml_tokens.specs.Tokens.{name, qname}
use Rattle.xml_tokens.specs.readers.Tokens.{read_name, read_qname}
use Rattle.node_select.specs.Names.{has_unbound_prefix}
use Rattle.node_select.specs.Grammar.{MarksUnboundName, is_attribute_name}
use Rattle.node_select.specs.Faults.{fault_ranking}
use Rattle.node_select.proofs.NameReading.{judge}

-- ---- names

-- a name: its first character, and others
record IsName (u n : List ℕ) : Type 0 where
  same : n ≡ u
  first : ℕ
  rest : List ℕ
  joined : u ≡ first ∷ rest
  begins : is_name_start first ≡ true
  others : AllPass is_name_char rest

is_name_of : (u n : List ℕ) → name.Spells u n → IsName u n
is_name_of u n m =
    let j : u ≡ m.0.0 ∷ m.1.back = m.1.joined ∙ ap (λ (z : List ℕ). z ++ m.1.back) m.1.front_is.1 in
    record {
      same = m.2 ∙ ap (λ (z : List ℕ). m.0.0 ∷ z) m.1.back_is.1 ∙ sym j;
      first = m.0.0;
      rest = m.1.back;
      joined = j;
      begins = m.1.front_is.0;
      others = m.1.back_is.0;
    }

-- the name at the front of a text
front_name : (p : ℕ → Bool) (u v : List ℕ) (c : ℕ) → AllPass p u → p c ≡ false → (take_while p (u ++ (c ∷ v)) ≡ u) × (drop_while p (u ++ (c ∷ v)) ≡ c ∷ v)
front_name p [] v c h f = (rw f refl, rw f refl)
front_name p (d ∷ u) v c h f = let more = front_name p u v c h.1 f in (rw h.0 (ap (λ (z : List ℕ). d ∷ z) more.0), rw h.0 more.1)

-- a name before a colon is read
before_colon : (u v : List ℕ) → (n : List ℕ) → name.Spells u n → read_name (u ++ (58 ∷ v)) ≡ Ok (u, 58 ∷ v)
before_colon u v n m =
    let i = is_name_of u n m in
    let cut = front_name is_name_char i.rest v 58 i.others refl in
    ap (λ (z : List ℕ). read_name (z ++ (58 ∷ v))) i.joined
    ∙ whole i.first i.rest (i.rest ++ (58 ∷ v)) i.begins cut.0 cut.1
    ∙ ap (λ (z : List ℕ). let x : List ℕ × List ℕ = (z, 58 ∷ v) in let r : Result (List ℕ × List ℕ) (Stop FaultKind) = Ok x in r) (sym i.joined)
  where
    whole : (c : ℕ) (cs text : List ℕ) → is_name_start c ≡ true → take_while is_name_char text ≡ cs → drop_while is_name_char text ≡ 58 ∷ v → read_name (c ∷ text) ≡ Ok (c ∷ cs, 58 ∷ v)
    whole c cs text b e f = rw (b, e, f) refl

-- a name at a place is read up to somewhere
some_name : (u w : List ℕ) (n : List ℕ) → name.Spells u n → (l : List ℕ) × (rest : List ℕ) × (read_name (u ++ w) ≡ Ok (l, rest))
some_name u w n m =
    let i = is_name_of u n m in
    (i.first ∷ take_while is_name_char (i.rest ++ w), drop_while is_name_char (i.rest ++ w), ap (λ (z : List ℕ). read_name (z ++ w)) i.joined ∙ whole i.first (i.rest ++ w) i.begins)
  where
    whole : (c : ℕ) (text : List ℕ) → is_name_start c ≡ true → read_name (c ∷ text) ≡ Ok (c ∷ take_while is_name_char text, drop_while is_name_char text)
    whole c text b = rw b refl

-- ---- names with prefixes

-- what a name with a prefix is read as
pub record ReadSo (p : Reader FaultKind Name) (text : List ℕ) (n : Name) : Type 0 where
  pub read : Name
  pub rest : List ℕ
  pub read_is : p text ≡ Ok (read, rest)
  pub prefix_is : read.prefix ≡ n.prefix

abbrev pub HasPrefix : Name → Type 0
HasPrefix n = bytes_eq n.prefix [] ≡ false

prefixed_by : (text u v w f : List ℕ) (o : Option (List ℕ)) → text ≡ (u ++ v) ++ w → name.Spells u f → (optional (keep_second (word {Kind = FaultKind} colon) name)).Spells v o → HasPrefix (qname_of (f, o)) → ReadSo read_qname text (qname_of (f, o))
prefixed_by text u v w f None j m s h = absurd cc
prefixed_by text u v w f (Some l) j m (inl s) h =
    let sp = s.1.1 in
    let at : v ≡ 58 ∷ sp.back = sp.joined ∙ ap (λ (z : List ℕ). z ++ sp.back) sp.front_is in
    let here : text ≡ u ++ (58 ∷ (sp.back ++ w)) = j ∙ append_assoc u v w ∙ ap (λ (z : List ℕ). u ++ (z ++ w)) at in
    let local = some_name sp.back w s.1.0.1 sp.back_is in
    record {
      read = record { prefix = u; local = local.0 };
      rest = local.1;
      read_is = ap read_qname here ∙ rw (before_colon u (sp.back ++ w) f m, local.2) refl;
      prefix_is = sym (is_name_of u f m).same;
    }
prefixed_by text u v w f (Some l) j m (inr s) h = absurd (let e = s.1 in cc)

pub prefixed : (text v w : List ℕ) (n : Name) → text ≡ v ++ w → qname.Spells v n → HasPrefix n → ReadSo read_qname text n
prefixed text v w n j m h =
    let sp = m.1 in
    subst (λ (z : Name). ReadSo read_qname text z) (sym m.2)
    (prefixed_by text sp.front sp.back w m.0.0 m.0.1 (j ∙ ap (λ (z : List ℕ). z ++ w) sp.joined) sp.front_is sp.back_is (subst (λ (z : Name). HasPrefix z) m.2 h))

may_name : (n read : Name) → read.prefix ≡ n.prefix → HasPrefix n → is_attribute_name read ≡ true
may_name n read e h = let f : bytes_eq read.prefix [] ≡ false = ap (λ (z : List ℕ). bytes_eq z []) e ∙ h in rw f refl

pub prefixed_attribute : (text v w : List ℕ) (n : Name) → text ≡ v ++ w → (filter_rule is_attribute_name qname).Spells v n → HasPrefix n → ReadSo (read_filtered is_attribute_name read_qname) text n
prefixed_attribute text v w n j m h =
    let s = prefixed text v w n j m.0 h in
    record { read = s.read; rest = s.rest; read_is = rw (s.read_is, may_name n s.read s.prefix_is h) refl; prefix_is = s.prefix_is }

-- how long a name is
written_long : (u v f : List ℕ) (o : Option (List ℕ)) → name.Spells u f → (optional (keep_second (word {Kind = FaultKind} colon) name)).Spells v o → length (qname_text (qname_of (f, o))) ≡ length (u ++ v)
written_long u v f None m (inl s) = absurd (let e = s.2 in cc)
written_long u v f None m (inr s) = ap length ((is_name_of u f m).same ∙ sym (append-nil u) ∙ ap (λ (z : List ℕ). u ++ z) (sym s.0))
written_long u v f (Some l) m (inr s) = absurd (let e = s.1 in cc)
written_long u v f (Some l) m (inl s) =
    let sp = s.1.1 in
    let i = is_name_of u f m in
    let l_is : l ≡ s.0 = cc (s.2) in
    let local : l ≡ sp.back = l_is ∙ s.1.2 ∙ (is_name_of sp.back s.1.0.1 sp.back_is).same in
    let at : v ≡ 58 ∷ sp.back = sp.joined ∙ ap (λ (z : List ℕ). z ++ sp.back) sp.front_is in
    ap (λ (z : List ℕ). length (qname_text (qname_of (z, Some l)))) (i.same ∙ i.joined)
    ∙ ap (λ (z : List ℕ). length ((i.first ∷ i.rest) ++ (58 ∷ z))) local
    ∙ ap (λ (z : List ℕ). length (z ++ (58 ∷ sp.back))) (sym i.joined)
    ∙ ap (λ (z : List ℕ). length (u ++ z)) (sym at)

pub qname_long : (u : List ℕ) (n : Name) → qname.Spells u n → length (qname_text n) ≡ length u
qname_long u n m =
    let sp = m.1 in
    ap (λ (z : Name). length (qname_text z)) m.2 ∙ written_long sp.front sp.back m.0.0 m.0.1 sp.front_is sp.back_is ∙ ap length (sym sp.joined)

pub qname_some : (u : List ℕ) (n : Name) → qname.Spells u n → 0 < length u
qname_some u n m =
    let sp = m.1 in
    let i = is_name_of sp.front m.0.0 sp.front_is in
    omega (arith, ap length sp.joined, length-append sp.front sp.back, ap length i.joined)

-- ---- judged names

-- a test, in both cases
on_test : {P : Type 0} (b : Bool) → (b ≡ true → P) → (b ≡ false → P) → P
on_test true f g = f refl
on_test false f g = g refl

first_true : (a b : Bool) → (not a && b) ≡ true → a ≡ false
first_true true b h = absurd cc
first_true false b h = refl

off : (b on : Bool) → b ≡ true → (b && on) ≡ false → on ≡ false
off true on t f = f
off false on t f = absurd cc

both_on : (b on : Bool) → (b && on) ≡ true → (b ≡ true) × (on ≡ true)
both_on true on h = (refl, h)
both_on false on h = absurd cc

named_within : (bindings : List Decl) (u : List ℕ) (n : Name) (k : FaultKind) (b : ℕ) → qname.Spells u n → MarksUnboundName bindings n k b → (0 < b) × (b ≤ length u)
named_within bindings u n k b m says = let l = qname_long u n m in let s = qname_some u n m in (omega (arith, says.2, l, s), omega (arith, says.2, l))

pub lawful_named : (bindings : List Decl) {r : Rule FaultKind Name} → Lawful r → ((u : List ℕ) (n : Name) → r.Spells u n → qname.Spells u n) → Lawful (with_value_marks (MarksUnboundName bindings) r)
lawful_named bindings lawful named = lawful_judged (MarksUnboundName bindings) (λ u n k b m says. named_within bindings u n k b (named u n m) says) lawful

module _ (bindings : List Decl) (on : Bool) {r : Rule FaultKind Name} {K : Rest FaultKind} {p : Reader FaultKind Name} (lawful : Lawful r) (quiet : Quiet r)
    (named : (u : List ℕ) (n : Name) → r.Spells u n → qname.Spells u n)
    (so : (text v w : List ℕ) (n : Name) → text ≡ v ++ w → r.Spells v n → HasPrefix n → ReadSo p text n) (inside : Inside K) where
  abbrev Judged : Rule FaultKind Name
  Judged = with_value_marks (MarksUnboundName bindings) r

  inside_all : Inside (ahead Judged (λ _. K))
  inside_all = inside_ahead (lawful_named bindings lawful named) (λ _. inside)

  -- what is read where a front has an unbound prefix
  read_unbound : (text v w : List ℕ) (n : Name) → text ≡ v ++ w → r.Spells v n → has_unbound_prefix bindings n ≡ true → (s : Name × List ℕ) × (p text ≡ Ok s) × (has_unbound_prefix bindings s.0 ≡ true)
  read_unbound text v w n j m h =
      let s = so text v w n j m (first_true (bytes_eq n.prefix []) _ h) in
      ((s.read, s.rest), s.read_is, ap (λ (z : List ℕ). let x : Name = record { prefix = z; local = n.local } in has_unbound_prefix bindings x) s.prefix_is ∙ h)

  module _ (text left : List ℕ) (a : Name) (read : p text ≡ Ok (a, left)) (h : IsRead (fault_ranking on) r (λ _. K) text a left) where
    unbound_so : (v w : List ℕ) (n : Name) → text ≡ v ++ w → r.Spells v n → has_unbound_prefix bindings n ≡ true → has_unbound_prefix bindings a ≡ true
    unbound_so v w n j m t =
        let s = read_unbound text v w n j m t in
        let both : (let q : Result (Name × List ℕ) (Stop FaultKind) = Ok s.0 in q ≡ Ok (a, left)) = sym s.1 ∙ read in
        let same : s.0 ≡ (a, left) = cc in
        ap (λ (z : Name × List ℕ). has_unbound_prefix bindings z.0) (sym same) ∙ s.2

    bound_settled : (has_unbound_prefix bindings a && on) ≡ false → (e : Event FaultKind) (v w : List ℕ) → text ≡ v ++ w → (ahead Judged (λ _. K)).Meets e v → Passed (fault_ranking on) e v h.used ⊎ Later (fault_ranking on) K e v h.used
    bound_settled none Begin v w j (inl m) = h.settled Begin v w j (inl m)
    bound_settled none (Mark k b) v w j (inl (inl m)) = inl (off (has_unbound_prefix bindings a) on (unbound_so v w m.0 j m.1 m.2.0) none)
    bound_settled none (Mark k b) v w j (inl (inr m)) = absurd (quiet.no_mark k b v m)
    bound_settled none e v w j (inr m) = h.settled e v w j (inr m)

    fault_settled : (e : Event FaultKind) (v w : List ℕ) → text ≡ v ++ w → (ahead Judged (λ _. K)).Meets e v → Behind (fault_ranking on) Unbound e v []
    fault_settled Begin v w j m = tt
    fault_settled (Mark k b) v w j m = λ t. in_order b (length v) (inside_all.within k b v m)
      where
        in_order : (b n : ℕ) → b ≤ n → (0 + b < n) ⊎ ((0 + b ≡ n) × (0 ≤ 0))
        in_order b n le = on_test (b == n) (λ e. let same = eqb-true b n e in inr (omega arith, omega arith)) (λ f. let other : b ≢ n = eqb-false b n f in inl (omega arith))

    by_mark : (x : Bool) → (has_unbound_prefix bindings a && on) ≡ x → Outcome (fault_ranking on) Judged (λ _. K) text (value_or_fault text (a, left) (cond x (Some (Unbound, length (qname_text a))) None))
    by_mark false e = record { used = h.used; joined = h.joined; spelled = h.spelled; settled = bound_settled e; unique = h.unique }
    by_mark true e =
        let both = both_on (has_unbound_prefix bindings a) on e in
        let long = qname_long h.used a (named h.used a h.spelled) in
        let at : length text - length left - length (qname_text a) ≡ 0 = omega (arith, ap length h.joined, length-append h.used left, long) in
        subst (λ (z : List ℕ). IsAtFault (fault_ranking on) Judged (λ _. K) text Unbound z) (sym (ap (λ (n : ℕ). drop n text) at))
        (record {
          used = [];
          joined = refl;
          seen = h.used;
          unseen = left;
          left_is = h.joined;
          met = inl (a, h.spelled, (both.0, refl, sym long));
          is_fault = both.1;
          settled = fault_settled;
          beyond = λ v w n j m k. qname_some v n (named v n m);
        })

  by_outcome : (text : List ℕ) (out : Result (Name × List ℕ) (Stop FaultKind)) → p text ≡ out → Outcome (fault_ranking on) r (λ _. K) text out → Outcome (fault_ranking on) Judged (λ _. K) text (out >>= λ x. value_or_fault text x (judge bindings on x.0))
  by_outcome text (Ok x) e h = by_mark text x.1 x.0 e h (has_unbound_prefix bindings x.0 && on) refl
  by_outcome text (Err (Faulty kind left)) e h = absurd (quiet.no_mark kind (length h.seen) (h.used ++ h.seen) h.met)
  by_outcome text (Err (Syntax left)) e h = record { used = h.used; joined = h.joined; begun = h.begun; settled = stopped; none = h.none }
    where
      stopped : (e : Event FaultKind) (v w : List ℕ) → text ≡ v ++ w → (ahead Judged (λ _. K)).Meets e v → Passed (fault_ranking on) e v h.used
      stopped Begin v w j (inl m) = h.settled Begin v w j (inl m)
      stopped (Mark k b) v w j (inl (inl m)) = absurd (let s = read_unbound text v w m.0 j m.1 m.2.0 in let never : (let q : Result (Name × List ℕ) (Stop FaultKind) = Err (Syntax left) in q ≡ Ok s.0) = sym e ∙ s.1 in cc)
      stopped (Mark k b) v w j (inl (inr m)) = absurd (quiet.no_mark k b v m)
      stopped e v w j (inr m) = h.settled e v w j (inr m)

  pub exact_name : Exact (fault_ranking on) r (λ _. K) p → Exact (fault_ranking on) Judged (λ _. K) (read_with_value_marks (judge bindings on) p)
  exact_name exact = record { by = λ text. by_outcome text (p text) refl (exact.by text) }
