-- Reading with widths and resolving names afterwards gives the same as resolving each name at its
-- place while reading.
use Rattle.std.proofs.Common.{◌≡◌, ℕ, zero, suc, ◌+◌, ◌-◌, Bool, true, false, cond, List, [], ◌∷◌, ◌++◌, length, encode_utf8_all, drop, Result, Ok, Err, refl, sym, ap, ◌∙◌, subst, arith}
use Rattle.std.specs.Prelude.{◌&&◌, Option, None, Some, option_map, map}
use Rattle.std.proofs.lemmas.List.{length-append}
use Rattle.xml_grammar.specs.Rules.{Rule}
use Rattle.xml_grammar.specs.TextReading.{Stop, Faulty, Reader, ◌>>=◌, read_sequence, read_mapped}
use Rattle.xml_grammar.specs.readers.RuleReaders.{read_either, read_at_most, read_many, read_with_length, read_empty, read_with_value_marks, value_or_fault, read_optional}
use Rattle.xml_grammar.specs.ParseResults.{FaultRanking}
use Rattle.xml_grammar.proofs.Exact.{Rest, Exact, Outcome}
use Rattle.xml_names.specs.declared.names.Name.{Name}
use Rattle.xml_names.specs.declared.names.Decl.{Decl}
use Rattle.xml_tokens.specs.declared.fault_kind.FaultKind.{FaultKind}
use Rattle.xml_tokens.specs.declared.fault_kind.FaultKind.TheVariants.{Unbound}
use Rattle.xml_tokens.specs.Values.{qname_text}
use Rattle.xml_tokens.specs.Tokens.{qname}
use Rattle.node_select.specs.Names.{has_unbound_prefix}
use Rattle.node_select.specs.readers.RawSelectors.{first_some, unbound_at}
use Rattle.node_select.proofs.NameReading.{judge}
use Rattle.node_select.proofs.JudgedNames.{qname_long}

-- ---- places in a text

pub dropped : (u v : List ℕ) → drop (length u) (u ++ v) ≡ v
dropped [] v = refl
dropped (c ∷ u) v = dropped u v

drop_none : (m : ℕ) → (let none : List ℕ = [] in drop m none ≡ none)
drop_none zero = refl
drop_none (suc m) = refl

drop_more : (n m : ℕ) (xs : List ℕ) → drop m (drop n xs) ≡ drop (n + m) xs
drop_more zero m xs = let e : 0 + m ≡ m = omega arith in sym (ap (λ (k : ℕ). drop k xs) e)
drop_more (suc n) m [] = drop_none m ∙ sym (drop_none (suc n + m))
drop_more (suc n) m (c ∷ xs) = let e : suc n + m ≡ suc (n + m) = omega arith in drop_more n m xs ∙ sym (ap (λ (k : ℕ). drop k (c ∷ xs)) e)

pub first_none : (a : Option ℕ) → first_some a None ≡ a
first_none None = refl
first_none (Some n) = refl

module _ (on : Bool) (whole : List ℕ) where
  -- whether the mark at a place counts
  abbrev pub counted : Option ℕ → Option ℕ
  counted None = None
  counted (Some n) = cond on (Some n) None

  abbrev pub verdict : {B : Type 0} → Option ℕ → B → List ℕ → Result (B × List ℕ) (Stop FaultKind)
  verdict None b rest = Ok (b, rest)
  verdict (Some n) b rest = Err (Faulty Unbound (drop n whole))

  -- what is left is this many characters after the beginning
  pub record Suffix (n : ℕ) (text rest : List ℕ) : Type 0 where
    pub width : ℕ
    pub fills : width + length rest ≡ length text
    pub is_at : rest ≡ drop (n + width) whole

  same_place : (n : ℕ) (text : List ℕ) → text ≡ drop n whole → Suffix n text text
  same_place n text at = let e : n ≡ n + 0 = omega arith in record { width = 0; fills = omega arith; is_at = at ∙ ap (λ (k : ℕ). drop k whole) e }

  joined_place : (n : ℕ) (text used rest : List ℕ) → text ≡ drop n whole → text ≡ used ++ rest → Suffix n text rest
  joined_place n text used rest at j = record {
    width = length used;
    fills = omega (arith, ap length j, length-append used rest);
    is_at = sym (dropped used rest) ∙ ap (drop (length used)) (sym j ∙ at) ∙ drop_more n (length used) whole;
  }

  further : (n : ℕ) (text rest more : List ℕ) → (s : Suffix n text rest) → Suffix (n + s.width) rest more → Suffix n text more
  further n text rest more s t =
      let e : n + s.width + t.width ≡ n + (s.width + t.width) = omega arith in
      record { width = s.width + t.width; fills = omega (arith, s.fills, t.fills); is_at = t.is_at ∙ ap (λ (k : ℕ). drop k whole) e }

  -- a text that is read this way is read with names resolved, too; a text that isn't, isn't, as
  -- far as no name counts
  abbrev pub Agrees : {A B : Type 0} → (A → B) → (ℕ → A → Option ℕ) → ℕ → List ℕ → Result (A × List ℕ) (Stop FaultKind) → Result (B × List ℕ) (Stop FaultKind) → Type 0
  Agrees f u n text (Ok x) q = Suffix n text x.1 × (q ≡ verdict (counted (u n x.0)) (f x.0) x.1)
  Agrees f u n text (Err e) q = on ≡ false → q ≡ Err e

  pub record Follows {A B : Type 0} (p : Reader FaultKind A) (q : Reader FaultKind B) (f : A → B) (u : ℕ → A → Option ℕ) : Type 0 where
    pub by : (n : ℕ) (text : List ℕ) → text ≡ drop n whole → Agrees f u n text (p text) (q text)

  -- ---- parts without names

  abbrev pub no_name : {A : Type 0} → ℕ → A → Option ℕ
  no_name n a = None

  plain_by : {A : Type 0} (faults : FaultRanking FaultKind) (r : Rule FaultKind A) (K : A → Rest FaultKind) (n : ℕ) (text : List ℕ) (out : Result (A × List ℕ) (Stop FaultKind)) → text ≡ drop n whole → Outcome faults r K text out → Agrees (λ a. a) no_name n text out out
  plain_by faults r K n text (Ok x) at h = (joined_place n text h.used x.1 at h.joined, refl)
  plain_by faults r K n text (Err e) at h = λ f. refl

  pub plain : {A : Type 0} {faults : FaultRanking FaultKind} {r : Rule FaultKind A} {K : A → Rest FaultKind} {p : Reader FaultKind A} → Exact faults r K p → Follows p p (λ a. a) no_name
  plain {A} {faults} {r} {K} {p} exact = record { by = λ n text at. plain_by faults r K n text (p text) at (exact.by text) }

  -- ---- names

  name_by : (bindings : List Decl) (n : ℕ) (text : List ℕ) (x : Name × List ℕ) (b : Bool) → has_unbound_prefix bindings x.0 ≡ b → text ≡ drop n whole → length text - length x.1 - length (qname_text x.0) ≡ 0
      → value_or_fault text x (cond (b && on) (Some (Unbound, length (qname_text x.0))) None) ≡ verdict (counted (cond b (Some n) None)) x.0 x.1
  name_by bindings n text x false e at w = refl
  name_by bindings n text x true e at w = by on
    where
      by : (y : Bool) → value_or_fault text x (cond y (Some (Unbound, length (qname_text x.0))) None) ≡ verdict (cond y (Some n) None) x.0 x.1
      by true = ap (λ (z : List ℕ). let r : Result (Name × List ℕ) (Stop FaultKind) = Err (Faulty Unbound z) in r) (ap (λ (k : ℕ). drop k text) w ∙ at)
      by false = refl

  pub name : {faults : FaultRanking FaultKind} {r : Rule FaultKind Name} {K : Rest FaultKind} {p : Reader FaultKind Name} (bindings : List Decl) → ((u : List ℕ) (n : Name) → r.Spells u n → qname.Spells u n) → Exact faults r (λ _. K) p
      → Follows p (read_with_value_marks (judge bindings on) p) (λ a. a) (unbound_at bindings)
  name {faults} {r} {K} {p} bindings named exact = record { by = λ n text at. by n text (p text) at (exact.by text) }
    where
      by : (n : ℕ) (text : List ℕ) (out : Result (Name × List ℕ) (Stop FaultKind)) → text ≡ drop n whole → Outcome faults r (λ _. K) text out
          → Agrees (λ a. a) (unbound_at bindings) n text out (out >>= λ x. value_or_fault text x (judge bindings on x.0))
      by n text (Ok x) at h =
          let long = qname_long h.used x.0 (named h.used x.0 h.spelled) in
          (joined_place n text h.used x.1 at h.joined, name_by bindings n text x (has_unbound_prefix bindings x.0) refl at (omega (arith, ap length h.joined, length-append h.used x.1, long)))
      by n text (Err e) at h = λ f. refl

  -- ---- equal texts with other values

  told_so : {B C : Type 0} (g : B → C) (o : Option ℕ) (b : B) (rest : List ℕ) → (verdict o b rest >>= λ x. let r : Result (C × List ℕ) (Stop FaultKind) = Ok (g x.0, x.1) in r) ≡ verdict o (g b) rest
  told_so g None b rest = refl
  told_so g (Some n) b rest = refl

  module _ {A B C D : Type 0} {p : Reader FaultKind A} {q : Reader FaultKind B} {f : A → B} {u : ℕ → A → Option ℕ} (h : Follows p q f u) where
    pub valued : (g : A → C) (g' : B → D) (f' : C → D) (u' : ℕ → C → Option ℕ) → ((a : A) → g' (f a) ≡ f' (g a)) → ((n : ℕ) (a : A) → u n a ≡ u' n (g a)) → Follows (read_mapped g p) (read_mapped g' q) f' u'
    valued g g' f' u' values places = record { by = λ n text at. by n text (p text) (q text) (h.by n text at) }
      where
        by : (n : ℕ) (text : List ℕ) (out : Result (A × List ℕ) (Stop FaultKind)) (other : Result (B × List ℕ) (Stop FaultKind)) → Agrees f u n text out other
            → Agrees f' u' n text (out >>= λ x. let r : Result (C × List ℕ) (Stop FaultKind) = Ok (g x.0, x.1) in r) (other >>= λ x. let r : Result (D × List ℕ) (Stop FaultKind) = Ok (g' x.0, x.1) in r)
        by n text (Ok x) other (s, e) = (
          s,
          ap (λ (r : Result (B × List ℕ) (Stop FaultKind)). r >>= λ x. let r : Result (D × List ℕ) (Stop FaultKind) = Ok (g' x.0, x.1) in r) e
              ∙ told_so g' (counted (u n x.0)) (f x.0) x.1
              ∙ ap (λ (d : D). verdict (counted (u n x.0)) d x.1) (values x.0)
              ∙ ap (λ (o : Option ℕ). verdict (counted o) (f' (g x.0)) x.1) (places n x.0),
        )
        by n text (Err z) other e = λ t. ap (λ (r : Result (B × List ℕ) (Stop FaultKind)). r >>= λ x. let r : Result (D × List ℕ) (Stop FaultKind) = Ok (g' x.0, x.1) in r) (e t)

  module _ {A B : Type 0} {p : Reader FaultKind A} {q : Reader FaultKind B} {f : A → B} {u : ℕ → A → Option ℕ} (h : Follows p q f u) where
    pub sized : Follows (read_with_length p) q (λ x. f x.0) (λ n x. u n x.0)
    sized = record { by = λ n text at. by n text (p text) (q text) (h.by n text at) }
      where
        by : (n : ℕ) (text : List ℕ) (out : Result (A × List ℕ) (Stop FaultKind)) (other : Result (B × List ℕ) (Stop FaultKind)) → Agrees f u n text out other
            → Agrees (λ (x : A × ℕ). f x.0) (λ (n : ℕ) (x : A × ℕ). u n x.0) n text (out >>= λ x. let r : Result ((A × ℕ) × List ℕ) (Stop FaultKind) = Ok ((x.0, length text - length x.1), x.1) in r) other
        by n text (Ok x) other e = e
        by n text (Err z) other e = e

    pub left : {C : Type 0} (g : A → C) (f' : C → B) (u' : ℕ → C → Option ℕ) → ((a : A) → f a ≡ f' (g a)) → ((n : ℕ) (a : A) → u n a ≡ u' n (g a)) → Follows (read_mapped g p) q f' u'
    left {C} g f' u' values places = record { by = λ n text at. by n text (p text) (q text) (h.by n text at) }
      where
        by : (n : ℕ) (text : List ℕ) (out : Result (A × List ℕ) (Stop FaultKind)) (other : Result (B × List ℕ) (Stop FaultKind)) → Agrees f u n text out other
            → Agrees f' u' n text (out >>= λ x. let r : Result (C × List ℕ) (Stop FaultKind) = Ok (g x.0, x.1) in r) other
        by n text (Ok x) other (s, e) =
            (s, e ∙ ap (λ (d : B). verdict (counted (u n x.0)) d x.1) (values x.0) ∙ ap (λ (o : Option ℕ). verdict (counted o) (f' (g x.0)) x.1) (places n x.0))
        by n text (Err z) other e = e

    pub right : {C : Type 0} (g : B → C) (f' : A → C) → ((a : A) → g (f a) ≡ f' a) → Follows p (read_mapped g q) f' u
    right {C} g f' values = record { by = λ n text at. by n text (p text) (q text) (h.by n text at) }
      where
        by : (n : ℕ) (text : List ℕ) (out : Result (A × List ℕ) (Stop FaultKind)) (other : Result (B × List ℕ) (Stop FaultKind)) → Agrees f u n text out other
            → Agrees f' u n text out (other >>= λ x. let r : Result (C × List ℕ) (Stop FaultKind) = Ok (g x.0, x.1) in r)
        by n text (Ok x) other (s, e) = (
          s,
          ap (λ (r : Result (B × List ℕ) (Stop FaultKind)). r >>= λ x. let r : Result (C × List ℕ) (Stop FaultKind) = Ok (g x.0, x.1) in r) e
              ∙ told_so g (counted (u n x.0)) (f x.0) x.1
              ∙ ap (λ (d : C). verdict (counted (u n x.0)) d x.1) (values x.0),
        )
        by n text (Err z) other e = λ t. ap (λ (r : Result (B × List ℕ) (Stop FaultKind)). r >>= λ x. let r : Result (C × List ℕ) (Stop FaultKind) = Ok (g x.0, x.1) in r) (e t)

  -- ---- choices

  module _ {A B : Type 0} {p p' : Reader FaultKind A} {q q' : Reader FaultKind B} {f : A → B} {u : ℕ → A → Option ℕ} where
    pub either : (test : List ℕ → Bool) → Follows p q f u → Follows p' q' f u → Follows (read_either test p p') (read_either test q q') f u
    either test h i = record { by = λ n text at. by (test text) n text (h.by n text at) (i.by n text at) }
      where
        by : (b : Bool) (n : ℕ) (text : List ℕ) → Agrees f u n text (p text) (q text) → Agrees f u n text (p' text) (q' text) → Agrees f u n text (cond b (p text) (p' text)) (cond b (q text) (q' text))
        by true n text a b = a
        by false n text a b = b

  pub empty : {A B : Type 0} (a : A) (b : B) (f : A → B) (u : ℕ → A → Option ℕ) → b ≡ f a → ((n : ℕ) → u n a ≡ None) → Follows (read_empty a) (read_empty b) f u
  empty {A} {B} a b f u value none = record { by = by }
    where
      by : (n : ℕ) (text : List ℕ) → text ≡ drop n whole → Agrees f u n text (Ok (a, text)) (Ok (b, text))
      by n text at = (same_place n text at, ap (λ (z : B). let r : Result (B × List ℕ) (Stop FaultKind) = Ok (z, text) in r) value ∙ sym (ap (λ (o : Option ℕ). verdict (counted o) (f a) text) (none n)))

  abbrev pub if_some : {A : Type 0} → (ℕ → A → Option ℕ) → ℕ → Option A → Option ℕ
  if_some u n None = None
  if_some u n (Some a) = u n a

  pub optional : {A B : Type 0} {p : Reader FaultKind A} {q : Reader FaultKind B} {f : A → B} {u : ℕ → A → Option ℕ} (test : List ℕ → Bool) → Follows p q f u → Follows (read_optional test p) (read_optional test q) (option_map f) (if_some u)
  optional {A} {B} {p} {q} {f} {u} test h =
      either test (valued h (λ a. Some a) (λ b. Some b) (option_map f) (if_some u) (λ a. refl) (λ n a. refl)) (empty None None (option_map f) (if_some u) refl (λ n. refl))

  -- ---- one after another

  module _ {A B C D : Type 0} {p : Reader FaultKind A} {q : Reader FaultKind B} {f : A → B} {u : ℕ → A → Option ℕ} {p' : Reader FaultKind C} {q' : Reader FaultKind D} {f' : C → D} {u' : ℕ → C → Option ℕ}
      (h : Follows p q f u) (i : Follows p' q' f' u') (v : ℕ → A × C → Option ℕ)
      (joins : (n w : ℕ) (text rest : List ℕ) (a : A) (c : C) → p text ≡ Ok (a, rest) → w + length rest ≡ length text → v n (a, c) ≡ first_some (u n a) (u' (n + w) c)) where
    abbrev both : A × C → B × D
    both x = (f x.0, f' x.1)

    abbrev pairs : List ℕ → Result (C × List ℕ) (Stop FaultKind) → A → Result ((A × C) × List ℕ) (Stop FaultKind)
    pairs rest out a = out >>= λ y. Ok ((a, y.0), y.1)

    abbrev others : List ℕ → Result (D × List ℕ) (Stop FaultKind) → B → Result ((B × D) × List ℕ) (Stop FaultKind)
    others rest out b = out >>= λ y. Ok ((b, y.0), y.1)

    told_pair : (o : Option ℕ) (b : B) (d : D) (rest : List ℕ) → others rest (verdict o d rest) b ≡ verdict o (b, d) rest
    told_pair None b d rest = refl
    told_pair (Some n) b d rest = refl

    off : (o : Option ℕ) (m : ℕ) → counted o ≡ Some m → on ≡ false → ⊥
    off None m e f = absurd cc
    off (Some k) m e f = let z : None ≡ Some m = sym (ap (λ (y : Bool). cond y (Some k) None) f) ∙ e in absurd cc

    first_counts : (a b : Option ℕ) (m : ℕ) → counted a ≡ Some m → counted (first_some a b) ≡ Some m
    first_counts None b m e = absurd cc
    first_counts (Some k) b m e = e

    next_counts : (a b : Option ℕ) → counted a ≡ None → counted (first_some a b) ≡ counted b
    next_counts None b e = refl
    next_counts (Some k) None e = e
    next_counts (Some k) (Some l) e = by on e
      where
        by : (y : Bool) → cond y (Some k) None ≡ None → cond y (Some k) None ≡ cond y (Some l) None
        by true g = absurd cc
        by false g = refl

    behind_ok : (n : ℕ) (text : List ℕ) (a : A) (rest : List ℕ) (s : Suffix n text rest) → p text ≡ Ok (a, rest) → counted (u n a) ≡ None → (out : Result (C × List ℕ) (Stop FaultKind)) (other : Result (D × List ℕ) (Stop FaultKind))
        → Agrees f' u' (n + s.width) rest out other → Agrees both v n text (pairs rest out a) (others rest other (f a))
    behind_ok n text a rest s read none (Ok y) other (t, e) = (
      further n text rest y.1 s t,
      ap (λ (r : Result (D × List ℕ) (Stop FaultKind)). others rest r (f a)) e
          ∙ told_pair (counted (u' (n + s.width) y.0)) (f a) (f' y.0) y.1
          ∙ ap (λ (o : Option ℕ). verdict o (f a, f' y.0) y.1) (sym (ap counted (joins n s.width text rest a y.0 read s.fills) ∙ next_counts (u n a) (u' (n + s.width) y.0) none)),
    )
    behind_ok n text a rest s read none (Err z) other e = λ t. ap (λ (r : Result (D × List ℕ) (Stop FaultKind)). others rest r (f a)) (e t)

    behind_fault : (n m : ℕ) (text : List ℕ) (a : A) (rest : List ℕ) (s : Suffix n text rest) → p text ≡ Ok (a, rest) → counted (u n a) ≡ Some m → (out : Result (C × List ℕ) (Stop FaultKind)) (other : Result (D × List ℕ) (Stop FaultKind))
        → Agrees f' u' (n + s.width) rest out other → Agrees both v n text (pairs rest out a) (Err (Faulty Unbound (drop m whole)))
    behind_fault n m text a rest s read some (Ok y) other (t, e) = (
      further n text rest y.1 s t,
      sym (ap (λ (o : Option ℕ). verdict o (f a, f' y.0) y.1) (ap counted (joins n s.width text rest a y.0 read s.fills) ∙ first_counts (u n a) (u' (n + s.width) y.0) m some)),
    )
    behind_fault n m text a rest s read some (Err z) other e = λ t. absurd (off (u n a) m some t)

    by_first : (n : ℕ) (text : List ℕ) (out : Result (A × List ℕ) (Stop FaultKind)) (other : Result (B × List ℕ) (Stop FaultKind)) → p text ≡ out → Agrees f u n text out other
        → Agrees both v n text (out >>= λ x. p' x.1 >>= λ y. let r : Result ((A × C) × List ℕ) (Stop FaultKind) = Ok ((x.0, y.0), y.1) in r) (other >>= λ x. q' x.1 >>= λ y. let r : Result ((B × D) × List ℕ) (Stop FaultKind) = Ok ((x.0, y.0), y.1) in r)
    by_first n text (Ok (a, rest)) other read (s, e) =
        subst (λ (r : Result (B × List ℕ) (Stop FaultKind)). Agrees both v n text (pairs rest (p' rest) a) (r >>= λ x. q' x.1 >>= λ y. let r : Result ((B × D) × List ℕ) (Stop FaultKind) = Ok ((x.0, y.0), y.1) in r)) (sym e)
        (by_place (counted (u n a)) refl)
      where
        by_place : (o : Option ℕ) → counted (u n a) ≡ o → Agrees both v n text (pairs rest (p' rest) a) (verdict o (f a) rest >>= λ x. q' x.1 >>= λ y. let r : Result ((B × D) × List ℕ) (Stop FaultKind) = Ok ((x.0, y.0), y.1) in r)
        by_place None none = behind_ok n text a rest s read none (p' rest) (q' rest) (i.by (n + s.width) rest s.is_at)
        by_place (Some m) some = behind_fault n m text a rest s read some (p' rest) (q' rest) (i.by (n + s.width) rest s.is_at)
    by_first n text (Err z) other read e = λ t. ap (λ (r : Result (B × List ℕ) (Stop FaultKind)). r >>= λ x. q' x.1 >>= λ y. let r : Result ((B × D) × List ℕ) (Stop FaultKind) = Ok ((x.0, y.0), y.1) in r) (e t)

    pub sequence : Follows (read_sequence p (λ _. p')) (read_sequence q (λ _. q')) both v
    sequence = record { by = λ n text at. by_first n text (p text) (q text) refl (h.by n text at) }

  -- ---- repetitions

  module _ {A B : Type 0} {p : Reader FaultKind A} {q : Reader FaultKind B} {f : A → B} {u : ℕ → A → Option ℕ} (h : Follows p q f u) (test : List ℕ → Bool) (v : ℕ → List A → Option ℕ) (none : (n : ℕ) → v n [] ≡ None)
      (joins : (n w : ℕ) (text rest : List ℕ) (a : A) (others : List A) → p text ≡ Ok (a, rest) → w + length rest ≡ length text → v n (a ∷ others) ≡ first_some (u n a) (v (n + w) others)) where
    abbrev again : {C : Type 0} → Reader FaultKind C → ℕ → Reader FaultKind (List C)
    again r k = read_either test (read_mapped (λ x. x.0 ∷ x.1) (read_sequence r (λ _. read_at_most test r k))) (read_empty [])

    flat : {C : Type 0} (r : Reader FaultKind C) (k : ℕ) (b : Bool) (text : List ℕ) (out : Result (C × List ℕ) (Stop FaultKind))
        → cond b (out >>= λ x. read_at_most test r k x.1 >>= λ y. let z : Result (List C × List ℕ) (Stop FaultKind) = Ok (x.0 ∷ y.0, y.1) in z) (Ok ([], text))
        ≡ cond b ((out >>= λ x. read_at_most test r k x.1 >>= λ y. let z : Result ((C × List C) × List ℕ) (Stop FaultKind) = Ok ((x.0, y.0), y.1) in z) >>= λ x. let z : Result (List C × List ℕ) (Stop FaultKind) = Ok (x.0.0 ∷ x.0.1, x.1) in z) (Ok ([], text))
    flat {C} r k false text out = refl
    flat {C} r k true text (Err e) = refl
    flat {C} r k true text (Ok x) = by (read_at_most test r k x.1)
      where
        by : (other : Result (List C × List ℕ) (Stop FaultKind)) → (other >>= λ y. let z : Result (List C × List ℕ) (Stop FaultKind) = Ok (x.0 ∷ y.0, y.1) in z)
            ≡ ((other >>= λ y. let z : Result ((C × List C) × List ℕ) (Stop FaultKind) = Ok ((x.0, y.0), y.1) in z) >>= λ x. let z : Result (List C × List ℕ) (Stop FaultKind) = Ok (x.0.0 ∷ x.0.1, x.1) in z)
        by (Ok y) = refl
        by (Err e) = refl

    again_is : {C : Type 0} (r : Reader FaultKind C) (k : ℕ) (text : List ℕ) → read_at_most test r (suc k) text ≡ again r k text
    again_is r k text = flat r k (test text) text (r text)

    at_most : (k : ℕ) → Follows (read_at_most test p k) (read_at_most test q k) (map f) v
    at_most zero = let e = empty [] [] (map f) v refl none in record { by = λ n text at. e.by n text at }
    at_most (suc k) =
        let e =
        either test
        (valued (sequence h (at_most k) (λ n x. v n (x.0 ∷ x.1)) (λ n w text rest a others e fills. joins n w text rest a others e fills)) (λ x. x.0 ∷ x.1) (λ x. x.0 ∷ x.1) (map f) v (λ x. refl) (λ n x. refl))
        (empty [] [] (map f) v refl none)
        in
        record {
          by = λ n text at.
              subst (λ (z : Result (List A × List ℕ) (Stop FaultKind)). Agrees (map f) v n text z (read_at_most test q (suc k) text)) (sym (again_is p k text))
              (subst (λ (z : Result (List B × List ℕ) (Stop FaultKind)). Agrees (map f) v n text (again p k text) z) (sym (again_is q k text)) (e.by n text at));
        }

    pub many : Follows (read_many test p) (read_many test q) (map f) v
    many = record { by = λ n text at. (at_most (length (encode_utf8_all text))).by n text at }
