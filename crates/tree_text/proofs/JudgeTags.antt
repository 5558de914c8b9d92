-- The names of a tag are checked exactly: the reading function finds the first one that is wrong.
use Rattle.std.proofs.Common.{◌≡◌, ℕ, zero, suc, ◌+◌, ◌-◌, ◌<◌, ◌≤◌, Bool, true, false, cond, List, [], ◌∷◌, ◌++◌, length, ◌⊎◌, inl, inr, ⊎_elim, refl, sym, ap, subst, ◌∙◌, append_assoc, arith}
use Rattle.std.specs.Prelude.{Option, None, Some}
use Rattle.std.proofs.lemmas.List.{length-append, append-nil}
use Rattle.xml_names.specs.Characters.{is_name_start, is_name_char, is_space}
use Rattle.xml_names.specs.declared.names.Name.{Name}
use Rattle.xml_names.specs.declared.names.Decl.{Decl}
use Rattle.xml_grammar.specs.Rules.{SpellsEach, word, sequence, many, optional, keep_first, keep_second, name_rule as name_of}
use Rattle.xml_grammar.proofs.Heads.{uses}
use Rattle.xml_grammar.proofs.Marks.{Judges}
use Rattle.xml_tokens.specs.readers.Literals.{colon}
use Rattle.xml_tokens.specs.declared.fault_kind.FaultKind.{FaultKind}
use Rattle.xml_tokens.specs.declared.fault_kind.FaultKind.TheVariants.{Encoded, Doctyped, Depth, Unbound, Repeated}
use Rattle.tree_text.specs.declared.raw_attribute.RawAttribute.{RawAttribute}
use Rattle.tree_text.specs.FaultKinds.{is_fault, rank, fault_ranking}
use Rattle.xml_tokens.specs.Values.{qname_of, qname_text}
use Rattle.tree_text.specs.ContentPieces.{StartTag}
use Rattle.tree_text.specs.Names.{is_misnamed, is_repeated, IsWrongAttribute, attributes_size, IsTagFault, scope_inside_tag as inside, tag_front_size as opening, is_prefix_unbound as is_unbound}
use Rattle.tree_text.specs.readers.TagNameFaults.{attribute_fault, fault_or_later, first_attribute_fault, first_tag_fault, counted_from_end, tag_fault}
use Rattle.xml_tokens.specs.Tokens.{name, qname, spaces}
use Rattle.tree_text.specs.Grammar.{raw_attribute, tag_end, start_tag}
use Rattle.xml_tokens.proofs.NameLemmas.{prefixed_size}
use Rattle.tree_text.proofs.ReadParts.{starts_attribute}

-- # How long the parts of a tag are

-- a name, and a run that isn't empty, is the text that it spells
name_is : (first others : ℕ → Bool) (u l : List ℕ) → (name_of {Kind = FaultKind} first others).Spells u l → u ≡ l
name_is first others u l m = m.1.joined ∙ ap (λ (z : List ℕ). z ++ m.1.back) m.1.front_is.1 ∙ ap (λ (z : List ℕ). m.0.0 ∷ z) (sym m.1.back_is.1) ∙ sym m.2

name_some : (first others : ℕ → Bool) (u l : List ℕ) → (name_of {Kind = FaultKind} first others).Spells u l → 0 < length u
name_some first others u l m = omega (arith, ap length (name_is first others u l m), ap length m.2)

rest_size : (f v : List ℕ) (o : Option (List ℕ)) → 0 < length f → (optional (keep_second (word {Kind = FaultKind} colon) name)).Spells v o → length (qname_text (qname_of (f, o))) ≡ length f + length v
rest_size f v o h (inl m) =
    let e : length (qname_text (qname_of (f, o))) ≡ length (qname_text (qname_of (f, Some m.0))) = ap (λ (z : Option (List ℕ)). length (qname_text (qname_of (f, z)))) m.2 in
    let p : length (qname_text (qname_of (f, Some m.0))) ≡ length f + 1 + length m.0 = prefixed_size f m.0 h in
    let k : length m.0 ≡ length m.1.0.1 = ap length m.1.2 in
    let n : length m.1.1.back ≡ length m.1.0.1 = ap length (name_is is_name_start is_name_char m.1.1.back m.1.0.1 m.1.1.back_is) in
    let w : length m.1.1.front ≡ 1 = ap length m.1.1.front_is in
    let j : length v ≡ length (m.1.1.front ++ m.1.1.back) = ap length m.1.1.joined in
    omega (arith, e, p, k, n, w, j, length-append m.1.1.front m.1.1.back)
rest_size f v o h (inr m) =
    let e : length (qname_text (qname_of (f, o))) ≡ length f = ap (λ (z : Option (List ℕ)). length (qname_text (qname_of (f, z)))) m.1 in
    let w : length v ≡ 0 = ap length m.0 in
    omega (arith, e, w)

qname_size : (u : List ℕ) (n : Name) → qname.Spells u n → length (qname_text n) ≡ length u
qname_size u n m =
    let e : length (qname_text n) ≡ length (qname_text (qname_of m.0)) = ap (λ (z : Name). length (qname_text z)) m.2 in
    let f : length m.1.front ≡ length m.0.0 = ap length (name_is is_name_start is_name_char m.1.front m.0.0 m.1.front_is) in
    let s : 0 < length m.1.front = name_some is_name_start is_name_char m.1.front m.0.0 m.1.front_is in
    let r : length (qname_text (qname_of (m.0.0, m.0.1))) ≡ length m.0.0 + length m.1.back = rest_size m.0.0 m.1.back m.0.1 (omega (arith, f, s)) m.1.back_is in
    let j : length u ≡ length (m.1.front ++ m.1.back) = ap length m.1.joined in
    omega (arith, e, f, r, j, length-append m.1.front m.1.back)

said_size : (u : List ℕ) (s : RawAttribute) → raw_attribute.Spells u s → (length u ≡ s.gap + s.size) × (0 < s.size)
said_size u s m =
    let g : s.gap ≡ length m.0.0 = ap (λ (z : RawAttribute). z.gap) m.2 in
    let z : s.size ≡ m.0.1.1 = ap (λ (z : RawAttribute). z.size) m.2 in
    let f : length m.1.front ≡ length m.0.0 = ap length (name_is is_space is_space m.1.front m.0.0 m.1.front_is) in
    let b : m.0.1.1 ≡ length m.1.back = m.1.back_is.1 in
    let n : 0 < length m.1.back = uses (starts_attribute (fault_ranking 0) {P = λ c. is_name_start c ≡ true} (λ c t. t)) m.1.back m.0.1.0 m.1.back_is.0 in
    let j : length u ≡ length (m.1.front ++ m.1.back) = ap length m.1.joined in
    (omega (arith, g, z, f, b, j, length-append m.1.front m.1.back), omega (arith, z, b, n))

-- none of these is empty
abbrev pub AllSome : List RawAttribute → Type 0
AllSome [] = Unit {0}
AllSome (s ∷ ss) = (0 < s.size) × AllSome ss

each_size : (ss : List RawAttribute) (u : List ℕ) → SpellsEach raw_attribute ss u → (length u ≡ attributes_size ss) × AllSome ss
each_size [] u m = (ap length m, tt)
each_size (s ∷ ss) u m =
    let a = said_size m.front s m.front_is in
    let b = each_size ss m.back m.back_is in
    let j : length u ≡ length (m.front ++ m.back) = ap length m.joined in
    (omega (arith, a.0, b.0, j, length-append m.front m.back), (a.1, b.1))

end_size : (v : List ℕ) (b : Bool) → tag_end.Spells v b → 0 < length v
end_size v b (inl m) = let w : length v ≡ 2 = ap length m.1 in omega (arith, w)
end_size v b (inr m) = let w : length v ≡ 1 = ap length m.1 in omega (arith, w)

-- the text between the `<` and the end of a tag
record Fits (v : List ℕ) (x : Name × (List RawAttribute × Bool)) : Type 0 where
  room : length (qname_text x.0) + attributes_size x.1.0 + 1 ≤ length v
  some : AllSome x.1.0

inside_fits : (v : List ℕ) (x : Name × (List RawAttribute × Bool)) → (sequence qname (λ _. sequence (keep_first (many raw_attribute) spaces) (λ _. tag_end))).Spells v x → Fits v x
inside_fits v x m =
    let s = m.back_is in
    let b = s.front_is in
    let n : length (qname_text x.0) ≡ length m.front = qname_size m.front x.0 m.front_is in
    let e = each_size b.0.0 b.1.front b.1.front_is in
    let w : attributes_size x.1.0 ≡ attributes_size b.0.0 = ap attributes_size b.2 in
    let z : 0 < length s.back = end_size s.back x.1.1 s.back_is in
    let j : length v ≡ length (m.front ++ m.back) = ap length m.joined in
    let k : length m.back ≡ length (s.front ++ s.back) = ap length s.joined in
    let l : length s.front ≡ length (b.1.front ++ b.1.back) = ap length b.1.joined in
    record {
      room = omega (arith, n, e.0, w, z, j, k, l, length-append m.front m.back, length-append s.front s.back, length-append b.1.front b.1.back);
      some = subst AllSome (sym b.2) e.1;
    }

-- a whole tag has its size, and contains its names
pub record Sizes (u : List ℕ) (t : StartTag) : Type 0 where
  pub is_size : t.size ≡ length u
  pub room : opening t + attributes_size t.raw_attribute + 1 ≤ length u
  pub some : AllSome t.raw_attribute

pub tag_sizes : (u : List ℕ) (t : StartTag) → start_tag.Spells u t → Sizes u t
tag_sizes u t m =
    let h = m.1.0 in
    let f : Fits h.1.back m.0.0 = subst (Fits h.1.back) (sym h.2) (inside_fits h.1.back h.0.1 h.1.back_is) in
    let w : length h.1.front ≡ 1 = ap length h.1.front_is in
    let j : length u ≡ length (h.1.front ++ h.1.back) = ap length h.1.joined in
    subst (Sizes u) (sym m.2) (record {
      is_size = m.1.1;
      room = omega (arith, f.room, w, j, length-append h.1.front h.1.back);
      some = f.some;
    })

-- # The first wrong name

-- One of these raw attributes is wrong, after the earlier ones; its name is this many characters
-- into the tag.
record Wrong (here : List (List Decl)) (earlier : List RawAttribute) (at : ℕ) (later : List RawAttribute) (kind : FaultKind) (place : ℕ) : Type 0 where
  front : List RawAttribute
  raw_attribute : RawAttribute
  back : List RawAttribute
  among : later ≡ front ++ raw_attribute ∷ back
  wrong : IsWrongAttribute here (earlier ++ front) raw_attribute kind
  place_is : place ≡ at + attributes_size front + raw_attribute.gap

-- the result for one of them
abbrev JudgedSaid : List (List Decl) → List RawAttribute → RawAttribute → Option FaultKind → Type 0
JudgedSaid here earlier s None = (k : FaultKind) → IsWrongAttribute here earlier s k → ⊥
JudgedSaid here earlier s (Some kind) = IsWrongAttribute here earlier s kind × ((k : FaultKind) → IsWrongAttribute here earlier s k → rank kind ≤ rank k)

-- the result for all of them
abbrev Judged : (FaultKind → ℕ → Type 0) → Option (FaultKind × ℕ) → Type 0
Judged W None = (k : FaultKind) (p : ℕ) → W k p → ⊥
Judged W (Some x) = W x.0 x.1 × ((k : FaultKind) (p : ℕ) → W k p → (x.1 < p) ⊎ ((p ≡ x.1) × (rank x.0 ≤ rank k)))

-- an unbound prefix comes before anything else that is wrong with one of them
unbound_least : (here : List (List Decl)) (earlier : List RawAttribute) (s : RawAttribute) (k : FaultKind) → IsWrongAttribute here earlier s k → rank Unbound ≤ rank k
unbound_least here earlier s Unbound m = omega arith
unbound_least here earlier s Repeated m = omega arith
unbound_least here earlier s Encoded m = absurd m
unbound_least here earlier s Doctyped m = absurd m
unbound_least here earlier s (Depth d) m = absurd m

module _ (here : List (List Decl)) where
  by_tests : (earlier : List RawAttribute) (s : RawAttribute) (a b : Bool) → is_misnamed here s ≡ a → is_repeated here earlier s ≡ b → JudgedSaid here earlier s (cond a (Some Unbound) (cond b (Some Repeated) None))
  by_tests earlier s true b e f = (e, unbound_least here earlier s)
  by_tests earlier s false true e f = (f, least)
    where
      least : (k : FaultKind) → IsWrongAttribute here earlier s k → rank Repeated ≤ rank k
      least Unbound m = absurd cc
      least Repeated m = omega arith
      least Encoded m = absurd m
      least Doctyped m = absurd m
      least (Depth d) m = absurd m
  by_tests earlier s false false e f = none
    where
      none : (k : FaultKind) → IsWrongAttribute here earlier s k → ⊥
      none Unbound m = absurd cc
      none Repeated m = absurd cc
      none Encoded m = m
      none Doctyped m = m
      none (Depth d) m = m

  said_judged : (earlier : List RawAttribute) (s : RawAttribute) → JudgedSaid here earlier s (attribute_fault here earlier s)
  said_judged earlier s = by_tests earlier s (is_misnamed here s) (is_repeated here earlier s) refl refl

  module _ (earlier : List RawAttribute) (at : ℕ) (s : RawAttribute) (later : List RawAttribute) where
    abbrev All : FaultKind → ℕ → Type 0
    All = Wrong here earlier at (s ∷ later)

    abbrev Later : FaultKind → ℕ → Type 0
    Later = Wrong here (earlier ++ s ∷ []) (at + (s.gap + s.size)) later

    -- the first is wrong, or a later one
    apart : (k : FaultKind) (p : ℕ) (front : List RawAttribute) (x : RawAttribute) (back : List RawAttribute) → s ∷ later ≡ front ++ x ∷ back → IsWrongAttribute here (earlier ++ front) x k → p ≡ at + attributes_size front + x.gap → (IsWrongAttribute here earlier s k × (p ≡ at + s.gap)) ⊎ Later k p
    apart k p [] x back j w e =
        let i : s ≡ x = cc in
        let g : s.gap ≡ x.gap = ap (λ (z : RawAttribute). z.gap) i in
        let v : IsWrongAttribute here earlier x k = subst (λ (z : List RawAttribute). IsWrongAttribute here z x k) (append-nil earlier) w in
        inl (subst (λ (z : RawAttribute). IsWrongAttribute here earlier z k) (sym i) v, omega (arith, e, g))
    apart k p (y ∷ front) x back j w e =
        let i : s ≡ y = cc in
        let r : later ≡ front ++ x ∷ back = cc in
        let g : s.gap ≡ y.gap = ap (λ (z : RawAttribute). z.gap) i in
        let h : s.size ≡ y.size = ap (λ (z : RawAttribute). z.size) i in
        let m : earlier ++ (y ∷ front) ≡ (earlier ++ s ∷ []) ++ front = ap (λ (z : RawAttribute). earlier ++ (z ∷ front)) (sym i) ∙ sym (append_assoc earlier (s ∷ []) front) in
        inr (record { front = front; raw_attribute = x; back = back; among = r; wrong = subst (λ (z : List RawAttribute). IsWrongAttribute here z x k) m w; place_is = omega (arith, e, g, h) })

    apart_of : (k : FaultKind) (p : ℕ) → All k p → (IsWrongAttribute here earlier s k × (p ≡ at + s.gap)) ⊎ Later k p
    apart_of k p w = apart k p w.front w.raw_attribute w.back w.among w.wrong w.place_is

    at_first : (k : FaultKind) → IsWrongAttribute here earlier s k → All k (at + s.gap)
    at_first k w = record { front = []; raw_attribute = s; back = later; among = refl; wrong = subst (λ (z : List RawAttribute). IsWrongAttribute here z s k) (sym (append-nil earlier)) w; place_is = omega arith }

    at_later : (k : FaultKind) (p : ℕ) → Later k p → All k p
    at_later k p w = record {
      front = s ∷ w.front;
      raw_attribute = w.raw_attribute;
      back = w.back;
      among = ap (λ (z : List RawAttribute). s ∷ z) w.among;
      wrong = subst (λ (z : List RawAttribute). IsWrongAttribute here z w.raw_attribute k) (append_assoc earlier (s ∷ []) w.front) w.wrong;
      place_is = omega (arith, w.place_is);
    }

    together : (o : Option FaultKind) (r : Option (FaultKind × ℕ)) → 0 < s.size → JudgedSaid here earlier s o → Judged Later r → Judged All (fault_or_later o (at + s.gap) r)
    together None None some first rest = λ k p w. ⊎_elim (λ m. first k m.0) (λ m. rest k p m) (apart_of k p w)
    together None (Some x) some first rest = (at_later x.0 x.1 rest.0, λ k p w. ⊎_elim (λ m. absurd (first k m.0)) (λ m. rest.1 k p m) (apart_of k p w))
    together (Some kind) r some first rest = (at_first kind first.0, λ k p w. ⊎_elim (λ m. inr (m.1, first.1 k m.0)) (λ m. inl (omega (arith, m.place_is, some))) (apart_of k p w))

  judged : (later earlier : List RawAttribute) (at : ℕ) → AllSome later → Judged (Wrong here earlier at later) (first_attribute_fault here earlier at later)
  judged [] earlier at some = λ k p w. absurd (let e : 0 ≡ length (w.front ++ w.raw_attribute ∷ w.back) = ap length w.among in omega (arith, e, length-append w.front (w.raw_attribute ∷ w.back)))
  judged (s ∷ later) earlier at some = together earlier at s later (attribute_fault here earlier s) (first_attribute_fault here (earlier ++ s ∷ []) (at + (s.gap + s.size)) later) some.0 (said_judged earlier s) (judged later (earlier ++ s ∷ []) (at + (s.gap + s.size)) some.1)

-- # Tags

-- the element's own name, or the name of a raw attribute
abbrev WrongIn : List (List Decl) → StartTag → FaultKind → ℕ → Type 0
WrongIn here t k p = ((is_unbound here t.name ≡ true) × (k ≡ Unbound) × (p ≡ 1)) ⊎ Wrong here [] (opening t) t.raw_attribute k p

no_less : (p : ℕ) (Q : Type 0) → 1 ≤ p → Q → (1 < p) ⊎ ((p ≡ 1) × Q)
no_less zero Q h q = absurd (omega (arith, h))
no_less (suc zero) Q h q = inr (refl, q)
no_less (suc (suc p)) Q h q = inl (omega arith)

name_first : (here : List (List Decl)) (t : StartTag) → is_unbound here t.name ≡ true → Judged (WrongIn here t) (Some (Unbound, 1))
name_first here t e = (inl (e, refl, refl), first)
  where
    first : (k : FaultKind) (p : ℕ) → WrongIn here t k p → (1 < p) ⊎ ((p ≡ 1) × (rank Unbound ≤ rank k))
    first k p (inl m) = inr (m.2, omega (arith, ap rank m.1))
    first k p (inr m) = no_less p (rank Unbound ≤ rank k) (omega (arith, m.place_is)) (unbound_least here m.front m.raw_attribute k m.wrong)

name_right : (here : List (List Decl)) (t : StartTag) (o : Option (FaultKind × ℕ)) → is_unbound here t.name ≡ false → Judged (Wrong here [] (opening t) t.raw_attribute) o → Judged (WrongIn here t) o
name_right here t None e h = none
  where
    none : (k : FaultKind) (p : ℕ) → WrongIn here t k p → ⊥
    none k p (inl m) = let u = m.0 in absurd cc
    none k p (inr m) = h k p m
name_right here t (Some x) e h = (inr h.0, first)
  where
    first : (k : FaultKind) (p : ℕ) → WrongIn here t k p → (x.1 < p) ⊎ ((p ≡ x.1) × (rank x.0 ≤ rank k))
    first k p (inl m) = let u = m.0 in absurd cc
    first k p (inr m) = h.1 k p m

name_by : (here : List (List Decl)) (t : StartTag) (b : Bool) (o : Option (FaultKind × ℕ)) → is_unbound here t.name ≡ b → Judged (Wrong here [] (opening t) t.raw_attribute) o → Judged (WrongIn here t) (cond b (Some (Unbound, 1)) o)
name_by here t true o e h = name_first here t e
name_by here t false o e h = name_right here t o e h

tag_judged : (here : List (List Decl)) (t : StartTag) → AllSome t.raw_attribute → Judged (WrongIn here t) (first_tag_fault here t)
tag_judged here t some = name_by here t (is_unbound here t.name) (first_attribute_fault here [] (opening t) t.raw_attribute) refl (judged here t.raw_attribute [] (opening t) some)

-- # Counted from the end of the tag

pub widths_parts : (front : List RawAttribute) (s : RawAttribute) (back : List RawAttribute) → attributes_size (front ++ s ∷ back) ≡ attributes_size front + (s.gap + s.size + attributes_size back)
widths_parts [] s back = omega arith
widths_parts (x ∷ front) s back = omega (arith, widths_parts front s back)

counted_none : (n : ℕ) (o : Option (FaultKind × ℕ)) → counted_from_end n o ≡ None → o ≡ None
counted_none n None e = refl
counted_none n (Some y) e = absurd cc

some_is : {A : Type 0} {a b : A} → let o : Option A = Some a in o ≡ Some b → a ≡ b
some_is e = cc

counted_some : (n : ℕ) (o : Option (FaultKind × ℕ)) (x : FaultKind × ℕ) → counted_from_end n o ≡ Some x → (y : FaultKind × ℕ) × (o ≡ Some y) × ((y.0, n - y.1) ≡ x)
counted_some n None x e = absurd cc
counted_some n (Some y) x e = (y, refl, some_is e)

module _ (scope : List (List Decl)) where
  -- counted from its start
  from_front : (t : StartTag) (k : FaultKind) (b : ℕ) → IsTagFault scope t k b → (p : ℕ) × WrongIn (inside scope t) t k p × (b + p ≡ t.size)
  from_front t k b (inl w) = (1, inl (w.wrong, w.kind_is, refl), w.place)
  from_front t k b (inr w) = (opening t + attributes_size w.earlier + w.raw_attribute.gap, inr (record { front = w.earlier; raw_attribute = w.raw_attribute; back = w.later; among = w.among; wrong = w.wrong; place_is = refl }), w.place)

  place_fits : (u : List ℕ) (t : StartTag) (k : FaultKind) (p : ℕ) → Sizes u t → WrongIn (inside scope t) t k p → p + 1 ≤ t.size
  place_fits u t k p z (inl m) = omega (arith, z.is_size, z.room, m.2)
  place_fits u t k p z (inr m) =
      let w : attributes_size t.raw_attribute ≡ attributes_size (m.front ++ m.raw_attribute ∷ m.back) = ap attributes_size m.among in
      omega (arith, z.is_size, z.room, m.place_is, w, widths_parts m.front m.raw_attribute m.back)

  from_end : (u : List ℕ) (t : StartTag) (k : FaultKind) (p : ℕ) → Sizes u t → WrongIn (inside scope t) t k p → IsTagFault scope t k (t.size - p)
  from_end u t k p z (inl m) =
      let f = place_fits u t k p z (inl m) in
      inl (record { wrong = m.0; kind_is = m.1; place = omega (arith, f, m.2) })
  from_end u t k p z (inr m) =
      let f = place_fits u t k p z (inr m) in
      inr (record { earlier = m.front; raw_attribute = m.raw_attribute; later = m.back; among = m.among; wrong = m.wrong; place = omega (arith, f, m.place_is) })

said_fault : (limit : ℕ) (here : List (List Decl)) (earlier : List RawAttribute) (s : RawAttribute) (k : FaultKind) → IsWrongAttribute here earlier s k → is_fault limit k ≡ true
said_fault limit here earlier s Unbound m = refl
said_fault limit here earlier s Repeated m = refl
said_fault limit here earlier s Encoded m = absurd m
said_fault limit here earlier s Doctyped m = absurd m
said_fault limit here earlier s (Depth d) m = absurd m

pub is_wrong_fault : (limit : ℕ) (scope : List (List Decl)) (t : StartTag) (k : FaultKind) (b : ℕ) → IsTagFault scope t k b → is_fault limit k ≡ true
is_wrong_fault limit scope t k b (inl w) = ap (is_fault limit) w.kind_is
is_wrong_fault limit scope t k b (inr w) = said_fault limit (inside scope t) w.earlier w.raw_attribute k w.wrong

module _ (limit : ℕ) (scope : List (List Decl)) where
  judged_at : (u : List ℕ) (t : StartTag) → start_tag.Spells u t → (o : Option (FaultKind × ℕ)) → first_tag_fault (inside scope t) t ≡ o → Judged (WrongIn (inside scope t) t) o
  judged_at u t s o e = subst (Judged (WrongIn (inside scope t) t)) e (tag_judged (inside scope t) t (tag_sizes u t s).some)

  tag_within : (u : List ℕ) (t : StartTag) (k : FaultKind) (b : ℕ) → start_tag.Spells u t → IsTagFault scope t k b → (0 < b) × (b ≤ length u)
  tag_within u t k b s m =
      let z = tag_sizes u t s in
      let f = from_front scope t k b m in
      let g = place_fits scope u t k f.0 z f.1 in
      (omega (arith, f.2, g), omega (arith, f.2, z.is_size))

  tag_says : (u : List ℕ) (t : StartTag) → start_tag.Spells u t → (x : FaultKind × ℕ) → tag_fault scope t ≡ Some x → IsTagFault scope t x.0 x.1
  tag_says u t s x e =
      let c = counted_some t.size (first_tag_fault (inside scope t) t) x e in
      let j = judged_at u t s (Some c.0) c.1 in
      subst (λ (z : FaultKind × ℕ). IsTagFault scope t z.0 z.1) c.2 (from_end scope u t c.0.0 c.0.1 (tag_sizes u t s) j.0)

  tag_first : (u : List ℕ) (t : StartTag) → start_tag.Spells u t → (x : FaultKind × ℕ) → tag_fault scope t ≡ Some x → (k : FaultKind) (b : ℕ) → IsTagFault scope t k b → (b < x.1) ⊎ ((b ≡ x.1) × (rank x.0 ≤ rank k))
  tag_first u t s x e k b m =
      let c = counted_some t.size (first_tag_fault (inside scope t) t) x e in
      let j = judged_at u t s (Some c.0) c.1 in
      let f = from_front scope t k b m in
      let g = place_fits scope u t c.0.0 c.0.1 (tag_sizes u t s) j.0 in
      let i : t.size - c.0.1 ≡ x.1 = ap (λ (z : FaultKind × ℕ). z.1) c.2 in
      let r : rank c.0.0 ≡ rank x.0 = ap (λ (z : FaultKind × ℕ). rank z.0) c.2 in
      ⊎_elim
      (λ l. inl (omega (arith, l, f.2, g, i)))
      (λ l. inr (omega (arith, l.0, f.2, g, i), omega (arith, l.1, r)))
      (j.1 k f.0 f.1)

  -- The names of a tag are checked as the grammar says.
  pub tag_judges : Judges (fault_ranking limit) (IsTagFault scope) start_tag (tag_fault scope)
  tag_judges = record {
    within = tag_within;
    silent = λ u t s none k b m. let f = from_front scope t k b m in absurd (judged_at u t s None (counted_none t.size (first_tag_fault (inside scope t) t) none) k f.0 f.1);
    says = tag_says;
    is_fault = λ u t s x e. is_wrong_fault limit scope t x.0 x.1 (tag_says u t s x e);
    first = λ u t s x e k b m t0. tag_first u t s x e k b m;
  }
