-- A tag in which nothing is wrong is proper in its scope.
use Rattle.std.proofs.Common.{◌≡◌, ℕ, ◌+◌, ◌-◌, ◌≤◌, arith, Bool, true, false, cond, List, [], ◌∷◌, ◌++◌, inl, inr, IsTrue, map, refl, sym, ap, subst, ◌∙◌, append_assoc}
use Rattle.std.specs.Prelude.{◌&&◌, ◌||◌, ◌≢◌, ◌==◌, not, Option, None, Some, IsSome, is_some}
use Rattle.std.specs.List.{list_all, list_any, AllByRecursion, IsDistinct, cons_option as with_char}
use Rattle.std.specs.Str.{bytes_eq}
use Rattle.xml_names.specs.Characters.{is_char, is_name_start, is_name_char, is_name}
use Rattle.xml_names.specs.Scopes.{bound_uri, xmlns_prefix}
use Rattle.xml_names.specs.ExpandedNames.{attr_name, same_expanded}
use Rattle.xml_tree.specs.Proper.{is_prefix, is_allowed_decl, is_proper_decl, IsProperName, IsProperAttr, IsProperTag}
use Rattle.xml_names.specs.declared.names.Name.{Name}
use Rattle.xml_names.specs.declared.names.Decl.{Decl}
use Rattle.xml_grammar.specs.Digits.{decimal_digits, hexadecimal_digits}
use Rattle.xml_grammar.specs.Rules.{AllPass, SpellsEach, word, char_run, number, sequence, either, optional, keep_second}
use Rattle.xml_grammar.proofs.Fronts.{pass_append}
use Rattle.xml_tokens.specs.readers.Literals.{colon, letter_x}
use Rattle.xml_tokens.specs.declared.fault_kind.FaultKind.{FaultKind}
use Rattle.xml_tokens.specs.declared.fault_kind.FaultKind.TheVariants.{Unbound, Repeated}
use Rattle.tree_text.specs.declared.raw_attribute.RawAttribute.{RawAttribute}
use Rattle.xml_tokens.specs.Values.{qname_of, normalize_line_ends, normalize_spaces, normalized_raw, pieces_value}
use Rattle.tree_text.specs.ContentPieces.{StartTag}
use Rattle.tree_text.specs.Names.{raw_attribute_attr, decls_of, attrs_of, is_misnamed, repeats_name, is_repeated, attributes_size, IsTagFault, scope_inside_tag as inside, tag_front_size as opening, raw_attribute_decl as decl_of, is_xmlns_attr_name as declares, is_prefix_unbound as is_unbound}
use Rattle.xml_tokens.specs.Tokens.{max_char, name, qname, reference, char_ref, entity, is_raw_char, is_raw_value_char, value}
use Rattle.tree_text.specs.Grammar.{raw_attribute, start_tag}
use Rattle.tree_text.proofs.JudgeTags.{widths_parts, tag_sizes}
use Rattle.xml_tokens.proofs.CharacterTests.{join, pass_all}

or_right : (a b : Bool) → b ≡ true → a || b ≡ true
or_right true b h = refl
or_right false b h = h

pub weaker : (p q : ℕ → Bool) → ((c : ℕ) → p c ≡ true → q c ≡ true) → (cs : List ℕ) → AllPass p cs → AllPass q cs
weaker p q f [] h = tt
weaker p q f (c ∷ cs) h = (f c h.0, weaker p q f cs h.1)

-- # Names

name_proper : (u l : List ℕ) → name.Spells u l → is_name l ≡ true
name_proper u l m = ap is_name m.2 ∙ join (is_name_start m.0.0) (list_all is_name_char m.0.1) m.1.front_is.0 (pass_all is_name_char m.0.1 (subst (AllPass is_name_char) (sym m.1.back_is.1) m.1.back_is.0))

record IsQName (n : Name) : Type 0 where
  prefix : is_prefix n.prefix ≡ true
  local : is_name n.local ≡ true

qname_by_rest : (f v : List ℕ) (o : Option (List ℕ)) → is_name f ≡ true → (optional (keep_second (word {Kind = FaultKind} colon) name)).Spells v o → IsQName (qname_of (f, o))
qname_by_rest f v o h (inl r) = subst (λ (z : Option (List ℕ)). IsQName (qname_of (f, z))) (sym r.2) (record {
  prefix = or_right (bytes_eq f []) (is_name f) h;
  local = ap is_name r.1.2 ∙ name_proper r.1.1.back r.1.0.1 r.1.1.back_is;
})
qname_by_rest f v o h (inr r) = subst (λ (z : Option (List ℕ)). IsQName (qname_of (f, z))) (sym r.1) (record { prefix = refl; local = h })

qname_proper : (u : List ℕ) (n : Name) → qname.Spells u n → IsQName n
qname_proper u n m = subst IsQName (sym m.2) (qname_by_rest m.0.0 m.1.back m.0.1 (name_proper m.1.front m.0.0 m.1.front_is) m.1.back_is)

-- # Values

first_true : (a b c : Bool) → a && b && c ≡ true → a ≡ true
first_true true b c h = refl
first_true false b c h = absurd cc

two_true : (a b : Bool) → a && b ≡ true → a ≡ true
two_true true b h = refl
two_true false b h = absurd cc

pub raw_char : (c : ℕ) → is_raw_char c ≡ true → is_char c ≡ true
raw_char c h = first_true (is_char c) _ _ h

lines_by : (a b : Bool) (c : ℕ) (xs : List ℕ) → is_char c ≡ true → AllPass is_char xs → AllPass is_char (with_char (cond a (cond b None (Some 10)) (Some c)) xs)
lines_by true true c xs h k = k
lines_by true false c xs h k = (refl, k)
lines_by false b c xs h k = (h, k)

pub lines_chars : (cs : List ℕ) → AllPass is_char cs → AllPass is_char (normalize_line_ends cs)
lines_chars [] h = tt
lines_chars (c ∷ cs) h = lines_by _ _ c (normalize_line_ends cs) h.0 (lines_chars cs h.1)

blank_by : (a : Bool) (c : ℕ) → is_char c ≡ true → is_char (cond a 32 c) ≡ true
blank_by true c h = refl
blank_by false c h = h

pub blanks_chars : (cs : List ℕ) → AllPass is_char cs → AllPass is_char (normalize_spaces cs)
blanks_chars [] h = tt
blanks_chars (c ∷ cs) h = (blank_by (c == 9 || c == 10) c h.0, blanks_chars cs h.1)

raw_chars : (q : ℕ) (cs : List ℕ) → AllPass (is_raw_value_char q) cs → AllPass is_char (normalized_raw cs)
raw_chars q cs h = blanks_chars (normalize_line_ends cs) (lines_chars cs (weaker (is_raw_value_char q) is_char (λ c k. raw_char c (two_true (is_raw_char c) _ k)) cs h))

number_char : (v : List ℕ) (c : ℕ) → (either (keep_second (word {Kind = FaultKind} letter_x) (number hexadecimal_digits max_char is_char)) (number decimal_digits max_char is_char)).Spells v c → is_char c ≡ true
number_char v c (inl m) = ap is_char m.2 ∙ m.1.back_is.3
number_char v c (inr m) = m.3

entity_char : (v : List ℕ) (c : ℕ) → entity.Spells v c → is_char c ≡ true
entity_char v c (inl m) = ap is_char m.2
entity_char v c (inr (inl m)) = ap is_char m.2
entity_char v c (inr (inr (inl m))) = ap is_char m.2
entity_char v c (inr (inr (inr (inl m)))) = ap is_char m.2
entity_char v c (inr (inr (inr (inr m)))) = ap is_char m.2

named_char : (v : List ℕ) (c : ℕ) → (either char_ref entity).Spells v c → is_char c ≡ true
named_char v c (inl m) = ap is_char m.2 ∙ number_char m.1.back m.0.1 m.1.back_is
named_char v c (inr m) = entity_char v c m

pub reference_char : (u : List ℕ) (c : ℕ) → reference.Spells u c → is_char c ≡ true
reference_char u c m = let k = m.1.back_is in ap is_char (m.2 ∙ k.2) ∙ named_char k.1.front k.0.0 k.1.front_is

more_chars : (q : ℕ) (xs : List (ℕ × List ℕ)) (v : List ℕ) → SpellsEach (sequence reference (λ _. char_run {Kind = FaultKind} (is_raw_value_char q))) xs v → AllPass is_char (pieces_value xs)
more_chars q [] v m = tt
more_chars q ((c, cs) ∷ xs) v m =
    let k = m.front_is in
    (reference_char k.front c k.front_is, pass_append is_char (normalized_raw cs) (pieces_value xs) (raw_chars q cs (subst (AllPass (is_raw_value_char q)) (sym k.back_is.1) k.back_is.0)) (more_chars q xs m.back m.back_is))

value_chars : (q : ℕ) (u cs : List ℕ) → (value q).Spells u cs → AllPass is_char cs
value_chars q u cs m = subst (AllPass is_char) (sym m.2) (pass_append is_char (normalized_raw m.0.0) (pieces_value m.0.1) (raw_chars q m.0.0 (subst (AllPass (is_raw_value_char q)) (sym m.1.front_is.1) m.1.front_is.0)) (more_chars q m.0.1 m.1.back m.1.back_is))

-- # The raw attributes of a tag

record IsSaid (s : RawAttribute) : Type 0 where
  named : IsQName s.name
  chars : AllPass is_char s.value

said_proper : (u : List ℕ) (s : RawAttribute) → raw_attribute.Spells u s → IsSaid s
said_proper u s m =
    let a = m.1.back_is.0 in
    let b = a.back_is in
    let q = b.1.back_is in
    let k = q.1.back_is in
    subst IsSaid (sym m.2) (record {
      named = qname_proper a.front m.0.1.0.0 a.front_is;
      chars = subst (AllPass is_char) (sym (b.2 ∙ q.2 ∙ k.2)) (value_chars q.0.0 k.1.front k.0.0 k.1.front_is);
    })

abbrev AllSaid : List RawAttribute → Type 0
AllSaid [] = Unit {0}
AllSaid (s ∷ ss) = IsSaid s × AllSaid ss

each_proper : (ss : List RawAttribute) (u : List ℕ) → SpellsEach raw_attribute ss u → AllSaid ss
each_proper [] u m = tt
each_proper (s ∷ ss) u m = (said_proper m.front s m.front_is, each_proper ss m.back m.back_is)

-- nothing is wrong with these, after the earlier ones
abbrev AllRight : List (List Decl) → List RawAttribute → List RawAttribute → Type 0
AllRight here earlier [] = Unit {0}
AllRight here earlier (s ∷ ss) = (is_misnamed here s ≡ false) × (is_repeated here earlier s ≡ false) × AllRight here (earlier ++ s ∷ []) ss

known_of : (p : List ℕ) (o : Option (List ℕ)) → not (bytes_eq p []) && not (is_some o) ≡ false → p ≢ [] → IsSome o
known_of [] o h n = absurd (n refl)
known_of (c ∷ cs) (Some x) h n = refl
known_of (c ∷ cs) None h n = absurd cc

named_in : (here : List (List Decl)) (n : Name) → IsQName n → is_unbound here n ≡ false → IsProperName here n
named_in here n q h = record { prefix = q.prefix; local = q.local; known = known_of n.prefix (bound_uri here n.prefix) h }

not_false : (b : Bool) → not b ≡ false → b ≡ true
not_false true h = refl
not_false false h = absurd cc

prefix_by : (b : Bool) (l : List ℕ) → is_name l ≡ true → is_prefix (cond b [] l) ≡ true
prefix_by true l h = refl
prefix_by false l h = or_right (bytes_eq l []) (is_name l) h

decl_proper : (s : RawAttribute) → IsSaid s → is_allowed_decl (decl_of s) ≡ true → IsTrue (is_proper_decl (decl_of s))
decl_proper s i h =
    let p : is_prefix (decl_of s).prefix ≡ true = prefix_by (bytes_eq s.name.prefix []) s.name.local i.named.local in
    let c : list_all is_char s.value ≡ true = pass_all is_char s.value i.chars in
    three (is_prefix (decl_of s).prefix) (list_all is_char s.value) (is_allowed_decl (decl_of s)) p c h
  where
    three : (a b c : Bool) → a ≡ true → b ≡ true → c ≡ true → a && b && c ≡ true
    three true true true h i j = refl
    three true true false h i j = absurd cc
    three true false c h i j = absurd cc
    three false b c h i j = absurd cc

other_name : (n : Name) → declares n ≡ false → n.prefix ≡ [] → n.local ≢ xmlns_prefix
other_name n d e f =
    let t : declares n ≡ true = ap (λ (z : List ℕ). (bytes_eq z [] && bytes_eq n.local xmlns_prefix) || bytes_eq z xmlns_prefix) e ∙ ap (λ (z : List ℕ). (bytes_eq [] [] && bytes_eq z xmlns_prefix) || bytes_eq [] xmlns_prefix) f in
    absurd cc

module _ (here : List (List Decl)) where
  attr_proper : (s : RawAttribute) → IsSaid s → declares s.name ≡ false → is_unbound here s.name ≡ false → IsProperAttr here (raw_attribute_attr s)
  attr_proper s i d h = record { named = named_in here s.name i.named h; other = other_name s.name d; value = pass_all is_char s.value i.chars }

  misnamed_decl : (s : RawAttribute) → declares s.name ≡ true → is_misnamed here s ≡ false → is_allowed_decl (decl_of s) ≡ true
  misnamed_decl s d h = not_false (is_allowed_decl (decl_of s)) (by (declares s.name) d h)
    where
      by : (b : Bool) → b ≡ true → cond b (not (is_allowed_decl (decl_of s))) (is_unbound here s.name) ≡ false → not (is_allowed_decl (decl_of s)) ≡ false
      by true e k = k
      by false e k = absurd cc

  misnamed_attr : (s : RawAttribute) → declares s.name ≡ false → is_misnamed here s ≡ false → is_unbound here s.name ≡ false
  misnamed_attr s d h = by (declares s.name) d h
    where
      by : (b : Bool) → b ≡ false → cond b (not (is_allowed_decl (decl_of s))) (is_unbound here s.name) ≡ false → is_unbound here s.name ≡ false
      by true e k = absurd cc
      by false e k = k

  decls_proper : (ss earlier : List RawAttribute) → AllSaid ss → AllRight here earlier ss → AllByRecursion (λ d. IsTrue (is_proper_decl d)) (decls_of ss)
  decls_proper [] earlier i h = tt
  decls_proper (s ∷ ss) earlier i h = by (declares s.name) refl (decls_proper ss (earlier ++ s ∷ []) i.1 h.2)
    where
      by : (b : Bool) → declares s.name ≡ b → AllByRecursion (λ d. IsTrue (is_proper_decl d)) (decls_of ss) → AllByRecursion (λ d. IsTrue (is_proper_decl d)) (cond b (decl_of s ∷ decls_of ss) (decls_of ss))
      by true e r = (decl_proper s i.0 (misnamed_decl s e h.0), r)
      by false e r = r

  attrs_proper : (ss earlier : List RawAttribute) → AllSaid ss → AllRight here earlier ss → AllByRecursion (IsProperAttr here) (attrs_of ss)
  attrs_proper [] earlier i h = tt
  attrs_proper (s ∷ ss) earlier i h = by (declares s.name) refl (attrs_proper ss (earlier ++ s ∷ []) i.1 h.2)
    where
      by : (b : Bool) → declares s.name ≡ b → AllByRecursion (IsProperAttr here) (attrs_of ss) → AllByRecursion (IsProperAttr here) (cond b (attrs_of ss) (raw_attribute_attr s ∷ attrs_of ss))
      by true e r = r
      by false e r = (attr_proper s i.0 e (misnamed_attr s e h.0), r)

  -- no later raw attribute repeats the meaning of this one
  any_false : (test : RawAttribute → Bool) (pre : List RawAttribute) (e : RawAttribute) (post : List RawAttribute) → list_any test (pre ++ e ∷ post) ≡ false → test e ≡ false
  any_false test [] e post h = or_left (test e) (list_any test post) h
    where
      or_left : (a b : Bool) → a || b ≡ false → a ≡ false
      or_left true b h = absurd cc
      or_left false b h = refl
  any_false test (x ∷ pre) e post h = any_false test pre e post (fault_or_later (test x) (list_any test (pre ++ e ∷ post)) h)
    where
      fault_or_later : (a b : Bool) → a || b ≡ false → b ≡ false
      fault_or_later true b h = absurd cc
      fault_or_later false b h = h

  unsaid : (ss pre : List RawAttribute) (e : RawAttribute) (post : List RawAttribute) → AllRight here (pre ++ e ∷ post) ss → AllByRecursion (λ s. repeats_name here s e ≡ false) ss
  unsaid [] pre e post h = tt
  unsaid (s ∷ ss) pre e post h = (any_false (repeats_name here s) pre e post h.1, unsaid ss pre e (post ++ s ∷ []) (subst (λ (z : List RawAttribute). AllRight here z ss) (append_assoc pre (e ∷ post) (s ∷ [])) h.2))

  decls_apart : (e : RawAttribute) (ss : List RawAttribute) → declares e.name ≡ true → AllByRecursion (λ s. repeats_name here s e ≡ false) ss → AllByRecursion (λ y. bytes_eq (decl_of e).prefix y ≡ false) (map (λ d. d.prefix) (decls_of ss))
  decls_apart e [] d h = tt
  decls_apart e (s ∷ ss) d h = by (declares s.name) h.0 (decls_apart e ss d h.1)
    where
      meets : (a b c : Bool) → a ≡ true → cond true (a && b) c ≡ false → b ≡ false
      meets true b c k g = g
      meets false b c k g = absurd cc

      by : (b : Bool) → cond b (declares e.name && bytes_eq (decl_of e).prefix (decl_of s).prefix) (not (declares e.name) && same_expanded (attr_name here e.name) (attr_name here s.name)) ≡ false
          → AllByRecursion (λ y. bytes_eq (decl_of e).prefix y ≡ false) (map (λ d. d.prefix) (decls_of ss)) → AllByRecursion (λ y. bytes_eq (decl_of e).prefix y ≡ false) (map (λ d. d.prefix) (cond b (decl_of s ∷ decls_of ss) (decls_of ss)))
      by true g r = (meets (declares e.name) (bytes_eq (decl_of e).prefix (decl_of s).prefix) true d g, r)
      by false g r = r

  attrs_apart : (e : RawAttribute) (ss : List RawAttribute) → declares e.name ≡ false → AllByRecursion (λ s. repeats_name here s e ≡ false) ss → AllByRecursion (λ y. same_expanded (attr_name here e.name) y ≡ false) (map (λ a. attr_name here a.name) (attrs_of ss))
  attrs_apart e [] d h = tt
  attrs_apart e (s ∷ ss) d h = by (declares s.name) h.0 (attrs_apart e ss d h.1)
    where
      meets : (a b : Bool) → a ≡ false → not a && b ≡ false → b ≡ false
      meets true b k g = absurd cc
      meets false b k g = g

      by : (b : Bool) → cond b (declares e.name && bytes_eq (decl_of e).prefix (decl_of s).prefix) (not (declares e.name) && same_expanded (attr_name here e.name) (attr_name here s.name)) ≡ false
          → AllByRecursion (λ y. same_expanded (attr_name here e.name) y ≡ false) (map (λ a. attr_name here a.name) (attrs_of ss)) → AllByRecursion (λ y. same_expanded (attr_name here e.name) y ≡ false) (map (λ a. attr_name here a.name) (cond b (attrs_of ss) (raw_attribute_attr s ∷ attrs_of ss)))
      by true g r = r
      by false g r = (meets (declares e.name) (same_expanded (attr_name here e.name) (attr_name here s.name)) d g, r)

  decls_distinct : (ss earlier : List RawAttribute) → AllRight here earlier ss → IsDistinct bytes_eq (map (λ d. d.prefix) (decls_of ss))
  unfolding IsDistinct
  decls_distinct [] earlier h = tt
  decls_distinct (s ∷ ss) earlier h = by (declares s.name) refl (decls_distinct ss (earlier ++ s ∷ []) h.2)
    where
      by : (b : Bool) → declares s.name ≡ b → IsDistinct bytes_eq (map (λ d. d.prefix) (decls_of ss)) → IsDistinct bytes_eq (map (λ d. d.prefix) (cond b (decl_of s ∷ decls_of ss) (decls_of ss)))
      by true e r = (decls_apart s ss e (unsaid ss earlier s [] h.2), r)
      by false e r = r

  attrs_distinct : (ss earlier : List RawAttribute) → AllRight here earlier ss → IsDistinct same_expanded (map (λ a. attr_name here a.name) (attrs_of ss))
  unfolding IsDistinct
  attrs_distinct [] earlier h = tt
  attrs_distinct (s ∷ ss) earlier h = by (declares s.name) refl (attrs_distinct ss (earlier ++ s ∷ []) h.2)
    where
      by : (b : Bool) → declares s.name ≡ b → IsDistinct same_expanded (map (λ a. attr_name here a.name) (attrs_of ss)) → IsDistinct same_expanded (map (λ a. attr_name here a.name) (cond b (attrs_of ss) (raw_attribute_attr s ∷ attrs_of ss)))
      by true e r = r
      by false e r = (attrs_apart s ss e (unsaid ss earlier s [] h.2), r)

-- # Tags

no_true : (b : Bool) → (b ≡ true → ⊥) → b ≡ false
no_true true f = absurd (f refl)
no_true false f = refl

-- the name and what follows it
record IsSpelledWell (x : Name × (List RawAttribute × Bool)) : Type 0 where
  named : IsQName x.0
  raw_attribute : AllSaid x.1.0

tag_parts : (u : List ℕ) (t : StartTag) → start_tag.Spells u t → IsQName t.name × AllSaid t.raw_attribute
tag_parts u t m =
    let h = m.1.0 in
    let s = h.1.back_is in
    let b = s.back_is.front_is in
    let inside : IsSpelledWell h.0.1 = record { named = qname_proper s.front h.0.1.0 s.front_is; raw_attribute = subst AllSaid (sym b.2) (each_proper b.0.0 b.1.front b.1.front_is) } in
    let whole : IsSpelledWell m.0.0 = subst IsSpelledWell (sym h.2) inside in
    subst (λ (z : StartTag). IsQName z.name × AllSaid z.raw_attribute) (sym m.2) (whole.named, whole.raw_attribute)

-- a tag without marks
abbrev Silent : List (List Decl) → StartTag → Type 0
Silent scope t = (k : FaultKind) (b : ℕ) → IsTagFault scope t k b → ⊥

module _ (scope : List (List Decl)) (t : StartTag) (fits : opening t + attributes_size t.raw_attribute ≤ t.size) (silent : Silent scope t) where
  right_from : (ss earlier : List RawAttribute) → t.raw_attribute ≡ earlier ++ ss → AllRight (inside scope t) earlier ss
  right_from [] earlier j = tt
  right_from (s ∷ ss) earlier j =
      let w : attributes_size t.raw_attribute ≡ attributes_size (earlier ++ s ∷ ss) = ap attributes_size j in
      let p : t.size - (opening t + attributes_size earlier + s.gap) + (opening t + attributes_size earlier + s.gap) ≡ t.size = omega (arith, w, widths_parts earlier s ss, fits) in (
        no_true (is_misnamed (inside scope t) s) (λ e. silent Unbound (t.size - (opening t + attributes_size earlier + s.gap)) (inr (record { earlier = earlier; raw_attribute = s; later = ss; among = j; wrong = e; place = p }))),
        no_true (is_repeated (inside scope t) earlier s) (λ e. silent Repeated (t.size - (opening t + attributes_size earlier + s.gap)) (inr (record { earlier = earlier; raw_attribute = s; later = ss; among = j; wrong = e; place = p }))),
        right_from ss (earlier ++ s ∷ []) (j ∙ sym (append_assoc earlier (s ∷ []) ss)),
      )

  name_right : is_unbound (inside scope t) t.name ≡ false
  name_right = no_true (is_unbound (inside scope t) t.name) (λ e. silent Unbound (t.size - 1) (inl (record { wrong = e; kind_is = refl; place = omega (arith, fits) })))

  tag_by : IsQName t.name → AllSaid t.raw_attribute → IsProperTag (inside scope t) t.name (decls_of t.raw_attribute) (attrs_of t.raw_attribute)
  tag_by named all =
      let right = right_from t.raw_attribute [] refl in
      record {
        named = named_in (inside scope t) t.name named name_right;
        declarations = decls_proper (inside scope t) t.raw_attribute [] all right;
        attributes = attrs_proper (inside scope t) t.raw_attribute [] all right;
        prefixes = decls_distinct (inside scope t) t.raw_attribute [] right;
        names = attrs_distinct (inside scope t) t.raw_attribute [] right;
      }

-- A tag without marks is proper.
pub tag_proper : (scope : List (List Decl)) (u : List ℕ) (t : StartTag) → start_tag.Spells u t → Silent scope t → IsProperTag (inside scope t) t.name (decls_of t.raw_attribute) (attrs_of t.raw_attribute)
tag_proper scope u t m silent =
    let z = tag_sizes u t m in
    let p = tag_parts u t m in
    tag_by scope t (omega (arith, z.is_size, z.room)) silent p.0 p.1
