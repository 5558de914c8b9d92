-- The attribute that a selector ends in may be written.
use Rattle.std.specs.Str.{bytes_eq, chars}
use Rattle.std.specs.Cmp.Lexicographic.{bytes_decides}
use Rattle.std.specs.Prelude.{◌&&◌, ◌≢◌}
use Rattle.std.specs.List.{list_all}
use Rattle.std.proofs.Common.{◌≡◌, ◌⊎◌, inl, inr, ℕ, Bool, true, false, List, [], ◌∷◌, ◌++◌, length, Option, Some, None, IsTrue, Result, Ok, Err, refl, sym, ap, ◌∙◌, subst, append_assoc}
use Rattle.std.proofs.lemmas.List.{append-nil}
use Rattle.std.proofs.lemmas.Option.{same_Some}
use Rattle.xml_grammar.specs.Rules.{AllPass, Event, Mark, Rule, Split, keep_second, empty_text, with_value_marks, filter_rule, optional, sequence, map_rule, word}
use Rattle.xml_grammar.specs.TextReading.{Stop}
use Rattle.xml_grammar.specs.ParseResults.{IsParseResult, HasNoFault}
use Rattle.xml_names.specs.Characters.{is_name, is_name_char, is_name_start}
use Rattle.xml_names.specs.Scopes.{bound_uri, declared_uri, scope_decls, non_empty_uri, xml_prefix, xml_uri, xmlns_prefix}
use Rattle.xml_names.specs.declared.names.Name.{Name}
use Rattle.xml_names.specs.declared.names.Decl.{Decl}
use Rattle.xml_tokens.specs.readers.Literals.{colon}
use Rattle.xml_tokens.specs.Values.{qname_of}
use Rattle.xml_tokens.specs.Tokens.{name, qname}
use Rattle.xml_tokens.specs.declared.fault_kind.FaultKind.{FaultKind}
use Rattle.xml_tokens.specs.declared.fault_kind.FaultKind.TheVariants.{Unbound}
use Rattle.xml_tokens.proofs.CharacterTests.{pass_all}
use Rattle.node_select.specs.Faults.{IsSelectorAnswer, fault_ranking, selector_result as told}
use Rattle.node_select.specs.Grammar.{MarksUnboundName, attribute, end, is_attribute_name, selector, steps}
use Rattle.node_select.specs.readers.SelectorValues.{end_or_element}
use Rattle.node_select.specs.readers.Literals.{at_sign, namespaces, slash}
use Rattle.node_select.specs.Names.{attr_uri, has_unbound_prefix, prefix_uri}
use Rattle.node_select.specs.declared.fault.SelectorFault.{SelectorFault}
use Rattle.node_select.specs.declared.selector.End.{End}
use Rattle.node_select.specs.declared.selector.End.TheVariants as ends
use Rattle.node_select.specs.declared.selector.Selector.{Selector}
use Rattle.node_select.proofs.JudgedNames.{qname_long}
use Rattle.edit_rules.specs.AttributePuts.{IsWritable}

-- ---- the grammar of the local name

both_true : (a b : Bool) → a ≡ true → b ≡ true → (a && b) ≡ true
both_true true b p q = q
both_true false b p q = cc

name_is : (u l : List ℕ) → name.Spells u l → is_name l ≡ true
name_is u l m = ap is_name m.2 ∙ both_true (is_name_start m.0.0) (list_all is_name_char m.0.1) m.1.front_is.0 (pass_all is_name_char m.0.1 (subst (AllPass is_name_char) (sym m.1.back_is.1) m.1.back_is.0))

local_by_rest : (f v : List ℕ) (o : Option (List ℕ)) → is_name f ≡ true → (optional (keep_second (word {Kind = FaultKind} colon) name)).Spells v o → is_name (qname_of (f, o)).local ≡ true
local_by_rest f v o h (inl r) =
    subst (λ (z : Option (List ℕ)). is_name (qname_of (f, z)).local ≡ true) (sym r.2) (ap is_name r.1.2 ∙ name_is r.1.1.back r.1.0.1 r.1.1.back_is)
local_by_rest f v o h (inr r) = subst (λ (z : Option (List ℕ)). is_name (qname_of (f, z)).local ≡ true) (sym r.1) h

local_is : (u : List ℕ) (n : Name) → qname.Spells u n → is_name n.local ≡ true
local_is u n m = subst (λ (z : Name). is_name z.local ≡ true) (sym m.2) (local_by_rest m.0.0 m.1.back m.0.1 (name_is m.1.front m.0.0 m.1.front_is) m.1.back_is)

-- ---- the name at the end

-- A text ends in the name of the attribute of this URI and this local name; where the name is
-- unbound, the whole text is marked.
record EndsIn (bindings : List Decl) (uri local : List ℕ) (Meets : Event FaultKind → List ℕ → Type 0) (text : List ℕ) : Type 0 where
  name : Name
  before : List ℕ
  written_so : List ℕ
  joined : text ≡ before ++ written_so
  spelled : qname.Spells written_so name
  names : is_attribute_name name ≡ true
  uri_is : attr_uri bindings name ≡ uri
  local_is : name.local ≡ local
  met : (kind : FaultKind) (back : ℕ) → MarksUnboundName bindings name kind back → Meets (Mark kind back) text

module _ (bindings : List Decl) (default uri local : List ℕ) where
  abbrev EndsSo : {A : Type 0} → Rule FaultKind A → List ℕ → Type 0
  EndsSo r text = EndsIn bindings uri local r.Meets text

  in_sequence : {A B : Type 0} (r : Rule FaultKind A) (s : A → Rule FaultKind B) (a : A) (text : List ℕ) → Split text (λ u. r.Spells u a) (λ v. EndsSo (s a) v) → EndsSo (sequence r s) text
  in_sequence r s a text m =
      let b = m.back_is in
      record {
        name = b.name;
        before = m.front ++ b.before;
        written_so = b.written_so;
        joined = m.joined ∙ ap (λ (z : List ℕ). m.front ++ z) b.joined ∙ sym (append_assoc m.front b.before b.written_so);
        spelled = b.spelled;
        names = b.names;
        uri_is = b.uri_is;
        local_is = b.local_is;
        met = λ kind back says. inr (a, record { front = m.front; back = m.back; joined = m.joined; front_is = m.front_is; back_is = b.met kind back says });
      }

  in_left : (M N : Event FaultKind → List ℕ → Type 0) (text : List ℕ) → EndsIn bindings uri local M text → EndsIn bindings uri local (λ e t. M e t ⊎ N e t) text
  in_left M N text b = record {
    name = b.name;
    before = b.before;
    written_so = b.written_so;
    joined = b.joined;
    spelled = b.spelled;
    names = b.names;
    uri_is = b.uri_is;
    local_is = b.local_is;
    met = λ kind back says. inl (b.met kind back says);
  }

  -- "@" QName
  at_attribute : (text : List ℕ) (n : Name) → (attribute bindings default).Spells text n → attr_uri bindings n ≡ uri → n.local ≡ local → EndsSo (attribute bindings default) text
  at_attribute text n m same_uri same_local =
      let q = m.1.back_is in
      in_sequence (word at_sign) (λ _. with_value_marks (MarksUnboundName bindings) (filter_rule is_attribute_name qname)) tt text (record {
        front = m.1.front;
        back = m.1.back;
        joined = m.1.joined;
        front_is = m.1.front_is;
        back_is = record {
          name = m.0.1;
          before = [];
          written_so = m.1.back;
          joined = refl;
          spelled = q.0;
          names = q.1;
          uri_is = ap (attr_uri bindings) (sym m.2) ∙ same_uri;
          local_is = ap (λ (z : Name). z.local) (sym m.2) ∙ same_local;
          met = λ kind back says. inl (m.0.1, q, says);
        };
      })

  at_end : (text : List ℕ) (e : End) → (end bindings default).Spells text e → e ≡ ends.Attribute uri local → EndsSo (end bindings default) text
  at_end text e (inl m) is =
      let same : ends.Attribute (attr_uri bindings m.0) m.0.local ≡ ends.Attribute uri local = sym m.2 ∙ is in
      let same_uri : attr_uri bindings m.0 ≡ uri = cc in
      let same_local : m.0.local ≡ local = cc in
      in_left (attribute bindings default).Meets (word {Kind = FaultKind} namespaces).Meets text (at_attribute text m.0 m.1 same_uri same_local)
  at_end text e (inr m) is = let none : ends.Namespaces ≡ ends.Attribute uri local = sym m.2 ∙ is in cc

  abbrev tail : Rule FaultKind (Option End)
  tail = optional (keep_second (word slash) (end bindings default))

  at_tail : (text : List ℕ) (o : Option End) → tail.Spells text o → end_or_element o ≡ ends.Attribute uri local → EndsSo tail text
  at_tail text o (inl m) is =
      let same : m.1.0.1 ≡ ends.Attribute uri local = sym m.1.2 ∙ sym (ap end_or_element m.2) ∙ is in
      in_left (keep_second (word slash) (end bindings default)).Meets (empty_text {Kind = FaultKind} {A = Option End} None).Meets text
      (in_sequence (word slash) (λ _. end bindings default) tt text (record {
        front = m.1.1.front;
        back = m.1.1.back;
        joined = m.1.1.joined;
        front_is = m.1.1.front_is;
        back_is = at_end m.1.1.back m.1.0.1 m.1.1.back_is same;
      }))
  at_tail text o (inr m) is = let none : ends.Element ≡ ends.Attribute uri local = sym (ap end_or_element m.1) ∙ is in cc

  at_selector : (text : List ℕ) (s : Selector) → (selector bindings default).Spells text s → s.end ≡ ends.Attribute uri local → EndsSo (selector bindings default) text
  at_selector text s m is =
      let t = m.1.back_is in
      let same : end_or_element t.0 ≡ ends.Attribute uri local = sym t.2 ∙ sym (ap (λ (z : Selector). z.end) m.2) ∙ is in
      in_sequence (steps bindings default) (λ _. map_rule end_or_element tail) m.0.0 text (record {
        front = m.1.front;
        back = m.1.back;
        joined = m.1.joined;
        front_is = m.1.front_is;
        back_is = at_tail m.1.back t.0 t.1 same;
      })

-- ---- the meaning of its prefix

bound_some : (o : Option (List ℕ)) (w : List ℕ) → non_empty_uri o ≡ Some w → w ≢ []
bound_some None w h = cc
bound_some (Some []) w h = cc
bound_some (Some (c ∷ cs)) w h = λ none. (let z : c ∷ cs ≡ [] = same_Some (c ∷ cs) w h ∙ none in cc)

xml_some : xml_uri ≢ []
unfolding xml_uri
xml_some h = cc

is_bound_some : (c : List (List Decl)) (p w : List ℕ) → bound_uri c p ≡ Some w → w ≢ []
is_bound_some c p w h = by (bytes_eq p xml_prefix) refl
  where
    by : (b : Bool) → bytes_eq p xml_prefix ≡ b → w ≢ []
    by true e = λ none. xml_some (same_Some xml_uri w (rw e at h) ∙ none)
    by false e = bound_some (declared_uri (scope_decls c) p) w (rw e at h)

prefix_some : (bindings : List Decl) (p w : List ℕ) → prefix_uri bindings p ≡ Some w → w ≢ []
prefix_some bindings p w h = by (bytes_eq p xmlns_prefix) refl
  where
    by : (b : Bool) → bytes_eq p xmlns_prefix ≡ b → w ≢ []
    by true e = let z : None ≡ Some w = rw e at h in cc
    by false e = is_bound_some (bindings ∷ []) p w (rw e at h)

-- a name that isn't unbound and is in no namespace has no prefix
no_prefix : (bindings : List Decl) (n : Name) → has_unbound_prefix bindings n ≡ false → attr_uri bindings n ≡ [] → bytes_eq n.prefix [] ≡ true
no_prefix bindings n is none = by (bytes_eq n.prefix []) refl (prefix_uri bindings n.prefix) refl
  where
    by : (b : Bool) → bytes_eq n.prefix [] ≡ b → (o : Option (List ℕ)) → prefix_uri bindings n.prefix ≡ o → bytes_eq n.prefix [] ≡ true
    by true e o f = e
    by false e (Some w) f = let z : w ≡ [] = rw e at (rw f at none) in absurd (prefix_some bindings n.prefix w f z)
    by false e None f = let z : true ≡ false = rw e at (rw f at is) in cc

not_xmlns : (n : Name) → bytes_eq n.prefix [] ≡ true → is_attribute_name n ≡ true → n.local ≢ xmlns_prefix
not_xmlns n e names same = let d = (bytes_decides n.local xmlns_prefix).1 same in let z : false ≡ true = rw e at (rw d at names) in cc

-- ---- the result for a text

-- where a text has no mark, the name that it ends in is bound
bound_name : (bindings : List Decl) (uri local : List ℕ) {A : Type 0} (r : Rule FaultKind A) (text : List ℕ) → (e : EndsIn bindings uri local r.Meets text) → HasNoFault (fault_ranking true) r text → has_unbound_prefix bindings e.name ≡ false
bound_name bindings uri local r text e calm = by (has_unbound_prefix bindings e.name) refl
  where
    by : (b : Bool) → has_unbound_prefix bindings e.name ≡ b → has_unbound_prefix bindings e.name ≡ false
    by false f = f
    by true f = absurd (calm Unbound e.written_so refl (record {
      before = e.before;
      seen = e.written_so;
      unseen = [];
      joined = e.joined;
      left_is = sym (append-nil e.written_so);
      met = subst (λ (z : List ℕ). r.Meets (Mark Unbound (length e.written_so)) z) e.joined (e.met Unbound (length e.written_so) (f, refl, sym (qname_long e.written_so e.name e.spelled)));
    }))

by_name : (bindings : List Decl) (uri local : List ℕ) {A : Type 0} (r : Rule FaultKind A) (text : List ℕ) → EndsIn bindings uri local r.Meets text → HasNoFault (fault_ranking true) r text → IsWritable uri local
by_name bindings uri local r text e calm = record {
  is_ncname = subst (λ (x : List ℕ). IsTrue (is_name x)) e.local_is (local_is e.written_so e.name e.spelled);
  is_attribute = λ none same. not_xmlns e.name (no_prefix bindings e.name (bound_name bindings uri local r text e calm) (e.uri_is ∙ none)) e.names (e.local_is ∙ same);
}

by_names : (bindings : List Decl) (default text : List ℕ) (form names : Result Selector (Stop FaultKind)) (s : Selector) (uri local : List ℕ) → IsParseResult (fault_ranking true) (selector bindings default) (chars text) names
    → ◌≡◌ {A = Result Selector SelectorFault} (Ok s) (told text form names) → s.end ≡ ends.Attribute uri local → IsWritable uri local
by_names bindings default text (Err stop) names s uri local h is is_end = cc
by_names bindings default text (Ok value) (Err stop) s uri local h is is_end = cc
by_names bindings default text (Ok value) (Ok same) s uri local h is is_end =
    let e : same ≡ s = cc in
    by_name bindings uri local (selector bindings default) (chars text) (at_selector bindings default uri local (chars text) same h.spelled (ap (λ (z : Selector). z.end) e ∙ is_end)) h.calm

pub attribute_writable : (bindings : List Decl) (default text : List ℕ) (s : Selector) (uri local : List ℕ) → IsSelectorAnswer bindings default text (Ok s) → s.end ≡ ends.Attribute uri local → IsWritable uri local
attribute_writable bindings default text s uri local h is_end = by_names bindings default text h.form_is h.names_are s uri local h.by_names h.is_told is_end
