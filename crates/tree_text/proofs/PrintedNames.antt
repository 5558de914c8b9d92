-- Printed names, attributes and declarations are read as what was printed.
use Rattle.std.proofs.Common.{◌≡◌, ℕ, Bool, true, false, List, [], ◌∷◌, ◌++◌, map, length, refl, sym, ap, subst, ◌∙◌, append_assoc, flat_map, eqb-true}
use Rattle.std.specs.Prelude.{◌==◌, None, Some}
use Rattle.std.specs.List.{list_all}
use Rattle.xml_grammar.specs.Rules.{AllPass}
use Rattle.xml_grammar.specs.TextReading.{first_char_is, read_run, read_mapped, read_word}
use Rattle.xml_grammar.specs.readers.RuleReaders.{read_empty, read_second, read_quoted}
use Rattle.xml_names.specs.Characters.{is_char, is_space, is_name_start, is_name_char, is_name}
use Rattle.xml_names.specs.Markup.{xmlns_name, print_attr, print_decl, print_name, value_escape, quoted_value as quoted}
use Rattle.xml_tree.specs.Proper.{is_prefix}
use Rattle.xml_names.specs.Scopes.{xmlns_prefix}
use Rattle.xml_names.specs.declared.names.Name.{Name}
use Rattle.xml_names.specs.declared.names.Decl.{Decl}
use Rattle.xml_names.specs.declared.names.Attr.{Attr}
use Rattle.xml_tokens.specs.readers.Literals.{colon}
use Rattle.tree_text.specs.declared.raw_attribute.RawAttribute.{RawAttribute}
use Rattle.xml_tokens.specs.Tokens.{is_quote}
use Rattle.xml_tokens.specs.Values.{qname_of}
use Rattle.tree_text.specs.readers.TagValues.{raw_attribute_of}
use Rattle.xml_tokens.specs.readers.Tokens.{colon_follows, read_name, read_qname, read_equals, read_value}
use Rattle.tree_text.specs.readers.Texts.{read_attribute, read_raw_attribute, raw_attribute_follows}
use Rattle.xml_tokens.proofs.ReadFronts.{Reads, reads_sequence, reads_valued, reads_behind, reads_left, reads_right, reads_sized, reads_word, reads_one, reads_none, reads_name_of, reads_quoted, AllRead}
use Rattle.tree_text.proofs.PrintedValues.{both, longer, reads_value}

-- ---- names

pub all_pass : (p : ℕ → Bool) (cs : List ℕ) → list_all p cs ≡ true → AllPass p cs
all_pass p [] h = tt
all_pass p (c ∷ cs) h = let k = both (p c) (list_all p cs) h in (k.0, all_pass p cs k.1)

-- no character that would continue a name is here
abbrev pub EndsName : List ℕ → Type 0
EndsName rest = (first_char_is is_name_char rest ≡ false) × (colon_follows rest ≡ false)

reads_name : (n rest : List ℕ) → is_name n ≡ true → first_char_is is_name_char rest ≡ false → Reads read_name (n ++ rest) n rest
reads_name [] rest h e = absurd cc
reads_name (c ∷ cs) rest h e = let k = both (is_name_start c) (list_all is_name_char cs) h in reads_name_of is_name_start is_name_char c cs rest k.0 (all_pass is_name_char cs k.1) e

-- a name of NCNames
pub record IsWritten (n : Name) : Type 0 where
  pub prefix : is_prefix n.prefix ≡ true
  pub local : is_name n.local ≡ true

qname_by : (p l rest : List ℕ) → is_prefix p ≡ true → is_name l ≡ true → EndsName rest → Reads read_qname (print_name (record { prefix = p; local = l }) ++ rest) (record { prefix = p; local = l }) rest
qname_by [] l rest h k e = reads_valued qname_of (reads_sequence _ (reads_name l rest k e.0) (reads_right colon_follows (read_mapped Some (read_second (read_word colon) read_name)) e.1 (record { read = refl })))
qname_by (c ∷ cs) l rest h k e =
    let name_first : Reads read_name ((c ∷ cs) ++ 58 ∷ (l ++ rest)) (c ∷ cs) (58 ∷ (l ++ rest)) = reads_name (c ∷ cs) (58 ∷ (l ++ rest)) h refl in
    let behind_colon = reads_behind (reads_word colon (l ++ rest)) (reads_name l rest k e.0) in
    let whole = reads_valued qname_of (reads_sequence _ name_first (reads_left colon_follows (read_empty None) refl (reads_valued Some behind_colon))) in
    subst (λ (z : List ℕ). Reads read_qname z (record { prefix = c ∷ cs; local = l }) rest) (sym (append_assoc (c ∷ cs) (58 ∷ l) rest)) whole

pub reads_qname : (n : Name) (rest : List ℕ) → IsWritten n → EndsName rest → Reads read_qname (print_name n ++ rest) n rest
reads_qname n rest w e = qname_by n.prefix n.local rest w.prefix w.local e

-- a printed name begins as a name does
name_head : (n rest : List ℕ) → is_name n ≡ true → (d : ℕ) × (y : List ℕ) × (n ++ rest ≡ d ∷ y) × (is_name_start d ≡ true)
name_head [] rest h = absurd cc
name_head (c ∷ cs) rest h = (c, cs ++ rest, refl, (both (is_name_start c) (list_all is_name_char cs) h).0)

head_by : (p l rest : List ℕ) → is_prefix p ≡ true → is_name l ≡ true → (d : ℕ) × (y : List ℕ) × (print_name (record { prefix = p; local = l }) ++ rest ≡ d ∷ y) × (is_name_start d ≡ true)
head_by [] l rest h k = name_head l rest k
head_by (c ∷ cs) l rest h k = let m = name_head (c ∷ cs) (58 ∷ l ++ rest) h in (c, (cs ++ 58 ∷ l) ++ rest, refl, (both (is_name_start c) (list_all is_name_char cs) h).0)

pub printed_head : (n : Name) (rest : List ℕ) → IsWritten n → (d : ℕ) × (y : List ℕ) × (print_name n ++ rest ≡ d ∷ y) × (is_name_start d ≡ true)
printed_head n rest w = head_by n.prefix n.local rest w.prefix w.local

-- ---- attributes

-- the raw attribute of an attribute in its tag
abbrev pub said_from : Attr → RawAttribute
said_from a = record { name = a.name; value = a.value; gap = 1; size = length (print_name a.name ++ 61 ∷ quoted a.value) }

-- a name and a value that can be printed and read
pub record IsPrinted (a : Attr) : Type 0 where
  pub name : IsWritten a.name
  pub value : list_all is_char a.value ≡ true

not_space : (d : ℕ) → is_name_start d ≡ true → is_space d ≡ false
not_space d h = by (d == 0x20) refl (d == 0x9) refl (d == 0xD) refl (d == 0xA) refl
  where
    by : (a : Bool) → d == 0x20 ≡ a → (b : Bool) → d == 0x9 ≡ b → (e : Bool) → d == 0xD ≡ e → (f : Bool) → d == 0xA ≡ f → is_space d ≡ false
    by true i b j e k f l = absurd (let m : is_name_start 0x20 ≡ true = subst (λ (z : ℕ). is_name_start z ≡ true) (eqb-true d 0x20 i) h in cc)
    by false i true j e k f l = absurd (let m : is_name_start 0x9 ≡ true = subst (λ (z : ℕ). is_name_start z ≡ true) (eqb-true d 0x9 j) h in cc)
    by false i false j true k f l = absurd (let m : is_name_start 0xD ≡ true = subst (λ (z : ℕ). is_name_start z ≡ true) (eqb-true d 0xD k) h in cc)
    by false i false j false k true l = absurd (let m : is_name_start 0xA ≡ true = subst (λ (z : ℕ). is_name_start z ≡ true) (eqb-true d 0xA l) h in cc)
    by false i false j false k false l = rw (i, j, k, l) refl

reads_attribute : (a : Attr) (rest : List ℕ) → IsPrinted a → Reads read_attribute ((print_name a.name ++ 61 ∷ quoted a.value) ++ rest) (a.name, a.value) rest
reads_attribute a rest p =
    let value = reads_value a.value rest p.value in
    let strip_quotes = reads_quoted is_quote read_value 34 refl value in
    let equals : Reads read_equals (61 ∷ (34 ∷ (flat_map value_escape a.value ++ 34 ∷ rest))) [] (34 ∷ (flat_map value_escape a.value ++ 34 ∷ rest)) = record { read = refl } in
    let after = reads_behind equals strip_quotes in
    let name = reads_qname a.name (61 ∷ (34 ∷ (flat_map value_escape a.value ++ 34 ∷ rest))) p.name (refl, refl) in
    let all = reads_sequence (λ _. read_second read_equals (read_quoted is_quote read_value)) name after in
    let quotes : 61 ∷ (quoted a.value ++ rest) ≡ 61 ∷ (34 ∷ (flat_map value_escape a.value ++ 34 ∷ rest)) = ap (λ (z : List ℕ). 61 ∷ (34 ∷ z)) (append_assoc (flat_map value_escape a.value) (34 ∷ []) rest) in
    let text : (print_name a.name ++ 61 ∷ quoted a.value) ++ rest ≡ print_name a.name ++ 61 ∷ (34 ∷ (flat_map value_escape a.value ++ 34 ∷ rest)) = append_assoc (print_name a.name) (61 ∷ quoted a.value) rest ∙ ap (λ (z : List ℕ). print_name a.name ++ z) quotes in
    subst (λ (z : List ℕ). Reads read_attribute z (a.name, a.value) rest) (sym text) all

-- what follows a space in a tag
abbrev words : Attr → List ℕ
words a = print_name a.name ++ 61 ∷ quoted a.value

words_head : (a : Attr) (rest : List ℕ) → IsPrinted a → (d : ℕ) × (y : List ℕ) × (words a ++ rest ≡ d ∷ y) × (is_name_start d ≡ true)
words_head a rest p =
    let m = printed_head a.name (61 ∷ quoted a.value ++ rest) p.name in
    (m.0, m.1, append_assoc (print_name a.name) (61 ∷ quoted a.value) rest ∙ m.2, m.3)

space_then : (text : List ℕ) (d : ℕ) (y : List ℕ) → text ≡ d ∷ y → is_name_start d ≡ true → (first_char_is is_space text ≡ false) × (raw_attribute_follows (32 ∷ text) ≡ true)
space_then text d y e h =
    let s = not_space d h in
    (ap (first_char_is is_space) e ∙ s, ap (λ (z : List ℕ). raw_attribute_follows (32 ∷ z)) e ∙ rw s h)

reads_said : (a : Attr) (rest : List ℕ) → IsPrinted a → Reads read_raw_attribute (print_attr a ++ rest) (said_from a) rest
reads_said a rest p =
    let m = words_head a rest p in
    let s = space_then (words a ++ rest) m.0 m.1 m.2 m.3 in
    let gap = reads_valued (λ x. x.0 ∷ x.1) (reads_sequence (λ _. read_run is_space) (reads_one is_space 32 (words a ++ rest) refl) (reads_none is_space (words a ++ rest) s.0)) in
    reads_valued raw_attribute_of (reads_sequence _ gap (reads_sized (words a) (reads_attribute a rest p)))

abbrev pub ArePrinted : List Attr → Type 0
ArePrinted [] = Unit {0}
ArePrinted (a ∷ ats) = IsPrinted a × ArePrinted ats

pub reads_attrs : (ats : List Attr) (tail : List ℕ) → ArePrinted ats → raw_attribute_follows tail ≡ false → AllRead raw_attribute_follows read_raw_attribute (map said_from ats) (flat_map print_attr ats ++ tail) tail
reads_attrs [] tail h e = (refl, e)
reads_attrs (a ∷ ats) tail h e =
    let more = flat_map print_attr ats ++ tail in
    let m = words_head a more h.0 in
    let first = (space_then (words a ++ more) m.0 m.1 m.2 m.3).1 in
    subst (λ (z : List ℕ). AllRead raw_attribute_follows read_raw_attribute (map said_from (a ∷ ats)) z tail) (sym (append_assoc (print_attr a) (flat_map print_attr ats) tail))
    (more, first, reads_said a more h.0, longer (print_attr a ++ more) (words a) more 32 refl, reads_attrs ats tail h.1 e)

-- ---- declarations

-- the name that declares a prefix, and the raw attribute of a declaration in its tag
abbrev pub declared_name : List ℕ → Name
declared_name [] = record { prefix = []; local = xmlns_prefix }
declared_name (c ∷ cs) = record { prefix = xmlns_prefix; local = c ∷ cs }

abbrev pub attr_for : Decl → Attr
attr_for d = record { name = declared_name d.prefix; value = d.uri }

declaring_name : (p : List ℕ) → xmlns_name p ≡ print_name (declared_name p)
declaring_name [] = refl
declaring_name (c ∷ cs) = refl

pub as_attrs : (ds : List Decl) (ats : List Attr) → flat_map print_decl ds ++ flat_map print_attr ats ≡ flat_map print_attr (map attr_for ds ++ ats)
as_attrs [] ats = refl
as_attrs (d ∷ ds) ats =
    let name : print_decl d ≡ print_attr (attr_for d) = ap (λ (z : List ℕ). 32 ∷ (z ++ 61 ∷ quoted d.uri)) (declaring_name d.prefix) in
    append_assoc (print_decl d) (flat_map print_decl ds) (flat_map print_attr ats) ∙ ap (λ (z : List ℕ). z ++ (flat_map print_decl ds ++ flat_map print_attr ats)) name
    ∙ ap (λ (z : List ℕ). print_attr (attr_for d) ++ z) (as_attrs ds ats)

name_written : (p : List ℕ) → is_prefix p ≡ true → IsWritten (declared_name p)
name_written [] h = record { prefix = refl; local = refl }
name_written (c ∷ cs) h = record { prefix = refl; local = h }

pub decl_printed : (d : Decl) → is_prefix d.prefix ≡ true → list_all is_char d.uri ≡ true → IsPrinted (attr_for d)
decl_printed d h k = record { name = name_written d.prefix h; value = k }
