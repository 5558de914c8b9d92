-- The length of the print of each part, in bytes.
use Rattle.std.proofs.Common.{◌≡◌, ◌≢◌, if◌then◌else◌, drop, get_or, ℕ, ◌+◌, ◌<◌, Bool, true, false, codes, List, [], ◌∷◌, ◌++◌, length, length-append, flat_map, encode_utf8_all, bytes_eq, refl, ap, ◌∙◌, arith}
use lib.Utf8.{encode}
use Rattle.std.proofs.lemmas.Str.{encodes-append, encode_ascii}
use Rattle.std.specs.Cmp.Lexicographic.{bytes_decides}
use Rattle.xml_names.specs.declared.names.Name.{Name}
use Rattle.xml_names.specs.declared.names.Decl.{Decl}
use Rattle.xml_names.specs.declared.names.Attr.{Attr}
use Rattle.xml_names.specs.Markup.{byte_len, end_tag_text, xmlns_name, tag_front, print_attr, print_comment, print_decl, print_name, print_text, text_escape, value_escape, quoted_value as quoted}
use Rattle.xml_names.proofs.ScopeLemmas.{drop_item}
use Rattle.xml_names.proofs.Escapes.{encode-text, encode-value}

pub byte_len-append : (t u : List ℕ) → byte_len (t ++ u) ≡ byte_len t + byte_len u
byte_len-append t u = ap length (encodes-append t u) ∙ length-append (encode_utf8_all t) (encode_utf8_all u)

-- an ASCII character, and more
pub ascii : (c : ℕ) (t : List ℕ) → c < 128 → byte_len (c ∷ t) ≡ byte_len t + 1
ascii c t h = length-append (encode c) (encode_utf8_all t) ∙ ap (λ l. length l + byte_len t) (encode_ascii c h) ∙ omega arith

pub byte_len-text : (t : List ℕ) → byte_len (print_text t) ≡ length (flat_map text_escape (encode_utf8_all t))
byte_len-text t = ap length (encode-text t)

pub byte_len-quoted : (v : List ℕ) → byte_len (quoted v) ≡ length (flat_map value_escape (encode_utf8_all v)) + 2
byte_len-quoted v =
    let marks = ascii 34 (flat_map value_escape v ++ 34 ∷ []) (omega arith) in
    let ends = byte_len-append (flat_map value_escape v) (34 ∷ []) in
    let mark = ascii 34 [] (omega arith) in
    let inside = ap length (encode-value v) in
    omega (arith, marks, ends, mark, inside)

pub byte_len-decl : (d : Decl) → byte_len (print_decl d) ≡ byte_len (xmlns_name d.prefix) + byte_len (quoted d.uri) + 2
byte_len-decl d =
    let space = ascii 32 (xmlns_name d.prefix ++ 61 ∷ quoted d.uri) (omega arith) in
    let parts = byte_len-append (xmlns_name d.prefix) (61 ∷ quoted d.uri) in
    let equals = ascii 61 (quoted d.uri) (omega arith) in
    omega (arith, space, parts, equals)

pub byte_len-attr : (a : Attr) → byte_len (print_attr a) ≡ byte_len (print_name a.name) + byte_len (quoted a.value) + 2
byte_len-attr a =
    let space = ascii 32 (print_name a.name ++ 61 ∷ quoted a.value) (omega arith) in
    let parts = byte_len-append (print_name a.name) (61 ∷ quoted a.value) in
    let equals = ascii 61 (quoted a.value) (omega arith) in
    omega (arith, space, parts, equals)

pub byte_len-tag_front : (n : Name) (ds : List Decl) (ats : List Attr)
    → byte_len (tag_front n ds ats) ≡ byte_len (print_name n) + (byte_len (flat_map print_decl ds) + byte_len (flat_map print_attr ats)) + 1
byte_len-tag_front n ds ats =
    let mark = ascii 60 (print_name n ++ (flat_map print_decl ds ++ flat_map print_attr ats)) (omega arith) in
    let parts = byte_len-append (print_name n) (flat_map print_decl ds ++ flat_map print_attr ats) in
    let lists = byte_len-append (flat_map print_decl ds) (flat_map print_attr ats) in
    omega (arith, mark, parts, lists)

pub byte_len-end_tag_text : (n : Name) → byte_len (end_tag_text n) ≡ byte_len (print_name n) + 3
byte_len-end_tag_text n =
    let mark = ascii 60 (47 ∷ (print_name n ++ 62 ∷ [])) (omega arith) in
    let slash = ascii 47 (print_name n ++ 62 ∷ []) (omega arith) in
    let parts = byte_len-append (print_name n) (62 ∷ []) in
    let end = ascii 62 [] (omega arith) in
    omega (arith, mark, slash, parts, end)

pub byte_len-comment : (x : List ℕ) → byte_len (print_comment x) ≡ byte_len x + 7
unfolding encode
byte_len-comment x =
    let begins : byte_len (codes "<!--") ≡ 4 = refl in
    let ends : byte_len (codes "-->") ≡ 3 = refl in
    let parts = byte_len-append (codes "<!--") (x ++ codes "-->") in
    let rest = byte_len-append x (codes "-->") in
    omega (arith, begins, ends, parts, rest)

-- a name with a prefix
pub byte_len-prefixed : (n : Name) → n.prefix ≢ [] → byte_len (print_name n) ≡ byte_len n.prefix + byte_len n.local + 1
byte_len-prefixed n apart =
    let parts = byte_len-append n.prefix (58 ∷ n.local) in
    let colon = ascii 58 n.local (omega arith) in
    ap (λ b. byte_len (if b then n.local else (n.prefix ++ 58 ∷ n.local))) (unequal (bytes_eq n.prefix []) (λ e. apart ((bytes_decides n.prefix []).0 e))) ∙ omega (arith, parts, colon)
  where
    unequal : (b : Bool) → (b ≡ true → ⊥) → b ≡ false
    unequal true f = absurd (f refl)
    unequal false f = refl

-- one more part in a list of parts
pub byte_len-next : {A : Type 0} (f : A → List ℕ) (xs : List A) (i : ℕ) (x : A) → i < length xs → x ≡ get_or xs i x
    → byte_len (flat_map f (drop i xs)) ≡ byte_len (f x) + byte_len (flat_map f (drop (i + 1) xs))
byte_len-next f xs i x within is = ap (λ l. byte_len (flat_map f l)) (drop_item xs i x within is) ∙ byte_len-append (f x) (flat_map f (drop (i + 1) xs))

pub ruleset lengths = (byte_len-append, byte_len-text, byte_len-quoted, byte_len-decl, byte_len-attr, byte_len-tag_front, byte_len-end_tag_text, byte_len-comment)
