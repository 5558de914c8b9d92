-- Names, values and texts as they are printed: one of the many ways that XML 1.0 allows (sections
-- 2.2, 2.4, 2.5, 2.11, 3.1 and 3.3.3). Characters that a reader would take for markup, or change,
-- are written as references.
use Rattle.std.specs.Prelude.{ℕ, ◌==◌, codes, List, [], ◌∷◌, ◌++◌, flat_map, length}
use Rattle.std.specs.Prelude.{encode_utf8_all, if◌then◌else◌}
use Rattle.std.specs.Str.{bytes_eq}
use Rattle.xml_names.specs.declared.names.Name.{Name}
use Rattle.xml_names.specs.declared.names.Decl.{Decl}
use Rattle.xml_names.specs.declared.names.Attr.{Attr}

-- a character of a text: `&` (38), `<` (60), `>` (62) and CR (13) are references
abbrev pub text_escape : ℕ → List ℕ
text_escape c =
    if c == 38 then codes "&amp;"
    else if c == 60 then codes "&lt;"
    else if c == 62 then codes "&gt;"
    else if c == 13 then codes "&#xD;"
    else (c ∷ [])

-- a character of a value in quotes: `&` (38), `<` (60), `"` (34), tab (9), LF (10) and CR (13)
-- are references
abbrev pub value_escape : ℕ → List ℕ
value_escape c =
    if c == 38 then codes "&amp;"
    else if c == 60 then codes "&lt;"
    else if c == 34 then codes "&quot;"
    else if c == 9 then codes "&#x9;"
    else if c == 10 then codes "&#xA;"
    else if c == 13 then codes "&#xD;"
    else (c ∷ [])

abbrev pub print_text : List ℕ → List ℕ
print_text t = flat_map text_escape t

-- a value in its quotes, `"` (34)
abbrev pub quoted_value : List ℕ → List ℕ
quoted_value v = 34 ∷ (flat_map value_escape v ++ 34 ∷ [])

-- a name: the prefix and a colon (58), if there is a prefix, and the local name
abbrev pub print_name : Name → List ℕ
print_name n = if bytes_eq n.prefix [] then n.local else (n.prefix ++ 58 ∷ n.local)

-- the name that declares a prefix: `xmlns` for the default, else `xmlns:` and the prefix
abbrev pub xmlns_name : List ℕ → List ℕ
xmlns_name p = if bytes_eq p [] then codes "xmlns" else (codes "xmlns:" ++ p)

-- a declaration and an attribute: a space (32), the name, `=` (61) and the value
abbrev pub print_decl : Decl → List ℕ
print_decl d = 32 ∷ (xmlns_name d.prefix ++ 61 ∷ quoted_value d.uri)

abbrev pub print_attr : Attr → List ℕ
print_attr a = 32 ∷ (print_name a.name ++ 61 ∷ quoted_value a.value)

-- `<` (60), the name, the declarations and the attributes
abbrev pub tag_front : Name → List Decl → List Attr → List ℕ
tag_front n ds ats = 60 ∷ (print_name n ++ (flat_map print_decl ds ++ flat_map print_attr ats))

-- `</` (60, 47), the name, `>` (62)
abbrev pub end_tag_text : Name → List ℕ
end_tag_text n = 60 ∷ 47 ∷ (print_name n ++ 62 ∷ [])

-- a comment: `<!--`, its characters as they are, `-->`
abbrev pub print_comment : List ℕ → List ℕ
print_comment x = codes "<!--" ++ (x ++ codes "-->")

-- the length of a text in bytes, as UTF-8
abbrev pub byte_len : List ℕ → ℕ
byte_len t = length (encode_utf8_all t)
