-- The texts of markup that spells no element, rule by rule: XML 1.0, fifth edition: comments, CDATA
-- sections, processing instructions, the XML declaration, and what surrounds the root element. The
-- numbers in brackets are the productions of XML. A rule says which texts it spells, as which
-- values, and its events where a text breaks off in it.
use Rattle.std.specs.Prelude.{ℕ, Bool, ◌≡◌, false, not, ◌||◌, List, codes, Option, Some}
use Rattle.std.specs.Char.{is_ascii_digit, is_ascii_alphabetic}
use Rattle.xml_names.specs.Characters.{is_char, is_space}
use Rattle.xml_grammar.specs.Rules.{Rule, one_char, word, up_to, either, map_rule, filter_rule}
use Rattle.xml_grammar.specs.Rules.{refused_word, optional}
use Rattle.xml_grammar.specs.Rules.{between_gaps, one_or_more, keep_first, keep_second, quoted}
use Rattle.xml_grammar.specs.Rules.{name_rule}
use Rattle.xml_tokens.specs.declared.fault_kind.FaultKind.{FaultKind}
use Rattle.xml_tokens.specs.declared.fault_kind.FaultKind.TheVariants.{Doctyped, Encoded}
use Rattle.xml_tokens.specs.Tokens.{equals, is_encoding_char, is_quote, name, required_spaces}
use Rattle.xml_tokens.specs.Tokens.{spaces}
use Rattle.xml_tokens.specs.Values.{normalize_line_ends, equals_ignoring_case}

-- the texts of the rule, which spell nothing
abbrev pub without_value : {A : Type 0} → Rule FaultKind A → Rule FaultKind (Unit {0})
without_value r = map_rule (λ _. tt) r

-- ---- comments, CDATA sections and processing instructions

-- [15] Comment: `<!--`, Chars without `--` that don't end in `-`, `-->`; so its first `--` is
-- right before the final `>`
abbrev pub comment : Rule FaultKind (List ℕ)
comment =
    map_rule normalize_line_ends
    (keep_second (word (codes "<!--"))
    (keep_first (up_to is_char (codes "--")) (word (codes ">"))))

-- [18] CDSect: `<![CDATA[`, Chars up to the first `]]>`
abbrev pub cdata_section : Rule FaultKind (List ℕ)
cdata_section = map_rule normalize_line_ends (keep_second (word (codes "<![CDATA["))
    (up_to is_char (codes "]]>")))

-- [17] PITarget: an NCName that isn't `xml`, ignoring ASCII case
abbrev pub is_pi_target : List ℕ → Bool
is_pi_target n = not (equals_ignoring_case n (codes "xml"))

-- what follows a target: nothing, or white space and Chars, up to the first `?>`
abbrev pub pi_rest : Rule FaultKind (Unit {0})
pi_rest =
    either (without_value (keep_second (one_char is_space) (up_to is_char (codes "?>"))))
    (word (codes "?>"))

-- [16] PI: `<?`, a target and what follows it
abbrev pub processing_instruction : Rule FaultKind (Unit {0})
processing_instruction =
    keep_second (word (codes "<?")) (keep_second (filter_rule is_pi_target name) pi_rest)

-- ---- the XML declaration

-- [26] VersionNum: `1.` and digits
abbrev pub version_number : Rule FaultKind (Unit {0})
version_number = without_value (keep_second (word (codes "1.")) (one_or_more is_ascii_digit))

-- [81] EncName: a letter, and letters, digits, `.`, `_` and `-`
abbrev pub encoding_name : Rule FaultKind (List ℕ)
encoding_name = name_rule is_ascii_alphabetic is_encoding_char

-- [32] `yes` or `no`
abbrev pub yes_or_no : Rule FaultKind (Unit {0})
yes_or_no = either (word (codes "yes")) (word (codes "no"))

-- S, a word, Eq and a value in quotes
abbrev pub pseudo_attribute : {A : Type 0} → List ℕ → Rule FaultKind A → Rule FaultKind A
pseudo_attribute w r =
    keep_second required_spaces
    (keep_second (word w) (keep_second equals (quoted is_quote (λ _. r))))

-- [23] XMLDecl: `<?xml`, the version, optionally the encoding, optionally whether it is
-- standalone, S?, `?>`. Its value is the encoding.
abbrev pub xml_declaration : Rule FaultKind (Option (List ℕ))
xml_declaration =
    keep_second (word (codes "<?xml"))
    (keep_second (pseudo_attribute (codes "version") version_number)
    (keep_first (optional (pseudo_attribute (codes "encoding") encoding_name))
    (keep_second (optional (pseudo_attribute (codes "standalone") yes_or_no))
    (keep_second spaces (word (codes "?>"))))))

-- an encoding that is read, ignoring ASCII case
abbrev pub is_supported_encoding : List ℕ → Bool
is_supported_encoding e =
    equals_ignoring_case e (codes "utf-8") || equals_ignoring_case e (codes "us-ascii")

-- A whole XML declaration of another encoding marks its `?>`.
abbrev pub MarksUnsupportedEncoding : Option (List ℕ) → FaultKind → ℕ → Type 0
MarksUnsupportedEncoding e kind back =
    (n : List ℕ) × (e ≡ Some n) × (is_supported_encoding n ≡ false) × (kind ≡ Encoded) × (back ≡ 2)

-- ---- around the root element

-- [27] Misc: comments and instructions, with optional white space around each; outside the root
-- element they spell nothing
abbrev pub misc : Rule FaultKind (Unit {0})
misc = either (without_value comment) processing_instruction

abbrev pub misc_list : Rule FaultKind (Unit {0}) → Rule FaultKind (Unit {0})
misc_list one_more = without_value (between_gaps (without_value spaces) one_more)

-- [22] prolog, without the XML declaration: `<!` before the root element is marked, where
-- `DOCTYPE` follows
abbrev pub prolog : Rule FaultKind (Unit {0})
prolog = misc_list (either (refused_word Doctyped (codes "<!") (codes "DOCTYPE")) misc)

abbrev pub epilog : Rule FaultKind (Unit {0})
epilog = misc_list misc
