-- The query of an address: bindings of prefixes. RFC 4825, section 6.4: a sequence of pointer
-- parts of the xmlns() scheme (W3C XPointer xmlns() Scheme, section 3; parentheses and `^` by the
-- W3C XPointer Framework, section 3.1):
--
--     query    = *SP *( item *SP )
--     item     = "xmlns(" NCName [ S ] "=" [ S ] spelling ")"
--     spelling = *( char / "^(" / "^)" / "^^" / "(" spelling ")" )
--
-- where the NCName is neither `xml` nor `xmlns`, a char is any but `(`, `)` and `^`, and the URI
-- of an item isn't empty. All white space after the `=` belongs to the S: no URI begins with it.
use Rattle.std.specs.Prelude.{◌≡◌, ◌≢◌, ℕ, Bool, true, false, ◌||◌, ◌==◌, List, [], ◌∷◌, ◌++◌}
use Rattle.std.specs.Prelude.{codes, Option, None, Some}
use Rattle.xml_grammar.specs.Rules.{AllPass}
use Rattle.xml_names.specs.Characters.{is_name, is_space}
use Rattle.xml_names.specs.declared.names.Decl.{Decl}

-- `(` (40), `)` (41) and `^` (94)
abbrev pub is_bracket_or_caret : ℕ → Bool
is_bracket_or_caret c = c == 40 || c == 41 || c == 94

-- the space, U+0020 (32)
abbrev pub is_blank : ℕ → Bool
is_blank c = c == 32

-- a spelling, and the URI that it stands for
pub data SpellsUri : List ℕ → List ℕ → Type 0 where
  -- the empty spelling
  ends : SpellsUri [] []
  -- a char stands for itself
  plain : (c : ℕ) (text uri : List ℕ) → is_bracket_or_caret c ≡ false → SpellsUri text uri
      → SpellsUri (c ∷ text) (c ∷ uri)
  -- `^` (94) and then `(`, `)` or `^`: stands for the second character
  escaped : (c : ℕ) (text uri : List ℕ) → is_bracket_or_caret c ≡ true → SpellsUri text uri
      → SpellsUri (94 ∷ c ∷ text) (c ∷ uri)
  -- a spelling in parentheses, `(` (40) and `)` (41), which stand for themselves
  nested : (inner inside text uri : List ℕ) → SpellsUri inner inside → SpellsUri text uri
      → SpellsUri (40 ∷ (inner ++ (41 ∷ text))) (40 ∷ (inside ++ (41 ∷ uri)))

-- an item, and what it binds
pub record IsBindingItem (text : List ℕ) (binding : Decl) : Type 0 where
  pub before : List ℕ
  pub behind : List ℕ
  pub spelling : List ℕ
  pub joined : text
      ≡ codes "xmlns("
      ++ (binding.prefix ++ (before ++ (codes "=" ++ (behind ++ (spelling ++ codes ")")))))
  pub named : is_name binding.prefix ≡ true
  pub free : (binding.prefix ≢ codes "xml") × (binding.prefix ≢ codes "xmlns")
  pub before_is : AllPass is_space before
  pub behind_is : AllPass is_space behind
  pub spelled : SpellsUri spelling binding.uri
  pub begins : (first : ℕ) × (rest : List ℕ)
      × (binding.uri ≡ first ∷ rest) × (is_space first ≡ false)

-- items, each with the spaces after it
abbrev pub AreBindingItems : List ℕ → List Decl → Type 0
AreBindingItems text [] = text ≡ []
AreBindingItems text (binding ∷ bindings) =
    (item : List ℕ) × (spaces : List ℕ) × (rest : List ℕ)
    × (text ≡ item ++ (spaces ++ rest)) × IsBindingItem item binding × AllPass is_blank spaces
    × AreBindingItems rest bindings

-- a query has these bindings; an absent query has none
abbrev pub IsQuery : Option (List ℕ) → List Decl → Type 0
IsQuery None bindings = bindings ≡ []
IsQuery (Some text) bindings =
    (spaces : List ℕ) × (rest : List ℕ)
    × (text ≡ spaces ++ rest) × AllPass is_blank spaces × AreBindingItems rest bindings
