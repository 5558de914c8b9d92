-- What bytes spell by the grammar, wherever their faults are: a tree or a value; that they aren't
-- UTF-8; or neither of the two.
use Rattle.std.specs.Prelude.{◌⊎◌, ℕ, ◌+◌, ◌<◌, List, Result, Ok, Err, IsUtf8, chars}
use Rattle.xml_grammar.specs.ParseResults.{IsFirstFault, IsParsedAs}
use Rattle.xml_tree.specs.Tree.{Tree}
use Rattle.xml_names.specs.declared.names.Decl.{Decl}
use Rattle.xml_tokens.specs.declared.fault_kind.FaultKind.TheVariants.{Encoded}
use Rattle.tree_text.specs.declared.fault.TextFault.{TextFault}
use Rattle.tree_text.specs.declared.fault.TextFault.TheVariants as texts
use Rattle.tree_text.specs.declared.fault.ValueFault.{ValueFault}
use Rattle.tree_text.specs.declared.fault.ValueFault.TheVariants as values
use Rattle.tree_text.specs.FaultKinds.{fault_ranking}
use Rattle.tree_text.specs.Faults.{unquoted_body}
use Rattle.tree_text.specs.Grammar.{document, unquoted_value}

-- ---- documents and fragments

-- The bytes are UTF-8 and spell this tree and no other, in this scope, without a fault, and within
-- this number of levels. It doesn't depend on how many more levels the grammar is given.
pub record SpellsTree (limit : ℕ) (scope : List (List Decl)) (bytes : List ℕ)
    (tree : Tree) : Type 0 where
  pub utf8 : IsUtf8 bytes
  pub spelled : (n : ℕ) → limit + 1 < n
      → IsParsedAs (fault_ranking limit) (document n scope) (chars bytes) tree

-- the bytes aren't UTF-8, or their first fault is that they declare another encoding
abbrev pub IsNotUtf8 : ℕ → List (List Decl) → List ℕ → Type 0
IsNotUtf8 limit scope bytes =
    (IsUtf8 bytes → ⊥)
    ⊎ ((left : List ℕ)
    × ((n : ℕ) → limit + 1 < n
    → IsFirstFault (fault_ranking limit) (document n scope) (chars bytes) Encoded left))

-- what bytes are read as: the tree that they spell; that they aren't UTF-8; or any other fault,
-- where neither of the two holds
abbrev pub ReadsTree : ℕ → List (List Decl) → List ℕ → Result Tree TextFault → Type 0
ReadsTree limit scope bytes (Ok tree) = SpellsTree limit scope bytes tree
ReadsTree limit scope bytes (Err texts.NotUtf8) = IsNotUtf8 limit scope bytes
ReadsTree limit scope bytes (Err fault) =
    ((tree : Tree) → SpellsTree limit scope bytes tree → ⊥) × (IsNotUtf8 limit scope bytes → ⊥)

-- ---- bodies that spell a value

-- the body is UTF-8 and spells this value and no other, without a fault
pub record SpellsValue (bytes value : List ℕ) : Type 0 where
  pub utf8 : IsUtf8 bytes
  pub spelled : IsParsedAs (fault_ranking 0) unquoted_value (unquoted_body (chars bytes)) value

-- what a body is read as: the value that it spells; that it isn't UTF-8; or that it spells none
abbrev pub ReadsValue : List ℕ → Result (List ℕ) ValueFault → Type 0
ReadsValue bytes (Ok value) = SpellsValue bytes value
ReadsValue bytes (Err values.NotUtf8) = IsUtf8 bytes → ⊥
ReadsValue bytes (Err (values.NotValue place)) =
    IsUtf8 bytes × ((value : List ℕ) → SpellsValue bytes value → ⊥)
