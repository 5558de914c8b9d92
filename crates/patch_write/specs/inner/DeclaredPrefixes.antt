-- The prefixes that operations and the elements in them declare, as a list and as a set.
-- Namespaces in XML 1.0, section 3.
use Rattle.std.specs.Prelude.{◌≡◌, ℕ, ◌||◌, List, [], ◌++◌}
use Rattle.std.specs.BTreeSet.{BTreeSet, contains}
use Rattle.std.specs.Cmp.Lexicographic.{slice_cmp}
use Rattle.std.specs.Ordering.{nat_cmp}
use Rattle.std.specs.declared.cmp.Ordering.{Ordering}
use Rattle.std.specs.Set.{is_member}
use Rattle.std.specs.Str.{bytes_eq}
use Rattle.xml_tree.specs.declared.tree.Node.{Node}
use Rattle.xml_tree.specs.declared.tree.Node.TheVariants.{Elem, Chars, Comment}
use Rattle.edit_ops.specs.declared.change.Change.{Change}
use Rattle.edit_ops.specs.declared.change.Change.TheVariants.{CreateDocument, Insert, Replace}
use Rattle.edit_ops.specs.declared.change.Change.TheVariants.{Remove, SetAttr, DropAttr}
use Rattle.edit_ops.specs.declared.change.Change.TheVariants.{RemoveDocument}
use Rattle.edit_ops.specs.Notes.{Note}
use Rattle.patch_rules.specs.inner.DeclaredPrefixes.{declared_prefixes, content_prefixes}

-- ---- as a list

-- the prefixes that a node declares
abbrev pub node_prefixes : Node → List (List ℕ)
node_prefixes (Elem e) = declared_prefixes e.decls ++ content_prefixes e.content
node_prefixes (Chars t) = []
node_prefixes (Comment x) = []

-- the prefixes that the inserted element of a change declares
abbrev pub inserted_prefixes : Change → List (List ℕ)
inserted_prefixes (CreateDocument root) = []
inserted_prefixes (Insert parent gap e) = declared_prefixes e.decls ++ content_prefixes e.content
inserted_prefixes (Replace p e) = declared_prefixes e.decls ++ content_prefixes e.content
inserted_prefixes (Remove p) = []
inserted_prefixes (SetAttr p name value) = []
inserted_prefixes (DropAttr p name) = []
inserted_prefixes RemoveDocument = []

-- the prefixes that the operation of a change record declares
abbrev pub record_prefixes : Note → List (List ℕ)
record_prefixes n = declared_prefixes n.bindings ++ inserted_prefixes n.change

-- ---- as a set of texts

-- the order of texts, by code points
abbrev pub text_order : List ℕ → List ℕ → Ordering
text_order = slice_cmp nat_cmp

-- a set has exactly these prefixes
abbrev pub HasExactlyPrefixes : List (List ℕ) → BTreeSet (List ℕ) → Type 0
HasExactlyPrefixes ps seen = (p : List ℕ) → contains text_order seen p ≡ is_member bytes_eq ps p

-- the new set has the prefixes of the old one and these, and no others
abbrev pub GainsPrefixes : List (List ℕ) → BTreeSet (List ℕ) → BTreeSet (List ℕ) → Type 0
GainsPrefixes ps old new =
    (p : List ℕ)
    → contains text_order new p ≡ (is_member bytes_eq ps p || contains text_order old p)
