-- An insertion point and its two neighbours, by the element kind of the parent, if it has one.
use Rattle.std.specs.Prelude.{ℕ, suc, Bool, true, ◌&&◌, Option, None, Some, IsTrue}
use Rattle.std.specs.Option.{ForSome}
use Rattle.xml_tree.specs.Tree.{Content, Tree}
use Rattle.usage_docs.specs.declared.schema_table.ElementKind.{ElementKind}
use Rattle.usage_docs.specs.SchemaTable.{Scope}
use Rattle.usage_docs.specs.readers.ContentParts.{may_follow}
use Rattle.usage_docs.specs.Validity.{IsValidChild}
use Rattle.usage_docs.specs.readers.NeighbourParts.{FitsGapByParts, part_after, part_before}
use Rattle.usage_docs.specs.readers.NeighbourParts.{part_of_child}

-- the part of a child of an element of this kind; without a kind it is 0, and nothing uses it
abbrev pub part_in : Option ElementKind → Scope → Tree → ℕ
part_in None c e = 0
part_in (Some row) c e = part_of_child row c e

-- whether a child of this part, which is valid by itself or not, may be between two others;
-- without an element kind it may
abbrev pub fits_between : Option ElementKind → Bool → ℕ → ℕ → ℕ → Bool
fits_between None itself before part after = true
fits_between (Some row) itself before part after =
    itself && (may_follow row before part && may_follow row part after)

-- the new element fits the insertion point by the element kind, if there is one
abbrev pub FitsInsertionPoint : Option ElementKind → Scope → Content → Tree → ℕ → Type 0
FitsInsertionPoint row c content new j = ForSome row (λ kind. FitsGapByParts kind c content new j)

-- it is valid by itself, and may be between the neighbours of the i-th child
abbrev pub FitsInPlaceOfChild : ElementKind → Scope → Content → Tree → ℕ → Type 0
FitsInPlaceOfChild kind c content new i =
    IsValidChild kind c new
    × IsTrue (may_follow kind (part_before kind c 0 i content) (part_of_child kind c new))
    × IsTrue (may_follow kind (part_of_child kind c new) (part_after kind c (suc i) content))

-- it fits in place of the i-th child by the element kind, if there is one
abbrev pub FitsReplacement : Option ElementKind → Scope → Content → Tree → ℕ → Type 0
FitsReplacement row c content new i = ForSome row (λ kind. FitsInPlaceOfChild kind c content new i)
