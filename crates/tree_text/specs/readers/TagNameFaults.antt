-- The first wrong name of a start tag, found from left to right.
use Rattle.std.specs.Prelude.{ℕ, suc, ◌+◌, ◌-◌, List, [], ◌∷◌, ◌++◌, length, if◌then◌else◌, Option}
use Rattle.std.specs.Prelude.{None, Some}
use Rattle.xml_names.specs.declared.names.Decl.{Decl}
use Rattle.xml_names.specs.declared.names.Name.{Name}
use Rattle.xml_tokens.specs.declared.fault_kind.FaultKind.{FaultKind}
use Rattle.xml_tokens.specs.declared.fault_kind.FaultKind.TheVariants.{Unbound, Repeated}
use Rattle.tree_text.specs.declared.raw_attribute.RawAttribute.{RawAttribute}
use Rattle.xml_tokens.specs.Values.{qname_text}
use Rattle.tree_text.specs.ContentPieces.{StartTag}
use Rattle.tree_text.specs.Names.{is_misnamed, is_repeated, scope_inside_tag, is_prefix_unbound}

-- what is wrong with a raw attribute: `Unbound` comes first
abbrev pub attribute_fault : List (List Decl) → List RawAttribute → RawAttribute → Option FaultKind
attribute_fault here earlier s =
    if is_misnamed here s then Some Unbound
    else if is_repeated here earlier s then Some Repeated
    else None

-- the fault at this place, or a later one
abbrev pub fault_or_later : Option FaultKind → ℕ → Option (FaultKind × ℕ) → Option (FaultKind × ℕ)
fault_or_later None at later = later
fault_or_later (Some kind) at later = Some (kind, at)

-- the first wrong raw attribute, where `at` characters of the tag and these earlier raw
-- attributes come before
abbrev pub first_attribute_fault : List (List Decl) → List RawAttribute → ℕ → List RawAttribute
    → Option (FaultKind × ℕ)
first_attribute_fault here earlier at [] = None
first_attribute_fault here earlier at (s ∷ later) =
    fault_or_later (attribute_fault here earlier s) (at + s.gap)
    (first_attribute_fault here (earlier ++ s ∷ []) (at + (s.gap + s.size)) later)

-- the name of the tag comes before the names of its raw attributes
abbrev pub first_name_fault : List (List Decl) → Name → List RawAttribute → Option (FaultKind × ℕ)
first_name_fault here name raw_attribute =
    if is_prefix_unbound here name then Some (Unbound, 1)
    else first_attribute_fault here [] (suc (length (qname_text name))) raw_attribute

abbrev pub first_tag_fault : List (List Decl) → StartTag → Option (FaultKind × ℕ)
first_tag_fault here t = first_name_fault here t.name t.raw_attribute

-- the place counted back from the end of the tag
abbrev pub counted_from_end : ℕ → Option (FaultKind × ℕ) → Option (FaultKind × ℕ)
counted_from_end size None = None
counted_from_end size (Some found) = Some (found.0, size - found.1)

abbrev pub tag_fault : List (List Decl) → StartTag → Option (FaultKind × ℕ)
tag_fault scope t = counted_from_end t.size (first_tag_fault (scope_inside_tag scope t) t)
