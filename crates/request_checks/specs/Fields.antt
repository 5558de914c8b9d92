-- What the fields `If-Match` and `If-None-Match` of a request say. RFC 9110, sections 5.2 (lines
-- of one field), 13.1.1 and 13.1.2.
use Rattle.std.specs.Prelude.{◌≡◌, ◌≢◌, ℕ, List, [], Option, None, Some, codes}
use Rattle.request_checks.specs.declared.entity_tags.EntityTag.{EntityTag}
use Rattle.request_checks.specs.Tags.{join_with_commas, SpellsTags}

-- what a field says: it is absent; `*`; or a list of tags
pub data FieldValue : Type 0 where
  Missing : FieldValue
  Star : FieldValue
  Tags : List EntityTag → FieldValue

-- the two fields
pub record Preconditions : Type 0 where
  pub if_match : FieldValue
  pub if_none_match : FieldValue

-- a field whose lines have these values says this: If-Match = "*" / #entity-tag, with at least one
-- tag; the lines are joined by commas
abbrev pub HasFieldValue : List (List ℕ) → FieldValue → Type 0
HasFieldValue lines Missing = lines ≡ []
HasFieldValue lines Star = join_with_commas lines ≡ codes "*"
HasFieldValue lines (Tags tags) =
    (lines ≢ []) × SpellsTags (join_with_commas lines) tags × (tags ≢ [])

-- both fields say this
abbrev pub HaveFieldValues : List (List ℕ) → List (List ℕ) → Preconditions → Type 0
HaveFieldValues if_match if_none_match c = HasFieldValue if_match c.if_match
    × HasFieldValue if_none_match c.if_none_match

-- the reading of the lines of both fields: what they say, or None where there is nothing that both
-- say
abbrev pub IsConditionsReading : List (List ℕ) → List (List ℕ) → Option Preconditions → Type 0
IsConditionsReading if_match if_none_match (Some c) = HaveFieldValues if_match if_none_match c
IsConditionsReading if_match if_none_match None =
    (c : Preconditions) → ¬ HaveFieldValues if_match if_none_match c
