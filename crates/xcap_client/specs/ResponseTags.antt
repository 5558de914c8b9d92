-- The entity tag of a response: its `ETag` field (RFC 9110, section 8.8.3).
use Rattle.std.specs.Prelude.{◌≡◌, ℕ, Bool, List, [], ◌∷◌, Option, None, Some, codes, chars, IsUtf8}
use Rattle.request_checks.specs.Tags.{AllBytesPass, is_tag_byte, tag_text}
use Rattle.http_wire.specs.Fields.{field_values}

-- the value is an entity tag, weak or not, with this text between its quotes
abbrev pub IsEntityTagOf : List ℕ → List ℕ → Type 0
IsEntityTagOf value opaque =
    (weak : Bool) × AllBytesPass is_tag_byte opaque
    × (value ≡ tag_text (record { weak = weak; opaque = opaque }))

-- There is one `ETag` field, its value is an entity tag, and the bytes between the quotes are this
-- text in UTF-8.
pub record HasTag (fields : List (List ℕ × List ℕ)) (tag : List ℕ) : Type 0 where
  pub value : List ℕ
  pub opaque : List ℕ
  pub once : field_values (codes "etag") fields ≡ value ∷ []
  pub quoted : IsEntityTagOf value opaque
  pub utf8 : IsUtf8 opaque
  pub text : tag ≡ chars opaque

-- the tag that the fields have, if they have one
abbrev pub IsTagOf : List (List ℕ × List ℕ) → Option (List ℕ) → Type 0
IsTagOf fields None = (tag : List ℕ) → ¬ (HasTag fields tag)
IsTagOf fields (Some tag) = HasTag fields tag
