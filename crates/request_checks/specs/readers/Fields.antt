-- The reading of condition fields, computed from left to right. That it is the grammar's only
-- reading is a law (`fields_have_one_reading`).
use Rattle.std.specs.Prelude.{◌≡◌, ℕ, ◌==◌, Bool, true, false, if◌then◌else◌, List, [], ◌∷◌, ◌++◌}
use Rattle.std.specs.Prelude.{drop, Option, None, Some, option_map, codes}
use Rattle.std.specs.List.{take_while, prefix_len}
use Rattle.std.specs.Str.{bytes_eq}
use Rattle.request_checks.specs.declared.entity_tags.EntityTag.{EntityTag}
use Rattle.request_checks.specs.Tags.{is_tag_byte, join_with_commas, is_ows_byte}
use Rattle.request_checks.specs.Fields.{FieldValue, Missing, Star, Tags, Preconditions}

-- ---- one tag

abbrev pub entity_tag : Bool → List ℕ → EntityTag
entity_tag weak opaque = record { weak = weak; opaque = opaque }

-- the text after leading blanks
abbrev pub after_blanks : List ℕ → List ℕ
after_blanks [] = []
after_blanks (c ∷ cs) = if is_ows_byte c then after_blanks cs else c ∷ cs

-- the text doesn't begin with a blank
abbrev pub IsTrimmed : List ℕ → Type 0
IsTrimmed [] = Unit {0}
IsTrimmed (c ∷ cs) = is_ows_byte c ≡ false

-- the leading bytes that may be between quotes
abbrev pub opaque_front : List ℕ → List ℕ
opaque_front s = take_while is_tag_byte s

-- the text after this byte, if it begins with it
abbrev pub after_byte : ℕ → List ℕ → Option (List ℕ)
after_byte b [] = None
after_byte b (c ∷ cs) = if c == b then Some cs else None

-- the text after those bytes and the closing quote (34), if it is there
abbrev pub after_closing_quote : List ℕ → Option (List ℕ)
after_closing_quote s = after_byte 34 (drop (prefix_len is_tag_byte s) s)

abbrev pub quoted_tag : Bool → List ℕ → Option (EntityTag × List ℕ)
quoted_tag weak s =
    option_map (λ rest. (entity_tag weak (opaque_front s), rest)) (after_closing_quote s)

-- the tag after its `W/`: a quote (34) follows
abbrev pub after_slash : List ℕ → Option (EntityTag × List ℕ)
after_slash [] = None
after_slash (c ∷ cs) = if c == 34 then quoted_tag true cs else None

-- the tag after its `W`: `/` (47) follows
abbrev pub after_letter : List ℕ → Option (EntityTag × List ℕ)
after_letter [] = None
after_letter (c ∷ cs) = if c == 47 then after_slash cs else None

-- the tag at the front, which begins with a quote (34) or `W` (87), and the text after it
abbrev pub first_tag : List ℕ → Option (EntityTag × List ℕ)
first_tag [] = None
first_tag (c ∷ cs) =
    if c == 34 then quoted_tag false cs else if c == 87 then after_letter cs else None

-- ---- a list of tags

-- the state of a reader: before the tag of a part, after `W`, after `W/`, between quotes, after
-- the tag
pub data ListState : Type 0 where
  Before : ListState
  Letter : ListState
  Slash : ListState
  Inside : ListState
  AfterTag : ListState

-- these tags and the tags of the rest, if the rest can be read
abbrev pub with_tags : List EntityTag → Option (List EntityTag) → Option (List EntityTag)
with_tags tags more = option_map (λ ts. tags ++ ts) more

-- the tags of the rest of a list, if the rest can be read: a comma (44), a quote (34), `W` (87) or
-- `/` (47) changes the state
abbrev pub tags_from : ListState → List ℕ → Option (List EntityTag)
tags_from Before [] = Some []
tags_from Before (c ∷ cs) =
    if is_ows_byte c then tags_from Before cs
    else if c == 44 then tags_from Before cs
    else if c == 34 then with_tags (entity_tag false (opaque_front cs) ∷ []) (tags_from Inside cs)
    else if c == 87 then tags_from Letter cs
    else None
tags_from Letter [] = None
tags_from Letter (c ∷ cs) = if c == 47 then tags_from Slash cs else None
tags_from Slash [] = None
tags_from Slash (c ∷ cs) =
    if c == 34 then with_tags (entity_tag true (opaque_front cs) ∷ []) (tags_from Inside cs)
    else None
tags_from Inside [] = None
tags_from Inside (c ∷ cs) =
    if c == 34 then tags_from AfterTag cs else if is_tag_byte c then tags_from Inside cs else None
tags_from AfterTag [] = Some []
tags_from AfterTag (c ∷ cs) =
    if is_ows_byte c then tags_from AfterTag cs else if c == 44 then tags_from Before cs else None

-- ---- a field

-- a list has at least one tag
abbrev pub tags_value : Option (List EntityTag) → Option FieldValue
tags_value None = None
tags_value (Some []) = None
tags_value (Some (t ∷ ts)) = Some (Tags (t ∷ ts))

-- the reading of a field's text, if it can be read
abbrev pub text_value : List ℕ → Option FieldValue
text_value text =
    if bytes_eq text (codes "*") then Some Star else tags_value (tags_from Before text)

-- the reading of a field's lines, if they can be read
abbrev pub field_value : List (List ℕ) → Option FieldValue
field_value [] = Some Missing
field_value (line ∷ lines) = text_value (join_with_commas (line ∷ lines))

-- ---- both fields

-- the readings of both, if each can be read
abbrev pub both_conditions : Option FieldValue → Option FieldValue → Option Preconditions
both_conditions None if_none_match = None
both_conditions (Some a) None = None
both_conditions (Some a) (Some b) = Some (record { if_match = a; if_none_match = b })

-- what the lines of both say, if each can be read
abbrev pub conditions_of : List (List ℕ) → List (List ℕ) → Option Preconditions
conditions_of if_match if_none_match =
    both_conditions (field_value if_match) (field_value if_none_match)
