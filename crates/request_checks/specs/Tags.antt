-- Entity tags and lists of them. RFC 9110, sections 5.6.1 (lists), 5.6.3 (white space) and 8.8.3
-- (ETag).
use Rattle.std.specs.Prelude.{◌≡◌, ℕ, ◌==◌, nat_le, Bool, ◌&&◌, ◌||◌, if◌then◌else◌, List, [], ◌∷◌}
use Rattle.std.specs.Prelude.{◌++◌, Option, map, true, IfSome, filter_map, flat_map, codes}
use Rattle.std.specs.List.{AllByRecursion}
use Rattle.std.specs.Option.{option_map_or}
use Rattle.request_checks.specs.declared.entity_tags.EntityTag.{EntityTag}

-- etagc = %x21 / %x23-7E / obs-text: `!` (33), from `#` (35) to `~` (126), and from 128 to 255
abbrev pub is_tag_byte : ℕ → Bool
is_tag_byte c = c == 33 || (nat_le 35 c && nat_le c 126) || (nat_le 128 c && nat_le c 255)

-- SP (32) / HTAB (9)
abbrev pub is_ows_byte : ℕ → Bool
is_ows_byte c = c == 32 || c == 9

-- all bytes pass the test
abbrev pub AllBytesPass : (ℕ → Bool) → List ℕ → Type 0
AllBytesPass test cs = AllByRecursion (λ c. test c ≡ true) cs

-- entity-tag = [ %s"W/" ] DQUOTE *etagc DQUOTE
abbrev pub tag_text : EntityTag → List ℕ
tag_text t = (if t.weak then codes "W/" else []) ++ (codes "\"" ++ (t.opaque ++ codes "\""))

-- the part between two commas of a list: OWS [ entity-tag ] OWS
pub record ListPart : Type 0 where
  pub before : List ℕ
  pub tag : Option EntityTag
  pub after : List ℕ

pub record IsListPart (p : ListPart) : Type 0 where
  pub before : AllBytesPass is_ows_byte p.before
  pub tag : IfSome p.tag (λ t. AllBytesPass is_tag_byte t.opaque)
  pub after : AllBytesPass is_ows_byte p.after

-- the texts, joined by commas
abbrev pub join_with_commas : List (List ℕ) → List ℕ
join_with_commas [] = []
join_with_commas (text ∷ texts) = text ++ flat_map (λ t. codes "," ++ t) texts

-- the text is a list of exactly these tags, in order; any part may be empty
pub record SpellsTags (text : List ℕ) (tags : List EntityTag) : Type 0 where
  pub parts : List ListPart
  pub spelled : text
      ≡ join_with_commas
      (map (λ p. p.before ++ (option_map_or tag_text p.tag [] ++ p.after)) parts)
  pub tagged : tags ≡ filter_map (λ p. p.tag) parts
  pub lawful : AllByRecursion IsListPart parts
