-- Roots as the code reads them: the scheme, then the authority, then the segments.
use Rattle.std.specs.Prelude.{ℕ, Bool, false, ◌&&◌, nat_le, List, [], ◌∷◌, codes, length, Option}
use Rattle.std.specs.Prelude.{None, Some}
use Rattle.std.specs.List.{list_all}
use Rattle.std.specs.Option.{option_or}
use Rattle.xcap_uri.specs.Delimiters.{rest_after_front, pieces}
use Rattle.xcap_uri.specs.Roots.{slash, is_authority_char, is_segment_char, is_one_or_more}
use Rattle.xcap_uri.specs.declared.root.TheConstants.{MAX_ROOT_LEN}

-- what comes after the scheme
abbrev pub strip_scheme : List ℕ → Option (List ℕ)
strip_scheme text =
    option_or (rest_after_front (codes "http://") text) (rest_after_front (codes "https://") text)

-- an authority, and then segments
abbrev pub are_authority_and_segments : List (List ℕ) → Bool
are_authority_and_segments [] = false
are_authority_and_segments (authority ∷ segments) =
    is_one_or_more is_authority_char authority && list_all (is_one_or_more is_segment_char) segments

abbrev pub is_root_after_scheme : Option (List ℕ) → Bool
is_root_after_scheme None = false
is_root_after_scheme (Some rest) = are_authority_and_segments (pieces slash rest)

-- the text reads as a root
abbrev pub reads_as_root : List ℕ → Bool
reads_as_root text = nat_le (length text) MAX_ROOT_LEN && is_root_after_scheme (strip_scheme text)
