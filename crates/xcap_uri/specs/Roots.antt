-- XCAP roots, which begin all addresses of a server. RFC 4825, section 6.1: the XCAP root is an
-- HTTP or HTTPS URI; here
--
--     root      = ( "http://" / "https://" ) authority *( "/" segment )
--     authority = 1*( ALPHA / DIGIT / "." / "-" / ":" / "[" / "]" )
--     segment   = 1*( ALPHA / DIGIT / "-" / "." / "_" / "~" )
--
-- with at most `MAX_ROOT_LEN` octets. Neither an authority nor a segment has a `/`, so a text
-- is a root by its pieces between slashes.
use Rattle.std.specs.Prelude.{◌≡◌, ◌⊎◌, ◌≤◌, ℕ, Bool, true, false, ◌&&◌, ◌||◌, ◌==◌, nat_le, List}
use Rattle.std.specs.Prelude.{[], ◌∷◌, ◌++◌, codes, length, drop, flat_map, if◌then◌else◌, Option}
use Rattle.std.specs.Prelude.{Some, None}
use Rattle.std.specs.List.{list_any, list_all}
use Rattle.std.specs.Char.{is_ascii_alphanumeric}
use Rattle.std.specs.Str.{bytes_eq}
use Rattle.xcap_uri.specs.Delimiters.{pieces}
use Rattle.xcap_uri.specs.declared.root.TheConstants.{MAX_ROOT_LEN}

-- `/`
abbrev pub slash : ℕ
slash = 47

abbrev pub is_authority_char : ℕ → Bool
is_authority_char b = is_ascii_alphanumeric b || list_any (λ c. b == c) (codes ".-:[]")

abbrev pub is_segment_char : ℕ → Bool
is_segment_char b = is_ascii_alphanumeric b || list_any (λ c. b == c) (codes "-._~")

-- one or more characters of a class
abbrev pub is_one_or_more : (ℕ → Bool) → List ℕ → Bool
is_one_or_more p [] = false
is_one_or_more p (c ∷ cs) = p c && list_all p cs

-- ---- by the grammar

-- segments, with a slash before each
abbrev pub path_of_segments : List (List ℕ) → List ℕ
path_of_segments segments = flat_map (λ segment. slash ∷ segment) segments

-- the text is a root with this authority and this path
pub record IsRoot (text authority path : List ℕ) : Type 0 where
  pub scheme : List ℕ
  pub segments : List (List ℕ)
  pub joined : text ≡ scheme ++ (authority ++ path)
  pub scheme_is : (scheme ≡ codes "http://") ⊎ (scheme ≡ codes "https://")
  pub authority_is : is_one_or_more is_authority_char authority ≡ true
  pub path_is : path ≡ path_of_segments segments
  pub segments_are : list_all (is_one_or_more is_segment_char) segments ≡ true
  pub short : length text ≤ MAX_ROOT_LEN

-- ---- by the pieces between slashes (`roots_are_spelled_by_the_grammar`)

-- the first piece of a root
abbrev pub is_scheme : List ℕ → Bool
is_scheme piece = bytes_eq piece (codes "http:") || bytes_eq piece (codes "https:")

-- the scheme, nothing between the two slashes after it, the authority, and the segments
abbrev pub are_root_parts : List (List ℕ) → Bool
are_root_parts (scheme ∷ [] ∷ authority ∷ segments) =
    is_scheme scheme && is_one_or_more is_authority_char authority
    && list_all (is_one_or_more is_segment_char) segments
are_root_parts _ = false

-- a root: an absolute URI of at most `MAX_ROOT_LEN` bytes
abbrev pub is_root_text : List ℕ → Bool
is_root_text text = nat_le (length text) MAX_ROOT_LEN && are_root_parts (pieces slash text)

-- what stands between the second slash and the third
abbrev pub third_piece : List (List ℕ) → List ℕ
third_piece (first ∷ second ∷ piece ∷ others) = piece
third_piece _ = []

-- the authority of a root, and its path
abbrev pub authority_of : List ℕ → List ℕ
authority_of root = third_piece (pieces slash root)

abbrev pub path_of : List ℕ → List ℕ
path_of root = path_of_segments (drop 3 (pieces slash root))

-- the root that a text is, if it is one
unfoldable pub root_of : List ℕ → Option (List ℕ)
root_of text = if is_root_text text then Some text else None
