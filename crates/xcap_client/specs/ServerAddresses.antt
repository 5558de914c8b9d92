-- The address of the connections to a root (RFC 3986, section 3.2; RFC 9110, section 4.2.1).
use Rattle.std.specs.Prelude.{ℕ, Bool, ◌==◌, List, ◌++◌, reverse, codes, encode_utf8_all}
use Rattle.std.specs.Prelude.{if◌then◌else◌}
use Rattle.std.specs.List.{list_any}
use Rattle.xcap_uri.specs.Delimiters.{front_before}
use Rattle.xcap_uri.specs.Roots.{authority_of}

-- a `:` (58) comes after the last `]` (93), which ends an IPv6 literal, or anywhere where there is
-- no `]`
abbrev pub has_port : List ℕ → Bool
has_port authority = list_any (λ c. c == 58) (front_before 93 (reverse authority))

-- the authority of the root, with the port of HTTP where the root has none
abbrev pub address_of : List ℕ → List ℕ
address_of root =
    if has_port (encode_utf8_all (authority_of root)) then authority_of root
    else authority_of root ++ codes ":80"
