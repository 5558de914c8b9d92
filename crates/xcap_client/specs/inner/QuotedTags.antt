-- The quoted part of an entity tag, as text. RFC 9110, section 8.8.3.
use Rattle.std.specs.Prelude.{◌≡◌, ℕ, List, ◌++◌, codes}
use Rattle.request_checks.specs.Tags.{AllBytesPass, is_tag_byte}

-- opaque-tag = DQUOTE *etagc DQUOTE
abbrev pub IsQuotedTag : List ℕ → List ℕ → Type 0
IsQuotedTag text opaque =
    AllBytesPass is_tag_byte opaque × (text ≡ codes "\"" ++ (opaque ++ codes "\""))
