-- The texts of parts of addresses, decoded from left to right.
use Rattle.std.specs.Prelude.{ℕ, Bool, ◌&&◌, List, Option, None, Some, Result, Ok, Err}
use Rattle.std.specs.Prelude.{if◌then◌else◌, chars}
use Rattle.std.specs.Str.{is_utf8}
use Rattle.percent_encoding.specs.Percent.{percent_decode}
use Rattle.xml_names.specs.declared.read_error.ReadError.TheVariants.{Fault}
use Rattle.xcap_uri.specs.Escapes.{has_complete_escapes}
use Rattle.xcap_uri.specs.readers.Steps.{UriError, ◌>>=◌}
use Rattle.xcap_uri.specs.declared.fault.UriFault.TheVariants.{BadEscape}

-- whether a part of an address decodes to a text
abbrev pub decodes_to_text : List ℕ → Bool
decodes_to_text part = has_complete_escapes part && is_utf8 (percent_decode part)

-- the text that it decodes to
abbrev pub parsed_text : List ℕ → Result (List ℕ) UriError
parsed_text part =
    if decodes_to_text part then Ok (chars (percent_decode part)) else Err (Fault BadEscape)

-- the text of a part that may be absent
abbrev pub parsed_optional_text : Option (List ℕ) → Result (Option (List ℕ)) UriError
parsed_optional_text None = Ok None
parsed_optional_text (Some part) = parsed_text part >>= λ text. Ok (Some text)
