-- The print of an attribute body (application/xcap-att+xml, RFC 4825, section 15.2.2): one of the
-- texts that are read as this value.
use Rattle.std.specs.Prelude.{ℕ, ◌==◌, codes, List, [], ◌∷◌, flat_map, if◌then◌else◌}

-- a character of a body: `&` (38), `<` (60), `"` (34), `'` (39), tab (9), LF (10) and CR (13) are
-- references
abbrev pub body_escape : ℕ → List ℕ
body_escape c =
    if c == 38 then codes "&amp;"
    else if c == 60 then codes "&lt;"
    else if c == 34 then codes "&quot;"
    else if c == 39 then codes "&apos;"
    else if c == 9 then codes "&#x9;"
    else if c == 10 then codes "&#xA;"
    else if c == 13 then codes "&#xD;"
    else (c ∷ [])

-- a body: its characters, escaped
abbrev pub body_print : List ℕ → List ℕ
body_print value = flat_map body_escape value
