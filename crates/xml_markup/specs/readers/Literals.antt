-- Names for the fixed words of markup.
use Rattle.std.specs.Prelude.{ℕ, codes, List, [], ◌∷◌}

-- `<!--` and `--`
abbrev pub comment_start : List ℕ
comment_start = codes "<!--"

abbrev pub dashes : List ℕ
dashes = codes "--"

-- `<![CDATA[`
abbrev pub cdata_start : List ℕ
cdata_start = codes "<![CDATA["

-- `<?` and `?>`
abbrev pub pi_start : List ℕ
pi_start = codes "<?"

abbrev pub pi_end : List ℕ
pi_end = codes "?>"

-- `<?xml`, `version`, `1.`, `encoding`, `standalone`, `yes` and `no`
abbrev pub declaration_start : List ℕ
declaration_start = codes "<?xml"

abbrev pub version : List ℕ
version = codes "version"

abbrev pub version_start : List ℕ
version_start = codes "1."

abbrev pub encoding : List ℕ
encoding = codes "encoding"

abbrev pub standalone : List ℕ
standalone = codes "standalone"

abbrev pub yes : List ℕ
yes = codes "yes"

abbrev pub no : List ℕ
no = codes "no"

-- `<!`, `<![` and `DOCTYPE`
abbrev pub bang : List ℕ
bang = codes "<!"

abbrev pub bang_bracket : List ℕ
bang_bracket = codes "<!["

abbrev pub doctype : List ℕ
doctype = codes "DOCTYPE"

-- the byte order mark, U+FEFF
abbrev pub byte_order_mark : List ℕ
byte_order_mark = 0xFEFF ∷ []
