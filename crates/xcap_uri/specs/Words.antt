-- The fixed words in addresses, as characters. RFC 4825, section 6.2; RFC 4826, sections 3.4 and
-- 4.4.
use Rattle.std.specs.Prelude.{ℕ, List, codes, chars}

-- the two trees of an AUID's documents
abbrev pub global : List ℕ
global = chars (codes "global")

abbrev pub users : List ℕ
users = chars (codes "users")

-- the first segments of the addresses of feeds and of flat lists
abbrev pub feed : List ℕ
feed = chars (codes "~feed")

abbrev pub flat : List ℕ
flat = chars (codes "~flat")

-- the word in place of the mode in the address of an element's feed
abbrev pub element_word : List ℕ
element_word = chars (codes "element")
