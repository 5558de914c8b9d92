-- Names for the fixed words of selectors.
use Rattle.std.specs.Prelude.{ℕ, List, codes}

abbrev pub slash : List ℕ
slash = codes "/"

abbrev pub star : List ℕ
star = codes "*"

abbrev pub at_sign : List ℕ
at_sign = codes "@"

abbrev pub open_bracket : List ℕ
open_bracket = codes "["

abbrev pub close_bracket : List ℕ
close_bracket = codes "]"

abbrev pub equals_sign : List ℕ
equals_sign = codes "="

abbrev pub namespaces : List ℕ
namespaces = codes "namespace::*"

abbrev pub text_test : List ℕ
text_test = codes "text()"
