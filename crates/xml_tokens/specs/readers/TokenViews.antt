-- The values that the types of the code represent in clauses.
use Rattle.std.specs.Prelude.{Bool, true, false, chars}
use Rattle.xml_grammar.specs.Digits.{Digits, decimal_digits, hexadecimal_digits}
use Rattle.xml_names.specs.declared.names.Name.{Name}
use Rattle.xml_tokens.specs.declared.raw_name.RawName.{RawName}

-- the digits of a numeral: hexadecimal or decimal
abbrev pub digits_of : Bool → Digits
digits_of true = hexadecimal_digits
digits_of false = decimal_digits

-- the name that is written in a text
abbrev pub raw_name_view : RawName → Name
raw_name_view w = record { prefix = chars w.prefix.now; local = chars w.local.now }
