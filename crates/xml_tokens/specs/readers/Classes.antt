-- The classes of characters that runs are made of.
use Rattle.std.specs.Prelude.{ℕ, Bool, ◌&&◌, nat_lt, nat_le}
use Rattle.std.specs.Char.{is_ascii_digit}
use Rattle.xml_names.specs.Characters.{is_space, is_name_char}
use Rattle.xml_tokens.specs.Tokens.{is_different_char}
use Rattle.xml_tokens.specs.Tokens.{is_encoding_char, is_raw_char, is_raw_value_char}
use Rattle.xml_tokens.specs.readers.CharacterRuns.{is_plain_in_content, is_plain_in_value}
use Rattle.xml_tokens.specs.declared.character_classes.Class.{Class}
use Rattle.xml_tokens.specs.declared.character_classes.Class.TheVariants.{Space, Name, Digit}
use Rattle.xml_tokens.specs.declared.character_classes.Class.TheVariants.{Encoding, Raw, RawIn}
use Rattle.xml_tokens.specs.declared.character_classes.Class.TheVariants.{Other, PlainContent}
use Rattle.xml_tokens.specs.declared.character_classes.Class.TheVariants.{PlainValue}

-- the characters of a class
abbrev pub class_contains : Class → ℕ → Bool
class_contains Space = is_space
class_contains Name = is_name_char
class_contains Digit = is_ascii_digit
class_contains Encoding = is_encoding_char
class_contains Raw = is_raw_char
class_contains (RawIn quote) = is_raw_value_char quote
class_contains (Other one) = is_different_char one
class_contains PlainContent = is_plain_in_content
class_contains PlainValue = is_plain_in_value

-- the ASCII characters among them
abbrev pub is_ascii_passing : (ℕ → Bool) → ℕ → Bool
is_ascii_passing p c = nat_lt c 128 && p c

-- a byte of a character that isn't ASCII
abbrev pub is_non_ascii : ℕ → Bool
is_non_ascii c = nat_le 128 c
