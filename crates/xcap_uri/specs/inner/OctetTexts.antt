-- Texts as their octets in UTF-8, like every text of the program.
use Rattle.std.specs.Prelude.{◌≡◌, ℕ, ◌<◌, List, All, encode_utf8_all, chars}
use Rattle.std.specs.Str.{IsUtf8}
use Rattle.doc_names.specs.declared.doc_id.Home.{Home}
use Rattle.doc_names.specs.declared.doc_id.Home.TheVariants.{Global, User}

-- a number that an octet can have
abbrev pub IsOctet : ℕ → Type 0
IsOctet b = b < 256

pub record IsDecodedText (text : List ℕ) : Type 0 where
  pub utf8 : IsUtf8 (encode_utf8_all text)
  pub octets : All IsOctet (encode_utf8_all text)
  pub letters : chars (encode_utf8_all text) ≡ text

abbrev pub IsDecodedHome : Home → Type 0
IsDecodedHome Global = Unit {0}
IsDecodedHome (User xui) = IsDecodedText xui
