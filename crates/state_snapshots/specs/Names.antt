-- Names of documents that a snapshot can have. This is the project's own.
use Rattle.std.specs.Prelude.{◌≡◌, ℕ, ◌<◌, ◌^◌, List, length, encode_utf8_all, true}
use Rattle.std.specs.Str.{all_scalars}
use Rattle.doc_names.specs.declared.doc_id.DocId.{DocId}
use Rattle.doc_names.specs.declared.doc_id.Home.{Home}
use Rattle.doc_names.specs.declared.doc_id.Home.TheVariants.{Global, User}

-- the text consists of characters, and its bytes in UTF-8 fit a block
pub record IsEncodableText (text : List ℕ) : Type 0 where
  pub characters : all_scalars text ≡ true
  pub short : length (encode_utf8_all text) < 2 ^ 32

abbrev pub IsEncodableHome : Home → Type 0
IsEncodableHome Global = Unit {0}
IsEncodableHome (User xui) = IsEncodableText xui

abbrev pub IsEncodableName : DocId → Type 0
IsEncodableName id = IsEncodableHome id.home × IsEncodableText id.name
