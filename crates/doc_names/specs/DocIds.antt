-- Names of documents. RFC 4825, section 6.2: an application usage, then `global` or `users` and a
-- user, then the name of the document.
use Rattle.std.specs.Prelude.{◌≢◌, ℕ, List, [], ◌++◌, codes, chars}
use Rattle.doc_names.specs.Usages.{auid_text}
use Rattle.doc_names.specs.declared.doc_id.Home.{Home}
use Rattle.doc_names.specs.declared.doc_id.Home.TheVariants.{Global, User}
use Rattle.doc_names.specs.declared.doc_id.DocId.{DocId}
use Rattle.doc_names.specs.PercentEscapes.{escape_part}

-- the segment between document selector and node selector
abbrev pub selector_separator : List ℕ
selector_separator = chars (codes "~~")

-- a text can be a segment of a document selector: it is neither empty nor the separator
abbrev pub IsDocumentSegment : List ℕ → Type 0
IsDocumentSegment text = (text ≢ []) × (text ≢ selector_separator)

abbrev pub IsAddressableHome : Home → Type 0
IsAddressableHome Global = Unit {0}
IsAddressableHome (User xui) = IsDocumentSegment xui

-- an id that an address can name
abbrev pub IsAddressable : DocId → Type 0
IsAddressable doc = IsAddressableHome doc.home × IsDocumentSegment doc.name

-- the segments of the home, each between slashes
abbrev pub home_text : Home → List ℕ
home_text Global = codes "/global/"
home_text (User xui) = codes "/users/" ++ (escape_part xui ++ codes "/")

-- the printed id: AUID/global/NAME or AUID/users/XUI/NAME, each part escaped
abbrev pub id_text : DocId → List ℕ
id_text doc = auid_text doc.auid ++ (home_text doc.home ++ escape_part doc.name)
