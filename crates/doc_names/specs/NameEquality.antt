-- Equality of documents' names as a computed test: the test by which maps find their keys.
use Rattle.std.specs.Prelude.{Bool, true, false, ◌&&◌}
use Rattle.std.specs.Str.{bytes_eq}
use Rattle.doc_names.specs.declared.doc_id.Auid.{Auid}
use Rattle.doc_names.specs.declared.doc_id.Auid.TheVariants.{ResourceLists, RlsServices, XcapCaps}
use Rattle.doc_names.specs.declared.doc_id.Home.{Home}
use Rattle.doc_names.specs.declared.doc_id.Home.TheVariants.{Global, User}
use Rattle.doc_names.specs.declared.doc_id.DocId.{DocId}

abbrev pub same_auid : Auid → Auid → Bool
same_auid ResourceLists ResourceLists = true
same_auid RlsServices RlsServices = true
same_auid XcapCaps XcapCaps = true
same_auid _ _ = false

abbrev pub same_home : Home → Home → Bool
same_home Global Global = true
same_home Global (User b) = false
same_home (User a) Global = false
same_home (User a) (User b) = bytes_eq a b

-- the two names are equal part by part
abbrev pub same_id : DocId → DocId → Bool
same_id a b = same_auid a.auid b.auid && (same_home a.home b.home && bytes_eq a.name b.name)
