-- Names of documents as keys of maps: the derived `==` is the test by parts, which holds exactly
-- when two names are equal.
use Rattle.std.proofs.Common.{◌≡◌, ap, ◌∙◌, ◌&&◌, refl}
use Rattle.std.specs.Str.{bytes_eq}
use Rattle.doc_names.specs.contracts.doc_id.DocIdPartialEq.TheImpl.{eq-value}
use Rattle.doc_names.specs.contracts.doc_id.AuidPartialEq.TheImpl.{eq-value as auid-eq}
use Rattle.doc_names.specs.contracts.doc_id.HomePartialEq.TheImpl.{eq-value as home-eq}
use Rattle.doc_names.specs.declared.doc_id.DocId.{DocId}
use Rattle.doc_names.specs.declared.doc_id.Auid.{Auid}
use Rattle.doc_names.specs.declared.doc_id.Auid.TheVariants.{ResourceLists, RlsServices, XcapCaps}
use Rattle.doc_names.specs.declared.doc_id.Home.{Home}
use Rattle.doc_names.specs.declared.doc_id.Home.TheVariants.{Global, User}
use Rattle.doc_names.specs.NameEquality.{same_auid, same_home, same_id}

auids : (a b : Auid) → auid-eq.it a b ≡ same_auid a b
auids ResourceLists ResourceLists = refl
auids ResourceLists RlsServices = refl
auids ResourceLists XcapCaps = refl
auids RlsServices ResourceLists = refl
auids RlsServices RlsServices = refl
auids RlsServices XcapCaps = refl
auids XcapCaps ResourceLists = refl
auids XcapCaps RlsServices = refl
auids XcapCaps XcapCaps = refl

homes : (a b : Home) → home-eq.it a b ≡ same_home a b
homes Global Global = refl
homes Global (User b) = refl
homes (User a) Global = refl
homes (User a) (User b) = refl

pub derived_is_same_id : (a b : DocId) → eq-value.it a b ≡ same_id a b
derived_is_same_id a b =
    ap (λ t. t && (home-eq.it a.home b.home && bytes_eq a.name b.name)) (auids a.auid b.auid)
    ∙ ap (λ t. same_auid a.auid b.auid && (t && bytes_eq a.name b.name)) (homes a.home b.home)

-- the derived `==` is the test by parts
pub derived_eq : eq-value.it ≡ same_id
derived_eq i a b = derived_is_same_id a b i
