-- The test by which maps find documents holds exactly when two names are equal.
use Rattle.std.proofs.Common.{◌≡◌, ◌≢◌, Bool, true, false, ⊎_elim, refl, sym, ap, ◌∙◌}
use Rattle.std.proofs.lemmas.Bool.{and_parts, and_from, cases_Bool}
use Rattle.std.specs.Cmp.Lexicographic.{bytes_decides}
use Rattle.doc_names.specs.declared.doc_id.DocId.{DocId}
use Rattle.doc_names.specs.declared.doc_id.Auid.{Auid}
use Rattle.doc_names.specs.declared.doc_id.Auid.TheVariants.{ResourceLists, RlsServices, XcapCaps}
use Rattle.doc_names.specs.declared.doc_id.Home.{Home}
use Rattle.doc_names.specs.declared.doc_id.Home.TheVariants.{Global, User}
use Rattle.doc_names.specs.NameEquality.{same_auid, same_home, same_id}

auid_exact : (a b : Auid) → same_auid a b ≡ true → a ≡ b
auid_exact ResourceLists ResourceLists h = refl
auid_exact ResourceLists RlsServices h = cc
auid_exact ResourceLists XcapCaps h = cc
auid_exact RlsServices ResourceLists h = cc
auid_exact RlsServices RlsServices h = refl
auid_exact RlsServices XcapCaps h = cc
auid_exact XcapCaps ResourceLists h = cc
auid_exact XcapCaps RlsServices h = cc
auid_exact XcapCaps XcapCaps h = refl

home_exact : (a b : Home) → same_home a b ≡ true → a ≡ b
home_exact Global Global h = refl
home_exact Global (User b) h = cc
home_exact (User a) Global h = cc
home_exact (User a) (User b) h = ap User ((bytes_decides a b).0 h)

-- names that pass the test are equal
pub id_exact : (a b : DocId) → same_id a b ≡ true → a ≡ b
id_exact a b h =
    let first = and_parts (same_auid a.auid b.auid) _ h in
    let rest = and_parts (same_home a.home b.home) _ first.1 in
    let auid = auid_exact a.auid b.auid first.0 in
    let home = home_exact a.home b.home rest.0 in
    let name = (bytes_decides a.name b.name).0 rest.1 in
    λ i. record { auid = auid i; home = home i; name = name i }

auid_self : (a : Auid) → same_auid a a ≡ true
auid_self ResourceLists = refl
auid_self RlsServices = refl
auid_self XcapCaps = refl

home_self : (a : Home) → same_home a a ≡ true
home_self Global = refl
home_self (User a) = (bytes_decides a a).1 refl

-- a name passes its own test
pub id_self : (a : DocId) → same_id a a ≡ true
id_self a = and_from _ _ (auid_self a.auid) (and_from _ _ (home_self a.home) ((bytes_decides a.name a.name).1 refl))

-- names that differ don't pass
pub ids_apart : (a b : DocId) → b ≢ a → same_id a b ≡ false
ids_apart a b differ = ⊎_elim (λ h. absurd (differ (sym (id_exact a b h)))) (λ h. h) (cases_Bool (same_id a b))

-- a name that differs from the found one isn't found
pub other-name : (a b c : DocId) (t : Bool) → same_id a c ≡ t → same_id a b ≡ true → b ≢ c → same_id a c ≡ false
other-name a b c true e h ne = absurd (ne (sym (id_exact a b h) ∙ id_exact a c e))
other-name a b c false e h ne = e

pub not-same : (a b : DocId) → same_id a b ≡ false → a ≢ b
not-same a b h e = let k = id_self a in let g : same_id a b ≡ same_id a a = ap (λ (x : DocId). same_id a x) (sym e) in cc
