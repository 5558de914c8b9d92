-- Who may do what, by the default policy of RFC 4825, section 5.7. How a user is identified is up
-- to the server; this one takes the name from the field X-XCAP-User, which a front proxy sets: a
-- user owns the home of that name, everyone reads global documents, and nobody writes them or in
-- xcap-caps.
use Rattle.std.specs.Prelude.{ℕ, Bool, true, false, not, ◌&&◌, List, [], ◌∷◌, map, codes}
use Rattle.std.specs.Prelude.{encode_utf8_all}
use Rattle.std.specs.Str.{bytes_eq}
use Rattle.doc_names.specs.declared.doc_id.Auid.{Auid}
use Rattle.doc_names.specs.declared.doc_id.Auid.TheVariants.{XcapCaps}
use Rattle.doc_names.specs.declared.doc_id.Home.{Home}
use Rattle.doc_names.specs.declared.doc_id.Home.TheVariants.{Global, User}
use Rattle.http_wire.specs.Fields.{field_values}
use Rattle.http_wire.specs.declared.request.Field.{Field}

-- the values of the fields of this name, in order
abbrev pub fields_named : List ℕ → List Field → List (List ℕ)
fields_named name fields = field_values name (map (λ f. (f.name, f.value)) fields)

-- there is exactly one value, and it is this one
abbrev pub is_only_value : List ℕ → List (List ℕ) → Bool
is_only_value wanted [] = false
is_only_value wanted (v ∷ []) = bytes_eq v wanted
is_only_value wanted (v ∷ w ∷ vs) = false

-- the request comes from this user
unfoldable pub is_from_user : List ℕ → List Field → Bool
is_from_user xui fields =
    is_only_value (encode_utf8_all xui) (fields_named (codes "x-xcap-user") fields)

-- the AUID `xcap-caps`, whose documents nobody writes
abbrev pub is_fixed_usage : Auid → Bool
is_fixed_usage XcapCaps = true
is_fixed_usage _ = false

-- a request that writes, or only reads, is allowed in this home
abbrev pub is_allowed : Bool → Auid → Home → List Field → Bool
is_allowed writes auid Global fields = not writes
is_allowed writes auid (User xui) fields =
    not (writes && is_fixed_usage auid) && is_from_user xui fields
