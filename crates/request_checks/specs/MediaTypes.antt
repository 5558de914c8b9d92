-- The media type of a request's body. RFC 9110, sections 8.3 (Content-Type) and 8.4
-- (Content-Encoding).
use Rattle.std.specs.Prelude.{ℕ, nat_eq, Bool, false, ◌&&◌, List, [], ◌∷◌, codes}
use Rattle.std.specs.List.{list_all, slice_split}
use Rattle.httparse.specs.Grammar.{trim_ows}
use Rattle.reply_text.specs.MediaTypes.{media_type}
use Rattle.reply_text.specs.declared.media_types.MediaType.{MediaType}
use Rattle.reply_text.specs.declared.media_types.MediaType.TheVariants as media
use Rattle.doc_names.specs.declared.doc_id.Auid.{Auid}
use Rattle.doc_names.specs.declared.doc_id.Auid.TheVariants.{ResourceLists, RlsServices, XcapCaps}
use Rattle.http_wire.specs.Fields.{same_ignoring_case}
use Rattle.http_wire.specs.declared.request.Field.{Field}
use Rattle.request_checks.specs.Rights.{fields_named}

-- the part before the first `;` (59), without blanks at its ends
abbrev pub first_part : List (List ℕ) → List ℕ
first_part [] = []
first_part (part ∷ parts) = part

abbrev pub essence : List ℕ → List ℕ
essence value = trim_ows (first_part (slice_split (λ b. nat_eq b 59) value))

abbrev pub is_single_type : List ℕ → List (List ℕ) → Bool
is_single_type wanted [] = false
is_single_type wanted (v ∷ []) = same_ignoring_case (essence v) wanted
is_single_type wanted (v ∷ w ∷ vs) = false

-- there is exactly one Content-Type, which is this type, and every Content-Encoding is `identity`
unfoldable pub has_media_type : MediaType → List Field → Bool
has_media_type media fields =
    list_all (λ v. same_ignoring_case v (codes "identity"))
    (fields_named (codes "content-encoding") fields)
    && is_single_type (media_type media) (fields_named (codes "content-type") fields)

-- the media type of the documents of an application usage
abbrev pub document_media_type : Auid → MediaType
document_media_type ResourceLists = media.ResourceLists
document_media_type RlsServices = media.RlsServices
document_media_type XcapCaps = media.XcapCaps
