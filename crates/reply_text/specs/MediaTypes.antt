-- The names of the media types of XCAP: RFC 4825, section 15.2; RFC 4826, section 8.2; RFC 5874,
-- section 7.1; and of plain text: RFC 2046, section 4.1.
use Rattle.std.specs.Prelude.{ℕ, List, codes}
use Rattle.reply_text.specs.declared.media_types.MediaType.{MediaType}
use Rattle.reply_text.specs.declared.media_types.MediaType.TheVariants.{ResourceLists, RlsServices}
use Rattle.reply_text.specs.declared.media_types.MediaType.TheVariants.{XcapCaps, Element}
use Rattle.reply_text.specs.declared.media_types.MediaType.TheVariants.{Attribute, Namespaces}
use Rattle.reply_text.specs.declared.media_types.MediaType.TheVariants.{Error, Diff, PlainText}

-- the name of a media type
unfoldable pub media_type : MediaType → List ℕ
media_type ResourceLists = codes "application/resource-lists+xml"
media_type RlsServices = codes "application/rls-services+xml"
media_type XcapCaps = codes "application/xcap-caps+xml"
media_type Element = codes "application/xcap-el+xml"
media_type Attribute = codes "application/xcap-att+xml"
media_type Namespaces = codes "application/xcap-ns+xml"
media_type Error = codes "application/xcap-error+xml"
media_type Diff = codes "application/xcap-diff+xml"
media_type PlainText = codes "text/plain;charset=utf-8"
