-- The table of application usages: the AUID of each, the namespace of its documents, and whether
-- they are stored. RFC 4825, sections 6.2 and 12 (xcap-caps); RFC 4826, sections 3.4
-- (resource-lists) and 4.4 (rls-services).
use Rattle.std.specs.Prelude.{ℕ, List, Option, None, Some, codes}
use Rattle.doc_names.specs.declared.doc_id.Auid.{Auid}
use Rattle.doc_names.specs.declared.doc_id.Auid.TheVariants.{ResourceLists, RlsServices, XcapCaps}
use Rattle.doc_names.specs.declared.usages.Usage.{Usage}
use Rattle.doc_names.specs.declared.usages.Usage.TheVariants as usages

-- the AUID of an application usage
abbrev pub auid_text : Auid → List ℕ
auid_text ResourceLists = codes "resource-lists"
auid_text RlsServices = codes "rls-services"
auid_text XcapCaps = codes "xcap-caps"

-- the namespace of its documents, which is the default namespace of a selector's element names
abbrev pub namespace_of : Auid → List ℕ
namespace_of ResourceLists = codes "urn:ietf:params:xml:ns:resource-lists"
namespace_of RlsServices = codes "urn:ietf:params:xml:ns:rls-services"
namespace_of XcapCaps = codes "urn:ietf:params:xml:ns:xcap-caps"

-- the usage with stored documents that has this AUID, if there is one
abbrev pub usage_of : Auid → Option Usage
usage_of ResourceLists = Some usages.ResourceLists
usage_of RlsServices = Some usages.RlsServices
usage_of XcapCaps = None
