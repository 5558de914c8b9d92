-- The resource that the code finds at an address. RFC 4825, section 6; RFC 4826, sections 4.4.7
-- and 4.4.8.
use Rattle.std.specs.Prelude.{◌<◌, ◌≤◌}
use Rattle.store_core.specs.Contents.{StoreContents}
use Rattle.xml_tree.specs.Tree.{Tree, height}
use Rattle.xml_names.specs.declared.limits.TheConstants.{MAX_LEVELS}
use Rattle.usage_docs.specs.Services.{document_len}
use Rattle.usage_docs.specs.declared.service_index.TheConstants.{INDEX_LIMIT}
use Rattle.xcap_machine.specs.Resources.{IsIndexOfServices, Resource, absent, beyond_limit, there}
use Rattle.xcap_get.specs.declared.document_lookup.DocumentLookup.{DocumentLookup}
use Rattle.xcap_get.specs.declared.document_lookup.DocumentLookup.TheVariants.{Absent, BeyondLimit}
use Rattle.xcap_get.specs.declared.document_lookup.DocumentLookup.TheVariants.{Held, Computed}

-- the resource of a lookup
abbrev pub resource_of : DocumentLookup → Resource
resource_of Absent = absent
resource_of BeyondLimit = beyond_limit
resource_of (Held root tag) = there root.now tag
resource_of (Computed root tag) = there root tag

-- a tree that is found has few enough levels for selectors
abbrev pub IsWithinLevels : DocumentLookup → Type 0
IsWithinLevels Absent = Unit {0}
IsWithinLevels BeyondLimit = Unit {0}
IsWithinLevels (Held root tag) = height root.now ≤ MAX_LEVELS
IsWithinLevels (Computed root tag) = height root ≤ MAX_LEVELS

-- the index of the stored documents would be longer than the limit
abbrev pub HasLongIndex : StoreContents → Type 0
HasLongIndex c = (root : Tree) × IsIndexOfServices c root × (INDEX_LIMIT < document_len root)
