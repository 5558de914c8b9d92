-- The parts of the diff document of each mode. RFC 5875, sections 4.3 and 4.7.
use Rattle.std.specs.Prelude.{ℕ, List, []}
use Rattle.xml_tree.specs.Tree.{Tree}
use Rattle.edit_ops.specs.Notes.{Note}
use Rattle.patch_rules.specs.Notices.{aggregate_documents, patching_documents, tags_documents}
use Rattle.xcap_uri.specs.declared.target.Mode.{Mode}
use Rattle.xcap_uri.specs.declared.target.Mode.TheVariants.{NoPatching, XcapPatching, Aggregate}

-- the change records whose operations it has
abbrev pub reported_notes : Mode → List Note → List Note
reported_notes NoPatching ns = []
reported_notes XcapPatching ns = ns
reported_notes Aggregate ns = ns

-- its `document` elements
abbrev pub mode_documents : Mode → List ℕ → List ℕ → ℕ → List Note → List Tree
mode_documents NoPatching prefix sel from ns = tags_documents prefix sel from ns
mode_documents XcapPatching prefix sel from ns = patching_documents prefix sel ns
mode_documents Aggregate prefix sel from ns = aggregate_documents prefix sel from ns
