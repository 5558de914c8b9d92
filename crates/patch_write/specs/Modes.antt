-- The diff document of each mode. RFC 5875, sections 4.3 and 4.7: `no-patching` sends the etags
-- alone, `xcap-patching` each change by itself, and `aggregate` all changes at once.
use Rattle.std.specs.Prelude.{ℕ, List}
use Rattle.xml_tree.specs.Tree.{Tree}
use Rattle.edit_ops.specs.Notes.{Note}
use Rattle.patch_rules.specs.Notices.{aggregate_notice, patching_notice, tags_notice}
use Rattle.xcap_uri.specs.declared.target.Mode.{Mode}
use Rattle.xcap_uri.specs.declared.target.Mode.TheVariants.{NoPatching, XcapPatching, Aggregate}

-- the diff document of a document's change records since a tag
abbrev pub notice_of : Mode → List ℕ → List ℕ → ℕ → List Note → Tree
notice_of NoPatching root sel from ns = tags_notice root sel from ns
notice_of XcapPatching root sel from ns = patching_notice root sel from ns
notice_of Aggregate root sel from ns = aggregate_notice root sel from ns
