use Rattle.std.proofs.Common.{◌≡◌, take}
use Rattle.list_resolve.specs.Documents.{list_tree}
use Rattle.list_resolve.proofs.flat_documents.push_entries.Given as goal

abbrev pub invariant-loop-uri : goal.invariant-loop-uri
invariant-loop-uri l = l.list ≡ list_tree (take l.uri-index l.uris)
