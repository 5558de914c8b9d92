use Rattle.list_resolve.proofs.Documents.{list_next}
use Rattle.list_resolve.proofs.flat_documents.push_entries.Goals as goal

pub loop-uri-preserved : goal.loop-uri-preserved
loop-uri-preserved c =
    list_next c.args.uris.now c.loop-uri.uri-index c.uri-item.result c.loop-uri.list c.push_elem.new.self c.in_ok-entry.entry c.loop-uri.invariant c.loop-uri-test.true c.uri-item.is
    c.in_ok-entry.ensures.ok c.in_ok-push_elem.ensures.adds_element
