-- The records of the machine's definitions, from their parts.
use Rattle.std.specs.Prelude.{ℕ, Bool, List, Option}
use Rattle.doc_names.specs.declared.doc_id.DocId.{DocId}
use Rattle.doc_names.specs.declared.usages.Usage.{Usage}
use Rattle.node_select.specs.declared.selector.Selector.{Selector}
use Rattle.http_wire.specs.declared.request.Request.{Request}
use Rattle.request_checks.specs.declared.method.Method.{Method}
use Rattle.store_core.specs.Contents.{StoreContents}
use Rattle.store_core.specs.State.{Document, Version}
use Rattle.edit_ops.specs.Notes.{Note}
use Rattle.xcap_uri.specs.declared.target.Mode.{Mode}
use Rattle.xcap_machine.specs.Answers.{Representation}
use Rattle.xcap_machine.specs.WriteEffects.{AcceptedPut}
use Rattle.xcap_machine.specs.ElementFeeds.{ElementQuery}
use Rattle.xcap_machine.specs.Feeds.{FeedQuery}
use Rattle.xcap_machine.specs.NodeWrites.{NodeWrite}
use Rattle.xcap_machine.specs.ReadRequests.{ReadRequest}
use Rattle.xcap_machine.specs.ServerStates.{ServerState}
use Rattle.xcap_machine.specs.SubscriberReplicas.{VersionNotes}

abbrev pub server_state : List ℕ → StoreContents → ServerState
server_state root c = record { root = root; content = c }

abbrev pub representation : Option ℕ → Bool → Representation
representation tag exists = record { tag = tag; exists = exists }

abbrev pub read_request : Method → Request → ReadRequest
read_request method request = record { method = method; request = request }

abbrev pub feed_query : Mode → ℕ → DocId → FeedQuery
feed_query mode tag id = record { mode = mode; tag = tag; id = id }

abbrev pub element_query : ℕ → DocId → Selector → List ℕ → ElementQuery
element_query tag id selector raw =
    record { tag = tag; watched = record { doc = id; selector = selector; raw = raw } }

abbrev pub node_write : DocId → Usage → Selector → Request → NodeWrite
node_write id usage selector request =
    record { id = id; usage = usage; selector = selector; request = request }

abbrev pub accepted_put : StoreContents → StoreContents → DocId → ℕ → Selector → List ℕ
    → AcceptedPut
accepted_put old new id tag selector body =
    record { old = old; new = new; id = id; tag = tag; selector = selector; body = body }

abbrev pub version_notes : DocId → Document → Version → List Note → VersionNotes
version_notes id document from notes =
    record { id = id; document = document; from = from; notes = notes }
