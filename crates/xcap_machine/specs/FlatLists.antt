-- Flat lists: the addresses of a service, with all references resolved, as a document of lists.
-- RFC 4826, section 4, defines services. That a flat list has an address, and that neither
-- conditions nor tags apply to it, is this server's own.
use Rattle.std.specs.Prelude.{◌≡◌, ℕ, List, None, Result, Ok, Err, encode_utf8_all}
use Rattle.xml_tree.specs.Tree.{Tree}
use Rattle.xml_tree.specs.Print.{document_print}
use Rattle.doc_names.specs.declared.doc_id.DocId.{DocId}
use Rattle.reply_text.specs.ReplyHeads.{plain_reply}
use Rattle.reply_text.specs.declared.media_types.MediaType.TheVariants as medias
use Rattle.request_checks.specs.Methods.{reply_for_method}
use Rattle.store_core.specs.Contents.{StoreContents}
use Rattle.list_resolve.specs.Documents.{flat_document}
use Rattle.list_resolve.specs.FlatLists.{IsFlatList}
use Rattle.list_resolve.specs.declared.fault.FlatFault.{FlatFault}
use Rattle.list_resolve.specs.declared.fault.FlatFault.TheVariants.{NoService}
use Rattle.xcap_machine.specs.Answers.{Answer, found_reply, reply_only}
use Rattle.xcap_machine.specs.ReadRequests.{ReadRequest}
use Rattle.xcap_machine.specs.ServerStates.{ServerState}

-- the document of a flat list, or why there is none
abbrev pub flat_document_result : Result (List (List ℕ)) FlatFault → Result Tree FlatFault
flat_document_result (Ok uris) = flat_document uris
flat_document_result (Err fault) = Err fault

-- the document, or why there is none, for the service with this address in this document
abbrev pub IsFlatDocument : List ℕ → StoreContents → DocId → List ℕ → Result Tree FlatFault → Type 0
IsFlatDocument root c id service answer =
    (list : Result (List (List ℕ)) FlatFault) × IsFlatList c root id service list
    × (answer ≡ flat_document_result list)

-- there is no such service; or there are too many references, or too many bytes in the document
abbrev pub flat_fault_status : FlatFault → ℕ
flat_fault_status NoService = 404
flat_fault_status _ = 507

-- the document is sent, without a tag
abbrev pub flat_answer : Result Tree FlatFault → ReadRequest → Answer
flat_answer (Ok t) get =
    let text = encode_utf8_all (document_print t) in
    reply_only (reply_for_method get.method
    (found_reply None medias.ResourceLists text get.request.closes))
flat_answer (Err fault) get = reply_only (plain_reply (flat_fault_status fault) get.request.closes)

-- GET or HEAD of a flat list
abbrev pub ReadsFlatList : ServerState → DocId → List ℕ → ReadRequest → Answer → Type 0
ReadsFlatList server id service get a =
    (answer : Result Tree FlatFault) × IsFlatDocument server.root server.content id service answer
    × (a ≡ flat_answer answer get)
