-- The reply of the machine to a GET or HEAD of a flat list, from the document or from why there is
-- none.
use Rattle.std.proofs.Common.{◌≡◌, ℕ, List, None, Result, Ok, Err, IfOk, encode_utf8_all, ap, subst}
use Rattle.xml_tree.specs.Tree.{Tree}
use Rattle.xml_names.specs.ReadErrors.{ResultSatisfies}
use Rattle.xml_tree.specs.Print.{document_print}
use Rattle.xml_names.specs.declared.read_error.ReadError.{ReadError}
use Rattle.xml_names.specs.declared.read_error.ReadError.TheVariants.{Fault}
use Rattle.doc_names.specs.declared.doc_id.DocId.{DocId}
use Rattle.reply_text.specs.ReplyHeads.{plain_reply}
use Rattle.reply_text.specs.declared.replies.Reply.{Reply}
use Rattle.reply_text.specs.declared.media_types.MediaType.TheVariants as medias
use Rattle.http_wire.specs.declared.request.Request.{Request}
use Rattle.request_checks.specs.Methods.{reply_for_method}
use Rattle.request_checks.specs.declared.method.Method.{Method}
use Rattle.store_core.specs.Contents.{StoreContents}
use Rattle.list_resolve.specs.declared.fault.FlatFault.{FlatFault}
use Rattle.xcap_machine.specs.Answers.{found_reply, reply_only}
use Rattle.xcap_machine.specs.FlatLists.{IsFlatDocument, ReadsFlatList, flat_fault_status}
use Rattle.xcap_machine.specs.inner.RecordValues.{read_request, server_state}

module _ (root : List ℕ) (c : StoreContents) (id : DocId) (service : List ℕ) (method : Method) (request : Request) where
  -- the document is sent
  pub sent : {E : Type 0} (t : Tree) (result : Result Reply E) → IsFlatDocument root c id service (Ok t)
      → IfOk result (λ r. r ≡ reply_for_method method (found_reply None medias.ResourceLists (encode_utf8_all (document_print t)) request.closes))
      → IfOk result (λ r. ReadsFlatList (server_state root c) id service (read_request method request) (reply_only r))
  sent t (Ok r) is e = (Ok t, is, ap reply_only e)
  sent t (Err error) is e = tt

  -- the reason is sent as a status
  pub refused : (error : ReadError FlatFault) (fault : FlatFault) (reply : Reply) → error ≡ Fault fault → ResultSatisfies {A = Tree} (IsFlatDocument root c id service) (Err error)
      → reply ≡ plain_reply (flat_fault_status fault) request.closes → ReadsFlatList (server_state root c) id service (read_request method request) (reply_only reply)
  refused error fault reply is why e = (Err fault, subst (λ (x : ReadError FlatFault). ResultSatisfies {A = Tree} (IsFlatDocument root c id service) (Err x)) is why, ap reply_only e)
