use Rattle.xcap_get.proofs.FlatReplies.{refused, sent}
use Rattle.xcap_get.proofs.flat_lists.get_flat_list.Goals as goal

pub returns-in-Ok : goal.returns-in-Ok
returns-in-Ok c = record {
  machine_reply =
      sent c.args.root.now c.args.store.now.content c.args.doc.now c.args.service.now c.args.method c.args.request.now c.in-Ok.document c.flat_list_reply.result c.in-Ok.ensures.list_document
      c.flat_list_reply.ensures.ok;
}

pub returns-in-Err-Fault : goal.returns-in-Err-Fault
returns-in-Err-Fault c = record {
  machine_reply =
      refused c.args.root.now c.args.store.now.content c.args.doc.now c.args.service.now c.args.method c.args.request.now c.in-Err-Fault.field-0 c.in-Err-Fault.fault c.flat_refusal_reply.result c.in-Err-Fault.field-0-is
      c.in-Err-Fault.ensures.list_document (rw c.in-Err-Fault.field-0-is at c.flat_refusal_reply.ensures.fault_reply);
}
