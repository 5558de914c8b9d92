use Rattle.std.proofs.Common.{sym, ◌∙◌, refl}
use Rattle.reply_text.specs.ReplyHeads.{plain_reply}
use Rattle.xcap_machine.specs.inner.RecordValues.{server_state}
use Rattle.xcap_server.proofs.Dispatch.{decides_reading, reading_refused, turned}
use Rattle.xcap_server.proofs.request_decisions.decide_read.Goals as goal

pub returns-then-not-is_permitted-clause-machine_decision : goal.returns-then-not-is_permitted-clause-machine_decision
returns-then-not-is_permitted-clause-machine_decision c =
    let reply = plain_reply 403 c.args.request.now.closes in
    turned c.args.root.now c.args.store.now.content c.args.target.now c.args.request.now c.args.store.now c.args.method c.plain_decision.result reply c.plain_decision.ensures.exact
    (reading_refused (server_state c.args.root.now c.args.store.now.content) c.args.target.now c.args.request.now c.args.method reply c.requires.reading_method (sym c.is_permitted.ensures.allowed_by_right ∙ c.if-not-is_permitted.true) refl)

pub returns-clause-machine_decision : goal.returns-clause-machine_decision
returns-clause-machine_decision c =
    decides_reading c.args.root.now c.args.store.now.content c.args.target.now c.args.request.now c.get_target.new.store c.args.method c.in_ok-reply.reply c.requires.reading_method
    (sym c.is_permitted.ensures.allowed_by_right ∙ c.if-not-is_permitted.false) c.in_ok-reply.ensures.machine_reply
