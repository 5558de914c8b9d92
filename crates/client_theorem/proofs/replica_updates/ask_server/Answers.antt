use Rattle.std.proofs.Common.{sym, ◌∙◌}
use Rattle.client_theorem.proofs.Replies.{asked}
use Rattle.client_theorem.proofs.replica_updates.ask_server.Goals as goal

pub returns-clause-machine_feed : goal.returns-clause-machine_feed
returns-clause-machine_feed c mode n doc asks =
    let state = c.represents_valid_state.ensures.valid_state in
    asked c.args.server.now.root c.args.server.now.content c.answer.new.server.content c.args.request.now c.answer.result (state.0, sym c.store.ensures.same_contents ∙ state.1, state.2)
    c.answer.ensures.machine_step c.answer.ensures.err_unchanged mode n doc asks
