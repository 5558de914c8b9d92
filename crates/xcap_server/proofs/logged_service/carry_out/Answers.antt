use Rattle.xcap_server.proofs.logged_service.carry_out.Goals as goal

pub returns-in-Err : goal.returns-in-Err
returns-in-Err c = record { carries_out = rw c.in-Err.is (c.answer_without_change.ensures.makes_nothing c.args.store.now c.args.decision) }
