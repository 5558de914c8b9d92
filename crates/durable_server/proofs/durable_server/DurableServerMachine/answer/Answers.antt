use Rattle.std.proofs.Common.{◌+◌, ◌-◌, ◌≤◌, ◌^◌, arith}
use Rattle.change_log.specs.LogContents.{next_number}
use Rattle.change_log.specs.LogStates.{kept_contents}
use Rattle.durable_server.proofs.ReadRequests.{recordable_when_read}
use Rattle.durable_server.proofs.Steps.{all_same, answered_steps, takes_after}
use Rattle.durable_server.proofs.durable_server.DurableServerMachine.answer.Goals as goal

pub answer_durably-requires-clause-recordable : goal.answer_durably-requires-clause-recordable
answer_durably-requires-clause-recordable g c = recordable_when_read c.args.request.now c.requires.request_read

pub answer_durably-requires-clause-is_sound : goal.answer_durably-requires-clause-is_sound
answer_durably-requires-clause-is_sound g c = c.requires.room_left.sound

pub answer_durably-requires-clause-begun : goal.answer_durably-requires-clause-begun
answer_durably-requires-clause-begun g c = c.requires.room_left.begun

pub answer_durably-requires-clause-numbers_left : goal.answer_durably-requires-clause-numbers_left
answer_durably-requires-clause-numbers_left g c =
    let left : next_number (kept_contents (g.L.ChangeLog.state c.args.self.now.log)) + 1 ≤ 2 ^ 64 - 1 = c.requires.room_left.numbers_left in omega (arith, left)

pub returns-clause-makes_step : goal.returns-clause-makes_step
returns-clause-makes_step g c =
    let state = g.L.ChangeLog.state in
    answered_steps (record { machine = c.args.self.now.server; log = state c.args.self.now.log }) (record { machine = c.answer_durably.new.server; log = state c.answer_durably.new.log }) c.args.request.now
    c.answer_durably.ensures.any_moment c.answer_durably.result c.answer_durably.ensures.machine_reply

pub returns-clause-takes_one_fewer : goal.returns-clause-takes_one_fewer
returns-clause-takes_one_fewer g c =
    let state = g.L.ChangeLog.state in
    takes_after (record { machine = c.args.self.now.server; log = state c.args.self.now.log }) (record { machine = c.answer_durably.new.server; log = state c.answer_durably.new.log }) c.args.request.now
    c.answer_durably.ensures.any_moment _ _ c.answer_durably.ensures.still_sound c.answer_durably.ensures.still_begun c.answer_durably.result c.answer_durably.ensures.machine_reply
    (all_same state c.args.self.now.server c.answer_durably.new.server c.args.self.now.log c.answer_durably.new.log c.answer_durably.result c.answer_durably.ensures.err_unchanged)
