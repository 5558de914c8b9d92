use Rattle.std.proofs.Common.{ℕ, None}
use Rattle.http_serve.specs.ReplyBytes.{StepsInBytes}
use Rattle.http_serve.proofs.LentAnswers.{same_takes, unanswered}
use Rattle.http_serve.proofs.SentLemmas.{counts_after}
use Rattle.http_serve.proofs.TurnAnswers.{asks_read, gives_on, sent_open, turn_of_end, turn_of_fault, turn_of_sent}
use Rattle.http_serve.proofs.connection.serve_next.Goals as goal

pub try_answer-requires-clause-request_read : goal.try_answer-requires-clause-request_read
try_answer-requires-clause-request_read g c = asks_read _ _ _ _ c.in-Ok.asked _ (c.in-Ok.ensures.first_item c.requires.open_still)

pub returns-in-Err-clause-makes_one_turn : goal.returns-in-Err-clause-makes_one_turn
returns-in-Err-clause-makes_one_turn g c = turn_of_fault _ _ _ _ _ _ _ _ _ (c.in-Err.ensures.first_item c.requires.open_still) c.in-Err.ensures.only_reads.reads.same_taken (g.met.W.Watchers.none _)

pub returns-in-Err-clause-takes_one_fewer : goal.returns-in-Err-clause-takes_one_fewer
returns-in-Err-clause-takes_one_fewer g c = g.met.M.Machine.takes_fewer c.args.machine.now

pub returns-in-Ok-None-clause-makes_one_turn : goal.returns-in-Ok-None-clause-makes_one_turn
returns-in-Ok-None-clause-makes_one_turn g c =
    let end = rw c.in-Ok-None.field-0-is at c.in-Ok-None.ensures.request_answer in
    turn_of_end _ _ _ _ _ _ _ _ _ c.in-Ok.asked (c.in-Ok.ensures.first_item c.requires.open_still) end.0 c.in-Ok.ensures.only_reads.reads.same_taken end.1 (g.met.W.Watchers.none _)

pub returns-in-Ok-Some-clause-makes_one_turn : goal.returns-in-Ok-Some-clause-makes_one_turn
returns-in-Ok-Some-clause-makes_one_turn g c = turn_of_sent _ _ _ _ _ _ _ _ _ (g.L.Line.state c.next_request.new.source) _ c.in-Ok.asked c.in-Ok-Some.answered.reply c.in-Ok-Some.answered.edit
    (c.in-Ok.ensures.first_item c.requires.open_still) (rw c.in-Ok-Some.field-0-is at c.in-Ok-Some.ensures.request_answer) c.in-Ok.ensures.only_reads.reads.same_taken c.send_reply.ensures.only_writes.same_inward c.notify_of_edit.ensures.notifies_watchers c.send_reply.result c.send_reply.ensures.sends

pub returns-in-Ok-Some-clause-goes_on : goal.returns-in-Ok-Some-clause-goes_on
returns-in-Ok-Some-clause-goes_on g c = λ goes_on. gives_on ℕ (StepsInBytes g.M.Machine.steps) _ _ c.in-Ok.asked _ _ c.in-Ok-Some.answered.reply c.in-Ok-Some.answered.edit c.in-Ok.ensures.after_item (rw c.in-Ok-Some.field-0-is at c.in-Ok-Some.ensures.request_answer)
    (sent_open c.send_reply.result c.in-Ok-Some.answered.reply _ _ c.send_reply.ensures.sends goes_on)

pub returns-in-Ok-Some-clause-counts_faults : goal.returns-in-Ok-Some-clause-counts_faults
returns-in-Ok-Some-clause-counts_faults g c = counts_after c.send_reply.result (g.L.Line.state c.args.line.now) (g.L.Line.state c.next_request.new.source) (g.L.Line.state c.send_reply.new.sink) c.in-Ok.ensures.only_reads.counts c.in-Ok.ensures.only_reads.reads.same_write_faults c.send_reply.ensures.counts_faults

pub reply_without_memory-requires-clause-is_request : goal.reply_without_memory-requires-clause-is_request
reply_without_memory-requires-clause-is_request g c = c.in-Err-try_answer.ensures.err_of_request.0

pub reply_without_memory-requires-clause-request_read : goal.reply_without_memory-requires-clause-request_read
reply_without_memory-requires-clause-request_read g c = asks_read _ _ _ _ c.in-Ok.asked _ (c.in-Ok.ensures.first_item c.requires.open_still)

pub reply_without_memory-requires-clause-room_left : goal.reply_without_memory-requires-clause-room_left
reply_without_memory-requires-clause-room_left g c = same_takes g.M.Machine.takes c.args.machine.now c.try_answer.new.machine c.in-Err-try_answer.ensures.err_of_request.1 c.requires.room_left

pub returns-clause-makes_one_turn : goal.returns-clause-makes_one_turn
returns-clause-makes_one_turn g c =
    let s = c.reply_without_memory.ensures.sends_answer in
    turn_of_sent _ _ _ _ _ _ _ _ _ (g.L.Line.state c.next_request.new.source) _ c.in-Ok.asked s.reply None
    (c.in-Ok.ensures.first_item c.requires.open_still) (unanswered (StepsInBytes g.M.Machine.steps) c.args.machine.now c.try_answer.new.machine c.in-Ok.asked c.reply_without_memory.result _ _ s c.in-Err-try_answer.ensures.err_of_request.1)
    c.in-Ok.ensures.only_reads.reads.same_taken c.reply_without_memory.ensures.only_writes.same_inward (g.met.W.Watchers.none _) c.reply_without_memory.result s.sends

pub returns-clause-goes_on : goal.returns-clause-goes_on
returns-clause-goes_on g c = λ goes_on.
    let s = c.reply_without_memory.ensures.sends_answer in
    gives_on ℕ (StepsInBytes g.M.Machine.steps) _ _ c.in-Ok.asked _ _ s.reply None c.in-Ok.ensures.after_item s.answers (sent_open c.reply_without_memory.result s.reply _ _ s.sends goes_on)

pub returns-clause-counts_faults : goal.returns-clause-counts_faults
returns-clause-counts_faults g c = counts_after c.reply_without_memory.result (g.L.Line.state c.args.line.now) (g.L.Line.state c.next_request.new.source) (g.L.Line.state c.reply_without_memory.new.sink) c.in-Ok.ensures.only_reads.counts c.in-Ok.ensures.only_reads.reads.same_write_faults c.reply_without_memory.ensures.counts_faults
