use Rattle.std.proofs.Common.{refl, sym, subst, ◌∙◌}
use Rattle.http_feed.specs.Feeds.{FeedState, ReturnsItem}
use Rattle.http_serve.specs.ReplyBytes.{StepsInBytes}
use Rattle.hall_serve.proofs.FirstItems.{ends_so, first_answered, returned_read, same_after}
use Rattle.hall_serve.proofs.seat_turns.answer_first.Goals as goal

pub answer_next-requires : goal.answer_next-requires
answer_next-requires g c = record {
  request_read = returned_read _ _ _ c.in-Ok-Some.asked (rw c.in-Ok-Some.field-0-is at c.in-Ok-Some.ensures.first_item);
  room_left = c.requires.room_left;
}

pub returns-in-Ok-None-clause-answers : goal.returns-in-Ok-None-clause-answers
returns-in-Ok-None-clause-answers g c =
    let first = rw c.in-Ok-None.field-0-is at c.in-Ok-None.ensures.first_item in
    (record { same_seat = same_after _ _ c.in-Ok-None.ensures.only_feed first.2; same_machine = refl; kept = g.met.W.Watchers.none _ }, first.0, first.1, rw c.in-Ok-None.field-0-is at c.in-Ok-None.ensures.not_full)

pub returns-in-Ok-None-clause-takes_one_fewer : goal.returns-in-Ok-None-clause-takes_one_fewer
returns-in-Ok-None-clause-takes_one_fewer g c = g.met.M.Machine.takes_fewer c.args.machine.now

pub returns-in-Err-clause-answers : goal.returns-in-Err-clause-answers
returns-in-Err-clause-answers g c = record { same_seat = same_after _ _ c.in-Err.ensures.only_feed c.in-Err.ensures.first_item; same_machine = refl; kept = g.met.W.Watchers.none _ }

pub returns-in-Err-clause-takes_one_fewer : goal.returns-in-Err-clause-takes_one_fewer
returns-in-Err-clause-takes_one_fewer g c = g.met.M.Machine.takes_fewer c.args.machine.now

pub returns-in_default-clause-answers : goal.returns-in_default-clause-answers
returns-in_default-clause-answers g c =
    let first = rw c.in-Ok-Some.field-0-is at c.in-Ok-Some.ensures.first_item in
    let ended = ends_so _ _ _ c.in-Ok-Some.asked first c.in_default.ensures.request_answer.0 in
    (c.in_default.ensures.request_answer.1, g.met.W.Watchers.none _, c.in-Ok-Some.ensures.only_feed.same_id, ended.1, ended.0)

pub returns-clause-answers : goal.returns-clause-answers
returns-clause-answers g c =
    first_answered (StepsInBytes g.M.Machine.steps) g.W.Watchers.keeps _ _ c.in-Some.answered.reply c.in-Some.answered.edit c.requires.goes_on c.requires.none_pending c.requires.few_requests
    (c.set_reply.ensures.same_id ∙ c.in-Ok-Some.ensures.only_feed.same_id) (c.set_reply.ensures.same_end ∙ c.in-Ok-Some.ensures.only_feed.ended) c.set_reply.ensures.pending c.set_reply.ensures.closing c.notify_of_edit.ensures.notifies_watchers
    c.in-Ok-Some.asked
    (subst (λ (f : FeedState). ReturnsItem c.args.seat.now.ended c.args.seat.now.feed.reader c.in-Ok-Some.asked f.reader) (sym c.set_reply.ensures.same_feed) (rw c.in-Ok-Some.field-0-is at c.in-Ok-Some.ensures.first_item))
    c.in-Some.ensures.request_answer
