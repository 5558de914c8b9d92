use Rattle.std.proofs.Common.{◌++◌, ◌∙◌, Option, Some, Ok, ap, subst, arith, length, length-append}
use Rattle.std.proofs.lemmas.Result.{err_from_is_err_and}
use Rattle.http_wire.specs.declared.request.Request.{Request}
use Rattle.edit_journal.specs.Records.{record_of}
use Rattle.edit_journal.specs.inner.ReadBuffer.{TakesRecord}
use Rattle.edit_journal.proofs.Lengths.{record_length}
use Rattle.edit_journal.proofs.ReplayedRequests.{replay_progress, held_next, held_stops, held_short, held_few}
use Rattle.edit_journal.proofs.journal_restart.replay_buffered.Goals as goal

pub replay_request-requires-clause-within_max : goal.replay_request-requires-clause-within_max
replay_request-requires-clause-within_max g c =
    let r0 = replay_progress c.args.replayer.now (g.J.Journal.state c.args.journal.now) c.args.log.now c.args.count.now in
    let r1 = replay_progress c.records.replayer (g.J.Journal.state c.records.journal) c.records.log c.records.count in
    let redone = c.records.invariant.redone in
    omega (
      arith,
      c.requires.length_bounded,
      held_few g.R.Replayer.stands g.R.Replayer.refuses r0 r1 c.args.read_buffer.now.held c.records.read_buffer.held c.requires.within_max redone,
      held_short g.R.Replayer.stands g.R.Replayer.refuses r0 r1 c.args.read_buffer.now.held c.records.read_buffer.held redone,
    )

pub returns-in_err-replay_request-clause-redoes_whole : goal.returns-in_err-replay_request-clause-redoes_whole
returns-in_err-replay_request-clause-redoes_whole g c =
    let p = err_from_is_err_and c.from_residual-in_err-replay_request.result c.from_residual-in_err-replay_request.ensures.1 in
    let takes : TakesRecord c.records.read_buffer c.next_record.new.self c.len.result (Ok (Some c.in-Some.request)) =
    subst (λ (o : Option Request). TakesRecord c.records.read_buffer c.next_record.new.self c.len.result (Ok o)) c.in-Some.is c.in_ok-request.ensures.takes_record in
    rw (p.1, p.2) (held_stops g.R.Replayer.stands g.R.Replayer.refuses (replay_progress c.args.replayer.now (g.J.Journal.state c.args.journal.now) c.args.log.now c.args.count.now) (replay_progress c.records.replayer (g.J.Journal.state c.records.journal) c.records.log c.records.count) (replay_progress c.replay_request.new.replayer (g.J.Journal.state c.replay_request.new.journal) c.replay_request.new.log c.replay_request.new.count)
    c.args.read_buffer.now.held c.records.read_buffer.held
    (record_of c.in-Some.request ++ c.next_record.new.self.held) c.in_err-replay_request.field-0.0 c.records.invariant.redone takes.0.1 (c.in_err-replay_request.ensures.redoes_request c.next_record.new.self.held))

pub returns-in_err-replay_request-clause-same_subject : goal.returns-in_err-replay_request-clause-same_subject
returns-in_err-replay_request-clause-same_subject g c = c.in_err-replay_request.ensures.same_subject ∙ c.records.invariant.about

pub records-smaller : goal.records-smaller
records-smaller g c =
    let takes : TakesRecord c.records.read_buffer c.next_record.new.self c.len.result (Ok (Some c.in-Some.request)) =
    subst (λ (o : Option Request). TakesRecord c.records.read_buffer c.next_record.new.self c.len.result (Ok o)) c.in-Some.is c.in_ok-request.ensures.takes_record in
    omega (arith, ap length takes.0.1, length-append (record_of c.in-Some.request) c.next_record.new.self.held, record_length c.in-Some.request)

pub records-preserved : goal.records-preserved
records-preserved g c =
    let takes : TakesRecord c.records.read_buffer c.next_record.new.self c.len.result (Ok (Some c.in-Some.request)) =
    subst (λ (o : Option Request). TakesRecord c.records.read_buffer c.next_record.new.self c.len.result (Ok o)) c.in-Some.is c.in_ok-request.ensures.takes_record in
    record {
      redone = held_next g.R.Replayer.stands g.R.Replayer.refuses (replay_progress c.args.replayer.now (g.J.Journal.state c.args.journal.now) c.args.log.now c.args.count.now) (replay_progress c.records.replayer (g.J.Journal.state c.records.journal) c.records.log c.records.count) (replay_progress c.replay_request.new.replayer (g.J.Journal.state c.replay_request.new.journal) c.replay_request.new.log c.replay_request.new.count)
          c.args.read_buffer.now.held c.records.read_buffer.held (record_of c.in-Some.request ++ c.next_record.new.self.held) c.next_record.new.self.held c.records.invariant.redone takes.0.1
          (c.in_ok-replay_request.ensures.redoes_request c.next_record.new.self.held);
      taken = takes.1 ∙ c.records.invariant.taken;
      about = c.in_ok-replay_request.ensures.same_subject ∙ c.records.invariant.about;
    }
