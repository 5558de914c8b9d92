use Rattle.std.proofs.Common.{Ok, refl, subst, ◌∙◌}
use Rattle.std.proofs.lemmas.Result.{err_from_is_err_and}
use Rattle.xcap_io.specs.declared.streams.Failed.{Failed}
use Rattle.edit_journal.specs.declared.read_buffer.FillResult.{FillResult}
use Rattle.edit_journal.specs.declared.read_buffer.FillResult.TheVariants.{Some as Came, End, Beyond}
use Rattle.edit_journal.specs.inner.ReadBuffer.{FillsReadBuffer}
use Rattle.edit_journal.proofs.ReplayedRequests.{replay_progress}
use Rattle.edit_journal.proofs.Rounds.{torn_short, restarting_first, restarting_on, ready_few, restarts_whole, restarts_beyond, restarts_unread, restarts_stopped, restarts_without_memory}
use Rattle.edit_journal.proofs.journal_restart.restart.Goals as goal

pub returns-in_err-read_buffer : goal.returns-in_err-read_buffer
returns-in_err-read_buffer g c = record {
  as_specified =
      let p = err_from_is_err_and c.from_residual.result c.from_residual.ensures.1 in
      rw (p.1, p.2) (restarts_without_memory g.R.Replayer.stands g.R.Replayer.refuses (record { source = g.S.Line.state c.args.source.now; journal = g.J.Journal.state c.args.journal.now; replayer = c.args.replayer.now }) c.requires);
  same_subject = refl;
}

pub reading-init : goal.reading-init
reading-init g c = record {
  so_far =
      restarting_first g.R.Replayer.stands g.R.Replayer.refuses (record { source = g.S.Line.state c.args.source.now; journal = g.J.Journal.state c.args.journal.now; replayer = c.args.replayer.now }) c.new-log.result c.in_ok-read_buffer.read_buffer
      c.in_ok-read_buffer.ensures.holds_no_bytes c.new-log.ensures.holds_nothing;
  about = refl;
}

pub fill-requires : goal.fill-requires
fill-requires g c = torn_short c.reading.read_buffer.held c.reading.invariant.so_far.torn

pub returns-in_err-fill : goal.returns-in_err-fill
returns-in_err-fill g c = record {
  as_specified =
      let p = err_from_is_err_and c.from_residual-in_err-fill.result c.from_residual-in_err-fill.ensures.1 in
      rw (p.1, p.2) (restarts_unread g.R.Replayer.stands g.R.Replayer.refuses (record { source = g.S.Line.state c.args.source.now; journal = g.J.Journal.state c.args.journal.now; replayer = c.args.replayer.now }) (g.S.Line.state c.reading.source) (g.S.Line.state c.fill.new.source)
      (replay_progress c.reading.replayer (g.J.Journal.state c.reading.journal) c.reading.log c.reading.count) c.reading.read_buffer
      c.requires c.reading.invariant.so_far c.in_err-fill.ensures.reads_more.0 c.in_err-fill.ensures.only_reads.reads c.in_err-fill.ensures.only_reads.counts);
  same_subject = c.reading.invariant.about;
}

pub replay_buffered-requires-clause-within_max : goal.replay_buffered-requires-clause-within_max
replay_buffered-requires-clause-within_max g c =
    ready_few g.R.Replayer.stands g.R.Replayer.refuses (record { source = g.S.Line.state c.args.source.now; journal = g.J.Journal.state c.args.journal.now; replayer = c.args.replayer.now }) (g.S.Line.state c.reading.source)
    (replay_progress c.reading.replayer (g.J.Journal.state c.reading.journal) c.reading.log c.reading.count) c.reading.read_buffer c.reading.invariant.so_far

pub reading-preserved : goal.reading-preserved
reading-preserved g c = record {
  so_far =
      let s1 = g.S.Line.state c.reading.source in
      let s2 = g.S.Line.state c.fill.new.source in
      let fills : FillsReadBuffer {E = Failed} c.reading.read_buffer c.fill.new.self s1.inward s2.inward (Ok Came) =
      subst (λ (m : FillResult). FillsReadBuffer {E = Failed} c.reading.read_buffer c.fill.new.self s1.inward s2.inward (Ok m)) c.in-Some.is c.in_ok-fill.ensures.reads_more in
      restarting_on g.R.Replayer.stands g.R.Replayer.refuses (record { source = g.S.Line.state c.args.source.now; journal = g.J.Journal.state c.args.journal.now; replayer = c.args.replayer.now }) s1 s2
      (replay_progress c.reading.replayer (g.J.Journal.state c.reading.journal) c.reading.log c.reading.count) (replay_progress c.replay_buffered.new.replayer (g.J.Journal.state c.replay_buffered.new.journal) c.replay_buffered.new.log c.replay_buffered.new.count)
      c.reading.read_buffer c.fill.new.self c.replay_buffered.new.read_buffer fills.0
      c.reading.invariant.so_far fills.2 c.in_ok-fill.ensures.only_reads.reads c.in_ok-fill.ensures.only_reads.counts fills.3 c.in_ok-fill.ensures.at_most_limit
      c.in_ok-replay_buffered-in-Some.ensures.redoes_whole c.in_ok-replay_buffered-in-Some.ensures.torn_rest c.in_ok-replay_buffered-in-Some.ensures.takes_no_more;
  about = c.in_ok-replay_buffered-in-Some.ensures.same_subject ∙ c.reading.invariant.about;
}

pub returns-in_err-replay_buffered-in-Some : goal.returns-in_err-replay_buffered-in-Some
returns-in_err-replay_buffered-in-Some g c = record {
  as_specified =
      let p = err_from_is_err_and c.from_residual-in_err-replay_buffered-in-Some.result c.from_residual-in_err-replay_buffered-in-Some.ensures.1 in
      let s1 = g.S.Line.state c.reading.source in
      let s2 = g.S.Line.state c.fill.new.source in
      let fills : FillsReadBuffer {E = Failed} c.reading.read_buffer c.fill.new.self s1.inward s2.inward (Ok Came) =
      subst (λ (m : FillResult). FillsReadBuffer {E = Failed} c.reading.read_buffer c.fill.new.self s1.inward s2.inward (Ok m)) c.in-Some.is c.in_ok-fill.ensures.reads_more in
      rw (p.1, p.2) (restarts_stopped g.R.Replayer.stands g.R.Replayer.refuses (record { source = g.S.Line.state c.args.source.now; journal = g.J.Journal.state c.args.journal.now; replayer = c.args.replayer.now }) s1 s2
      (replay_progress c.reading.replayer (g.J.Journal.state c.reading.journal) c.reading.log c.reading.count) (replay_progress c.replay_buffered.new.replayer (g.J.Journal.state c.replay_buffered.new.journal) c.replay_buffered.new.log c.replay_buffered.new.count)
      c.reading.read_buffer c.fill.new.self fills.0 c.in_err-replay_buffered-in-Some.field-0.0
      c.requires c.reading.invariant.so_far fills.2 c.in_ok-fill.ensures.only_reads.reads c.in_ok-fill.ensures.only_reads.counts fills.3 c.in_ok-fill.ensures.at_most_limit
      c.in_err-replay_buffered-in-Some.ensures.redoes_whole);
  same_subject = c.in_err-replay_buffered-in-Some.ensures.same_subject ∙ c.reading.invariant.about;
}

pub returns-in-End : goal.returns-in-End
returns-in-End g c = record {
  as_specified =
      let s1 = g.S.Line.state c.reading.source in
      let s2 = g.S.Line.state c.fill.new.source in
      let fills : FillsReadBuffer {E = Failed} c.reading.read_buffer c.fill.new.self s1.inward s2.inward (Ok End) =
      subst (λ (m : FillResult). FillsReadBuffer {E = Failed} c.reading.read_buffer c.fill.new.self s1.inward s2.inward (Ok m)) c.in-End.is c.in_ok-fill.ensures.reads_more in
      restarts_whole g.R.Replayer.stands g.R.Replayer.refuses (record { source = g.S.Line.state c.args.source.now; journal = g.J.Journal.state c.args.journal.now; replayer = c.args.replayer.now }) s1 s2
      (replay_progress c.reading.replayer (g.J.Journal.state c.reading.journal) c.reading.log c.reading.count) c.reading.read_buffer
      c.requires c.reading.invariant.so_far fills.0 fills.1 c.in_ok-fill.ensures.only_reads.reads c.in_ok-fill.ensures.only_reads.counts;
  same_subject = c.reading.invariant.about;
}

pub returns-in-Beyond : goal.returns-in-Beyond
returns-in-Beyond g c = record {
  as_specified =
      let s1 = g.S.Line.state c.reading.source in
      let s2 = g.S.Line.state c.fill.new.source in
      let fills : FillsReadBuffer {E = Failed} c.reading.read_buffer c.fill.new.self s1.inward s2.inward (Ok Beyond) =
      subst (λ (m : FillResult). FillsReadBuffer {E = Failed} c.reading.read_buffer c.fill.new.self s1.inward s2.inward (Ok m)) c.in-Beyond.is c.in_ok-fill.ensures.reads_more in
      restarts_beyond g.R.Replayer.stands g.R.Replayer.refuses (record { source = g.S.Line.state c.args.source.now; journal = g.J.Journal.state c.args.journal.now; replayer = c.args.replayer.now }) s1 s2
      (replay_progress c.reading.replayer (g.J.Journal.state c.reading.journal) c.reading.log c.reading.count) c.reading.read_buffer fills.0.0
      c.requires c.reading.invariant.so_far fills.1 fills.0.1 c.in_ok-fill.ensures.only_reads.reads c.in_ok-fill.ensures.only_reads.counts;
  same_subject = c.reading.invariant.about;
}
