use Rattle.std.proofs.Common.{ap, rules, subst, sym, ◌∙◌}
use Rattle.edit_journal.specs.Journals.{JournalState}
use Rattle.edit_journal.specs.StreamJournals.{stream_journal_state}
use Rattle.xcap_app.specs.KeepCommand.{KeepsCommand}
use Rattle.xcap_app.specs.inner.JournalOutputs.{UsesOnlyJournal}
use Rattle.xcap_app.proofs.Streams.{same_name, streams}
use Rattle.xcap_app.proofs.keep.keep_with_server.Goals as goal

pub restart_and_serve-requires-clause-no_fault : goal.restart_and_serve-requires-clause-no_fault
restart_and_serve-requires-clause-no_fault g c = ap (λ (x : JournalState). x.faults) c.new-journal.ensures.sink_state

pub returns : goal.returns
returns g c = record {
  keeps_command =
      let i = g.I.Line.state in
      let o = g.O.Line.state in
      let p = g.P.Line.state in
      let k = c.restart_and_serve.new.journal in
      let made : JournalState = stream_journal_state (o c.new-journal.result.output.now) c.new-journal.result.output.ghost_name c.new-journal.result.len c.new-journal.result.faults in
      let s : UsesOnlyJournal (o c.args.output.now) (o k.output.now) (stream_journal_state (o k.output.now) k.output.ghost_name k.len k.faults) =
      streams (o c.args.output.now) (o k.output.now) _ k.output.ghost_name made k.len k.faults c.new-journal.ensures.sink_state c.new-journal.ensures.starts_after_taken c.restart_and_serve.ensures.goes_on in
      let r = c.restart_and_serve.ensures.keeps_command (o c.args.output.now) (o k.output.now) s in
      let same = sym (same_name _ _ _ _ (c.restart_and_serve.ensures.goes_on.same_holds ∙ ap (λ (x : JournalState). x.holds) c.new-journal.ensures.sink_state)) in
      subst (λ output. KeepsCommand g.W.Watchers.keeps (record { address = c.args.address.now; root = c.args.server.now.root; count = c.args.count }) c.restart_and_serve.result
      (record { port = p c.args.port.now; input = i c.args.input.now; output = o c.args.output.now; watchers = c.args.watchers.now })
      (record { port = p c.restart_and_serve.new.port; input = i c.restart_and_serve.new.input; output = o output; watchers = c.restart_and_serve.new.watchers })) (search (rules, same)) r;
}
