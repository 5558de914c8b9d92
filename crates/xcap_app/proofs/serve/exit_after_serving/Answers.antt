use Rattle.std.proofs.Common.{inl, inr, refl, rules}
use Rattle.xcap_app.specs.ServeCommand.{IsCompleteStop}
use Rattle.xcap_app.proofs.serve.exit_after_serving.Goals as goal

pub returns-in-PortFailed : goal.returns-in-PortFailed
returns-in-PortFailed g c = record { ends_so = inr (c.in-PortFailed.is, refl, refl) }

pub returns-in-Count : goal.returns-in-Count
returns-in-Count g c = record {
  ends_so =
      let complete : IsCompleteStop c.args.served.stop = search rules in
      inl (complete, c.print_served_line.ensures.prints_count);
}
