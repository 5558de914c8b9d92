use Rattle.std.proofs.Common.{List, ℕ, refl, subst}
use Rattle.xcap_app.specs.HostCommand.{HostsCommand}
use Rattle.xcap_app.specs.KeepCommand.{KeepsCommand}
use Rattle.xcap_app.specs.ServeCommand.{ServesCommand}
use Rattle.xcap_app.specs.declared.command.Command.TheVariants.{Serve, Keep, Host, Sample, Fetch, Put, Delete, Follow}
use Rattle.xcap_app.proofs.Ends.{ran_as}
use Rattle.xcap_app.proofs.entry_point.execute.Goals as goal

pub returns-in-Fetch : goal.returns-in-Fetch
returns-in-Fetch g c = record {
  runs_command = ran_as g.W.Watchers.keeps c.args.first c.args.command.now (Fetch c.in-Fetch.requester c.in-Fetch.path) c.run_fetch.result _ _ _ _ _ _ _ _ _ _ _ _ _ _ c.in-Fetch.is (c.run_fetch.ensures.runs_command, refl, refl, refl, refl, refl);
}

pub returns-in-Put : goal.returns-in-Put
returns-in-Put g c = record {
  runs_command = ran_as g.W.Watchers.keeps c.args.first c.args.command.now (Put c.in-Put.requester c.in-Put.path c.in-Put.media) c.run_put.result _ _ _ _ _ _ _ _ _ _ _ _ _ _ c.in-Put.is (c.run_put.ensures.runs_command, refl, refl, refl, refl);
}

pub returns-in-Delete : goal.returns-in-Delete
returns-in-Delete g c = record {
  runs_command = ran_as g.W.Watchers.keeps c.args.first c.args.command.now (Delete c.in-Delete.requester c.in-Delete.path) c.run_delete.result _ _ _ _ _ _ _ _ _ _ _ _ _ _ c.in-Delete.is (c.run_delete.ensures.runs_command, refl, refl, refl, refl, refl);
}

pub returns-in-Follow : goal.returns-in-Follow
returns-in-Follow g c = record {
  runs_command = ran_as g.W.Watchers.keeps c.args.first c.args.command.now (Follow c.in-Follow.requester c.in-Follow.document c.in-Follow.rounds) c.run_follow.result _ _ _ _ _ _ _ _ _ _ _ _ _ _ c.in-Follow.is (c.run_follow.ensures.runs_command, refl, refl, refl, refl, refl);
}

pub returns-in-Keep : goal.returns-in-Keep
returns-in-Keep g c = record {
  runs_command =
      ran_as g.W.Watchers.keeps c.args.first c.args.command.now (Keep c.in-Keep.address c.in-Keep.root c.in-Keep.count) c.keep.result _ _ _ _ _ _ _ _ _ _ _ _ _ _ c.in-Keep.is (
        subst (λ (address : List ℕ). KeepsCommand g.W.Watchers.keeps (record { address = address; root = c.in-Keep.root; count = c.in-Keep.count }) c.keep.result
            (record { port = g.P.Line.state c.args.port.now; input = g.I.Line.state c.args.input.now; output = g.O.Line.state c.args.output.now; watchers = c.args.watchers.now })
            (record { port = g.P.Line.state c.keep.new.port; input = g.I.Line.state c.keep.new.input; output = g.O.Line.state c.keep.new.output; watchers = c.keep.new.watchers }))
            c.as_str-in-Keep.ensures.utf8_bytes c.keep.ensures.keeps_journal,
        refl,
        refl,
        refl,
      );
}

pub returns-in-Serve : goal.returns-in-Serve
returns-in-Serve g c = record {
  runs_command =
      ran_as g.W.Watchers.keeps c.args.first c.args.command.now (Serve c.in-Serve.address c.in-Serve.root c.in-Serve.count) c.run_serve.result _ _ _ _ _ _ _ _ _ _ _ _ _ _ c.in-Serve.is (
        subst (λ (address : List ℕ). ServesCommand g.W.Watchers.keeps (record { address = address; root = c.in-Serve.root; count = c.in-Serve.count }) c.run_serve.result
            (record { port = g.P.Line.state c.args.port.now; output = g.O.Line.state c.args.output.now; watchers = c.args.watchers.now })
            (record { port = g.P.Line.state c.run_serve.new.port; output = g.O.Line.state c.run_serve.new.output; watchers = c.run_serve.new.watchers }))
            c.as_str.ensures.utf8_bytes c.run_serve.ensures.serves_command,
        refl,
        refl,
        refl,
        refl,
      );
}

pub returns-in-Host : goal.returns-in-Host
returns-in-Host g c = record {
  runs_command =
      ran_as g.W.Watchers.keeps c.args.first c.args.command.now (Host c.in-Host.address c.in-Host.root c.in-Host.options) c.host.result _ _ _ _ _ _ _ _ _ _ _ _ _ _ c.in-Host.is (
        subst (λ (address : List ℕ). HostsCommand g.W.Watchers.keeps (record { address = address; root = c.in-Host.root; options = c.in-Host.options; first = c.args.first }) c.host.result
            (record { hall = g.H.Hall.state c.args.hall.now; errors = g.E.Line.state c.args.errors.now; watchers = c.args.watchers.now })
            (record { hall = g.H.Hall.state c.host.new.hall; errors = g.E.Line.state c.host.new.errors; watchers = c.host.new.watchers }))
            c.as_str-in-Host.ensures.utf8_bytes c.host.ensures.hosts_command,
        refl,
        refl,
        refl,
        refl,
      );
}

pub returns-in-Sample : goal.returns-in-Sample
returns-in-Sample g c = record {
  runs_command = ran_as g.W.Watchers.keeps c.args.first c.args.command.now (Sample c.in-Sample.requests) c.sample.result _ _ _ _ _ _ _ _ _ _ _ _ _ _ c.in-Sample.is (c.sample.ensures.runs_sample, refl, refl, refl, refl, refl, refl);
}
