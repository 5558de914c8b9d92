use Rattle.std.proofs.Common.{List, ℕ, subst}
use Rattle.xcap_app.specs.HostCommand.{HostsCommand}
use Rattle.xcap_app.proofs.host.host_with_seats.Goals as goal

pub returns : goal.returns
returns g c = record {
  hosts_command =
      let h = g.H.Hall.state in
      let e = g.E.Line.state in
      subst (λ (root : List ℕ). HostsCommand g.W.Watchers.keeps (record { address = c.args.address.now; root = root; options = c.args.options; first = c.args.first }) c.host_at-exit.result
      (record { hall = h c.args.hall.now; errors = e c.args.errors.now; watchers = c.args.watchers.now })
      (record { hall = h c.host_at-exit.new.hall; errors = e c.host_at-exit.new.errors; watchers = c.host_at-exit.new.watchers }))
      c.in-Ok.ensures.given_root (c.host_at-exit.ensures.hosts_command c.args.options c.args.first c.requires.positive c.requires.limits_countable c.in-Ok.ensures.without_documents c.requires.as_many);
}
