use Rattle.std.proofs.Common.{inr, refl, rules}
use Rattle.xcap_app.specs.HostCommand.{HostArguments, IsUnfailedStop}
use Rattle.xcap_app.proofs.HostEndings.{PassedInHall, free_seats_match, hosted, line_written}
use Rattle.xcap_app.proofs.host.host_at.Goals as goal

pub serve_hall-served-requires : goal.serve_hall-served-requires
serve_hall-served-requires g c = record { seats_match = free_seats_match (g.H.Hall.state c.args.hall.now) (g.H.Hall.state c.listen.new.self) c.args.address.now c.args.seats.now c.in_default.ensures.listens c.requires.no_connections c.requires.all_free }

pub returns-in-HallFailed : goal.returns-in-HallFailed
returns-in-HallFailed g c = record {
  hosts_command = λ options first positive countable is_new many.
      let h = g.H.Hall.state in
      let e = g.E.Line.state in
      let arguments : HostArguments = record { address = c.args.address.now; root = c.args.server.now.root; options = options; first = first } in
      let passed : PassedInHall c.serve_hall-served.result (h c.listen.new.self) (h c.serve_hall-served.new.hall) c.serve_hall-served.new.seats = record {
        seats_match = c.serve_hall-served.ensures.seats_match;
        knocks = c.serve_hall-served.ensures.knocks;
        connections = c.serve_hall-served.ensures.connections;
        stop = c.serve_hall-served.ensures.stop;
        same_listening = c.serve_hall-served.ensures.same_listening;
      } in
      inr (
        c.serve_hall-served.result,
        hosted g.W.Watchers.keeps arguments c.serve_hall-served.result c.args.server.now c.serve_hall-served.new.server c.args.seats.now c.serve_hall-served.new.seats (h c.listen.new.self)
            (record { hall = h c.args.hall.now; errors = e c.args.errors.now; watchers = c.args.watchers.now })
            (record { hall = h c.serve_hall-served.new.hall; errors = e c.write_message.new.errors; watchers = c.serve_hall-served.new.watchers })
            positive countable refl is_new many c.requires.all_free c.serve_hall-served.ensures.same_number c.requires.no_connections c.in_default.ensures.listens passed (line_written c.requires.line_of_address c.as_bytes.ensures.value c.write_message.ensures.writes_words) c.serve_hall-served.ensures.machine_session c.serve_hall-served.ensures.turns,
        c.in-HallFailed.is,
      );
}

pub returns-in-Count : goal.returns-in-Count
returns-in-Count g c = record {
  hosts_command = λ options first positive countable is_new many.
      let h = g.H.Hall.state in
      let e = g.E.Line.state in
      let arguments : HostArguments = record { address = c.args.address.now; root = c.args.server.now.root; options = options; first = first } in
      let passed : PassedInHall c.serve_hall-served.result (h c.listen.new.self) (h c.serve_hall-served.new.hall) c.serve_hall-served.new.seats = record {
        seats_match = c.serve_hall-served.ensures.seats_match;
        knocks = c.serve_hall-served.ensures.knocks;
        connections = c.serve_hall-served.ensures.connections;
        stop = c.serve_hall-served.ensures.stop;
        same_listening = c.serve_hall-served.ensures.same_listening;
      } in
      let unfailed : IsUnfailedStop c.serve_hall-served.result.stop = search rules in (
        c.serve_hall-served.result,
        hosted g.W.Watchers.keeps arguments c.serve_hall-served.result c.args.server.now c.serve_hall-served.new.server c.args.seats.now c.serve_hall-served.new.seats (h c.listen.new.self)
            (record { hall = h c.args.hall.now; errors = e c.args.errors.now; watchers = c.args.watchers.now })
            (record { hall = h c.serve_hall-served.new.hall; errors = e c.write_message.new.errors; watchers = c.serve_hall-served.new.watchers })
            positive countable refl is_new many c.requires.all_free c.serve_hall-served.ensures.same_number c.requires.no_connections c.in_default.ensures.listens passed (line_written c.requires.line_of_address c.as_bytes.ensures.value c.write_message.ensures.writes_words) c.serve_hall-served.ensures.machine_session c.serve_hall-served.ensures.turns,
        unfailed,
      );
}
