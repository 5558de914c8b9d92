use Rattle.std.proofs.Common.{◌≡◌, rules, refl, subst}
use Rattle.store_core.specs.Contents.{Represents, StoreContents as Content}
use Rattle.server_peer.proofs.ServedTraffic.{answered, same_name}
use Rattle.server_peer.proofs.serve_bytes.reply_to.Goals as goal

pub returns : goal.returns
returns c =
    let held = c.represents_valid_state.ensures.valid_state in
    let stood : Represents c.args.server.now.content held.0 = subst (λ (x : Content). Represents x held.0) c.store.ensures.same_contents held.1 in
    let first = c.serve_connection.ensures.machine_session held.0 held.2 stood in
    let name : c.serve_connection.new.line.room.ghost_name ≡ c.new-end.result.room.ghost_name = same_name first.3.exchanges.same_holds in
    record {
      replies_to_bytes = record {
        replies = c.serve_connection.new.line.log.history.now.taken;
        served = record {
          same_root = c.serve_connection.ensures.same_root;
          by_machine = λ m kept stands.
              let s = c.serve_connection.ensures.machine_session m kept stands in
              let t = answered _ c.args.server.now.root c.serve_connection.result m s.0 _ _ _ _ c.args.asked.now _ c.new-end.ensures.nothing_passed refl refl s.3 in
              record { next = s.0; kept = s.1; stands = s.2; edits = t.0; serves = t.1 };
        };
        same_room = search (rules, name);
        keeps = search (rules, name, c.serve_connection.new.line.keeps);
      };
    }
