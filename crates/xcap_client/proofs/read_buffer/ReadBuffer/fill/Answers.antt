use Rattle.std.proofs.Common.{rules, ◌≡◌, ◌+◌, take, [], ℕ, List, ◌++◌, ap, sym, subst, ◌∙◌, arith}
use Rattle.std.proofs.lemmas.List.{places, with_items_is, append-nil, length-take-le, take_at}
use Rattle.xcap_io.specs.StreamStates.{InputState}
use Rattle.xcap_io.specs.StreamTraffic.{GivesBytes}
use Rattle.xcap_io.proofs.TrafficSums.{found_end, gave_none}
use Rattle.http_wire.proofs.Buffers.{gained, put_behind}
use Rattle.xcap_client.proofs.read_buffer.ReadBuffer.fill.Goals as goal

pub returns-in-Ok-clause-gains_source_bytes : goal.returns-in-Ok-clause-gains_source_bytes
returns-in-Ok-clause-gains_source_bytes g c =
    let held : ℕ = c.self.inside.held in
    let count : ℕ = c.in-Ok.count in
    let buffer : List ℕ = c.deref_mut.result.now in
    let read : List ℕ = take count c.read.new.buf in
    let before : take held buffer ≡ c.args.self.now = ap (take held) c.deref_mut.ensures.value ∙ c.in_ok-make_room.ensures.keeps_held ∙ c.self.view_is in
    record {
      read = read;
      added = ap (take (held + count)) (with_items_is c.make_room.new.buffer _ (search (rules, places)))
          ∙ put_behind buffer c.read.new.buf _ held count (search (rules, arith)) c.in-Ok.ensures.in_bounds.0
          ∙ ap (λ (l : List ℕ). l ++ read) before;
      given = c.in-Ok.ensures.appends_read.0;
    }

pub returns-in-Ok-clause-gained_or_ended : goal.returns-in-Ok-clause-gained_or_ended
unfolding returns-in-Ok-clause-gains_source_bytes
returns-in-Ok-clause-gained_or_ended g c =
    let read : List ℕ = take c.in-Ok.count c.read.new.buf in
    let now = (g.S.Line.state c.read.new.self).inward in
    gained c.in-Ok.count c.args.self.now _ read now (returns-in-Ok-clause-gains_source_bytes g c).added (length-take-le c.in-Ok.count c.read.new.buf c.in-Ok.ensures.in_bounds.0) (λ zero. found_end now c.in-Ok.count zero c.in-Ok.ensures.appends_read.1 (c.in-Ok.ensures.appends_read.2 zero))

pub returns-in-Err-clause-err_unchanged : goal.returns-in-Err-clause-err_unchanged
returns-in-Err-clause-err_unchanged g c =
    let held : ℕ = c.self.inside.held in
    let buffer : List ℕ = c.deref_mut.result.now in
    let before : take held buffer ≡ c.args.self.now = ap (take held) c.deref_mut.ensures.value ∙ c.in_ok-make_room.ensures.keeps_held ∙ c.self.view_is in
    ap (take held) (with_items_is c.make_room.new.buffer _ (search (rules, places)))
    ∙ take_at (take held buffer) _ held (length-take-le held buffer (search (rules, arith)))
    ∙ before

pub returns-in-Err-clause-gains_source_bytes : goal.returns-in-Err-clause-gains_source_bytes
returns-in-Err-clause-gains_source_bytes g c = record {
  read = [];
  added = returns-in-Err-clause-err_unchanged g c ∙ sym (append-nil c.args.self.now);
  given = subst (λ (now : InputState). GivesBytes (g.S.Line.state c.args.source.now).inward now []) (sym c.in-Err.ensures.appends_read) (gave_none _);
}
