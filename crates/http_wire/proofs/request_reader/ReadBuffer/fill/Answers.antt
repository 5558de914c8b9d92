use Rattle.std.proofs.Common.{rules, ◌≡◌, ◌-◌, take, ℕ, List, [], slice_range, ap, subst, sym, ◌∙◌, arith}
use Rattle.std.specs.Vec.{with_items}
use Rattle.std.proofs.lemmas.List.{append-nil, length-take-le, places, with_items_is}
use Rattle.xcap_io.specs.StreamStates.{InputState}
use Rattle.xcap_io.specs.StreamTraffic.{GivesBytes}
use Rattle.xcap_io.proofs.TrafficSums.{found_end, gave_none}
use Rattle.http_wire.proofs.Buffers.{filled, unfilled, gained}
use Rattle.http_wire.proofs.request_reader.ReadBuffer.fill.Goals as goal

pub returns-in-Ok-clause-gains_source_bytes : goal.returns-in-Ok-clause-gains_source_bytes
returns-in-Ok-clause-gains_source_bytes g c =
    let end : ℕ = c.self.inside.end - c.self.inside.start in
    let buffer : List ℕ = c.deref_mut-2.result.now in
    let before : slice_range buffer 0 end ≡ c.args.self.now =
    ap (λ (l : List ℕ). slice_range l 0 end) (c.deref_mut-2.ensures.value ∙ with_items_is c.self.inside.buffer c.move_to_front.new.buffer (search (rules, places)))
    ∙ c.move_to_front.ensures.moved_to_front
    ∙ ap (λ (l : List ℕ). slice_range l c.self.inside.start c.self.inside.end) c.deref_mut.ensures.value
    ∙ c.self.view_is in
    record {
      read = take c.in-Ok.count c.read.new.buf;
      added = filled c.args.self.now buffer _ c.read.new.buf _ 0 end c.in-Ok.count before (with_items_is (with_items c.self.inside.buffer c.move_to_front.new.buffer) _ (search (rules, places))) (omega arith) (omega arith) c.in-Ok.ensures.in_bounds.0;
      given = c.in-Ok.ensures.appends_read.0;
    }

pub returns-in-Ok-clause-gained_or_ended : goal.returns-in-Ok-clause-gained_or_ended
unfolding returns-in-Ok-clause-gains_source_bytes
returns-in-Ok-clause-gained_or_ended g c =
    let read : List ℕ = take c.in-Ok.count c.read.new.buf in
    let now = (g.S.Line.state c.read.new.self).inward in
    gained c.in-Ok.count c.args.self.now _ read now (returns-in-Ok-clause-gains_source_bytes g c).added (length-take-le c.in-Ok.count c.read.new.buf c.in-Ok.ensures.in_bounds.0) (λ zero. found_end now c.in-Ok.count zero c.in-Ok.ensures.appends_read.1 (c.in-Ok.ensures.appends_read.2 zero))

pub returns-in-Err-clause-err_unchanged : goal.returns-in-Err-clause-err_unchanged
returns-in-Err-clause-err_unchanged g c =
    let end : ℕ = c.self.inside.end - c.self.inside.start in
    let buffer : List ℕ = c.deref_mut-2.result.now in
    let before : slice_range buffer 0 end ≡ c.args.self.now =
    ap (λ (l : List ℕ). slice_range l 0 end) (c.deref_mut-2.ensures.value ∙ with_items_is c.self.inside.buffer c.move_to_front.new.buffer (search (rules, places)))
    ∙ c.move_to_front.ensures.moved_to_front
    ∙ ap (λ (l : List ℕ). slice_range l c.self.inside.start c.self.inside.end) c.deref_mut.ensures.value
    ∙ c.self.view_is in
    unfilled c.args.self.now buffer _ _ 0 end before (with_items_is (with_items c.self.inside.buffer c.move_to_front.new.buffer) _ (search (rules, places))) (omega arith) (omega arith)

pub returns-in-Err-clause-gains_source_bytes : goal.returns-in-Err-clause-gains_source_bytes
returns-in-Err-clause-gains_source_bytes g c = record {
  read = [];
  added = returns-in-Err-clause-err_unchanged g c ∙ sym (append-nil c.args.self.now);
  given = subst (λ (now : InputState). GivesBytes (g.S.Line.state c.args.source.now).inward now []) (sym c.in-Err.ensures.appends_read) (gave_none _);
}
