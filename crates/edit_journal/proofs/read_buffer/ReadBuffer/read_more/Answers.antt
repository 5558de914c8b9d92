use Rattle.std.proofs.Common.{rules, ◌≡◌, ◌+◌, ◌-◌, ◌<◌, take, length, ℕ, List, [], slice_range, ap, subst, ◌∙◌, arith}
use Rattle.std.specs.Vec.{with_items}
use Rattle.std.proofs.lemmas.List.{length-take-le, places, with_items_is}
use Rattle.std.proofs.lemmas.Result.{err_from_is_err_and}
use Rattle.xcap_io.specs.StreamTraffic.{GivesBytes}
use Rattle.xcap_io.proofs.TrafficSums.{found_end}
use Rattle.http_wire.proofs.Buffers.{filled, unfilled}
use Rattle.edit_journal.specs.inner.ReadBuffer.{ReadBufferState}
use Rattle.edit_journal.proofs.read_buffer.ReadBuffer.read_more.Goals as goal

pub returns-clause-reads_more : goal.returns-clause-reads_more
returns-clause-reads_more g c =
    let end : ℕ = c.self.inside.end - c.self.inside.start in
    let buffer : List ℕ = c.deref_mut-2.result.now in
    let old = c.args.self.now in
    let before : slice_range buffer 0 end ≡ old.held =
    ap (λ (l : List ℕ). slice_range l 0 end) (c.deref_mut-2.ensures.value ∙ with_items_is c.self.inside.buffer c.move_to_front.new.buffer (search (rules, places)))
    ∙ c.move_to_front.ensures.moved_to_front
    ∙ ap (λ (l : List ℕ). slice_range l c.self.inside.start c.self.inside.end) c.deref_mut.ensures.value
    ∙ ap (λ (i : ReadBufferState). i.held) c.self.view_is in
    let read : List ℕ = take c.in_ok-count.count c.read.new.buf in
    let size : length read ≡ c.in_ok-count.count = length-take-le c.in_ok-count.count c.read.new.buf c.in_ok-count.ensures.in_bounds.0 in
    let taken_before : c.self.inside.taken ≡ old.taken = ap (λ (i : ReadBufferState). i.taken) c.self.view_is in
    let taken : c.self.inside.taken + c.in_ok-count.count ≡ old.taken + length read = omega (arith, taken_before, size) in
    let some : 0 < length read = omega (arith, size, c.if-count-eq0.false) in
    let held = filled old.held buffer _ c.read.new.buf _ 0 end c.in_ok-count.count before (with_items_is (with_items c.self.inside.buffer c.move_to_front.new.buffer) _ (search (rules, places))) (omega arith) (omega arith) c.in_ok-count.ensures.in_bounds.0 in
    (read, some, c.in_ok-count.ensures.appends_read.0, (λ i. record { held = held i; taken = taken i }))

pub returns-then-count-eq0-clause-reads_more : goal.returns-then-count-eq0-clause-reads_more
returns-then-count-eq0-clause-reads_more g c =
    let end : ℕ = c.self.inside.end - c.self.inside.start in
    let buffer : List ℕ = c.deref_mut-2.result.now in
    let old = c.args.self.now in
    let before : slice_range buffer 0 end ≡ old.held =
    ap (λ (l : List ℕ). slice_range l 0 end) (c.deref_mut-2.ensures.value ∙ with_items_is c.self.inside.buffer c.move_to_front.new.buffer (search (rules, places)))
    ∙ c.move_to_front.ensures.moved_to_front
    ∙ ap (λ (l : List ℕ). slice_range l c.self.inside.start c.self.inside.end) c.deref_mut.ensures.value
    ∙ ap (λ (i : ReadBufferState). i.held) c.self.view_is in
    let zero : c.in_ok-count.count ≡ 0 = c.if-count-eq0.true in
    let taken : c.self.inside.taken ≡ old.taken = ap (λ (i : ReadBufferState). i.taken) c.self.view_is in
    let now = (g.S.Line.state c.read.new.self).inward in
    let gave : GivesBytes (g.S.Line.state c.args.source.now).inward now [] = subst (λ (n : ℕ). GivesBytes (g.S.Line.state c.args.source.now).inward now (take n c.read.new.buf)) zero c.in_ok-count.ensures.appends_read.0 in
    let held = unfilled old.held buffer _ _ 0 end before (with_items_is (with_items c.self.inside.buffer c.move_to_front.new.buffer) _ (search (rules, places))) (omega arith) (omega arith) in
    (gave, found_end now c.in_ok-count.count zero c.in_ok-count.ensures.appends_read.1 (c.in_ok-count.ensures.appends_read.2 zero), (λ i. record { held = held i; taken = taken i }))

pub returns-in_err-count-clause-reads_more : goal.returns-in_err-count-clause-reads_more
returns-in_err-count-clause-reads_more g c =
    let p = err_from_is_err_and c.from_residual.result c.from_residual.ensures.1 in
    let end : ℕ = c.self.inside.end - c.self.inside.start in
    let buffer : List ℕ = c.deref_mut-2.result.now in
    let old = c.args.self.now in
    let before : slice_range buffer 0 end ≡ old.held =
    ap (λ (l : List ℕ). slice_range l 0 end) (c.deref_mut-2.ensures.value ∙ with_items_is c.self.inside.buffer c.move_to_front.new.buffer (search (rules, places)))
    ∙ c.move_to_front.ensures.moved_to_front
    ∙ ap (λ (l : List ℕ). slice_range l c.self.inside.start c.self.inside.end) c.deref_mut.ensures.value
    ∙ ap (λ (i : ReadBufferState). i.held) c.self.view_is in
    let taken : c.self.inside.taken ≡ old.taken = ap (λ (i : ReadBufferState). i.taken) c.self.view_is in
    let held = unfilled old.held buffer _ _ 0 end before (with_items_is (with_items c.self.inside.buffer c.move_to_front.new.buffer) _ (search (rules, places))) (omega arith) (omega arith) in
    rw p.1 (c.in_err-count.ensures.appends_read, (λ i. record { held = held i; taken = taken i }))
