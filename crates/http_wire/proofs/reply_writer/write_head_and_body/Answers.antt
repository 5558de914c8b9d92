use Rattle.std.proofs.Common.{◌≡◌, List, ℕ, [], ◌++◌, ap, ◌∙◌, subst}
use Rattle.std.specs.Prelude.{Ok, Err}
use Rattle.std.proofs.lemmas.List.{append-nil}
use Rattle.std.proofs.lemmas.Result.{err_from_is_err_and}
use Rattle.xcap_io.specs.StreamWrites.{WritesAll}
use Rattle.xcap_io.proofs.BufferPieces.{adds_both, all_written}
use Rattle.http_wire.proofs.reply_writer.write_head_and_body.Goals as goal

pub returns-in_err-write-clause-all_or_prefix : goal.returns-in_err-write-clause-all_or_prefix
returns-in_err-write-clause-all_or_prefix g c =
    let head : List ℕ = c.args.head.now in
    let body : List ℕ = c.args.body.now in
    let p = err_from_is_err_and c.from_residual-in_err-write.result c.from_residual-in_err-write.ensures.1 in
    let both = adds_both (g.S.Line.state c.args.sink.now) c.args.write_buffer.now (g.S.Line.state c.put.new.sink) c.put.new.write_buffer (g.S.Line.state c.write.new.sink) c.write.new.write_buffer (Err p.0) head body c.in_ok-put.ensures.appends_piece c.in_err-write.ensures.adds_print in
    rw p.1 (all_written (g.S.Line.state c.args.sink.now) (g.S.Line.state c.write.new.sink) c.args.write_buffer.now c.write.new.write_buffer (Err p.0) (head ++ body) c.requires tt both)

pub returns-clause-all_or_prefix : goal.returns-clause-all_or_prefix
returns-clause-all_or_prefix g c =
    let head : List ℕ = c.args.head.now in
    let body : List ℕ = c.args.body.now in
    let two = adds_both (g.S.Line.state c.args.sink.now) c.args.write_buffer.now (g.S.Line.state c.put.new.sink) c.put.new.write_buffer (g.S.Line.state c.write.new.sink) c.write.new.write_buffer (Ok tt) head body c.in_ok-put.ensures.appends_piece c.in_ok-write.ensures.adds_print in
    let all = adds_both (g.S.Line.state c.args.sink.now) c.args.write_buffer.now (g.S.Line.state c.write.new.sink) c.write.new.write_buffer (g.S.Line.state c.flush.new.sink) c.flush.new.write_buffer c.flush.result (head ++ body) [] two c.flush.ensures.flushes_in_order in
    subst (WritesAll (g.S.Line.state c.args.sink.now).taken (g.S.Line.state c.flush.new.sink).taken c.flush.result) (append-nil (head ++ body))
    (all_written (g.S.Line.state c.args.sink.now) (g.S.Line.state c.flush.new.sink) c.args.write_buffer.now c.flush.new.write_buffer c.flush.result ((head ++ body) ++ []) c.requires c.flush.ensures.leaves_nothing_gathered all)
