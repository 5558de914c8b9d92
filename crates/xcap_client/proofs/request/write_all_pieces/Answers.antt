use Rattle.std.proofs.Common.{List, ℕ, ◌++◌, [], flat_map, subst}
use Rattle.std.proofs.lemmas.List.{append-nil}
use Rattle.xcap_io.specs.StreamWrites.{WritesAll}
use Rattle.xcap_io.proofs.BufferPieces.{adds_both, all_written}
use Rattle.xcap_client.proofs.request.write_all_pieces.Goals as goal

pub returns-clause-all_or_prefix : goal.returns-clause-all_or_prefix
returns-clause-all_or_prefix g c =
    let bytes : List ℕ = flat_map (λ piece. piece.now) c.args.pieces.now in
    let all = adds_both (g.S.Line.state c.args.sink.now) c.args.write_buffer.now (g.S.Line.state c.write_pieces.new.sink) c.write_pieces.new.write_buffer (g.S.Line.state c.flush.new.sink) c.flush.new.write_buffer c.flush.result bytes [] c.in_ok-write_pieces.ensures.appends_pieces c.flush.ensures.flushes_in_order in
    subst (WritesAll (g.S.Line.state c.args.sink.now).taken (g.S.Line.state c.flush.new.sink).taken c.flush.result) (append-nil bytes)
    (all_written (g.S.Line.state c.args.sink.now) (g.S.Line.state c.flush.new.sink) c.args.write_buffer.now c.flush.new.write_buffer c.flush.result (bytes ++ []) c.requires c.flush.ensures.leaves_nothing_gathered all)
