use Rattle.std.proofs.Common.{drop, flat_map}
use Rattle.xcap_io.specs.declared.streams.Failed.{Failed}
use Rattle.xcap_io.proofs.BufferPieces.{Owes}
use Rattle.xcap_client.proofs.request.write_pieces.Given as goal

abbrev pub invariant-pieces : goal.invariant-pieces
invariant-pieces g l = Owes Failed (g.S.Line.state l.fn.sink) l.fn.write_buffer (flat_map (λ piece. piece.now) l.pieces) (g.S.Line.state l.sink) l.write_buffer (flat_map (λ piece. piece.now) (drop l.piece-index l.pieces))
