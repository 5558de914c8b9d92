use Rattle.std.proofs.Common.{encode_utf8_all}
use Rattle.xcap_io.specs.declared.streams.Failed.{Failed}
use Rattle.xcap_io.proofs.BufferPieces.{Owes}
use Rattle.tree_print.proofs.lent_print.write_pieces.Given as goal

abbrev pub invariant-pieces : goal.invariant-pieces
invariant-pieces g l = Owes Failed (g.S.Line.state l.fn.sink) l.fn.write_buffer (encode_utf8_all l.initial.pieces.text) (g.S.Line.state l.sink) l.write_buffer (encode_utf8_all l.pieces.text)

abbrev pub decreases-pieces : goal.decreases-pieces
decreases-pieces g l = l.pieces.most
