use Rattle.std.proofs.Common.{flat_map, ap}
use Rattle.std.proofs.lemmas.List.{drop_all}
use Rattle.std.proofs.lemmas.Result.{err_from_is_err_and}
use Rattle.xcap_io.proofs.BufferPieces.{owes_less, owes_stop, owes_none}
use Rattle.xcap_client.proofs.Lines.{flat_map_more}
use Rattle.xcap_client.proofs.request.write_pieces.Goals as goal

pub returns-in_err-put : goal.returns-in_err-put
returns-in_err-put g c = record {
  appends_pieces =
      let p = err_from_is_err_and c.from_residual.result c.from_residual.ensures.1 in
      rw p.1 (owes_stop _ _ _ _ _ _ _ p.0 _ _ _ c.pieces.invariant c.in_err-put.ensures.appends_piece (flat_map_more (λ piece. piece.now) c.args.pieces.now c.pieces.piece-index _ c.pieces-test.true));
}

pub pieces-preserved : goal.pieces-preserved
pieces-preserved g c =
    owes_less _ _ _ _ _ _ _ _ _ _ c.pieces.invariant c.in_ok-put.ensures.appends_piece (flat_map_more (λ piece. piece.now) c.args.pieces.now c.pieces.piece-index _ c.pieces-test.true)

pub returns : goal.returns
returns g c = record {
  appends_pieces = owes_none _ _ _ _ _ _ c.pieces.invariant (ap (flat_map (λ piece. piece.now)) (drop_all c.pieces.piece-index c.args.pieces.now c.pieces-test.false));
}
