use Rattle.std.proofs.Common.{ap, sym, encode_utf8_all}
use Rattle.std.proofs.lemmas.Result.{err_from_is_err_and}
use Rattle.xcap_io.proofs.BufferPieces.{owes_less, owes_stop, owes_none}
use Rattle.tree_print.proofs.PieceLemmas.{bytes_split}
use Rattle.tree_print.proofs.lent_print.write_pieces.Goals as goal

pub returns-in_err-put : goal.returns-in_err-put
returns-in_err-put g c = record {
  adds_pieces =
      let p = err_from_is_err_and c.from_residual.result c.from_residual.ensures.1 in
      rw p.1 (owes_stop _ _ _ _ _ _ _ p.0 _ _ _ c.pieces.invariant c.in_err-put.ensures.appends_piece (bytes_split _ _ _ _ c.as_bytes.ensures.utf8 c.as_bytes.ensures.value c.in-Some.ensures.next_characters));
}

pub pieces-preserved : goal.pieces-preserved
pieces-preserved g c =
    owes_less _ _ _ _ _ _ _ _ _ _ c.pieces.invariant c.in_ok-put.ensures.appends_piece (bytes_split _ _ _ _ c.as_bytes.ensures.utf8 c.as_bytes.ensures.value c.in-Some.ensures.next_characters)

pub returns : goal.returns
returns g c = record {
  adds_pieces = owes_none _ _ _ _ _ _ c.pieces.invariant (ap encode_utf8_all c.in_default.ensures.next_characters);
}
