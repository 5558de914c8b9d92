use Rattle.std.proofs.Common.{List, ℕ, ap, ◌∙◌, take}
use Rattle.std.specs.Borrow.{Bor}
use Rattle.std.proofs.lemmas.Result.{err_from_is_err_and}
use Rattle.edit_journal.proofs.Blocks.{block_stops, block_open, block_whole}
use Rattle.edit_journal.proofs.field_parsers.read_block.Goals as goal

pub returns-in_err-len : goal.returns-in_err-len
returns-in_err-len c = record {
  reads_rule =
      let p = err_from_is_err_and c.from_residual.result c.from_residual.ensures.1 in
      rw (p.1, p.2) (block_stops (λ (piece : Bor (List ℕ)). piece.now) c.args.bytes.now c.args.least c.args.most c.in_err-len.field-0.0 c.in_err-len.ensures.reads_rule);
}

pub returns-then-piece-len : goal.returns-then-piece-len
returns-then-piece-len c = record {
  reads_rule =
      block_open (λ (piece : Bor (List ℕ)). piece.now) c.args.bytes.now c.args.least c.args.most c.in_ok-len.len c.first_bytes-piece.result.now c.in_ok-len.ensures.reads_rule
      (c.first_bytes-piece.ensures.exact ∙ ap (take c.in_ok-len.len) c.bytes_after.ensures.exact) c.if-piece-len.true;
}

pub returns : goal.returns
returns c = record {
  reads_rule =
      block_whole c.args.bytes.now c.args.least c.args.most c.in_ok-len.len c.first_bytes-piece.result.now c.in_ok-len.ensures.reads_rule
      (c.first_bytes-piece.ensures.exact ∙ ap (take c.in_ok-len.len) c.bytes_after.ensures.exact) c.if-piece-len.false;
}
