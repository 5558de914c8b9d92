use Rattle.std.proofs.Common.{List, ℕ, ap, ◌∙◌, take, sym, refl, arith, true≢false}
use Rattle.std.specs.Borrow.{Bor}
use Rattle.std.proofs.lemmas.Result.{err_from_is_err_and}
use Rattle.edit_journal.proofs.Blocks.{name_stops, name_open, name_wrong, block_whole}
use Rattle.edit_journal.proofs.field_parsers.read_token.Goals as goal

pub returns-in_err-len : goal.returns-in_err-len
returns-in_err-len c = record {
  reads_rule =
      let p = err_from_is_err_and c.from_residual.result c.from_residual.ensures.1 in
      rw (p.1, p.2) (name_stops (λ (piece : Bor (List ℕ)). piece.now) c.args.bytes.now c.args.least c.args.most c.in_err-len.field-0.0 c.requires.positive_least c.in_err-len.ensures.reads_rule);
}

pub returns-then-not-are_token_bytes : goal.returns-then-not-are_token_bytes
returns-then-not-are_token_bytes c = record {
  reads_rule =
      name_wrong (λ (piece : Bor (List ℕ)). piece.now) c.args.bytes.now c.args.least c.args.most c.in_ok-len.len c.first_bytes-piece.result.now c.requires.fits c.in_ok-len.ensures.reads_rule
      (c.first_bytes-piece.ensures.exact ∙ ap (take c.in_ok-len.len) c.bytes_after.ensures.exact) (λ consume. true≢false (sym (c.if-not-are_token_bytes.ensures.exact.1 consume)));
}

pub returns-then-piece-len : goal.returns-then-piece-len
returns-then-piece-len c = record {
  reads_rule =
      name_open (λ (piece : Bor (List ℕ)). piece.now) c.args.bytes.now c.args.least c.args.most c.in_ok-len.len c.first_bytes-piece.result.now c.requires.positive_least c.in_ok-len.ensures.reads_rule
      (c.first_bytes-piece.ensures.exact ∙ ap (take c.in_ok-len.len) c.bytes_after.ensures.exact) c.if-piece-len.true (c.if-not-are_token_bytes.ensures.exact.0 refl);
}

pub returns : goal.returns
returns c = record {
  reads_rule =
      let whole = block_whole c.args.bytes.now c.args.least c.args.most c.in_ok-len.len c.first_bytes-piece.result.now c.in_ok-len.ensures.reads_rule
      (c.first_bytes-piece.ensures.exact ∙ ap (take c.in_ok-len.len) c.bytes_after.ensures.exact) c.if-piece-len.false in
      (whole.0, whole.1, whole.2, (whole.3, (omega (arith, c.requires.positive_least, whole.3.1), c.if-not-are_token_bytes.ensures.exact.0 refl)));
}
