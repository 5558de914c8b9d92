use Rattle.std.proofs.Common.{ℕ, Ok, sym, subst, arith}
use Rattle.edit_journal.specs.inner.RecordParts.{ReadsPart, IsU16Between}
use Rattle.edit_journal.proofs.Numbers.{short_whole, short_open}
use Rattle.edit_journal.proofs.field_parsers.read_u16.Goals as goal

pub returns-then-bytes-lt2 : goal.returns-then-bytes-lt2
returns-then-bytes-lt2 c = record {
  reads_rule =
      short_open c.args.bytes.now c.args.least c.args.most (λ i. omega (arith, c.type_inv.bytes i)) c.if-bytes-lt2.true c.requires.nonempty c.requires.fits
      (omega (arith, c.padded_u16.ensures.exact, c.if-padded_u16-least.false)) (omega (arith, c.padded_u16-else-padded_u16-least.ensures.exact, c.if-padded_u16-most.false));
}

pub returns : goal.returns
returns c = record {
  reads_rule =
      subst (λ (n : ℕ). ReadsPart (λ n. n) (IsU16Between c.args.least c.args.most) c.args.bytes.now (Ok n)) (sym c.padded_u16-2.ensures.exact)
      (short_whole c.args.bytes.now c.args.least c.args.most (λ i. omega (arith, c.type_inv.bytes i)) c.if-bytes-lt2.false (omega (arith, c.padded_u16.ensures.exact, c.if-padded_u16-least.false)) (omega (arith, c.padded_u16-else-padded_u16-least.ensures.exact, c.if-padded_u16-most.false)));
}
