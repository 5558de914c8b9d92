use Rattle.std.proofs.Common.{ℕ, Ok, sym, subst, arith}
use Rattle.edit_journal.specs.inner.RecordParts.{ReadsPart, IsU32Between}
use Rattle.edit_journal.proofs.Numbers.{number_whole}
use Rattle.edit_journal.proofs.field_parsers.read_u32.Goals as goal

pub returns : goal.returns
returns c = record {
  reads_rule =
      subst (λ (n : ℕ). ReadsPart (λ n. n) (IsU32Between c.args.least c.args.most) c.args.bytes.now (Ok n)) (sym c.padded_u32-2.ensures.exact)
      (number_whole c.args.bytes.now c.args.least c.args.most (λ i. omega (arith, c.type_inv.bytes i)) c.if-bytes-lt4.false (omega (arith, c.padded_u32.ensures.exact, c.if-padded_u32-least.false)) (omega (arith, c.padded_u32-else-padded_u32-least.ensures.exact, c.if-padded_u32-most.false)));
}
