use Rattle.std.proofs.Common.{◌∙◌, List, ℕ, ap, sym, take}
use Rattle.std.specs.Int.{w64, from_be_bytes}
use Rattle.log_entries.proofs.Parts.{all_after, of_parts}
use Rattle.log_entries.proofs.entry_reading.entry_of_length.Goals as goal

pub returns : goal.returns
returns c = record {
  exact =
      of_parts c.args.mark.now c.args.bytes.now c.args.len c.read_u64-2.result c.if-bytes-len.false
      (sym c.checksum.ensures.exact ∙ c.if-checksum-read_u64.false ∙ c.read_u64.ensures.exact ∙ ap (λ (l : List ℕ). from_be_bytes w64 (take 8 l)) (all_after c.args.bytes.now 12)) c.read_u64-2.ensures.exact;
}
