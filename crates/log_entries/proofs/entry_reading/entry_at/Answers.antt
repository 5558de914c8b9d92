use Rattle.std.proofs.Common.{◌≡◌, ◌∙◌, ltb, List, ℕ, length, take, ap, sym, refl, Bool, true, false}
use Rattle.std.specs.Prelude.{not}
use Rattle.std.specs.Str.{bytes_eq}
use Rattle.std.specs.Int.{w32, from_be_bytes}
use Rattle.std.proofs.lemmas.Bool.{le-ltb}
use Rattle.log_entries.specs.Entries.{entry_at, entry_of_length}
use Rattle.log_entries.proofs.Parts.{all_after}
use Rattle.log_entries.proofs.entry_reading.entry_at.Goals as goal

not_false : (b : Bool) → not b ≡ false → b ≡ true
not_false true e = refl
not_false false e = absurd cc

pub returns : goal.returns
unfolding entry_at
returns c =
    let bytes = c.args.bytes.now in
    let short : ltb (length bytes) 28 ≡ false = le-ltb _ _ c.if-bytes-lt28.false in
    let same : bytes_eq (take 8 bytes) c.args.mark.now ≡ true = not_false (bytes_eq (take 8 bytes) c.args.mark.now) (sym c.ne.ensures ∙ c.if-ne.false) in
    record {
      exact =
          rw (short, same)
          (c.entry_of_length.ensures.exact ∙ ap (entry_of_length c.args.mark.now bytes) (c.read_u32.ensures.exact ∙ ap (λ (l : List ℕ). from_be_bytes w32 (take 4 l)) (all_after bytes 8)));
    }
