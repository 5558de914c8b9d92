use Rattle.std.proofs.Common.{◌≡◌, ◌∙◌, ◌++◌, List, ℕ, ap}
use Rattle.std.specs.Int.{w64, to_be_bytes}
use Rattle.log_entries.specs.Checksums.{checksum}
use Rattle.log_entries.specs.Entries.{Entry, entry_body}
use Rattle.log_entries.proofs.Parts.{four_parts}
use Rattle.log_entries.proofs.entry_writing.append_entry.Goals as goal

pub returns : goal.returns
returns c =
    let e : Entry = record { number = c.args.number; content = c.args.content.now } in
    let body_is : c.in_ok-entry_body.entry_body.items ≡ entry_body e = c.in_ok-entry_body.ensures.exact in
    let sum : c.to_be_bytes-2.result ≡ to_be_bytes w64 (checksum c.args.mark.now (entry_body e)) =
    c.to_be_bytes-2.ensures ∙ ap (to_be_bytes w64) (c.checksum.ensures.exact ∙ ap (checksum c.args.mark.now) (c.deref.ensures.value ∙ body_is)) in
    record {
      exact =
          four_parts c.args.bytes.now.items c.args.mark.now _ _ (entry_body e) _ _ _ _ c.in_ok-extend_from_slice.ensures.items
          (c.in_ok-extend_from_slice-2.ensures.items ∙ ap (λ (l : List ℕ). c.extend_from_slice.new.self.items ++ l) c.to_be_bytes.ensures)
          (c.in_ok-extend_from_slice-3.ensures.items ∙ ap (λ (l : List ℕ). c.extend_from_slice-2.new.self.items ++ l) sum)
          (c.in_ok-extend_from_slice-4.ensures.items ∙ ap (λ (l : List ℕ). c.extend_from_slice-3.new.self.items ++ l) (c.deref-2.ensures.value ∙ body_is));
    }
