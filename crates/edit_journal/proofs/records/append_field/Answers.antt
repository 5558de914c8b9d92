use Rattle.std.proofs.Common.{◌≡◌, ◌++◌, ◌<◌, List, ℕ, OnOk, ap, sym, ◌∙◌, subst, length}
use Rattle.std.proofs.lemmas.Str.{encodes-IsAscii}
use Rattle.edit_journal.specs.Records.{length_prefixed}
use Rattle.edit_journal.proofs.Pieces.{then_more}
use Rattle.edit_journal.proofs.records.append_field.Goals as goal

pub append_block-requires : goal.append_block-requires
append_block-requires c =
    let same : c.as_bytes.result.now ≡ c.args.field.now.name = c.as_bytes.ensures.value ∙ c.as_str.ensures.utf8_bytes ∙ encodes-IsAscii c.args.field.now.name c.requires.ascii in
    subst (λ (l : List ℕ). length l < 4294967296) (sym same) c.requires.name

pub returns : goal.returns
returns c = record {
  appended =
      let same : c.as_bytes.result.now ≡ c.args.field.now.name = c.as_bytes.ensures.value ∙ c.as_str.ensures.utf8_bytes ∙ encodes-IsAscii c.args.field.now.name c.requires.ascii in
      let first : c.append_block.new.made ≡ c.args.made.now ++ length_prefixed c.args.field.now.name = c.in_ok-append_block.ensures.appended ∙ ap (λ (l : List ℕ). c.args.made.now ++ length_prefixed l) same in
      let value : c.as_slice.result.now ≡ c.args.field.now.value = c.as_slice.ensures.exact in
      then_more c.append_block-2.result c.args.made.now c.append_block.new.made c.append_block-2.new.made (length_prefixed c.args.field.now.name) (length_prefixed c.args.field.now.value) first
      (subst (λ (l : List ℕ). OnOk c.append_block-2.result (c.append_block-2.new.made ≡ c.append_block.new.made ++ length_prefixed l)) value c.append_block-2.ensures.appended);
}
