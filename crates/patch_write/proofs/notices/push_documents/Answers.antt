use Rattle.std.proofs.Common.{sym, ◌∙◌}
use Rattle.patch_write.proofs.Built.{none_told}
use Rattle.patch_write.proofs.notices.push_documents.Goals as goal

pub returns-then-is_empty : goal.returns-then-is_empty
returns-then-is_empty c = record {
  ok =
      none_told c.args.mode c.args.names.now.prefix c.args.names.now.sel c.args.from c.args.notes.now c.args.notice.now (sym c.is_empty.ensures.exact ∙ c.if-is_empty.true);
}
