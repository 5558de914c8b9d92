use Rattle.std.proofs.Common.{◌≡◌, string_bytes, append_assoc, refl, ap, ◌∙◌}
use Rattle.std.specs.Str.{chars}
use Rattle.doc_names.specs.DocIds.{id_text}
use Rattle.doc_names.proofs.AsciiPrints.{id_letters}
use Rattle.doc_names.proofs.print.print_doc_id.Goals as goal

pub returns : goal.returns
returns c = record {
  ok =
      let bytes : string_bytes c.push_escaped_part.new.line ≡ id_text c.args.doc.now = rw (c.in_ok-push_escaped_part.ensures.appended, c.in_ok-push_home.ensures.appended, c.in_ok-push_auid.ensures.appended, c.new-line.ensures.bytes, append_assoc) refl in
      c.own.ensures.exact ∙ ap chars bytes ∙ id_letters c.args.doc.now;
}
