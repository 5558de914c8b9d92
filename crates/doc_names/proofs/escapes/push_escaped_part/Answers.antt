use Rattle.std.proofs.Common.{refl}
use Rattle.doc_names.proofs.OctetPrints.{parts_escaped}
use Rattle.doc_names.proofs.escapes.push_escaped_part.Goals as goal

pub returns : goal.returns
returns c = record { appended = rw (c.in_ok-append_to.ensures.ok, c.utf8_percent_encode.ensures.text, c.as_str.ensures.utf8_bytes, parts_escaped) refl }
