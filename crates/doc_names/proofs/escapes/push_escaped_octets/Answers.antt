use Rattle.std.proofs.Common.{refl}
use Rattle.doc_names.proofs.OctetPrints.{visible_escaped}
use Rattle.doc_names.proofs.escapes.push_escaped_octets.Goals as goal

pub returns : goal.returns
returns c = record { appended = rw (c.in_ok-append_to.ensures.ok, c.percent_encode.ensures.text, visible_escaped) refl }
