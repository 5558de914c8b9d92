use Rattle.std.proofs.Common.{◌∙◌}
use Rattle.xcap_uri.proofs.Ascii.{octets_are, root_letters}
use Rattle.xcap_uri.proofs.target.text_octets.Goals as goal

pub returns : goal.returns
returns c = record { exact = c.as_bytes.ensures.value ∙ octets_are c.text.result.now c.args.root.now c.text.utf8 c.text.ensures.exact (root_letters c.args.root.now c.text.ensures.valid_root_text) }
