use Rattle.std.proofs.Common.{◌∙◌}
use Rattle.xcap_uri.specs.Roots.{path_of}
use Rattle.xcap_uri.proofs.Ascii.{octets_are, path_letters}
use Rattle.xcap_uri.proofs.target.path_octets.Goals as goal

pub returns : goal.returns
returns c = record { exact = c.as_bytes.ensures.value ∙ octets_are c.path.result.now (path_of c.args.root.now) c.path.utf8 c.path.ensures.root_path (path_letters c.args.root.now c.path.ensures.valid_root_text) }
