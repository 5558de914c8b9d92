use Rattle.std.proofs.Common.{take, chars, ap, ◌∙◌}
use Rattle.std.proofs.lemmas.Str.{chars-IsAscii, IsUtf8-from_ascii}
use Rattle.xml_tokens.proofs.text_buffers.ascii_str.Goals as goal

pub from_utf8_unchecked-requires : goal.from_utf8_unchecked-requires
from_utf8_unchecked-requires c = IsUtf8-from_ascii (take c.args.len c.args.bytes.now) c.requires.ascii_str

pub returns : goal.returns
returns c = record { front_bytes = ap chars c.from_utf8_unchecked.ensures ∙ chars-IsAscii (take c.args.len c.args.bytes.now) c.requires.ascii_str }
