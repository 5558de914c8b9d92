use Rattle.std.proofs.Common.{ap, ◌∙◌}
use Rattle.std.specs.Prelude.{chars}
use Rattle.std.proofs.lemmas.Str.{chars-nil}
use Rattle.http_wire.proofs.request.token_text.Goals as goal

pub token-init : goal.token-init
token-init c = c.own-text.ensures.exact ∙ ap chars c.new.ensures.bytes ∙ chars-nil
