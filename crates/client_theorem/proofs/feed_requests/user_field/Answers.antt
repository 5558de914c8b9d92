use Rattle.std.proofs.Common.{refl, ◌∙◌}
use Rattle.client_theorem.proofs.Words.{user_name}
use Rattle.client_theorem.proofs.feed_requests.user_field.Goals as goal

pub returns : goal.returns
returns c = record { ok = rw (c.in_ok-name.ensures.same_chars ∙ user_name, c.in_ok-value.ensures.same_bytes, c.as_bytes.ensures.value, c.as_str.ensures.utf8_bytes) refl }
