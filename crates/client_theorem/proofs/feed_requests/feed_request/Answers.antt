use Rattle.std.proofs.Common.{refl, ◌∙◌}
use Rattle.client_theorem.proofs.Words.{get}
use Rattle.client_theorem.proofs.feed_requests.feed_request.Goals as goal

pub returns : goal.returns
returns c = record { ok = rw (c.in_ok-target.ensures.ok, c.in_ok-fields.ensures.ok, c.in_ok-method.ensures.same_chars ∙ get, c.new.ensures.holds_no_bytes) refl }
