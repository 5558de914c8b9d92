use Rattle.std.proofs.Common.{◌≡◌, List, ℕ, IfOk, subst}
use Rattle.xml_tokens.proofs.text_buffers.name_part.Goals as goal

pub returns-in-Some : goal.returns-in-Some
returns-in-Some g c = record { ok = subst (λ (cs : List ℕ). IfOk c.from.result (λ part. part ≡ cs)) c.in-Some.ensures.spells_run c.from.ensures.same_chars }
