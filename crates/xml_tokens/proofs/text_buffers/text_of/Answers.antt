use Rattle.std.proofs.Common.{◌≡◌, List, ℕ, IfOk, subst}
use Rattle.xml_tokens.proofs.text_buffers.text_of.Goals as goal

pub returns-in-Some : goal.returns-in-Some
returns-in-Some c = record { ok = subst (λ (cs : List ℕ). IfOk c.from.result (λ text. text ≡ cs)) c.in-Some.ensures.spells_run c.from.ensures.same_chars }
