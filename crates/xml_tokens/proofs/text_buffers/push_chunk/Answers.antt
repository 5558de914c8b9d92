use Rattle.std.proofs.Common.{◌≡◌, ◌++◌, List, ℕ, OnOk, subst}
use Rattle.xml_tokens.proofs.text_buffers.push_chunk.Goals as goal

pub returns-in-Some : goal.returns-in-Some
returns-in-Some c = record { appended = subst (λ (more : List ℕ). OnOk c.push_str.result (c.push_str.new.self ≡ c.args.text.now ++ more)) c.in-Some.ensures.spells_run c.push_str.ensures.appends_chars }
