use Rattle.std.proofs.Common.{◌≡◌, ℕ, ◌<◌, ◌≤◌, List, [], ◌∷◌, length, get_or, sym, ap, arith}
use Rattle.xml_tokens.proofs.tokens.word.Goals as goal

only : (w : List ℕ) (c : ℕ) → 1 ≤ length w → length w < 2 → c ≡ get_or w 0 c → w ≡ c ∷ []
only [] c h i e = absurd (omega arith)
only (d ∷ []) c h i e = ap (λ (z : ℕ). z ∷ []) (sym e)
only (d ∷ f ∷ w) c h i e = absurd (omega arith)

pub returns-in-len1 : goal.returns-in-len1
returns-in-len1 c = record { reads_rule = rw (only c.args.word.now c.first-item.result c.in-len1.len_at_least c.in-len1.len_below c.first-item.is) c.letter.ensures.reads_rule }
